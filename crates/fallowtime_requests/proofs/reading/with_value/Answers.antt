use Rattle.std.proofs.Common.{arith, inl, refl, sym}
use Rattle.std.proofs.lemmas.Result.{err_from_is_err_and}
use Rattle.fallowtime_words.specs.declared.table.Argument.TheVariants.{Collection, Id, Key, Value}
use Rattle.fallowtime_requests.specs.Inputs.{seen}
use Rattle.bson_model.specs.View.{view}
use Rattle.fallowtime_requests.proofs.CountLemmas.{not_four}
use Rattle.fallowtime_requests.proofs.FirstLemmas.{no_key, no_name}
use Rattle.fallowtime_requests.proofs.reading.with_value.Goals as goal
use Rattle.fallowtime_requests.proofs.reading.with_value.Goals.{in_default-via-then-arguments-lt4, in_default-via-else-arguments-lt4+else-arguments-lt5}

pub returns-in_default : goal.returns-in_default
returns-in_default c =
    λ m. inl
    (not_four seen Collection Id Key Value c.args.arguments.now (λ x. x) (λ x. x) (λ x. x) (λ x. x) (λ e. elim c.in_default.branch [ in_default-via-then-arguments-lt4 w ↦ grind arith | in_default-via-else-arguments-lt4+else-arguments-lt5 w ↦ grind arith ]), refl)

pub returns-in_err-name-in-len4 : goal.returns-in_err-name-in-len4
returns-in_err-name-in-len4 c =
    let p = err_from_is_err_and c.from_residual.result c.from_residual.ensures.1 in
    rw (p.1, p.2) (
    λ m. no_name seen m c.args.arguments.now c.name-item.result c.in_err-name-in-len4.field-0.0 (omega (arith, c.in-len4.len_at_least, c.in-len4.len_below)) (sym c.name-item.is) c.in_err-name-in-len4.ensures
    )

pub returns-in_err-key-in-len4 : goal.returns-in_err-key-in-len4
returns-in_err-key-in-len4 c =
    let p = err_from_is_err_and c.from_residual-in_err-key-in-len4.result c.from_residual-in_err-key-in-len4.ensures.1 in
    rw (p.1, p.2) (
    λ m.
    no_key seen m c.args.arguments.now c.name-item.result c.id-item.result c.key-item.result c.in_err-key-in-len4.field-0.0 c.in_ok-name-in-len4.name.now (view c.in_ok-id-in-len4.id)
    (omega (arith, c.in-len4.len_at_least, c.in-len4.len_below)) (sym c.name-item.is) (sym c.id-item.is) (sym c.key-item.is) c.in_ok-name-in-len4.ensures c.in_ok-id-in-len4.ensures c.in_err-key-in-len4.ensures
    )

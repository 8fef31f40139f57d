use Rattle.std.proofs.Common.{arith, inl, refl, sym}
use Rattle.fallowtime_words.specs.declared.table.Argument.TheVariants.{Collection, Selection, Update}
use Rattle.fallowtime_requests.specs.Inputs.{seen}
use Rattle.fallowtime_requests.proofs.CountLemmas.{not_three}
use Rattle.fallowtime_requests.proofs.UpdateLemmas.{three_read}
use Rattle.fallowtime_requests.proofs.returning.with_steps.Goals as goal
use Rattle.fallowtime_requests.proofs.returning.with_steps.Goals.{in_default-via-then-arguments-lt3, in_default-via-else-arguments-lt3+else-arguments-lt4}

pub returns-in_default : goal.returns-in_default
returns-in_default c =
    inl
    (not_three seen Collection Selection Update c.args.arguments.now (λ x. x) (λ x. x) (λ x. x) (λ e. elim c.in_default.branch [ in_default-via-then-arguments-lt3 w ↦ grind arith | in_default-via-else-arguments-lt3+else-arguments-lt4 w ↦ grind arith ]), refl)

pub returns-in-len3 : goal.returns-in-len3
returns-in-len3 c =
    three_read seen c.args.maker.now c.args.arguments.now c.name-item.result c.query-item.result c.update-item.result c.parts_of.result
    (omega (arith, c.in-len3.len_at_least, c.in-len3.len_below)) (sym c.name-item.is) (sym c.query-item.is) (sym c.update-item.is) (c.parts_of.ensures)

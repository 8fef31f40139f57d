use Rattle.std.proofs.Common.{arith, inl, refl, sym, false}
use Rattle.std.proofs.lemmas.Result.{err_from_is_err_and}
use Rattle.store_question_read.specs.UpdateOutcome.{plans_of}
use Rattle.fallowtime_requests.specs.Inputs.{seen}
use Rattle.fallowtime_requests.specs.Reading.{IsUnread}
use Rattle.fallowtime_requests.specs.Requests.{NameQueryUpdateAndMany}
use Rattle.fallowtime_requests.proofs.UpdateLemmas.{all, not_three_or_four, of_four, of_three, stops_before, stops_early, stops_last}
use Rattle.fallowtime_requests.proofs.reading.with_update.Goals as goal
use Rattle.fallowtime_requests.proofs.reading.with_update.Goals.{in_default-via-then-arguments-lt3, in_default-via-else-arguments-lt3+else-arguments-lt4+else-arguments-lt5}

pub returns-in_default : goal.returns-in_default
returns-in_default c =
    inl (
      not_three_or_four seen c.args.arguments.now
          (λ e. elim c.in_default.branch [ in_default-via-then-arguments-lt3 w ↦ grind arith | in_default-via-else-arguments-lt3+else-arguments-lt4+else-arguments-lt5 w ↦ grind arith ])
          (λ e. elim c.in_default.branch [ in_default-via-then-arguments-lt3 w ↦ grind arith | in_default-via-else-arguments-lt3+else-arguments-lt4+else-arguments-lt5 w ↦ grind arith ]),
      refl,
    )

pub returns-in_ok-name-in-len3 : goal.returns-in_ok-name-in-len3
returns-in_ok-name-in-len3 c =
    of_three seen (λ gs. NameQueryUpdateAndMany c.args.maker.now gs c.in_ok-name-in-len3.name.now c.in_ok-name-in-len3.question (plans_of c.in_ok-name-in-len3.steps) false) c.args.arguments.now c.name-item.result c.query-item.result c.update-item.result
    (omega (arith, c.in-len3.len_at_least, c.in-len3.len_below)) (sym c.name-item.is) (sym c.query-item.is) (sym c.update-item.is) (c.in_ok-name-in-len3.ensures, refl)

pub returns-in_err-name-in-len3 : goal.returns-in_err-name-in-len3
returns-in_err-name-in-len3 c =
    let p = err_from_is_err_and c.from_residual.result c.from_residual.ensures.1 in
    rw (p.1, p.2) (
    of_three seen (λ gs. IsUnread c.args.maker.now all gs c.in_err-name-in-len3.field-0.0) c.args.arguments.now c.name-item.result c.query-item.result c.update-item.result
    (omega (arith, c.in-len3.len_at_least, c.in-len3.len_below)) (sym c.name-item.is) (sym c.query-item.is) (sym c.update-item.is)
    (stops_early c.args.maker.now (seen c.name-item.result) (seen c.query-item.result) (seen c.update-item.result) c.in_err-name-in-len3.field-0.0 (c.in_err-name-in-len3.ensures))
    )

pub returns-in_ok-many_of-in-len4 : goal.returns-in_ok-many_of-in-len4
returns-in_ok-many_of-in-len4 c =
    of_four seen (λ gs. NameQueryUpdateAndMany c.args.maker.now gs c.in_ok-name-in-len4.name.now c.in_ok-name-in-len4.question (plans_of c.in_ok-name-in-len4.steps) c.in_ok-many_of-in-len4.field-0) c.args.arguments.now
    c.name-item-then-arguments-lt5.result c.query-item-then-arguments-lt5.result c.update-item-then-arguments-lt5.result c.options-item.result
    (omega (arith, c.in-len4.len_at_least, c.in-len4.len_below)) (sym c.name-item-then-arguments-lt5.is) (sym c.query-item-then-arguments-lt5.is) (sym c.update-item-then-arguments-lt5.is) (sym c.options-item.is)
    (c.in_ok-name-in-len4.ensures, c.in_ok-many_of-in-len4.ensures)

pub returns-in_err-name-in-len4 : goal.returns-in_err-name-in-len4
returns-in_err-name-in-len4 c =
    let p = err_from_is_err_and c.from_residual-in_err-name-in-len4.result c.from_residual-in_err-name-in-len4.ensures.1 in
    rw (p.1, p.2) (
    of_four seen (λ gs. IsUnread c.args.maker.now all gs c.in_err-name-in-len4.field-0.0) c.args.arguments.now
    c.name-item-then-arguments-lt5.result c.query-item-then-arguments-lt5.result c.update-item-then-arguments-lt5.result c.options-item.result
    (omega (arith, c.in-len4.len_at_least, c.in-len4.len_below)) (sym c.name-item-then-arguments-lt5.is) (sym c.query-item-then-arguments-lt5.is) (sym c.update-item-then-arguments-lt5.is) (sym c.options-item.is)
    (stops_before c.args.maker.now (seen c.name-item-then-arguments-lt5.result) (seen c.query-item-then-arguments-lt5.result) (seen c.update-item-then-arguments-lt5.result) (seen c.options-item.result) c.in_err-name-in-len4.field-0.0 (c.in_err-name-in-len4.ensures))
    )

pub returns-in_err-many_of-in-len4 : goal.returns-in_err-many_of-in-len4
returns-in_err-many_of-in-len4 c =
    let p = err_from_is_err_and c.from_residual-in_err-many_of-in-len4.result c.from_residual-in_err-many_of-in-len4.ensures.1 in
    rw (p.1, p.2) (
    of_four seen (λ gs. IsUnread c.args.maker.now all gs c.in_err-many_of-in-len4.field-0.0) c.args.arguments.now
    c.name-item-then-arguments-lt5.result c.query-item-then-arguments-lt5.result c.update-item-then-arguments-lt5.result c.options-item.result
    (omega (arith, c.in-len4.len_at_least, c.in-len4.len_below)) (sym c.name-item-then-arguments-lt5.is) (sym c.query-item-then-arguments-lt5.is) (sym c.update-item-then-arguments-lt5.is) (sym c.options-item.is)
    (stops_last c.args.maker.now (seen c.name-item-then-arguments-lt5.result) (seen c.query-item-then-arguments-lt5.result) (seen c.update-item-then-arguments-lt5.result) (seen c.options-item.result) c.in_err-many_of-in-len4.field-0.0
    c.in_ok-name-in-len4.name.now c.in_ok-name-in-len4.question (plans_of c.in_ok-name-in-len4.steps) (c.in_ok-name-in-len4.ensures) c.in_err-many_of-in-len4.ensures)
    )

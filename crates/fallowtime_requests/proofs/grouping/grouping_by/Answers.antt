use Rattle.std.proofs.lemmas.Result.{err_from_is_err_and}
use Rattle.fallowtime_requests.proofs.OperandLemmas.{so_stops}
use Rattle.fallowtime_requests.proofs.grouping.grouping_by.Goals as goal

pub returns-in_err-key : goal.returns-in_err-key
returns-in_err-key c =
    let p = err_from_is_err_and c.from_residual.result c.from_residual.ensures.1 in
    rw (p.1, p.2) (so_stops _ _ c.in_err-key.field-0.0 (λ none g key fields. none g.key key) c.in_err-key.ensures)

pub returns-in_err-fields : goal.returns-in_err-fields
returns-in_err-fields c =
    let p = err_from_is_err_and c.from_residual-in_err-fields.result c.from_residual-in_err-fields.ensures.1 in
    rw (p.1, p.2) (so_stops _ _ c.in_err-fields.field-0.0 (λ none g key fields. none g.fields.items fields) c.in_err-fields.ensures)

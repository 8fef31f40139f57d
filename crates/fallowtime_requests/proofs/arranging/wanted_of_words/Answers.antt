use Rattle.std.proofs.lemmas.Result.{err_from_is_err_and}
use Rattle.fallowtime_requests.proofs.PlainLemmas.{no_fields}
use Rattle.fallowtime_requests.proofs.arranging.wanted_of_words.Goals as goal

pub returns-in_err-fields : goal.returns-in_err-fields
returns-in_err-fields c =
    let p = err_from_is_err_and c.from_residual-in_err-fields.result c.from_residual-in_err-fields.ensures.1 in
    rw (p.1, p.2) (no_fields c.args.words.now c.in_ok-arrangement.arrangement c.in_err-fields.field-0.0 c.in_ok-arrangement.ensures.0.0 c.in_ok-arrangement.ensures.1 c.in_err-fields.ensures)

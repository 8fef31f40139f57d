use Rattle.std.proofs.Common.{sym}
use Rattle.std.proofs.lemmas.Result.{err_from_is_err_and}
use Rattle.fallowtime_commands.proofs.EnterLemmas.{judged}
use Rattle.fallowtime_commands.proofs.importing.entries_of.Goals as goal

pub returns : goal.returns
returns c = judged c.args.stays c.args.name.now c.args.stream.now c.as_slice.result.now c.in_ok-rows.rows c.entries.result (sym c.as_slice.ensures.value) c.in_ok-rows.ensures c.entries.ensures

pub returns-in_err-rows : goal.returns-in_err-rows
returns-in_err-rows c =
    let p = err_from_is_err_and c.from_residual.result c.from_residual.ensures.1 in
    rw (p.1, p.2) c.in_err-rows.ensures

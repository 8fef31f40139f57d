use Rattle.std.proofs.Common.{List, ℕ, inr, subst}
use Rattle.bson_base.specs.Device.{Tally, TakesText}
use Rattle.cli_convert.proofs.report.tell.Goals as goal

pub returns-in-Err : goal.returns-in-Err
returns-in-Err g c =
    let before : Tally = g.F.Sink.tally c.args.faults.now in
    let after : Tally = g.F.Sink.tally c.put-in-Err.new.sink in
    inr (subst (λ (t : List ℕ). TakesText before after t) c.as_bytes-in-Err.ensures.value c.put-in-Err.ensures)

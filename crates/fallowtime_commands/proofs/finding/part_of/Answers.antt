use Rattle.fallowtime_commands.proofs.FindingLemmas.{left_of_some}
use Rattle.fallowtime_commands.proofs.finding.part_of.Goals as goal

pub returns-in-Some : goal.returns-in-Some
returns-in-Some c e is = rw c.in-Some.is (left_of_some c.in-Some.fields c.args.bytes.now c.left_of_body.result e is c.left_of_body.ensures)

use Rattle.std.proofs.Common.{◌≡◌, [], drop}
use Rattle.bson_base.specs.Scalars.{millis_of}
use Rattle.json.specs.Value.{members_view}
use Rattle.store_question_read.specs.UpdateOutcome.{plans_of}
use Rattle.store_question_read.specs.Read.{entries}
use Rattle.store_question_read.proofs.update.entries.Given as goal

abbrev pub invariant-loop-name : goal.invariant-loop-name
invariant-loop-name l = entries (millis_of l.now) [] (members_view l.members) ≡ entries (millis_of l.now) (plans_of l.steps) (members_view (drop l.name-index l.members))

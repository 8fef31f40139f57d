use Rattle.std.proofs.Common.{◌≡◌, drop}
use Rattle.bson_base.specs.Scalars.{millis_of}
use Rattle.json.specs.Value.{members_view}
use Rattle.store_question_read.specs.UpdateOutcome.{plans_of}
use Rattle.store_question_read.specs.Read.{fields}
use Rattle.store_question_read.proofs.update.fields.Given as goal

abbrev pub invariant-loop-path : goal.invariant-loop-path
invariant-loop-path l = fields (millis_of l.now) l.operator l.name (plans_of l.fn.steps) (members_view l.members) ≡ fields (millis_of l.now) l.operator l.name (plans_of l.steps) (members_view (drop l.path-index l.members))

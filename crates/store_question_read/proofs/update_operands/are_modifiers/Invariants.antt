use Rattle.std.proofs.Common.{◌≡◌, drop}
use Rattle.json.specs.Value.{members_view}
use Rattle.store_question_read.specs.Read.{are_modifiers}
use Rattle.store_question_read.proofs.update_operands.are_modifiers.Given as goal

abbrev pub invariant-loop-key : goal.invariant-loop-key
invariant-loop-key l = are_modifiers l.places (members_view l.members) ≡ are_modifiers l.places (members_view (drop l.key-index l.members))

use Rattle.std.proofs.Common.{◌≡◌, drop}
use Rattle.json.specs.Value.{members_view}
use Rattle.store_question_read.specs.Query.{has_key}
use Rattle.store_question_read.proofs.words.has_key.Given as goal

abbrev pub invariant-loop-key : goal.invariant-loop-key
invariant-loop-key l = has_key l.wanted (members_view l.members) ≡ has_key l.wanted (members_view (drop l.key-index l.members))

use Rattle.std.proofs.Common.{◌≡◌, drop}
use Rattle.json.specs.Value.{members_view}
use Rattle.store_question_read.specs.Query.{options_in}
use Rattle.store_question_read.proofs.words.options_in.Given as goal

abbrev pub invariant-loop-key : goal.invariant-loop-key
invariant-loop-key l = options_in (members_view l.members) ≡ options_in (members_view (drop l.key-index l.members))

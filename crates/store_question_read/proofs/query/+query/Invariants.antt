use Rattle.std.proofs.Common.{map, drop}
use Rattle.json.specs.Value.{items_view, members_view}
use Rattle.store_question_read.specs.Query.{each, entries, options_in, tests}
use Rattle.store_question_read.proofs.OnwardLemmas.{SoFar}
use Rattle.store_question_read.proofs.query.+query.Given as goal

abbrev pub invariant-entries-loop-key : goal.invariant-entries-loop-key
invariant-entries-loop-key l = SoFar l.questions.items (entries (members_view l.members)) (entries (members_view (drop l.key-index l.members)))

abbrev pub invariant-tests-loop-key : goal.invariant-tests-loop-key
invariant-tests-loop-key l = SoFar l.questions.items (tests (map (λ x. x.now) l.path) (options_in (members_view l.members)) (members_view l.members)) (tests (map (λ x. x.now) l.path) (options_in (members_view l.members)) (members_view (drop l.key-index l.members)))

abbrev pub invariant-items-loop-item : goal.invariant-items-loop-item
invariant-items-loop-item l = SoFar l.questions.items (each (map (λ x. x.now) l.path) l.key l.listed (items_view l.items)) (each (map (λ x. x.now) l.path) l.key l.listed (items_view (drop l.item-index l.items)))

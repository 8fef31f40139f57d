use Rattle.std.proofs.Common.{◌≡◌, drop}
use Rattle.json.specs.Value.{items_view, members_view}
use Rattle.store_question_read.specs.Seed.{fixed_by, with_entries, with_queries}
use Rattle.store_question_read.proofs.seed.+seed.Given as goal

abbrev pub invariant-with_entries-loop-key : goal.invariant-with_entries-loop-key
invariant-with_entries-loop-key l = with_entries (fixed_by l.fn.seed) (members_view l.members) ≡ with_entries (fixed_by l.seed) (members_view (drop l.key-index l.members))

abbrev pub invariant-with_queries-loop-item : goal.invariant-with_queries-loop-item
invariant-with_queries-loop-item l = with_queries (fixed_by l.fn.seed) (items_view l.items) ≡ with_queries (fixed_by l.seed) (items_view (drop l.item-index l.items))

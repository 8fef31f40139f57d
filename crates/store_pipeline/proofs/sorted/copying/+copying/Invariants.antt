use Rattle.std.proofs.Common.{◌≡◌, ◌+◌, ◌*◌, ◌≤◌, length}
use Rattle.bson_base.specs.Value.{Items, Members, members_levels}
use Rattle.bson_bytes.specs.Encode.{members_bytes}
use Rattle.store_pipeline.proofs.CopyLemmas.{FieldsLeft, ItemsLeft}
use Rattle.store_pipeline.proofs.sorted.copying.+copying.Given as goal
use Rattle.store_pipeline.specs.Views.{paths_lent}
use Rattle.store_question.proofs.ProjectionLemmas.{FewCopied}
use Rattle.store_question.specs.Views.{ComeBack}
use Rattle.store_model.specs.Filter.{under_places}

abbrev pub decreases-copy_framed : goal.decreases-copy_framed
decreases-copy_framed l = 8 * l.levels + 5

abbrev pub decreases-copy_elements : goal.decreases-copy_elements
decreases-copy_elements l = 8 * l.levels + 4

abbrev pub decreases-copy_fields : goal.decreases-copy_fields
decreases-copy_fields l = 8 * l.levels + 3

abbrev pub decreases-copy_items : goal.decreases-copy_items
decreases-copy_items l = 8 * l.levels + 3

abbrev pub decreases-copy_field : goal.decreases-copy_field
decreases-copy_field l = 8 * l.levels + 2

abbrev pub decreases-copy_inside : goal.decreases-copy_inside
decreases-copy_inside l = 8 * l.levels + 1

abbrev pub invariant-copy_fields-loop-first : goal.invariant-copy_fields-loop-first
invariant-copy_fields-loop-first l =
    ((ms : Members) → l.fn.elements ≡ members_bytes ms → ComeBack ms → members_levels ms ≤ l.levels → FieldsLeft l.kept (paths_lent l.paths) l.levels ms l.fn.out.items l.out.items l.left)
    × FewCopied l.fn.out.items l.out.items l.left (length l.fn.elements)

abbrev pub decreases-copy_fields-loop-first : goal.decreases-copy_fields-loop-first
decreases-copy_fields-loop-first l = length l.left

abbrev pub invariant-copy_items-loop-first : goal.invariant-copy_items-loop-first
invariant-copy_items-loop-first l =
    ((vs : Items) → l.fn.elements ≡ members_bytes (under_places 0 vs) → ComeBack (under_places 0 vs) → members_levels (under_places 0 vs) ≤ l.levels
    → ItemsLeft l.kept (paths_lent l.paths) l.levels vs l.fn.out.items l.out.items l.left l.place)
    × FewCopied l.fn.out.items l.out.items l.left (length l.fn.elements)
    × (l.place + length l.left ≤ length l.fn.elements)

abbrev pub decreases-copy_items-loop-first : goal.decreases-copy_items-loop-first
decreases-copy_items-loop-first l = length l.left

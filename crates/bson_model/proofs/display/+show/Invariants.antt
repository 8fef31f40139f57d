use Rattle.std.proofs.Common.{◌≡◌, ◌++◌, List, ℕ, true, drop, map}
use Rattle.std.specs.Fmt.{HasWritten, IsPlainFormatter}
use Rattle.bson_model.specs.Display.{shown_items, shown_members}
use Rattle.bson_model.specs.View.{view, pair_view, pairs_of, items_of, members_of}
use Rattle.bson_model.proofs.SizeLemmas.{AreLast}
use Rattle.bson_model.proofs.display.+show.Given as goal

abbrev pub invariant-write_items-loop-item : goal.invariant-write_items-loop-item
invariant-write_items-loop-item g l =
    IsPlainFormatter l.initial.f → (t : List ℕ) × HasWritten g.W.Write.write_str_gives l.initial.f t l.f
    × (shown_items true (items_of (map view l.items)) ≡ t ++ shown_items l.first (items_of (map view (drop l.item-index l.items))))

abbrev pub invariant-write_members-loop-key : goal.invariant-write_members-loop-key
invariant-write_members-loop-key g l = record {
  written : IsPlainFormatter l.initial.f → (t : List ℕ) × HasWritten g.W.Write.write_str_gives l.initial.f t l.f
      × (shown_members true (members_of (pairs_of l.document)) ≡ t ++ shown_members l.first (members_of (map pair_view l.key-iterator)));
  rest : AreLast l.document l.key-iterator;
}

-- The keys and names of the rows that were met.
use Rattle.std.specs.Prelude.{◌≡◌, ◌&&◌, ℕ, Bool, List, bytes_eq}
use Rattle.std.specs.List.{list_any}
use Rattle.std.specs.Cmp.Lexicographic.{slice_cmp}
use Rattle.std.specs.Ordering.{nat_cmp, ordering_then}
use Rattle.std.specs.declared.cmp.Ordering.{Ordering}
use Rattle.std.specs.declared.alloc.Global.{Global}
use Rattle.std.specs.Prelude.{Vec}
use Rattle.store_table.specs.Rows.{TableRow, is_row_named}

abbrev pub Pair : Type 0
Pair = Vec ℕ Global × Vec ℕ Global

abbrev pub has_pair : List Pair → List ℕ → List ℕ → Bool
has_pair keys coll idkey = list_any (λ (p : Pair). bytes_eq idkey p.0.items && bytes_eq coll p.1.items) keys

abbrev pub pair_cmp : Pair → Pair → Ordering
pair_cmp x y = ordering_then (slice_cmp nat_cmp x.0.items y.0.items) (slice_cmp nat_cmp x.1.items y.1.items)

-- the pairs are those of these rows
abbrev pub HasSeen : List Pair → List TableRow → Type 0
HasSeen keys docs = (coll idkey : List ℕ) → has_pair keys coll idkey ≡ list_any (is_row_named coll idkey) docs

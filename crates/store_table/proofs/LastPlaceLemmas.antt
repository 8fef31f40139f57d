-- The greatest place, and rows taken one after the other.
use Rattle.std.proofs.Common.{pos, ◌+ℤ◌, ◌≤ℤ◌, ◌≡◌, List, [], ◌∷◌, ◌++◌, map, refl, ap, arith}
use Rattle.std.proofs.lemmas.Int.{ints}
use Rattle.sqlite.specs.Order.{Row}
use Rattle.store_table.specs.Rows.{TableRow, IsRising, AreBelow, last_place}
use Rattle.store_table.specs.Cells.{doc_of}

up_to_last : (d : TableRow) (docs : List TableRow) → IsRising (d ∷ docs) → d.place ≤ℤ last_place (d ∷ docs)
up_to_last d [] up = omega (arith, ints)
up_to_last d (e ∷ docs) up = let more = up_to_last e docs up.1 in let low = up.0.0 in omega (arith, ints, more, low)

-- the place after the last is above all
pub below_next : (docs : List TableRow) → IsRising docs → AreBelow (last_place docs +ℤ pos 1) docs
below_next [] up = tt
below_next (d ∷ []) up = (omega (arith, ints), tt)
below_next (d ∷ (e ∷ docs)) up = let low = up_to_last d (e ∷ docs) up in (omega (arith, ints, low), below_next (e ∷ docs) up.1)

pub last_last : (ds : List TableRow) (d : TableRow) → last_place (ds ++ d ∷ []) ≡ d.place
last_last [] d = refl
last_last (e ∷ []) d = refl
last_last (e ∷ (f ∷ ds)) d = last_last (f ∷ ds) d

-- a row more
pub map_end : (r : Row) (rows : List Row) → map doc_of (rows ++ r ∷ []) ≡ map doc_of rows ++ doc_of r ∷ []
map_end r [] = refl
map_end r (x ∷ rows) = ap (λ ds. doc_of x ∷ ds) (map_end r rows)

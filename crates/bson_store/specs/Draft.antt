-- What is found in rows after changes of them.
use Rattle.std.specs.Ordering.{int_eq}
use Rattle.std.specs.Prelude.{◌≡◌, ℕ, ℤ, List, [], ◌∷◌, Bool, not, if◌then◌else◌, find, map, Option, None, Some, option_map}
use Rattle.store_table.specs.Change.{with_change}
use Rattle.store_table.specs.Moves.{parts_of_found, parts_of_row, placed_of}
use Rattle.store_table.specs.Rows.{TableRow, is_row_named}
use Rattle.store_table.specs.declared.change.Change.{Change}
use Rattle.store_table.specs.declared.change.Change.TheVariants.{Add, Rewrite, Remove}
use Rattle.store_table.specs.declared.row.Found.{Found}

-- no two rows of a collection have the same key
abbrev pub AreApart : List TableRow → Type 0
AreApart [] = Unit {0}
AreApart (d ∷ docs) = (find (is_row_named d.coll d.idkey) docs ≡ None) × AreApart docs

-- the place and the body of the first row with this collection and key, if there is one
abbrev pub parts_in : List ℕ → List ℕ → List TableRow → Option (ℤ × List ℕ)
parts_in coll idkey docs = option_map parts_of_row (find (is_row_named coll idkey) docs)

abbrev pub IsFound : List ℕ → List ℕ → Option Found → List TableRow → Type 0
IsFound coll idkey f docs = option_map parts_of_found f ≡ parts_in coll idkey docs

-- the place and the body of the row that a change leaves
abbrev pub left_by : Change → Option (ℤ × List ℕ)
left_by (Add place coll idkey body) = Some (place, body.items)
left_by (Rewrite place old body) = Some (place, body.items)
left_by (Remove place old) = None

-- the change leaves its row under this collection and key, and what is found under any other
abbrev pub Touches : List ℕ → List ℕ → Change → List TableRow → Type 0
Touches coll idkey c docs = (parts_in coll idkey (with_change c docs) ≡ left_by c) × ((n k : List ℕ) → ((n ≡ coll) × (k ≡ idkey) → ⊥) → parts_in n k (with_change c docs) ≡ parts_in n k docs)

-- ---- all rows of a collection

abbrev pub parts_of : List Found → List (ℤ × List ℕ)
parts_of = map parts_of_found

-- the rows are held of which these are the places and bodies, in order
abbrev pub ShowRows : List ℕ → List Found → List TableRow → Type 0
ShowRows coll rows docs = parts_of rows ≡ placed_of coll docs

-- the place with this body, if it is the one that gets it
abbrev pub with_part : ℤ → List ℕ → ℤ × List ℕ → ℤ × List ℕ
with_part place body r = if int_eq r.0 place then (r.0, body) else r

abbrev pub is_elsewhere : ℤ → ℤ × List ℕ → Bool
is_elsewhere place r = not (int_eq r.0 place)

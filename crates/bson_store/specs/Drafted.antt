-- The changes of a draft, and what it has to be over the rows of a table.
use Rattle.std.specs.Prelude.{◌≡◌, ◌+ℤ◌, ℕ, ℤ, pos, List, slice_get, IsSomeAnd, MatchOption}
use Rattle.std.specs.BTreeMap.{get}
use Rattle.store_table.specs.Change.{with_changes}
use Rattle.store_table.specs.Rows.{TableRow, AreBelow, IsRising}
use Rattle.store_table.specs.Seen.{Pair, pair_cmp}
use Rattle.store_table.specs.declared.change.Change.{Change}
use Rattle.bson_store.specs.Draft.{AreApart, left_by, parts_in}
use Rattle.bson_store.specs.declared.draft.Draft.{Draft}

abbrev pub changes_of : Draft → List Change
changes_of d = d.changes.items

abbrev pub last_of : Draft → ℤ
last_of d = d.last

-- the rows that a draft would make of these
abbrev pub drafted : Draft → List TableRow → List TableRow
drafted d docs = with_changes (changes_of d) docs

-- Under a key and a collection that the draft has touched, what is found is what one of its changes leaves; under any
-- other it is what is found without the changes.
abbrev pub Follows : Draft → List TableRow → Type 0
Follows d docs =
    (x : Pair) → MatchOption (get pair_cmp d.touched x) (parts_in x.1.items x.0.items (drafted d docs) ≡ parts_in x.1.items x.0.items docs)
    (λ i. IsSomeAnd (slice_get (changes_of d) i) (λ c. parts_in x.1.items x.0.items (drafted d docs) ≡ left_by c))

-- The rows that the draft would make are in order of place, below the place of the next, and have no two of a collection
-- with the same key; and the draft finds them.
pub record IsOver (d : Draft) (docs : List TableRow) : Type 0 where
  pub apart : AreApart (drafted d docs)
  pub rising : IsRising (drafted d docs)
  pub low : AreBelow (last_of d +ℤ pos 1) (drafted d docs)
  pub last : ℕ
  pub counts : last_of d ≡ pos last
  pub follows : Follows d docs

-- the draft has one change more, which turns the rows in this way
abbrev pub DraftsMore : Draft → Draft → (List TableRow → List TableRow) → Type 0
DraftsMore old new change = (docs : List TableRow) → drafted new docs ≡ change (drafted old docs)

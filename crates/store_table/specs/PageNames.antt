-- The names of the collections that have a document.
use Rattle.std.specs.Prelude.{◌≡◌, ℕ, Bool, true, false, List, map, Option, None, Some, Vec}
use Rattle.std.specs.Ordering.{is_lt, is_gt, nat_cmp}
use Rattle.std.specs.Cmp.Lexicographic.{slice_cmp}
use Rattle.std.specs.declared.alloc.Global.{Global}
use Rattle.sqlite_value.specs.declared.value.Value.{Value}
use Rattle.sqlite_value.specs.declared.value.Value.TheVariants.{Text}
use Rattle.sqlite_value.specs.Order.{value_cmp}
use Rattle.sqlite_btree.specs.Cut.{Ascends, IsIn}
use Rattle.store_table.specs.Documents.{Doc}

-- by their bytes
abbrev pub is_before : List ℕ → List ℕ → Bool
is_before a b = is_lt (slice_cmp nat_cmp a b)

-- the names of all documents, each once, ascending
pub record AreNames (names : List (List ℕ)) (docs : List Doc) : Type 0 where
  pub rising : Ascends is_before names
  pub met : (name : List ℕ) → IsIn name names → (d : Doc) × IsIn d docs × (d.coll ≡ name)
  pub all : (d : Doc) → IsIn d docs → IsIn d.coll names

abbrev pub names_in : List (Vec ℕ Global) → List (List ℕ)
names_in names = map (λ (v : Vec ℕ Global). v.items) names

-- behind the name that was met last; NULL is before all
abbrev pub is_behind : Value → List ℕ → Bool
is_behind last name = is_gt (value_cmp (Text name) last)

-- the first name behind another, if there is one
abbrev pub IsNext : Value → List Doc → Option (List ℕ) → Type 0
IsNext last docs None = (d : Doc) → IsIn d docs → is_behind last d.coll ≡ false
IsNext last docs (Some name) =
    (is_behind last name ≡ true) × ((d : Doc) × IsIn d docs × (d.coll ≡ name)) × ((d : Doc) → IsIn d docs → is_behind last d.coll ≡ true → is_before d.coll name ≡ false)

-- the names up to the one that was met last
pub record AreUpTo (last : Value) (names : List (List ℕ)) (docs : List Doc) : Type 0 where
  pub rising : Ascends is_before names
  pub met : (name : List ℕ) → IsIn name names → (d : Doc) × IsIn d docs × (d.coll ≡ name)
  pub below : (name : List ℕ) → IsIn name names → is_behind last name ≡ false
  pub all : (d : Doc) → IsIn d docs → is_behind last d.coll ≡ false → IsIn d.coll names

-- Keys of an order as a text: `price:-1,name`.
use Rattle.std.specs.Prelude.{◌≡◌, ◌⊎◌, ℕ, List, [], ◌∷◌, ◌++◌, Bool, true, false, ◌==◌}
use Rattle.std.specs.List.{AllZip, slice_split}
use Rattle.store_pipeline.specs.Order.{Key}

-- `:-1` and `:1`
abbrev pub greatest_first : List ℕ
greatest_first = 0x3A ∷ 0x2D ∷ 0x31 ∷ []

abbrev pub least_first : List ℕ
least_first = 0x3A ∷ 0x31 ∷ []

-- a path, with a dot between its keys
abbrev pub path_in : List ℕ → List (List ℕ)
path_in t = slice_split (λ b. b == 0x2E) t

abbrev pub key_by : List ℕ → Bool → Key
key_by t descending = record { path = path_in t; descending = descending }

abbrev pub EndsIn : List ℕ → List ℕ → Type 0
EndsIn t end = (front : List ℕ) × (t ≡ front ++ end)

-- a path, and how it is ordered; the least first if nothing is said
abbrev pub ReadsKey : List ℕ → Key → Type 0
ReadsKey t k =
    ((p : List ℕ) × (t ≡ p ++ greatest_first) × (k ≡ key_by p true))
    ⊎ ((EndsIn t greatest_first → ⊥) × ((p : List ℕ) × (t ≡ p ++ least_first) × (k ≡ key_by p false)))
    ⊎ ((EndsIn t greatest_first → ⊥) × (EndsIn t least_first → ⊥) × (k ≡ key_by t false))

-- one after the other, with a comma between them
abbrev pub ReadsKeys : List ℕ → List Key → Type 0
ReadsKeys t ks = AllZip ReadsKey (slice_split (λ b. b == 0x2C) t) ks

-- The kinds of refusals, and what is said of each.
use Rattle.std.specs.Prelude.{◌≡◌, ◌≢◌, ◌⊎◌, ◌==◌, ℕ, List, [], ◌∷◌, ◌++◌, codes, if◌then◌else◌}
use Rattle.std.specs.List.{before_first}
use Rattle.std.specs.Str.{bytes_eq}
use Rattle.fallowtime_words.specs.declared.kinds.Item.{Item}
use Rattle.fallowtime_words.specs.declared.kinds.Kind.{Kind}

-- what is behind a front, or all if that isn't in front
abbrev pub IsBehind : List ℕ → List ℕ → List ℕ → Type 0
IsBehind front word rest = (word ≡ front ++ rest) ⊎ (((more : List ℕ) → word ≢ front ++ more) × (rest ≡ word))

-- the kind in a word: what is before its first space, behind `refused: ` or `words: `
abbrev pub IsKindIn : List ℕ → List ℕ → Type 0
IsKindIn word kind = (text line : List ℕ) × IsBehind (codes "refused: ") word text × IsBehind (codes "words: ") text line × (kind ≡ before_first (λ b. b == 32) line)

-- the items of the first of the kinds that has this name
abbrev pub items_of : List Kind → List ℕ → List Item
items_of [] name = []
items_of (kind ∷ kinds) name = if bytes_eq kind.name.now name then kind.items.now else items_of kinds name

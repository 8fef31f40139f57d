-- What a text is like for which a query asks.
use Rattle.std.specs.Prelude.{◌≡◌, ◌&&◌, ◌||◌, ◌==◌, ℕ, List, [], ◌∷◌, leb, Bool, true}
use Rattle.std.specs.List.{list_all}

-- a decimal digit
abbrev pub is_figure : ℕ → Bool
is_figure b = leb 48 b && leb b 57

abbrev pub is_numeric : ℕ → Bool
is_numeric b = (leb 48 b && leb b 57) || (b == 46)

-- digits and dots, of which a digit is the first
abbrev pub IsNumeral : List ℕ → Type 0
IsNumeral text = (first : ℕ) × (rest : List ℕ) × (text ≡ first ∷ rest) × (is_figure first ≡ true) × (list_all is_numeric rest ≡ true)

-- it begins as a date does: four digits, a hyphen and a digit
abbrev pub IsDate : List ℕ → Type 0
IsDate text = (a b c d e : ℕ) × (rest : List ℕ) × (text ≡ a ∷ b ∷ c ∷ d ∷ 45 ∷ e ∷ rest)
    × (list_all is_figure (a ∷ b ∷ c ∷ d ∷ e ∷ []) ≡ true)

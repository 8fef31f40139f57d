-- What a terminal is given of text.
use Rattle.std.specs.Prelude.{ℕ, ◌/◌, ◌%◌, List, [], ◌∷◌, ◌++◌, ◌==◌, ◌&&◌, ◌||◌, Bool, true, not, cond, codes, nat_lt}
use Rattle.std.specs.Char.{digit_char}

-- a character below U+0100 as JSON has it in a string, by its number
abbrev pub json_escape : ℕ → List ℕ
json_escape c = codes "\\u00" ++ (digit_char (c / 16) ∷ digit_char (c % 16) ∷ [])

-- the two bytes of UTF-8 for a character from U+0080 to U+009F, whose number is that of the second
abbrev pub is_control_pair : ℕ → ℕ → Bool
is_control_pair b c = b == 194 && (nat_lt 127 c && nat_lt c 160)

-- a byte by itself: U+007F as JSON has it, any other as it is
abbrev pub byte_at_terminal : ℕ → List ℕ
byte_at_terminal b = cond (b == 127) (json_escape b) (b ∷ [])

-- text as a terminal is given it: each character from U+007F to U+009F as JSON has it, all else as it is
abbrev pub at_terminal : List ℕ → List ℕ
at_terminal [] = []
at_terminal (b ∷ []) = byte_at_terminal b
at_terminal (b ∷ (c ∷ rest)) = cond (is_control_pair b c) (json_escape c ++ at_terminal rest) (byte_at_terminal b ++ at_terminal (c ∷ rest))

-- whether a terminal has nothing to obey in it: no character from U+007F to U+009F
abbrev pub is_harmless : List ℕ → Bool
is_harmless [] = true
is_harmless (b ∷ []) = not (b == 127)
is_harmless (b ∷ (c ∷ rest)) = not (b == 127 || is_control_pair b c) && is_harmless (c ∷ rest)

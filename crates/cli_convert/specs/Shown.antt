-- Texts on a line that a terminal may show.
use Rattle.std.specs.Prelude.{ℕ, ◌+◌, ◌/◌, ◌%◌, List, [], ◌∷◌, ◌++◌, ◌==◌, ◌&&◌, ◌||◌, Bool, false, cond, codes, chars, encode_utf8, nat_lt}
use Rattle.std.specs.List.{list_any}

-- U+0000 to U+001F, and U+007F to U+009F: a terminal, or whoever reads lines, may obey these
abbrev pub is_control : ℕ → Bool
is_control c = nat_lt c 32 || (nat_lt 126 c && nat_lt c 160)

-- a digit to the base 16
abbrev pub hex_digit : ℕ → ℕ
hex_digit n = cond (nat_lt n 10) (48 + n) (87 + n)

-- a character between the quotes of JSON
abbrev pub quoted_char : ℕ → List ℕ
quoted_char c =
    cond (c == 34) (codes "\\\"")
    (cond (c == 92) (codes "\\\\")
    (cond (c == 10) (codes "\\n")
    (cond (c == 13) (codes "\\r")
    (cond (c == 9) (codes "\\t")
    (cond (is_control c) (codes "\\u00" ++ (hex_digit (c / 16) ∷ hex_digit (c % 16) ∷ []))
    (encode_utf8 c))))))

-- these characters, and the quote behind them
abbrev pub quoted_rest : List ℕ → List ℕ
quoted_rest [] = codes "\""
quoted_rest (c ∷ cs) = quoted_char c ++ quoted_rest cs

abbrev pub begins_with_quote : List ℕ → Bool
begins_with_quote [] = false
begins_with_quote (b ∷ bs) = b == 34

-- whether a text isn't shown as it is: it begins with a quote, or has a control character
abbrev pub is_odd : List ℕ → Bool
is_odd text = begins_with_quote text || list_any is_control (chars text)

-- a text as it is, or as JSON
abbrev pub shown : List ℕ → List ℕ
shown text = cond (is_odd text) (codes "\"" ++ quoted_rest (chars text)) text

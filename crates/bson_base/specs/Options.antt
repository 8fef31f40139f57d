-- Texts with their characters in order, as the options of a regular expression are kept.
use Rattle.std.specs.Prelude.{ℕ, List, [], ◌∷◌, nat_le, if◌then◌else◌, encode_utf8_all, chars}

-- a number put into its place among ascending ones
abbrev pub put_in_order : ℕ → List ℕ → List ℕ
put_in_order c [] = c ∷ []
put_in_order c (d ∷ ds) = if nat_le c d then c ∷ d ∷ ds else d ∷ put_in_order c ds

-- the numbers ascending, each as often as it occurs there
abbrev pub ascending_codes : List ℕ → List ℕ
ascending_codes [] = []
ascending_codes (c ∷ cs) = put_in_order c (ascending_codes cs)

-- the text with its characters ascending
abbrev pub sorted_text : List ℕ → List ℕ
sorted_text t = encode_utf8_all (ascending_codes (chars t))

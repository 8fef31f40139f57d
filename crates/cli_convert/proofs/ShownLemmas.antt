-- Characters of a text, one after the other.
use Rattle.std.proofs.Common.{◌≡◌, ℕ, List, [], ◌∷◌, ◌++◌, length, Bool, true, false, ◌||◌, ap, arith, IsUtf8, chars}
use Rattle.std.proofs.lemmas.Str.{chars_past_char, IsUtf8-past_char, chars-nil}
use Rattle.std.specs.List.{list_any}
use lib.Utf8.{encode}

pub step : (bs rest : List ℕ) (c : ℕ) → IsUtf8 bs → bs ≡ encode c ++ rest → (chars bs ≡ c ∷ chars rest) × IsUtf8 rest
step bs rest c u e = (chars_past_char bs rest c u e, IsUtf8-past_char bs rest c u e)

pub no_more : (bs : List ℕ) → length bs ≡ 0 → chars bs ≡ []
no_more [] e = chars-nil
no_more (b ∷ bs) e = absurd (omega arith)

pub any_first : (p : ℕ → Bool) (c : ℕ) (cs : List ℕ) → p c ≡ true → list_any p (c ∷ cs) ≡ true
any_first p c cs e = ap (λ b. b || list_any p cs) e

pub any_later : (p : ℕ → Bool) (c : ℕ) (cs : List ℕ) → p c ≡ false → list_any p (c ∷ cs) ≡ list_any p cs
any_later p c cs e = ap (λ b. b || list_any p cs) e

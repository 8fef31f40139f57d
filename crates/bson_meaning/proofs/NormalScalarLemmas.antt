-- The normal form of a double, of a subtype and of options: taken twice it is taken once, and what it keeps.
use Rattle.std.proofs.Common.{◌≡◌, ℕ, ◌+◌, ◌^◌, ◌<◌, List, [], ◌∷◌, ◌++◌, length, Bool, true, false, cond, if◌then◌else◌, leb, refl, ap, ◌∙◌, sym, arith, length-append}
use Rattle.std.proofs.lemmas.Str.{encodes-chars}
use Rattle.std.specs.Prelude.{IsUtf8, chars}
use lib.Utf8.{encode, encodes}
use Rattle.bson_base.specs.Doubles.{is_nan, is_negative, is_zero}
use Rattle.bson_base.specs.Kinds.{HasNo00}
use Rattle.bson_base.specs.Options.{put_in_order, ascending_codes, sorted_text}
use Rattle.bson_base.proofs.OptionsLemmas.{sorted_text-in_order, sorted_text-kept}
use Rattle.bson_meaning.specs.Forms.{normal_double}
use Rattle.bson_meaning.specs.declared.scalars.Zeros.{Zeros}
use Rattle.bson_meaning.specs.declared.scalars.Zeros.TheVariants.{Apart, Joined}
use Rattle.bson_bytes.proofs.OptionsLemmas.{text_sorted}

-- ---- doubles

abbrev quieted : Bool → ℕ
quieted negative = if negative then 0xFFF8_0000_0000_0000 else 0x7FF8_0000_0000_0000

abbrev again : Zeros → ℕ → ℕ
again Apart m = if is_nan m then quieted (is_negative m) else m
again Joined m = if is_nan m then quieted (is_negative m) else if is_zero m then 0 else m

quiet_again : (z : Zeros) (c : Bool) → again z (quieted c) ≡ quieted c
quiet_again Apart true = refl
quiet_again Apart false = refl
quiet_again Joined true = refl
quiet_again Joined false = refl

pub normal_double_twice : (z : Zeros) (n : ℕ) → normal_double z (normal_double z n) ≡ normal_double z n
unfolding normal_double
normal_double_twice Apart n = by (is_nan n) refl
  where
    by : (b : Bool) → is_nan n ≡ b → again Apart (if b then quieted (is_negative n) else n) ≡ (if b then quieted (is_negative n) else n)
    by true e = quiet_again Apart (is_negative n)
    by false e = ap (λ b. if b then quieted (is_negative n) else n) e
normal_double_twice Joined n = by (is_nan n) (is_zero n) refl refl
  where
    by : (b c : Bool) → is_nan n ≡ b → is_zero n ≡ c → again Joined (if b then quieted (is_negative n) else if c then 0 else n) ≡ (if b then quieted (is_negative n) else if c then 0 else n)
    by true c e f = quiet_again Joined (is_negative n)
    by false true e f = refl
    by false false e f = ap (λ b. if b then quieted (is_negative n) else if is_zero n then 0 else n) e ∙ ap (λ c. if c then 0 else n) f

quieted_fits : (c : Bool) → quieted c < 2 ^ 64
quieted_fits true = omega arith
quieted_fits false = omega arith

pub normal_double_fits : (z : Zeros) (n : ℕ) → n < 2 ^ 64 → normal_double z n < 2 ^ 64
unfolding normal_double
normal_double_fits Apart n h = by (is_nan n)
  where
    by : (b : Bool) → (if b then quieted (is_negative n) else n) < 2 ^ 64
    by true = quieted_fits (is_negative n)
    by false = h
normal_double_fits Joined n h = by (is_nan n) (is_zero n)
  where
    by : (b c : Bool) → (if b then quieted (is_negative n) else if c then 0 else n) < 2 ^ 64
    by true c = quieted_fits (is_negative n)
    by false true = omega arith
    by false false = h

-- ---- subtypes

-- ---- options

length_put : (c : ℕ) (ds : List ℕ) → length (encodes (put_in_order c ds)) ≡ length (encode c) + length (encodes ds)
length_put c [] = simp length-append
length_put c (d ∷ ds) = by (length_put c ds) (leb c d)
  where
    by : length (encodes (put_in_order c ds)) ≡ length (encode c) + length (encodes ds) → (b : Bool) → length (encodes (cond b (c ∷ d ∷ ds) (d ∷ put_in_order c ds))) ≡ length (encode c) + length (encodes (d ∷ ds))
    by e true = simp length-append
    by e false = length-append (encode d) (encodes (put_in_order c ds)) ∙ ap (λ n. length (encode d) + n) e ∙ omega (arith, length-append (encode d) (encodes ds))

length_ascending : (cs : List ℕ) → length (encodes (ascending_codes cs)) ≡ length (encodes cs)
length_ascending [] = refl
length_ascending (c ∷ cs) = length_put c (ascending_codes cs) ∙ ap (λ n. length (encode c) + n) (length_ascending cs) ∙ sym (length-append (encode c) (encodes cs))

pub no_00_parts : (a b : List ℕ) → HasNo00 (a ++ b) → HasNo00 a × HasNo00 b
no_00_parts [] b h = (tt, h)
no_00_parts (x ∷ a) b h = let r = no_00_parts a b h.1 in ((h.0, r.0), r.1)

pub sorted_text_twice : (t : List ℕ) → IsUtf8 t → sorted_text (sorted_text t) ≡ sorted_text t
sorted_text_twice t u = sorted_text-kept (sorted_text t) (text_sorted t u) (sorted_text-in_order t u)

pub sorted_text_length : (t : List ℕ) → IsUtf8 t → length (sorted_text t) ≡ length t
sorted_text_length t u = length_ascending (chars t) ∙ ap length (encodes-chars t u)

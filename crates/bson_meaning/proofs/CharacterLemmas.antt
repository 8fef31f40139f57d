-- Characters of two texts, counted: texts with the same characters equally often are one text once their characters are in order.
use Rattle.std.proofs.Common.{◌≡◌, ℕ, suc, ◌+◌, ◌<◌, ◌≤◌, List, [], ◌∷◌, ◌++◌, length, Bool, true, false, cond, eqb, eq-eqb, zero, refl, ap, ◌∙◌, sym, subst, arith, length-append}
use Rattle.std.proofs.lemmas.Bool.{eqb-true}
use Rattle.std.proofs.lemmas.List.Sums.{sum_by-cons}
use Rattle.std.proofs.lemmas.Str.{chars_past_char, IsUtf8-past_char, length-encode, len_utf8_bounds, chars-nil, chars-encodes, scalars-chars}
use Rattle.std.specs.List.{sum_by}
use Rattle.std.specs.Prelude.{IsUtf8, chars}
use lib.Utf8.{encode, encodes}
use Rattle.bson_base.specs.Options.{ascending_codes, sorted_text}
use Rattle.bson_base.proofs.OptionsLemmas.{same_order, count-ascending, NeverDescends-ascending, scalars-ascending, one_at}
use Rattle.bson_meaning.specs.Counts.{count, StandAlike}
use Rattle.bson_meaning.proofs.NormalScalarLemmas.{sorted_text_length}

-- ---- from character to character

pub step : (bs rest : List ℕ) (c : ℕ) → IsUtf8 bs → bs ≡ encode c ++ rest → (chars bs ≡ c ∷ chars rest) × IsUtf8 rest × (length rest + 1 ≤ length bs)
step bs rest c u e =
    (chars_past_char bs rest c u e, IsUtf8-past_char bs rest c u e, omega (arith, ap length e, length-append (encode c) rest, length-encode c, (len_utf8_bounds c).0))

pub no_more : (bs : List ℕ) → length bs ≡ 0 → chars bs ≡ []
no_more [] e = chars-nil
no_more (b ∷ bs) e = absurd (omega arith)

pub count_first : (c d : ℕ) (ds : List ℕ) → d ≡ c → count c (d ∷ ds) ≡ 1 + count c ds
count_first c d ds e = ap (λ b. cond b 1 0 + count c ds) (eq-eqb d c e)

is_other : (c d : ℕ) → (d ≡ c → ⊥) → eqb d c ≡ false
is_other c d h = by (eqb d c) refl
  where
    by : (b : Bool) → eqb d c ≡ b → b ≡ false
    by true e = absurd (h (eqb-true d c e))
    by false e = refl

pub count_other : (c d : ℕ) (ds : List ℕ) → (d ≡ c → ⊥) → count c (d ∷ ds) ≡ count c ds
count_other c d ds h = ap (λ b. cond b 1 0 + count c ds) (is_other c d h) ∙ omega arith

-- ---- counts

counted : (c : ℕ) (ds : List ℕ) → count c ds ≡ sum_by (one_at c) ds
counted c [] = refl
counted c (d ∷ ds) = ap (λ n. one_at c d + n) (counted c ds) ∙ sym (sum_by-cons (one_at c) d ds)

told : (xs ys cs : List ℕ) (c : ℕ) → StandAlike xs ys cs → 0 < count c cs → count c xs ≡ count c ys
told xs ys [] c h p = absurd (omega arith)
told xs ys (d ∷ ds) c h p = by (told xs ys ds c h.1) (eqb d c) refl
  where
    by : (0 < count c ds → count c xs ≡ count c ys) → (b : Bool) → eqb d c ≡ b → count c xs ≡ count c ys
    by more true e = subst (λ x. count x xs ≡ count x ys) (eqb-true d c e) h.0
    by more false e = more (omega (arith, p, ap (λ b. cond b 1 0 + count c ds) e))

everywhere : (xs ys : List ℕ) → StandAlike xs ys ys → StandAlike ys xs xs → (c : ℕ) → count c xs ≡ count c ys
everywhere xs ys h k c = by (count c xs) (count c ys) refl refl
  where
    by : (m n : ℕ) → count c xs ≡ m → count c ys ≡ n → count c xs ≡ count c ys
    by zero zero e f = e ∙ sym f
    by (suc m) zero e f = sym (told ys xs xs c k (omega (arith, e)))
    by m (suc n) e f = told xs ys ys c h (omega (arith, f))

pub alike_sorted : (s t : List ℕ) → StandAlike (chars s) (chars t) (chars t) → StandAlike (chars t) (chars s) (chars s) → sorted_text s ≡ sorted_text t
alike_sorted s t h k =
    ap encodes (same_order (ascending_codes (chars s)) (ascending_codes (chars t)) (NeverDescends-ascending (chars s)) (NeverDescends-ascending (chars t))
    (λ n. count-ascending n (chars s) ∙ sym (counted n (chars s)) ∙ everywhere (chars s) (chars t) h k n ∙ counted n (chars t) ∙ sym (count-ascending n (chars t))))

chars_sorted : (t : List ℕ) → IsUtf8 t → chars (sorted_text t) ≡ ascending_codes (chars t)
chars_sorted t u = chars-encodes (ascending_codes (chars t)) (scalars-ascending (chars t) (scalars-chars t u))

equally : (s t : List ℕ) → IsUtf8 s → IsUtf8 t → sorted_text s ≡ sorted_text t → (c : ℕ) → count c (chars s) ≡ count c (chars t)
equally s t u v e c =
    let same : ascending_codes (chars s) ≡ ascending_codes (chars t) = sym (chars_sorted s u) ∙ ap chars e ∙ chars_sorted t v in
    counted c (chars s) ∙ sym (count-ascending c (chars s)) ∙ ap (λ cs. sum_by (one_at c) cs) same ∙ count-ascending c (chars t) ∙ sym (counted c (chars t))

alike : (xs ys cs : List ℕ) → ((c : ℕ) → count c xs ≡ count c ys) → StandAlike xs ys cs
alike xs ys [] h = tt
alike xs ys (c ∷ cs) h = (h c, alike xs ys cs h)

pub sorted_alike : (s t cs : List ℕ) → IsUtf8 s → IsUtf8 t → sorted_text s ≡ sorted_text t → StandAlike (chars s) (chars t) cs
sorted_alike s t cs u v e = alike (chars s) (chars t) cs (equally s t u v e)

pub sorted_length : (s t : List ℕ) → IsUtf8 s → IsUtf8 t → sorted_text s ≡ sorted_text t → length s ≡ length t
sorted_length s t u v e = sym (sorted_text_length s u) ∙ ap length e ∙ sorted_text_length t v

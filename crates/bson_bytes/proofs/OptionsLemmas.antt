-- The characters of a text in ascending order have no 00.
use Rattle.std.proofs.Common.{ℕ, zero, suc, ◌+◌, ◌/◌, ◌%◌, ◌<◌, Bool, true, false, cond, ltb, List, [], ◌∷◌, ◌++◌, refl, sym, subst, arith}
use Rattle.std.specs.Prelude.{IsUtf8, chars, nat_le, if◌then◌else◌}
use Rattle.std.proofs.Math.Utf8.{encode, encodes}
use Rattle.std.proofs.lemmas.Str.{encodes-chars, scalars-chars, encode_ascii}
use Rattle.bson_base.specs.Kinds.{HasNo00}
use Rattle.bson_base.specs.Options.{put_in_order, ascending_codes, sorted_text}
use Rattle.bson_base.proofs.OptionsLemmas.{scalars-ascending}

pub no_zero_both : (a b : List ℕ) → HasNo00 a → HasNo00 b → HasNo00 (a ++ b)
no_zero_both [] b h k = k
no_zero_both (x ∷ a) b h k = (h.0, no_zero_both a b h.1 k)

no_zero_front : (a b : List ℕ) → HasNo00 (a ++ b) → HasNo00 a
no_zero_front [] b h = tt
no_zero_front (x ∷ a) b h = (h.0, no_zero_front a b h.1)

no_zero_back : (a b : List ℕ) → HasNo00 (a ++ b) → HasNo00 b
no_zero_back [] b h = h
no_zero_back (x ∷ a) b h = no_zero_back a b h.1

no_zero_encode : (c : ℕ) → 0 < c → HasNo00 (encode c)
unfolding encode
no_zero_encode c h = by (ltb c 128) (ltb c 2048) (ltb c 65536)
  where
    by : (x y z : Bool) → HasNo00 (cond x (c ∷ []) (cond y ((192 + c / 64) ∷ (128 + c % 64) ∷ []) (cond z ((224 + c / 4096) ∷ (128 + c / 64 % 64) ∷ (128 + c % 64) ∷ []) ((240 + c / 262144) ∷ (128 + c / 4096 % 64) ∷ (128 + c / 64 % 64) ∷ (128 + c % 64) ∷ []))))
    by true y z = (h, tt)
    by false true z = (omega arith, (omega arith, tt))
    by false false true = (omega arith, (omega arith, (omega arith, tt)))
    by false false false = (omega arith, (omega arith, (omega arith, (omega arith, tt))))

character_positive : (c : ℕ) → HasNo00 (encode c) → 0 < c
character_positive zero h = (subst HasNo00 (encode_ascii 0 (omega arith)) h).0
character_positive (suc c) h = omega arith

no_zero_encodes : (cs : List ℕ) → HasNo00 cs → HasNo00 (encodes cs)
no_zero_encodes [] h = tt
no_zero_encodes (c ∷ cs) h = no_zero_both (encode c) (encodes cs) (no_zero_encode c h.0) (no_zero_encodes cs h.1)

no_zero_characters : (cs : List ℕ) → HasNo00 (encodes cs) → HasNo00 cs
no_zero_characters [] h = tt
no_zero_characters (c ∷ cs) h = (character_positive c (no_zero_front (encode c) (encodes cs) h), no_zero_characters cs (no_zero_back (encode c) (encodes cs) h))

no_zero_put : (c : ℕ) (ds : List ℕ) → 0 < c → HasNo00 ds → HasNo00 (put_in_order c ds)
no_zero_put c [] h k = (h, tt)
no_zero_put c (d ∷ ds) h k = by (nat_le c d) (no_zero_put c ds h k.1)
  where
    by : (b : Bool) → HasNo00 (put_in_order c ds) → HasNo00 (if b then c ∷ d ∷ ds else d ∷ put_in_order c ds)
    by true rest = (h, k)
    by false rest = (k.0, rest)

no_zero_ascending : (cs : List ℕ) → HasNo00 cs → HasNo00 (ascending_codes cs)
no_zero_ascending [] h = tt
no_zero_ascending (c ∷ cs) h = no_zero_put c (ascending_codes cs) h.0 (no_zero_ascending cs h.1)

pub no_zero_sorted : (t : List ℕ) → IsUtf8 t → HasNo00 t → HasNo00 (sorted_text t)
no_zero_sorted t utf h = no_zero_encodes (ascending_codes (chars t)) (no_zero_ascending (chars t) (no_zero_characters (chars t) (subst HasNo00 (sym (encodes-chars t utf)) h)))

-- ---- and they are a text

pub text_sorted : (t : List ℕ) → IsUtf8 t → IsUtf8 (sorted_text t)
text_sorted t utf = (ascending_codes (chars t), (scalars-ascending (chars t) (scalars-chars t utf), refl))

-- What means the same as a plain value is plain, and documents of one value mean the same exactly if their values do.
use Rattle.std.proofs.Common.{◌≡◌, ℕ, List, [], ◌∷◌, Bool, true, false, cond, leb, Option, Some, None, refl, sym, subst}
use Rattle.std.specs.Prelude.{bytes_eq, IsSomeAnd, IsUtf8, chars, is_some}
use lib.Utf8.{encode as encoded, encodes}
use Rattle.std.proofs.lemmas.Str.{encodes-chars}
use Rattle.bson_base.specs.Kinds.{HasNo00, IsPlainScalar, IsCleanScalar, IsRangedScalar, IsSound, IsPlain, IsClean}
use Rattle.bson_base.specs.Options.{put_in_order, ascending_codes, sorted_text}
use Rattle.bson_base.specs.Value.{Scalar, regex, Value, scalar, array, document, scoped_code, Items, no_items, item, Members, no_members, member, look_up, EachPart, EachItem, EachMember}
use Rattle.bson_meaning.specs.Meaning.{norm_in_order, norm, normal_scalar, Same, SameItems, SameUnder}
use Rattle.bson_meaning.proofs.NormalLemmas.{asc_each, both_each}
use Rattle.bson_meaning.proofs.NowLemmas.{normal_scalar_plain, normal_scalar_clean, norm_each}
use Rattle.bson_bytes.proofs.OptionsLemmas.{no_zero_both}
use Rattle.bson_meaning.proofs.NormalScalarLemmas.{no_00_parts}
use Rattle.bson_base.proofs.MemberLemmas.{same_key, key_at}

placed_back : (c : ℕ) (ds : List ℕ) → HasNo00 (encodes (put_in_order c ds)) → HasNo00 (encoded c) × HasNo00 (encodes ds)
placed_back c [] h = ((no_00_parts (encoded c) [] h).0, tt)
placed_back c (d ∷ ds) h = by (placed_back c ds) (leb c d) h
  where
    by : (HasNo00 (encodes (put_in_order c ds)) → HasNo00 (encoded c) × HasNo00 (encodes ds)) → (b : Bool)
        → HasNo00 (encodes (cond b (c ∷ d ∷ ds) (d ∷ put_in_order c ds))) → HasNo00 (encoded c) × HasNo00 (encodes (d ∷ ds))
    by f true h = no_00_parts (encoded c) (encodes (d ∷ ds)) h
    by f false h = let p = no_00_parts (encoded d) (encodes (put_in_order c ds)) h in let r = f p.1 in (r.0, no_zero_both (encoded d) (encodes ds) p.0 r.1)

ordered_back : (cs : List ℕ) → HasNo00 (encodes (ascending_codes cs)) → HasNo00 (encodes cs)
ordered_back [] h = tt
ordered_back (c ∷ cs) h = let r = placed_back c (ascending_codes cs) h in no_zero_both (encoded c) (encodes cs) r.0 (ordered_back cs r.1)

sorted_back : (t : List ℕ) → IsUtf8 t → HasNo00 (sorted_text t) → HasNo00 t
sorted_back t u h = subst HasNo00 (encodes-chars t u) (ordered_back (chars t) h)

normal_back : (s : Scalar) → IsRangedScalar s → IsPlainScalar (normal_scalar s) → IsPlainScalar s
normal_back (regex p o) u h = (h.0, sorted_back o u.1 h.1)
normal_back _ u h = tt

pub some_found : {X : Type 0} (o : Option Value) (P : Value → Type 0) → ((v : Value) → o ≡ Some v → P v → X) → IsSomeAnd o P → X
some_found None P f h = absurd h
some_found (Some v) P f h = f v refl h

abbrev IsRanged : Value → Type 0
IsRanged v = EachPart IsUtf8 IsRangedScalar v

mutual
  pub plain_same : (w v : Value) → Same w v → IsRanged w → IsRanged v → IsPlain v → IsPlain w
  plain_same (scalar s) (scalar t) h u r p = normal_back s u (subst IsPlainScalar (sym h) (normal_scalar_plain t r p))
  plain_same (array ws) (array vs) h u r p = plain_items ws vs h u r p
  plain_same (document ns) (document ms) h u r p = plain_members ns ms h.1 u r p
  plain_same (scoped_code a ns) (scoped_code b ms) h u r p = (tt, plain_members ns ms h.2 u.1 r.1 p.1)
  plain_same _ _ h u r p = absurd h

  plain_items : (ws vs : Items) → SameItems ws vs → EachItem IsUtf8 IsRangedScalar ws → EachItem IsUtf8 IsRangedScalar vs → EachItem HasNo00 IsPlainScalar vs → EachItem HasNo00 IsPlainScalar ws
  plain_items no_items no_items h u r p = tt
  plain_items (item w ws) (item v vs) h u r p = (plain_same w v h.0 u.0 r.0 p.0, plain_items ws vs h.1 u.1 r.1 p.1)
  plain_items _ _ h u r p = absurd h

  plain_members : (ns ms : Members) → SameUnder ns ms → EachMember IsUtf8 IsRangedScalar ns → EachMember IsUtf8 IsRangedScalar ms → EachMember HasNo00 IsPlainScalar ms → EachMember HasNo00 IsPlainScalar ns
  plain_members no_members ms h u r p = tt
  plain_members (member k w ns) ms h u r p =
      let here : HasNo00 k × IsPlain w = some_found (look_up k ms) (Same w) (λ v e s. let a = key_at HasNo00 IsPlainScalar ms k v p e in (a.0, plain_same w v s u.1 (key_at IsUtf8 IsRangedScalar ms k v r e).1 a.1)) h.0 in
      (here.0, here.1, plain_members ns ms h.1 u.2 r p)

pub plain_on : (v w : Value) → IsSound v → IsSound w → Same v w → IsPlain w → IsPlain v
plain_on v w s t h p = plain_same v w h s.ranged t.ranged p

-- ---- documents of one member

abbrev only : List ℕ → Value → Value
only k v = document (member k v no_members)

pub only_same : (k : List ℕ) (v w : Value) → Same v w → Same (only k v) (only k w)
only_same k v w h = (λ l. by (bytes_eq l k), (subst (λ b. IsSomeAnd (cond b (Some w) None) (λ x. Same v x)) (sym (same_key k)) h, tt))
  where
    by : (b : Bool) → is_some (cond b (Some v) None) ≡ is_some (cond b (Some w) None)
    by true = refl
    by false = refl

value_same : (k : List ℕ) (v w : Value) → Same (only k v) (only k w) → Same v w
value_same k v w h = subst (λ b. IsSomeAnd (cond b (Some w) None) (λ x. Same v x)) (same_key k) h.1.0

pub one_member_same : (k : List ℕ) (v w : Value) → (Same (only k v) (only k w) → Same v w) × (Same v w → Same (only k v) (only k w))
one_member_same k v w = (value_same k v w, only_same k v w)

-- ---- the normal form of a plain value

pub normal_clean : (v : Value) → IsPlain v → IsSound v → IsClean (norm_in_order v)
normal_clean v p s =
    let all = both_each HasNo00 IsUtf8 IsPlainScalar IsRangedScalar v p s.ranged in
    let normal = norm_each (λ k. HasNo00 k × IsUtf8 k) HasNo00 (λ s. IsPlainScalar s × IsRangedScalar s) (λ s. IsPlainScalar s × IsCleanScalar s) (λ k h. h.0)
    (λ s h. (normal_scalar_plain s h.1 h.0, normal_scalar_clean s h.1)) v all in
    asc_each HasNo00 (λ s. IsPlainScalar s × IsCleanScalar s) (norm v) normal

-- What stands among the bytes of a value: each value to which a path leads.
use Rattle.std.proofs.Common.{◌≡◌, ◌⊎◌, inl, inr, ℕ, List, [], ◌∷◌, ◌++◌, Bool, true, false, cond, Option, Some, None, bytes_eq, refl, sym, ap, ◌∙◌, subst, append_assoc, append-nil, length, ◌+◌, ◌<◌, ◌≤◌, get_or, arith}
use Rattle.std.specs.Prelude.{MatchOption}
use Rattle.bson_base.proofs.MemberLemmas.{equal_keys}
use Rattle.bson_base.specs.Tags.{tag_byte}
use Rattle.bson_base.specs.Value.{Value, scalar, array, document, scoped_code, string, symbol, Items, Members, no_members, member, look_up, value_kind}
use Rattle.bson_bytes.specs.Encode.{cstring_of, encode, frame_of, le32, members_bytes, text_bytes, value_bytes}
use Rattle.store_question.proofs.MemberLemmas.{array_bytes_pairs}
use Rattle.store_model.specs.Filter.{under_places, Path}
use Rattle.store_question.specs.Asked.{text_in, AnyMember, AtEnd, AtMember, AtPlace, Along, HasItem, IntoDocument, Through, Under}
use Rattle.store_question.specs.Lacking.{NamedIn, StandsIn}

pub behind : (t xs ys : List ℕ) → StandsIn t ys → StandsIn t (xs ++ ys)
behind t xs ys (a, b, e) = (xs ++ a, b, ap (λ (l : List ℕ). xs ++ l) e ∙ sym (append_assoc xs a (t ++ b)))

pub longer : (t xs ys a b : List ℕ) → xs ≡ a ++ (t ++ b) → xs ++ ys ≡ a ++ (t ++ (b ++ ys))
longer t xs ys a b e = ap (λ (l : List ℕ). l ++ ys) e ∙ append_assoc a (t ++ b) ys ∙ ap (λ (l : List ℕ). a ++ l) (append_assoc t b ys)

pub before : (t xs ys : List ℕ) → StandsIn t xs → StandsIn t (xs ++ ys)
before t xs ys (a, b, e) = (a, b ++ ys, longer t xs ys a b e)

itself : (t : List ℕ) → StandsIn t t
itself t = ([], [], sym (append-nil t))

pub along_bytes : (s t bytes : List ℕ) → StandsIn s t → StandsIn t bytes → StandsIn s bytes
along_bytes s t bytes inner (a, b, e) = subst (λ (l : List ℕ). StandsIn s l) (sym e) (behind s a (t ++ b) (before s t b inner))

pub framed : (t elements : List ℕ) → StandsIn t elements → StandsIn t (frame_of elements)
unfolding frame_of
framed t elements h = behind t (le32 (length elements + 5)) (elements ++ 0 ∷ []) (before t elements (0 ∷ []) h)

text_stands : (t : List ℕ) → StandsIn t (text_bytes t)
unfolding text_bytes
text_stands t = (le32 (length t + 1), 0 ∷ [], refl)

-- a text stands among the bytes of a value that is this text
pub text_there : (v : Value) (t : List ℕ) → text_in v ≡ Some t → StandsIn t (value_bytes v)
text_there (scalar (string u)) t e = let same : u ≡ t = cc in subst (λ (l : List ℕ). StandsIn l (text_bytes u)) same (text_stands u)
text_there (scalar (symbol u)) t e = let same : u ≡ t = cc in subst (λ (l : List ℕ). StandsIn l (text_bytes u)) same (text_stands u)
text_there v t e = absurd cc

-- ---- members

pub first_member : (k : List ℕ) (v : Value) (ms : Members) → StandsIn (value_bytes v) (members_bytes (member k v ms))
first_member k v ms = (tag_byte (value_kind v) ∷ cstring_of k, members_bytes ms, refl)

pub other_member : (t k : List ℕ) (v : Value) (ms : Members) → StandsIn t (members_bytes ms) → StandsIn t (members_bytes (member k v ms))
other_member t k v ms h = behind t (tag_byte (value_kind v) ∷ cstring_of k) (value_bytes v ++ members_bytes ms) (behind t (value_bytes v) (members_bytes ms) h)

found_stands : (k : List ℕ) (ms : Members) (v : Value) → look_up k ms ≡ Some v → StandsIn (value_bytes v) (members_bytes ms)
found_stands k no_members v e = absurd cc
found_stands k (member l w ms) v e = by (found_stands k ms v) (bytes_eq k l) e
  where
    by : (look_up k ms ≡ Some v → StandsIn (value_bytes v) (members_bytes ms)) → (b : Bool) → cond b (Some w) (look_up k ms) ≡ Some v → StandsIn (value_bytes v) (members_bytes (member l w ms))
    by more true e = let same : w ≡ v = cc in subst (λ (x : Value). StandsIn (value_bytes x) (members_bytes (member l w ms))) same (first_member l w ms)
    by more false e = other_member (value_bytes v) l w ms (more e)

-- each key stands among the bytes behind a tag, with its 00
pub key_first : (k : List ℕ) (v : Value) (ms : Members) → NamedIn (k ++ 0 ∷ []) (members_bytes (member k v ms))
unfolding cstring_of
key_first k v ms = (value_kind v, ([], value_bytes v ++ members_bytes ms, refl))

pub key_stands : (k : List ℕ) (ms : Members) (v : Value) → look_up k ms ≡ Some v → NamedIn (k ++ 0 ∷ []) (members_bytes ms)
key_stands k no_members v e = absurd cc
key_stands k (member l w ms) v e = by (key_stands k ms v) (bytes_eq k l) refl e
  where
    by : (look_up k ms ≡ Some v → NamedIn (k ++ 0 ∷ []) (members_bytes ms)) → (b : Bool) → bytes_eq k l ≡ b → cond b (Some w) (look_up k ms) ≡ Some v → NamedIn (k ++ 0 ∷ []) (members_bytes (member l w ms))
    by more true s e = subst (λ (x : List ℕ). NamedIn (x ++ 0 ∷ []) (members_bytes (member l w ms))) (sym (equal_keys k l s)) (key_first l w ms)
    by more false s e = let m = more e in (m.0, other_member (tag_byte m.0 ∷ (k ++ 0 ∷ [])) l w ms m.1)

-- a key that stands nowhere so among the bytes of a document is none of its keys
pub no_key : (k bytes : List ℕ) (ms : Members) → bytes ≡ encode ms → (NamedIn (k ++ 0 ∷ []) bytes → ⊥) → look_up k ms ≡ None
no_key k bytes ms is none = by (look_up k ms) refl
  where
    by : (o : Option Value) → look_up k ms ≡ o → look_up k ms ≡ None
    by None e = e
    by (Some v) e =
        let m = key_stands k ms v e in
        absurd (none (m.0, subst (λ (l : List ℕ). StandsIn (tag_byte m.0 ∷ (k ++ 0 ∷ [])) l) (sym is) (framed (tag_byte m.0 ∷ (k ++ 0 ∷ [])) (members_bytes ms) m.1)))

-- the same of a key of one byte
pub no_short_key : (xs k bytes : List ℕ) (d : ℕ) (ms : Members) → xs ≡ k → 1 ≤ length xs → length xs < 2 → bytes ≡ encode ms → (NamedIn (get_or xs 0 d ∷ 0 ∷ []) bytes → ⊥) → look_up k ms ≡ None
no_short_key [] k bytes d ms e some few is none = absurd (omega (arith, some))
no_short_key (x ∷ []) k bytes d ms e some few is none = subst (λ (l : List ℕ). look_up l ms ≡ None) e (no_key (x ∷ []) bytes ms is none)
no_short_key (x ∷ y ∷ ys) k bytes d ms e some few is none = absurd (omega (arith, few))

any_stands : (Q : List ℕ → Value → Type 0) (ms : Members) → AnyMember Q ms → (k : List ℕ) × (v : Value) × Q k v × StandsIn (value_bytes v) (members_bytes ms)
any_stands Q no_members h = absurd h
any_stands Q (member k v ms) (inl h) = (k, v, h, first_member k v ms)
any_stands Q (member k v ms) (inr h) = let more = any_stands Q ms h in (more.0, more.1, more.2, other_member (value_bytes more.1) k v ms more.3)

-- ---- along a path

module _ (opens : Bool) (P : Option Value → Type 0) where
  -- nothing answers, or a value does that stands among the bytes
  abbrev pub Met : List ℕ → Type 0
  Met bytes = P None ⊎ ((v : Value) × P (Some v) × StandsIn (value_bytes v) bytes)

  onward : (t bytes : List ℕ) → StandsIn t bytes → Met t → Met bytes
  onward t bytes s (inl n) = inl n
  onward t bytes s (inr (v, p, h)) = inr (v, p, along_bytes (value_bytes v) t bytes h s)

  here : (v : Value) → P (Some v) → Met (value_bytes v)
  here v p = inr (v, p, itself (value_bytes v))

  under_met : (k : List ℕ) (On : Value → Type 0) (ms : Members) → ((v : Value) → On v → Met (value_bytes v)) → Under opens P k On ms → Met (members_bytes ms)
  under_met k On ms on h = by (look_up k ms) refl h
    where
      by : (o : Option Value) → look_up k ms ≡ o → MatchOption o (P None) On → Met (members_bytes ms)
      by None e h = inl h
      by (Some v) e h = onward (value_bytes v) (members_bytes ms) (found_stands k ms v e) (on v h)

  into_met : (k : List ℕ) (On : Value → Type 0) (v : Value) → ((w : Value) → On w → Met (value_bytes w)) → IntoDocument opens P k On v → Met (value_bytes v)
  into_met k On (scalar s) on h = absurd h
  into_met k On (array vs) on h = absurd h
  into_met k On (document ms) on h = onward (members_bytes ms) (encode ms) (framed (members_bytes ms) (members_bytes ms) (itself (members_bytes ms))) (under_met k On ms on h)
  into_met k On (scoped_code t ms) on h = absurd h

  through_met : (k : List ℕ) (On Here : Value → Type 0) → ((w : Value) → On w → Met (value_bytes w)) → ((w : Value) → Here w → Met (value_bytes w)) → (place : List ℕ) (v : Value) → Through opens P k On Here place v → Met (value_bytes v)
  through_met k On Here on there place v (inl h) = into_met k On v on h
  through_met k On Here on there place v (inr h) = there v h.1

  items_met : (Q : List ℕ → Value → Type 0) (vs : Items) → ((k : List ℕ) (v : Value) → Q k v → Met (value_bytes v)) → AnyMember Q (under_places 0 vs) → Met (value_bytes (array vs))
  items_met Q vs on h =
      let item = any_stands Q (under_places 0 vs) h in
      subst Met (sym (array_bytes_pairs vs)) (onward (value_bytes item.1) (encode (under_places 0 vs)) (framed (value_bytes item.1) (members_bytes (under_places 0 vs)) item.3) (on item.0 item.1 item.2))

  item_met : (v : Value) → HasItem (λ w. P (Some w)) (Some v) → Met (value_bytes v)
  item_met (scalar s) h = absurd h
  item_met (array vs) h = items_met (λ k v. P (Some v)) vs (λ k v p. here v p) h
  item_met (document ms) h = absurd h
  item_met (scoped_code t ms) h = absurd h

  end_met : (v : Value) → AtEnd opens P v → Met (value_bytes v)
  end_met v (inl h) = item_met v h.1
  end_met v (inr p) = here v p

  abbrev Both : Path → Type 0
  Both path = ((v : Value) → AtMember opens P path v → Met (value_bytes v)) × ((v : Value) → AtPlace opens P path v → Met (value_bytes v))

  member_met : (k : List ℕ) (path : Path) → Both path → (v : Value) → AtMember opens P (k ∷ path) v → Met (value_bytes v)
  member_met k path on (scalar s) h = inl h
  member_met k path on (array vs) h = items_met (Through opens P k (AtMember opens P path) (AtPlace opens P path)) vs (through_met k (AtMember opens P path) (AtPlace opens P path) on.0 on.1) h
  member_met k path on (document ms) h = into_met k (AtMember opens P path) (document ms) on.0 h
  member_met k path on (scoped_code t ms) h = inl h

  place_met : (k : List ℕ) (path : Path) → Both path → (v : Value) → AtPlace opens P (k ∷ path) v → Met (value_bytes v)
  place_met k path on (scalar s) h = absurd h
  place_met k path on (array vs) h = items_met (Through opens P k (AtMember opens P path) (AtPlace opens P path)) vs (through_met k (AtMember opens P path) (AtPlace opens P path) on.0 on.1) h
  place_met k path on (document ms) h = into_met k (AtMember opens P path) (document ms) on.0 h
  place_met k path on (scoped_code t ms) h = absurd h

  both_met : (path : Path) → Both path
  both_met [] = (end_met, here)
  both_met (k ∷ path) = let on = both_met path in (member_met k path on, place_met k path on)

  pub along_met : (p : Path) (v : Value) → Along opens P p (Some v) → Met (value_bytes v)
  along_met [] v h = here v h
  along_met (k ∷ path) (scalar s) h = inl h
  along_met (k ∷ path) (array vs) h =
      subst Met (sym (array_bytes_pairs vs)) (onward (members_bytes (under_places 0 vs)) (encode (under_places 0 vs)) (framed (members_bytes (under_places 0 vs)) (members_bytes (under_places 0 vs)) (itself (members_bytes (under_places 0 vs)))) (under_met k (AtMember opens P path) (under_places 0 vs) (both_met path).0 h))
  along_met (k ∷ path) (document ms) h = into_met k (AtMember opens P path) (document ms) (both_met path).0 h
  along_met (k ∷ path) (scoped_code t ms) h = inl h

-- A key that stands at most once among the bytes of an array: if it is the place of an item, it is no key inside of one.
use Rattle.std.proofs.Common.{◌≡◌, ◌↔◌, ◌⊎◌, inl, inr, ℕ, ◌+◌, ◌-◌, ◌<◌, ◌≤◌, List, [], ◌∷◌, ◌++◌, drop, length, get_or, Bool, true, false, cond, IsTrue, Option, Some, None, is_some, bytes_eq, refl, sym, ap, ◌∙◌, subst, append_assoc, append-nil, arith}
use Rattle.std.specs.Prelude.{MatchOption}
use Rattle.std.proofs.lemmas.Bool.{cases_lt}
use Rattle.std.proofs.lemmas.List.{drop-append-le, get_or-append-add, length-append}
use Rattle.memchr.specs.Find.{FindsNeedle, NoneBefore, Nowhere, OccursAt}
use Rattle.memchr.specs.Pairs.{HasPair, IsPairFinderOf, reach_of}
use Rattle.memchr.specs.declared.arch.all.packedpair.Finder.{Finder}
use Rattle.bson_base.proofs.MemberLemmas.{equal_keys, same_key}
use Rattle.bson_base.specs.Tags.{tag_byte}
use Rattle.bson_base.specs.declared.spec.ElementType.{ElementType}
use Rattle.bson_base.specs.declared.spec.ElementType.TheVariants as kinds
use Rattle.bson_base.specs.Value.{Value, scalar, array, document, scoped_code, Members, no_members, member, look_up, value_kind}
use Rattle.bson_bytes.proofs.SpellingLemmas.{framed_inside}
use Rattle.bson_bytes.specs.Encode.{cstring_of, encode, frame_of, members_bytes, value_bytes}
use Rattle.store_question.specs.Asked.{AnyMember, IntoDocument, Through}
use Rattle.store_question.specs.Lacking.{NamedIn, NamedOnce}
use Rattle.store_question.proofs.LackLemmas.{no_pair, not_there, occurs}
use Rattle.store_question.proofs.StandLemmas.{along_bytes, before, behind, first_member, framed, key_first, key_stands, longer, other_member}

-- ---- a search

tag_some : (t : ElementType) → tag_byte t ≡ 0 → ⊥
tag_some kinds.Double e = absurd cc
tag_some _ e = absurd cc

-- a name of one byte behind a tag begins where the name first stands without it, or stands behind that place
pub first_or_behind : (x : ℕ) (bytes : List ℕ) (p : ℕ) → ((i : ℕ) → i < p → OccursAt bytes (x ∷ 0 ∷ []) i → ⊥) → get_or bytes p 0 ≡ x → get_or bytes (p + 1) 0 ≡ 0
    → (t : ElementType) (a b : List ℕ) → bytes ≡ a ++ ((tag_byte t ∷ x ∷ 0 ∷ []) ++ b) → (length a + 1 ≡ p) ⊎ NamedIn (x ∷ 0 ∷ []) (drop (p + 1) bytes)
first_or_behind x bytes p none key end t a b e = by (cases_lt (length a + 1) p) (cases_lt p (length a + 1)) (cases_lt p (length a))
  where
    there : OccursAt bytes (x ∷ 0 ∷ []) (length a + 1)
    there = subst (λ (n : ℕ). OccursAt bytes (x ∷ 0 ∷ []) n) (length-append a (tag_byte t ∷ [])) (occurs (x ∷ 0 ∷ []) bytes (a ++ tag_byte t ∷ []) b (e ∙ sym (append_assoc a (tag_byte t ∷ []) (x ∷ 0 ∷ b))))

    by : (length a + 1 < p) ⊎ (p ≤ length a + 1) → (p < length a + 1) ⊎ (length a + 1 ≤ p) → (p < length a) ⊎ (length a ≤ p) → (length a + 1 ≡ p) ⊎ NamedIn (x ∷ 0 ∷ []) (drop (p + 1) bytes)
    by (inl low) o u = absurd (none (length a + 1) low there)
    by (inr high) (inr low) u = inl (omega (arith, high, low))
    by (inr high) (inl beyond) (inl more) = inr (t, (drop (p + 1) a, b, ap (λ (l : List ℕ). drop (p + 1) l) e ∙ drop-append-le (p + 1) a ((tag_byte t ∷ x ∷ 0 ∷ []) ++ b) (omega (arith, more))))
    by (inr high) (inl beyond) (inr less) =
        let same : length a ≡ p = omega (arith, beyond, less) in
        let zero : length a + 0 ≡ p = omega (arith, same) in
        let next : length a + 1 + 0 ≡ p + 1 = omega (arith, same) in
        let tag : get_or bytes p 0 ≡ tag_byte t = subst (λ (l : List ℕ). get_or l p 0 ≡ tag_byte t) (sym e) (subst (λ (n : ℕ). get_or (a ++ ((tag_byte t ∷ x ∷ 0 ∷ []) ++ b)) n 0 ≡ tag_byte t) zero (get_or-append-add a ((tag_byte t ∷ x ∷ 0 ∷ []) ++ b) 0 0)) in
        let again : get_or bytes (p + 1) 0 ≡ x = subst (λ (n : ℕ). get_or bytes n 0 ≡ x) next (there.reads 0 (omega arith)) in
        absurd (tag_some t (sym tag ∙ key ∙ sym again ∙ end))

-- a pair of the two bytes of a name
module _ (f : Finder) (x : ℕ) (is : IsPairFinderOf f (x ∷ 0 ∷ [])) (one : f.pair.index1 ≡ 0) (two : f.pair.index2 ≡ 1) where
  has_pair : (bytes : List ℕ) (i : ℕ) → OccursAt bytes (x ∷ 0 ∷ []) i → HasPair f bytes i
  has_pair bytes i o = record { first = o.reads f.pair.index1 is.pair.first ∙ sym is.byte1; second = o.reads f.pair.index2 is.pair.second ∙ sym is.byte2 }

  pair_key : (bytes : List ℕ) (i : ℕ) → HasPair f bytes i → get_or bytes i 0 ≡ x
  pair_key bytes i h =
      let same : i + 0 ≡ i = omega arith in
      subst (λ (n : ℕ). get_or bytes n 0 ≡ x) same (subst (λ (n : ℕ). get_or bytes (i + n) 0 ≡ get_or (x ∷ 0 ∷ []) n 0) one (h.first ∙ is.byte1))

  pair_end : (bytes : List ℕ) (i : ℕ) → HasPair f bytes i → get_or bytes (i + 1) 0 ≡ 0
  pair_end bytes i h = subst (λ (n : ℕ). get_or bytes (i + n) 0 ≡ get_or (x ∷ 0 ∷ []) n 0) two (h.second ∙ is.byte2)

  -- on from a pair that no tag is in front of
  pub named_on : (bytes : List ℕ) (p j d : ℕ) → NoneBefore (HasPair f bytes) 0 j p × HasPair f bytes p → ((t : ElementType) → tag_byte t ≡ get_or bytes (p - 1) d → ⊥) → 1 ≤ p → p ≤ length bytes → NamedIn (x ∷ 0 ∷ []) bytes → NamedIn (x ∷ 0 ∷ []) (drop (p + 1) bytes)
  named_on bytes p j d found apart some within (t, (a, b, e)) =
      by (first_or_behind x bytes p (λ i low o. found.0.before i (omega arith) low (has_pair bytes i o)) (pair_key bytes p found.1) (pair_end bytes p found.1) t a b e)
    where
      by : (length a + 1 ≡ p) ⊎ NamedIn (x ∷ 0 ∷ []) (drop (p + 1) bytes) → NamedIn (x ∷ 0 ∷ []) (drop (p + 1) bytes)
      by (inl here) =
          let same : length a + 0 ≡ p - 1 = omega (arith, here, some) in
          absurd (apart t (sym (subst (λ (l : List ℕ). get_or l (p - 1) d ≡ tag_byte t) (sym e) (subst (λ (n : ℕ). get_or (a ++ ((tag_byte t ∷ x ∷ 0 ∷ []) ++ b)) n d ≡ tag_byte t) same (get_or-append-add a ((tag_byte t ∷ x ∷ 0 ∷ []) ++ b) 0 d)))))
      by (inr more) = more

-- a byte that is no tag
pub untagged : (o : Option ElementType) (n : ℕ) → MatchOption o ((kind : ElementType) → tag_byte kind ≡ n → ⊥) (λ kind. tag_byte kind ≡ n) → is_some o ≡ false → (t : ElementType) → tag_byte t ≡ n → ⊥
untagged None n m f t e = m t e
untagged (Some k) n m f t e = absurd cc

-- where no pair stands, no name does
pub unnamed : (f : Finder) (x : ℕ) (bytes : List ℕ) → IsPairFinderOf f (x ∷ 0 ∷ []) → Nowhere (HasPair f bytes) 0 (length bytes - reach_of f) → NamedIn (x ∷ 0 ∷ []) bytes → ⊥
unnamed f x bytes is none (t, (a, b, e)) = no_pair f (x ∷ 0 ∷ []) bytes is none (a ++ tag_byte t ∷ [], b, e ∙ sym (append_assoc a (tag_byte t ∷ []) (x ∷ 0 ∷ b)))

-- where a search finds the name, and behind it stands none behind a tag
pub once_there : (x : ℕ) (bytes : List ℕ) (p : ℕ) → FindsNeedle bytes (x ∷ 0 ∷ []) 0 (Some p) → (NamedIn (x ∷ 0 ∷ []) (drop (p + 1) bytes) → ⊥) → NamedOnce (x ∷ 0 ∷ []) bytes
once_there x bytes p first none s t a b c d e f = let one = at s a b e in let two = at t c d f in omega (arith, one, two)
  where
    at : (t : ElementType) (a b : List ℕ) → bytes ≡ a ++ ((tag_byte t ∷ x ∷ 0 ∷ []) ++ b) → length a + 1 ≡ p
    at t a b e = by (first_or_behind x bytes p (λ i low. first.0.before i (omega arith) low) (let same : p + 0 ≡ p = omega arith in subst (λ (n : ℕ). get_or bytes n 0 ≡ x) same (first.1.reads 0 (omega arith))) (first.1.reads 1 (omega arith)) t a b e)
      where
        by : (length a + 1 ≡ p) ⊎ NamedIn (x ∷ 0 ∷ []) (drop (p + 1) bytes) → length a + 1 ≡ p
        by (inl here) = here
        by (inr more) = absurd (none more)

pub nowhere_there : (x : ℕ) (bytes : List ℕ) → FindsNeedle bytes (x ∷ 0 ∷ []) 0 None → NamedOnce (x ∷ 0 ∷ []) bytes
nowhere_there x bytes none s t a b c d e f = absurd (not_there (x ∷ 0 ∷ []) bytes None none refl (a ++ tag_byte s ∷ [], b, e ∙ sym (append_assoc a (tag_byte s ∷ []) (x ∷ 0 ∷ b))))

-- a key of one byte
pub short_once : (xs k bytes : List ℕ) (d : ℕ) → xs ≡ k → 1 ≤ length xs → length xs < 2 → NamedOnce (get_or xs 0 d ∷ 0 ∷ []) bytes → NamedOnce (k ++ 0 ∷ []) bytes
short_once [] k bytes d e some few once = absurd (omega (arith, some))
short_once (x ∷ []) k bytes d e some few once = subst (λ (l : List ℕ). NamedOnce (l ++ 0 ∷ []) bytes) e once
short_once (x ∷ y ∷ ys) k bytes d e some few once = absurd (omega (arith, few))

-- ---- parts of bytes

once_behind : (n xs ys : List ℕ) → NamedOnce n (xs ++ ys) → NamedOnce n ys
once_behind n xs ys once s t a b c d e f =
    let same = once s t (xs ++ a) b (xs ++ c) d (ap (λ (l : List ℕ). xs ++ l) e ∙ sym (append_assoc xs a ((tag_byte s ∷ n) ++ b))) (ap (λ (l : List ℕ). xs ++ l) f ∙ sym (append_assoc xs c ((tag_byte t ∷ n) ++ d))) in
    omega (arith, same, length-append xs a, length-append xs c)

once_before : (n xs ys : List ℕ) → NamedOnce n (xs ++ ys) → NamedOnce n xs
once_before n xs ys once s t a b c d e f = once s t a (b ++ ys) c (d ++ ys) (longer (tag_byte s ∷ n) xs ys a b e) (longer (tag_byte t ∷ n) xs ys c d f)

once_inside : (n elements : List ℕ) → NamedOnce n (drop 4 (frame_of elements)) → NamedOnce n elements
once_inside n elements once = once_before n elements (0 ∷ []) (subst (NamedOnce n) (framed_inside elements) once)

not_both : (n xs ys : List ℕ) → NamedOnce n (xs ++ ys) → NamedIn n xs → NamedIn n ys → ⊥
not_both n xs ys once (s, (a, b, e)) (t, (c, d, f)) =
    let same = once s t a (b ++ ys) (xs ++ c) d (longer (tag_byte s ∷ n) xs ys a b e) (ap (λ (l : List ℕ). xs ++ l) f ∙ sym (append_assoc xs c ((tag_byte t ∷ n) ++ d))) in
    omega (arith, same, length-append xs c, ap length e, length-append a ((tag_byte s ∷ n) ++ b), length-append (tag_byte s ∷ n) b)

-- ---- members

key_itself : (k : List ℕ) (kind : ElementType) → NamedIn (k ++ 0 ∷ []) (tag_byte kind ∷ cstring_of k)
unfolding cstring_of
key_itself k kind = (kind, ([], [], ap (λ (l : List ℕ). tag_byte kind ∷ l) (sym (append-nil (k ++ 0 ∷ [])))))

module _ (k : List ℕ) where
  abbrev name : List ℕ
  name = k ++ 0 ∷ []

  apart_first : (v : Value) (ms : Members) → NamedOnce name (members_bytes (member k v ms)) → NamedIn name (value_bytes v ++ members_bytes ms) → ⊥
  apart_first v ms once s = not_both name (tag_byte (value_kind v) ∷ cstring_of k) (value_bytes v ++ members_bytes ms) once (key_itself k (value_kind v)) s

  parted : (l : List ℕ) (v : Value) (ms : Members) → NamedOnce name (members_bytes (member l v ms)) → NamedOnce name (((tag_byte (value_kind v) ∷ cstring_of l) ++ value_bytes v) ++ members_bytes ms)
  parted l v ms once = subst (λ (x : List ℕ). NamedOnce name x) (sym (append_assoc (tag_byte (value_kind v) ∷ cstring_of l) (value_bytes v) (members_bytes ms))) once

  apart_later : (l : List ℕ) (v : Value) (ms : Members) (w : Value) → look_up k ms ≡ Some w → NamedOnce name (members_bytes (member l v ms)) → NamedIn name (value_bytes v) → ⊥
  apart_later l v ms w e once s =
      not_both name ((tag_byte (value_kind v) ∷ cstring_of l) ++ value_bytes v) (members_bytes ms) (parted l v ms once) (s.0, behind (tag_byte s.0 ∷ name) (tag_byte (value_kind v) ∷ cstring_of l) (value_bytes v) s.1) (key_stands k ms w e)

  once_later : (l : List ℕ) (v : Value) (ms : Members) → NamedOnce name (members_bytes (member l v ms)) → NamedOnce name (members_bytes ms)
  once_later l v ms once = once_behind name ((tag_byte (value_kind v) ∷ cstring_of l) ++ value_bytes v) (members_bytes ms) (parted l v ms once)

-- ---- what answers through an array

module _ (opens : Bool) (P : Option Value → Type 0) (k : List ℕ) (On Here : Value → Type 0) where
  here_any : (ms : Members) (w : Value) → look_up k ms ≡ Some w → Here w → AnyMember (Through opens P k On Here) ms
  here_any no_members w e h = absurd cc
  here_any (member l v ms) w e h = by (here_any ms w) (bytes_eq k l) refl e h
    where
      by : (look_up k ms ≡ Some w → Here w → AnyMember (Through opens P k On Here) ms) → (b : Bool) → bytes_eq k l ≡ b → cond b (Some v) (look_up k ms) ≡ Some w → Here w → AnyMember (Through opens P k On Here) (member l v ms)
      by more true s e h = let same : v ≡ w = cc in inl (inr (sym (equal_keys k l s), subst Here (sym same) h))
      by more false s e h = inr (more e h)

  -- the item whose place is the key answers
  pub by_place : (ms : Members) (w : Value) → look_up k ms ≡ Some w → Here w → IsTrue true ↔ AnyMember (Through opens P k On Here) ms
  by_place ms w e h = (λ t. here_any ms w e h, λ a. refl)

module _ (opens : Bool) (P : Option Value → Type 0) (absent : P None → ⊥) (k : List ℕ) (On Here : Value → Type 0) where
  into_none : (v : Value) → (NamedIn (k ++ 0 ∷ []) (value_bytes v) → ⊥) → IntoDocument opens P k On v → ⊥
  into_none (scalar s) none h = h
  into_none (array vs) none h = h
  into_none (document ms) none h = by (look_up k ms) refl h
    where
      by : (o : Option Value) → look_up k ms ≡ o → MatchOption o (P None) On → ⊥
      by None e h = absent h
      by (Some w) e h = let m = key_stands k ms w e in none (m.0, framed (tag_byte m.0 ∷ (k ++ 0 ∷ [])) (members_bytes ms) m.1)
  into_none (scoped_code t ms) none h = h

  through_none : (ms : Members) → (NamedIn (k ++ 0 ∷ []) (members_bytes ms) → ⊥) → AnyMember (Through opens P k On Here) ms → ⊥
  through_none no_members none h = h
  through_none (member l v ms) none (inl (inl i)) = into_none v (λ s. none (s.0, along_bytes (tag_byte s.0 ∷ (k ++ 0 ∷ [])) (value_bytes v) (members_bytes (member l v ms)) s.1 (first_member l v ms))) i
  through_none (member l v ms) none (inl (inr i)) = none (subst (λ (x : List ℕ). NamedIn (x ++ 0 ∷ []) (members_bytes (member l v ms))) i.0 (key_first l v ms))
  through_none (member l v ms) none (inr h) = through_none ms (λ s. none (s.0, other_member (tag_byte s.0 ∷ (k ++ 0 ∷ [])) l v ms s.1)) h

  first_only : (v : Value) (ms : Members) → NamedOnce (k ++ 0 ∷ []) (members_bytes (member k v ms)) → AnyMember (Through opens P k On Here) (member k v ms) → Here v
  first_only v ms once (inl (inl i)) = absurd (into_none v (λ s. apart_first k v ms once (s.0, before (tag_byte s.0 ∷ (k ++ 0 ∷ [])) (value_bytes v) (members_bytes ms) s.1)) i)
  first_only v ms once (inl (inr i)) = i.1
  first_only v ms once (inr h) = absurd (through_none ms (λ s. apart_first k v ms once (s.0, behind (tag_byte s.0 ∷ (k ++ 0 ∷ [])) (value_bytes v) (members_bytes ms) s.1)) h)

  later_only : (l : List ℕ) (v : Value) (ms : Members) (w : Value) → look_up k ms ≡ Some w → bytes_eq k l ≡ false → NamedOnce (k ++ 0 ∷ []) (members_bytes (member l v ms)) → Through opens P k On Here l v → ⊥
  later_only l v ms w e other once (inl i) = into_none v (apart_later k l v ms w e once) i
  later_only l v ms w e other once (inr i) = let same : bytes_eq k l ≡ true = subst (λ (x : List ℕ). bytes_eq x l ≡ true) i.0 (same_key l) in cc

  only_here : (ms : Members) (w : Value) → NamedOnce (k ++ 0 ∷ []) (members_bytes ms) → look_up k ms ≡ Some w → AnyMember (Through opens P k On Here) ms → Here w
  only_here no_members w once e h = absurd h
  only_here (member l v ms) w once e h = by (only_here ms w (once_later k l v ms once)) (bytes_eq k l) refl e h
    where
      by : (look_up k ms ≡ Some w → AnyMember (Through opens P k On Here) ms → Here w) → (b : Bool) → bytes_eq k l ≡ b → cond b (Some v) (look_up k ms) ≡ Some w → AnyMember (Through opens P k On Here) (member l v ms) → Here w
      by more true s e h =
          let same : v ≡ w = cc in
          let key : l ≡ k = sym (equal_keys k l s) in
          subst Here same (first_only v ms (subst (λ (x : List ℕ). NamedOnce (k ++ 0 ∷ []) (members_bytes (member x v ms))) key once) (subst (λ (x : List ℕ). AnyMember (Through opens P k On Here) (member x v ms)) key h))
      by more false s e (inl t) = absurd (later_only l v ms w e s once t)
      by more false s e (inr h) = more e h

  -- it doesn't, and no other can
  pub by_none : (bytes : List ℕ) (ms : Members) (w : Value) → bytes ≡ encode ms → NamedOnce (k ++ 0 ∷ []) (drop 4 bytes) → look_up k ms ≡ Some w → (Here w → ⊥) → IsTrue false ↔ AnyMember (Through opens P k On Here) ms
  by_none bytes ms w is once e none =
      let inside = once_inside (k ++ 0 ∷ []) (members_bytes ms) (subst (λ (l : List ℕ). NamedOnce (k ++ 0 ∷ []) (drop 4 l)) is once) in
      (λ t. absurd cc, λ a. absurd (none (only_here ms w inside e a)))

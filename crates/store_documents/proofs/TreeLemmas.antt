-- Trees that are seen in bytes.
use Rattle.std.proofs.Common.{◌≡◌, ◌-◌, ◌<◌, ℕ, List, [], ◌∷◌, take, drop, length, get_or, Bool, true, false, Option, Some, None, Ok, Err, refl, sym, ap, ◌∙◌, subst, arith}
use Rattle.std.specs.Prelude.{◌||◌, IsTrue, nat_eq, not, is_some, if◌then◌else◌}
use Rattle.std.proofs.lemmas.List.{length-drop, take_all}
use Rattle.serde_json.specs.Data.{Data}
use Rattle.bson_base.specs.Tags.{tag_byte}
use Rattle.bson_base.specs.Value.{Scalar, double, scalar, array, document, scoped_code, scalar_kind, no_items, item, Members, no_members, member}
use Rattle.bson_base.specs.declared.spec.ElementType.{ElementType}
use Rattle.bson_base.specs.declared.spec.ElementType.TheVariants as kinds
use Rattle.bson_bytes.specs.Encode.{encode, members_bytes}
use Rattle.bson_bytes.specs.Spells.{SpellsValue, SpellsItems, SpellsMembers}
use Rattle.bson_bytes.proofs.LengthLemmas.{members_length}
use Rattle.bson_bytes.proofs.OneTreeLemmas.{apart, end_no_frame, not_array, not_document}
use Rattle.bson_bytes.proofs.SpellingLemmas.{spelled_members, framed_inside}
use Rattle.bson_frame.specs.Frame.{Element, IsFirstFrame}
use Rattle.bson_frame.proofs.FrameLemmas.{frame_is_one}
use Rattle.bson_meaning.specs.JsonReserved.{has_reserved, reserved_in, reserved_in_items, some_reserved}
use Rattle.bson_model.specs.JsonKeys.{is_reserved, reserved_of}
use Rattle.bson_model.specs.JsonWrite.{holds_finite, items_hold_finite, members_hold_finite, scalar_is_finite, write}
use Rattle.bson_model.specs.declared.extjson.ser.Mode.{Mode}
use Rattle.bson_model.proofs.FiniteLemmas.{is_written}
use Rattle.store_model.specs.State.{IsKept, or_finite, json_of}
use Rattle.store_model.specs.declared.error.ErrorKind.TheVariants.{ReservedKey}
use Rattle.store_documents.specs.Answers.{HasTree}
use Rattle.store_documents.specs.Trees.{AreItemsTold, AreMembersTold, AreTold, HasNoDouble, IsTold}
use Rattle.store_documents.specs.declared.trees.Keys.{Keys}
use Rattle.store_documents.specs.declared.trees.Keys.TheVariants.{Free, Unreserved}

-- what follows the first four bytes
pub all_behind : (p : List ℕ) → take (length p - 4) (drop 4 p) ≡ drop 4 p
all_behind p = take_all (length p - 4) (drop 4 p) (omega (arith, length-drop 4 p))

neither : (a b : Bool) → a ≡ false → b ≡ false → (a || b) ≡ false
neither false b is other = other
neither true b is other = cc

-- ---- keys

-- each reserved key begins with `$`
other_free : (x : ℕ) (k : List ℕ) → nat_eq x 36 ≡ false → is_reserved (x ∷ k) ≡ false
unfolding reserved_of
other_free x k other = rw other refl

pub empty_free : (k : List ℕ) → length k < 1 → is_reserved k ≡ false
unfolding reserved_of
empty_free [] none = refl
empty_free (x ∷ k) none = absurd (omega (arith, none))

pub free : (bytes k : List ℕ) → bytes ≡ k → IsTrue (not (nat_eq (get_or bytes 0 0) 36)) → is_reserved k ≡ false
free bytes k same other = subst (λ (l : List ℕ). is_reserved l ≡ false) same (by bytes other)
  where
    by : (l : List ℕ) → IsTrue (not (nat_eq (get_or l 0 0) 36)) → is_reserved l ≡ false
    by [] other = empty_free [] (omega arith)
    by (x ∷ l) other = other_free x l (not_so (nat_eq x 36) other)
      where
        not_so : (b : Bool) → IsTrue (not b) → b ≡ false
        not_so false h = refl
        not_so true h = absurd (cc)

-- ---- one turn over elements

pub end_told : (keys : Keys) (bytes : List ℕ) → bytes ≡ 0 ∷ [] → AreTold keys bytes
end_told keys bytes is = (members, items)
  where
    members : AreMembersTold keys bytes
    members no_members h = (refl, refl, λ only. refl)
    members (member k v ms) h = absurd (end_no_frame bytes h.0 h.1 is h.2)

    items : AreItemsTold bytes
    items no_items h = (refl, refl)
    items (item v vs) h = absurd (end_no_frame bytes h.0 h.1 is h.2)

module _ (keys : Keys) (bytes next : List ℕ) (e : Element) (first : IsFirstFrame bytes e next) (key : keys ≡ Unreserved → is_reserved e.key ≡ false) (payload : IsTold e.tag e.payload) where
  members_more : AreMembersTold keys next → AreMembersTold keys bytes
  members_more rest no_members h = absurd (end_no_frame bytes e next h first)
  members_more rest (member k v ms) h =
      let same = frame_is_one bytes h.0 e h.1 next h.2 first in
      let key_is : k ≡ e.key = h.3 ∙ ap (λ (f : Element). f.key) same.0 in
      let value = payload v (h.4 ∙ ap (λ (f : Element). f.tag) same.0) (subst (λ (f : Element). SpellsValue f.payload v) same.0 h.5) in
      let more = rest ms (subst (λ (r : List ℕ). SpellsMembers r ms) same.1 h.6) in (
        neither (reserved_in v) (has_reserved ms) value.0 more.0,
        neither (holds_finite v) (members_hold_finite ms) value.1 more.1,
        λ only. neither (is_reserved k) (some_reserved ms) (ap (λ (x : List ℕ). is_reserved x) key_is ∙ key only) (more.2 only),
      )

  items_more : AreItemsTold next → AreItemsTold bytes
  items_more rest no_items h = absurd (end_no_frame bytes e next h first)
  items_more rest (item v vs) h =
      let same = frame_is_one bytes h.0 e h.1 next h.2 first in
      let value = payload v (h.3 ∙ ap (λ (f : Element). f.tag) same.0) (subst (λ (f : Element). SpellsValue f.payload v) same.0 h.4) in
      let more = rest vs (subst (λ (r : List ℕ). SpellsItems r vs) same.1 h.5) in (
        neither (reserved_in v) (reserved_in_items vs) value.0 more.0,
        neither (holds_finite v) (items_hold_finite vs) value.1 more.1,
      )

  pub told_more : AreTold keys next → AreTold keys bytes
  told_more rest = (members_more rest.0, items_more rest.1)

-- ---- payloads

pub document_told : (p : List ℕ) (tag : ElementType) → tag ≡ kinds.EmbeddedDocument → AreTold Unreserved (drop 4 p) → IsTold tag p
document_told p tag is inside (scalar s) kind h = absurd (not_document s (kind ∙ is))
document_told p tag is inside (array vs) kind h = apart _ _ (ap tag_byte (kind ∙ is)) refl
document_told p tag is inside (scoped_code t ms) kind h = apart _ _ (ap tag_byte (kind ∙ is)) refl
document_told p tag is inside (document ms) kind h = let m = inside.0 ms h in (neither (some_reserved ms) (has_reserved ms) (m.2 refl) m.0, m.1)

pub array_told : (p : List ℕ) (tag : ElementType) → tag ≡ kinds.Array → AreTold Free (drop 4 p) → IsTold tag p
array_told p tag is inside (scalar s) kind h = absurd (not_array s (kind ∙ is))
array_told p tag is inside (document ms) kind h = apart _ _ (ap tag_byte (kind ∙ is)) refl
array_told p tag is inside (scoped_code t ms) kind h = apart _ _ (ap tag_byte (kind ∙ is)) refl
array_told p tag is inside (array vs) kind h = inside.1 vs h

no_double : (s : Scalar) → HasNoDouble (scalar_kind s) → scalar_is_finite s ≡ false
no_double (double n) none = absurd none
no_double _ none = refl

pub scalar_told : (p : List ℕ) (tag : ElementType) → HasNoDouble tag → IsTold tag p
scalar_told p tag none (scalar s) kind h = (refl, no_double s (subst HasNoDouble (sym kind) none))
scalar_told p tag none (array vs) kind h = absurd (subst HasNoDouble (sym kind) none)
scalar_told p tag none (document ms) kind h = absurd (subst HasNoDouble (sym kind) none)
scalar_told p tag none (scoped_code t ms) kind h = absurd (subst HasNoDouble (sym kind) none)

-- ---- a kept document

there : (o : Option Data) → is_some o ≡ true → HasTree (or_finite o)
there (Some j) is = (j, refl)
there None is = cc

pub spelled : (b : List ℕ) (d : Members) → IsKept d → b ≡ encode d → SpellsMembers (drop 4 b) d
spelled b d kept is =
    let inside : SpellsMembers (drop 4 (encode d)) d = subst (λ (x : List ℕ). SpellsMembers x d) (sym (framed_inside (members_bytes d))) (spelled_members d kept.read.clean kept.read.sound.ranged (omega (arith, kept.small, members_length d))) in
    subst (λ (x : List ℕ). SpellsMembers (drop 4 x) d) (sym is) inside

pub told_tree : (b : List ℕ) (d : Members) → IsKept d → b ≡ encode d → AreTold Free (drop 4 b) → (m : Mode) → HasTree (json_of m d)
told_tree b d kept is told m =
    let seen = told.0 d (spelled b d kept is) in
    subst (λ (r : Bool). HasTree (if r then Err ReservedKey else or_finite (write m (document d)))) (sym seen.0) (there (write m (document d)) (is_written m (document d) ∙ ap not seen.1))

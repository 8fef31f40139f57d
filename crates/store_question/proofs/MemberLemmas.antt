-- Members as they are written, which come back from their bytes.
use Rattle.std.proofs.Common.{◌≡◌, ℕ, suc, ◌+◌, ◌<◌, ◌^◌, List, [], ◌∷◌, ◌++◌, length, Bool, true, false, cond, Option, Some, None, bytes_eq, refl, sym, ap, ◌∙◌, subst, arith, append_assoc}
use Rattle.std.specs.Prelude.{IsUtf8, option_and_then, decimal as digits}
use Rattle.bson_base.specs.Kinds.{HasNo00, IsClean, IsSound, IsRangedScalar}
use Rattle.bson_base.specs.Tags.{tag_byte}
use Rattle.bson_base.specs.Value.{Value, scalar, array, document, scoped_code, Items, no_items, item, Members, no_members, member, look_up, value_kind, EachItem, EachMember, ItemsHaveDistinctKeys, MembersHaveDistinctKeys}
use Rattle.bson_bytes.specs.Encode.{cstring_of, frame_of, encode, value_bytes, items_bytes, members_bytes, items_size, members_size}
use Rattle.bson_bytes.proofs.LengthLemmas.{encode_length}
use Rattle.bson_bytes.proofs.SpellingLemmas.{IsCleanPart, digits_name, plain_value}
use Rattle.bson_bytes.proofs.ApartLemmas.{written_frame}
use Rattle.bson_frame.specs.Frame.{Element, IsFirstFrame, HasNoFrame}
use Rattle.bson_frame.specs.Payload.{IsEnvelope}
use Rattle.bson_frame.proofs.FrameLemmas.{frame_is_one}
use Rattle.store_question.specs.Views.{ComesBack, ComeBack, IsWrittenFor}
use Rattle.store_model.specs.Filter.{under_places, pairs, at, Path}

-- ---- the pairs of a value

keyed_bytes : (i : ℕ) (vs : Items) → members_bytes (under_places i vs) ≡ items_bytes i vs
keyed_bytes i no_items = refl
keyed_bytes i (item v vs) = ap (λ (x : List ℕ). tag_byte (value_kind v) ∷ (cstring_of (digits i) ++ (value_bytes v ++ x))) (keyed_bytes (suc i) vs)

-- an array is written as the document of its pairs
pub array_bytes_pairs : (vs : Items) → value_bytes (array vs) ≡ encode (under_places 0 vs)
array_bytes_pairs vs = ap frame_of (sym (keyed_bytes 0 vs))

members_back : (ms : Members) → EachMember HasNo00 IsCleanPart ms → EachMember IsUtf8 IsRangedScalar ms → MembersHaveDistinctKeys ms → members_size ms < 2 ^ 31 → ComeBack ms
members_back no_members clean ranged distinct short = tt
members_back (member k v ms) clean ranged distinct short = (
  record { no_zero = clean.0; text = ranged.0 },
  record { clean = clean.1; sound = record { ranged = ranged.1; distinct = distinct.1 }; short = omega (arith, short) },
  members_back ms clean.2 ranged.2 distinct.2 (omega (arith, short)),
)

items_back : (i : ℕ) (vs : Items) → EachItem HasNo00 IsCleanPart vs → EachItem IsUtf8 IsRangedScalar vs → ItemsHaveDistinctKeys vs → items_size i vs < 2 ^ 31 → i + items_size i vs < 2 ^ 32 → ComeBack (under_places i vs)
items_back i no_items clean ranged distinct short small = tt
items_back i (item v vs) clean ranged distinct short small = (
  digits_name i (omega (arith, small)),
  record { clean = clean.0; sound = record { ranged = ranged.0; distinct = distinct.0 }; short = omega (arith, short) },
  items_back (suc i) vs clean.1 ranged.1 distinct.1 (omega (arith, short)) (omega (arith, small)),
)

pub pairs_back : (v : Value) → ComesBack v → ComeBack (pairs v)
pairs_back (scalar s) h = tt
pairs_back (array vs) h = items_back 0 vs h.clean h.sound.ranged h.sound.distinct (omega (arith, h.short)) (omega (arith, h.short))
pairs_back (document ms) h = members_back ms h.clean h.sound.ranged h.sound.distinct (omega (arith, h.short))
pairs_back (scoped_code t ms) h = tt

pub found_back : (k : List ℕ) (ms : Members) (v : Value) → ComeBack ms → look_up k ms ≡ Some v → ComesBack v
found_back k no_members v h e = absurd cc
found_back k (member l w ms) v h e = by (found_back k ms v h.2) (bytes_eq k l) e
  where
    by : (look_up k ms ≡ Some v → ComesBack v) → (b : Bool) → cond b (Some w) (look_up k ms) ≡ Some v → ComesBack v
    by more true e = let same : w ≡ v = cc in subst ComesBack same h.1
    by more false e = more e

pub at_back : (path : Path) (v w : Value) → ComesBack v → at v path ≡ Some w → ComesBack w
at_back [] v w h e = let same : v ≡ w = cc in subst ComesBack same h
at_back (k ∷ path) v w h e = on (at_back path) (look_up k (pairs v)) refl e
  where
    on : ((x y : Value) → ComesBack x → at x path ≡ Some y → ComesBack y) → (o : Option Value) → look_up k (pairs v) ≡ o → option_and_then (λ x. at x path) o ≡ Some w → ComesBack w
    on more None f e = absurd cc
    on more (Some x) f e = more x w (found_back k (pairs v) x (pairs_back v h) f) e

-- what has an envelope is short
pub document_back : (d : Members) (bytes : List ℕ) → IsEnvelope bytes → IsClean (document d) → IsSound (document d) → bytes ≡ encode d → ComesBack (document d)
document_back d bytes envelope clean sound is = record {
  clean = clean;
  sound = sound;
  short = let n = envelope.declared in let fits = envelope.fits in let l : length bytes ≡ members_size d + 5 = ap length is ∙ encode_length d in omega (arith, n, fits, l);
}

-- ---- the first of the members that are left

written_front : (k : List ℕ) (v : Value) (ms : Members) (tail : List ℕ)
    → members_bytes (member k v ms) ++ tail ≡ tag_byte (value_kind v) ∷ (cstring_of k ++ (value_bytes v ++ (members_bytes ms ++ tail)))
written_front k v ms tail = simp append_assoc

abbrev element : List ℕ → Value → Element
element k v = record { tag = value_kind v; key = k; payload = value_bytes v }

written_first : (bytes k : List ℕ) (v : Value) (ms : Members) (tail : List ℕ) → bytes ≡ members_bytes (member k v ms) ++ tail → ComeBack (member k v ms)
    → IsFirstFrame bytes (element k v) (members_bytes ms ++ tail)
written_first bytes k v ms tail is h =
    let first = written_frame k v (members_bytes ms ++ tail) h.0.no_zero h.0.text (plain_value v h.1.clean) h.1.sound h.1.short in
    subst (λ (x : List ℕ). IsFirstFrame x (element k v) (members_bytes ms ++ tail)) (sym (is ∙ written_front k v ms tail)) first

pub record Next (e : Element) (rest : List ℕ) (ms : Members) (tail : List ℕ) : Type 0 where
  pub value : Value
  pub more : Members
  pub is : ms ≡ member e.key value more
  pub written : IsWrittenFor e value
  pub back : ComesBack value
  pub ahead : rest ≡ members_bytes more ++ tail
  pub others : ComeBack more

-- a first frame is that of the first member, as nothing after the members begins with a frame
pub next : (bytes : List ℕ) (e : Element) (rest : List ℕ) (ms : Members) (tail : List ℕ) → IsFirstFrame bytes e rest → bytes ≡ members_bytes ms ++ tail → ComeBack ms → HasNoFrame tail → Next e rest ms tail
next bytes e rest no_members tail f is h none = absurd (none e rest (subst (λ (x : List ℕ). IsFirstFrame x e rest) is f))
next bytes e rest (member k v ms) tail f is h none =
    let same = frame_is_one bytes (element k v) e (members_bytes ms ++ tail) rest (written_first bytes k v ms tail is h) f in
    record {
      value = v;
      more = ms;
      is = ap (λ (x : Element). member x.key v ms) same.0;
      written = record { kind = sym (ap (λ (x : Element). x.tag) same.0); payload = sym (ap (λ (x : Element). x.payload) same.0) };
      back = h.1;
      ahead = sym same.1;
      others = h.2;
    }

-- bytes that begin with no frame are of no member
pub none_left : (bytes : List ℕ) (ms : Members) (tail : List ℕ) → bytes ≡ members_bytes ms ++ tail → ComeBack ms → HasNoFrame bytes → ms ≡ no_members
none_left bytes no_members tail is h none = refl
none_left bytes (member k v ms) tail is h none = absurd (none (element k v) (members_bytes ms ++ tail) (written_first bytes k v ms tail is h))

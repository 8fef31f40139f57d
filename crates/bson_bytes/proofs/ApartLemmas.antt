-- Clean trees with the same bytes are the same.
use Rattle.std.proofs.Common.{◌≡◌, ℕ, ◌^◌, ◌<◌, List, [], ◌∷◌, ◌++◌, length, sym, ap, ◌∙◌, subst, arith, append_assoc}
use Rattle.std.specs.Prelude.{IsUtf8}
use Rattle.std.proofs.lemmas.Str.{IsUtf8-nil}
use Rattle.bson_base.specs.Kinds.{HasNo00, IsPlain, IsClean, IsSound}
use Rattle.bson_base.specs.Tags.{tag_byte}
use Rattle.bson_base.specs.Value.{Value, document, Members, value_kind}
use Rattle.bson_bytes.specs.Encode.{cstring_of, members_bytes, value_bytes, value_size, encode, size}
use Rattle.bson_bytes.specs.Spells.{SpellsValue, Means}
use Rattle.bson_bytes.proofs.ExtentLemmas.{framed_size}
use Rattle.bson_bytes.proofs.LengthLemmas.{members_length}
use Rattle.bson_bytes.proofs.OneTreeLemmas.{one_meaning, one_value}
use Rattle.bson_bytes.proofs.SettledLemmas.{comes_back}
use Rattle.bson_bytes.proofs.SpellingLemmas.{value_sized, plain_value, spelled_value}
use Rattle.bson_frame.specs.Frame.{number, HasSize, IsFirstFrame}
use Rattle.bson_frame.specs.Payload.{IsPayload}
use Rattle.bson_frame.proofs.PayloadLemmas.{payload_by_itself}
use Rattle.bson_frame.proofs.FrameLemmas.{front_is_one, size_is_one}

declared : (d : Members) (x : List ℕ) → size d < 2 ^ 31 → length (encode d) ≡ number (encode d ++ x)
declared d x h = (framed_size (members_bytes d) x (omega (arith, h, members_length d))).declared

pub bytes_tell : (d e : Members) (x y : List ℕ) → IsClean (document d) → IsSound (document d) → IsClean (document e) → IsSound (document e) → size d < 2 ^ 31 → size e < 2 ^ 31
    → encode d ++ x ≡ encode e ++ y → (d ≡ e) × (x ≡ y)
bytes_tell d e x y clean sound clean' sound' h k same =
    let long : length (encode d) ≡ length (encode e) = declared d x h ∙ ap number same ∙ sym (declared e y k) in
    let r = front_is_one (encode d) (encode e) x y long same in
    (one_meaning (encode d) d e (comes_back d clean sound h) (subst (λ (b : List ℕ). Means b e) (sym r.0) (comes_back e clean' sound' k)), r.1)

-- ---- elements

-- an element as it is written is the first frame of its bytes
pub written_frame : (k : List ℕ) (v : Value) (rest : List ℕ) → HasNo00 k → IsUtf8 k → IsPlain v → IsSound v → value_size v < 2 ^ 31
    → IsFirstFrame (tag_byte (value_kind v) ∷ (cstring_of k ++ (value_bytes v ++ rest))) (record { tag = value_kind v; key = k; payload = value_bytes v }) rest
unfolding cstring_of
written_frame k v rest zero text plain sound h = record {
  parts = ap (λ (x : List ℕ). tag_byte (value_kind v) ∷ x) (append_assoc k (0 ∷ []) (value_bytes v ++ rest));
  key_name = record { no_zero = zero; text = text };
  size = value_sized v rest plain sound.ranged h;
}

-- a value's bytes are a payload of its kind
written_payload : (v : Value) → IsPlain v → IsSound v → value_size v < 2 ^ 31 → IsPayload (value_kind v) (value_bytes v)
written_payload v plain sound h = payload_by_itself _ (record { tag = value_kind v; key = []; payload = value_bytes v }) [] (written_frame [] v [] tt IsUtf8-nil plain sound h)

pub values_tell : (v w : Value) (x y : List ℕ) → IsClean v → IsSound v → IsClean w → IsSound w → value_kind v ≡ value_kind w → value_size v < 2 ^ 31 → value_size w < 2 ^ 31
    → value_bytes v ++ x ≡ value_bytes w ++ y → (v ≡ w) × (x ≡ y)
values_tell v w x y clean sound clean' sound' kind h k same =
    let one = value_sized v x (plain_value v clean) sound.ranged h in
    let other = subst (λ t. HasSize t (value_bytes v ++ x) (length (value_bytes w))) (sym kind) (subst (λ (b : List ℕ). HasSize (value_kind w) b (length (value_bytes w))) (sym same) (value_sized w y (plain_value w clean') sound'.ranged k)) in
    let long = size_is_one (value_kind v) (value_bytes v ++ x) (length (value_bytes v)) (length (value_bytes w)) one other in
    let r = front_is_one (value_bytes v) (value_bytes w) x y long same in
    (one_value (value_bytes v) v w kind (written_payload v (plain_value v clean) sound h) (spelled_value v clean sound.ranged h) (subst (λ (b : List ℕ). SpellsValue b w) (sym r.0) (spelled_value w clean' sound'.ranged k)), r.1)

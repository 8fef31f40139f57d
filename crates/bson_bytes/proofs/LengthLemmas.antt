-- How many bytes a value has.
use Rattle.std.proofs.Common.{◌≡◌, ℕ, suc, ◌+◌, List, length, refl, ap, ◌∙◌, arith, length-append}
use Rattle.bson_base.specs.declared.spec.BinarySubtype.{BinarySubtype}
use Rattle.bson_base.specs.declared.spec.BinarySubtype.TheVariants as subtypes
use Rattle.bson_base.specs.Value.{Scalar, double, string, binary, undefined, object_id, boolean, date_time, null, regex, db_pointer, code, symbol, int32, timestamp, int64, decimal, max_key, min_key, Value, scalar, array, document, scoped_code, Items, no_items, item, Members, no_members, member}
use Rattle.bson_bytes.specs.Encode.{le32, le64, text_bytes, cstring_of, is_old, inner, scalar_bytes, scalar_size, frame_of, scope_frame_of, value_bytes, items_bytes, members_bytes, value_size, items_size, members_size, encode, size}
use Rattle.std.specs.Prelude.{if◌then◌else◌}

pub le32_length : (n : ℕ) → length (le32 n) ≡ 4
unfolding le32
le32_length n = refl

pub le64_length : (n : ℕ) → length (le64 n) ≡ 8
unfolding le64
le64_length n = refl

pub ended_length : (t : List ℕ) → length (cstring_of t) ≡ length t + 1
unfolding cstring_of
ended_length t = simp length-append

pub text_length : (t : List ℕ) → length (text_bytes t) ≡ length t + 5
unfolding text_bytes
text_length t = simp (length-append, le32_length) (omega arith)

pub framed_length : (b : List ℕ) → length (frame_of b) ≡ length b + 5
unfolding frame_of
framed_length b = simp (length-append, le32_length) (omega arith)

pub scoped_length : (t b : List ℕ) → length (scope_frame_of t b) ≡ length t + length b + 9
unfolding scope_frame_of
scoped_length t b = simp (length-append, le32_length, text_length) (omega arith)

pub inner_length : (s : BinarySubtype) (bs : List ℕ) → length (inner s bs) + 5 ≡ length bs + (if is_old s then 9 else 5)
unfolding inner
inner_length subtypes.BinaryOld bs = simp (length-append, le32_length) (omega arith)
inner_length _ bs = refl

pub payload_length : (s : Scalar) → length (scalar_bytes s) ≡ scalar_size s
payload_length (double n) = le64_length n
payload_length (string t) = text_length t
payload_length (binary s bs) = simp (length-append, le32_length) (omega (arith, inner_length s bs))
payload_length undefined = refl
payload_length (object_id bs) = refl
payload_length (boolean b) = refl
payload_length (date_time z) = le64_length _
payload_length null = refl
payload_length (regex p o) = simp (length-append, ended_length) (omega arith)
payload_length (db_pointer t bs) = simp (length-append, text_length) (omega arith)
payload_length (code t) = text_length t
payload_length (symbol t) = text_length t
payload_length (int32 z) = le32_length _
payload_length (timestamp t i) = simp (length-append, le32_length)
payload_length (int64 z) = le64_length _
payload_length (decimal bs) = refl
payload_length max_key = refl
payload_length min_key = refl

mutual
  pub value_length : (v : Value) → length (value_bytes v) ≡ value_size v
  value_length (scalar s) = payload_length s
  value_length (array vs) = framed_length _ ∙ ap (λ n. n + 5) (items_length 0 vs)
  value_length (document ms) = framed_length _ ∙ ap (λ n. n + 5) (members_length ms)
  value_length (scoped_code t ms) = omega (arith, scoped_length t (frame_of (members_bytes ms)), framed_length (members_bytes ms), members_length ms)

  pub items_length : (i : ℕ) (vs : Items) → length (items_bytes i vs) ≡ items_size i vs
  items_length i no_items = refl
  items_length i (item v vs) = simp (length-append, ended_length) (omega (arith, value_length v, items_length (suc i) vs))

  pub members_length : (ms : Members) → length (members_bytes ms) ≡ members_size ms
  members_length no_members = refl
  members_length (member k v ms) = simp (length-append, ended_length) (omega (arith, value_length v, members_length ms))

pub encode_length : (d : Members) → length (encode d) ≡ size d
encode_length d = framed_length _ ∙ ap (λ n. n + 5) (members_length d)

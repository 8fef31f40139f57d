-- A binary value that is read has a subtype that comes back from its byte.
use Rattle.std.proofs.Common.{◌≡◌, ℕ, ℤ, Bool, true, false, List, codes, Option, Some, None, Result, Ok, Err, refl, ap}
use Rattle.std.specs.Prelude.{IfOk, if◌then◌else◌}
use Rattle.std.specs.Str.{bytes_eq}
use Rattle.base64.specs.GeneralPurpose.{decode_of}
use Rattle.base64.specs.Engines.{standard}
use Rattle.json.specs.Json as json
use Rattle.json.specs.Json.{Json, number, object}
use Rattle.bson_base.proofs.MemberLemmas.{put_each}
use Rattle.bson_base.specs.Answer.{◌>>=◌}
use Rattle.bson_base.specs.ScalarTexts.{read_uuid}
use Rattle.bson_base.specs.Tags.{subtype_byte, subtype_of}
use Rattle.bson_base.specs.Value.{Scalar, Value, Items, Members, EachItem, EachMember, EachPart, array, binary, code, date_time, db_pointer, decimal, document, double, has_key, int32, int64, max_key, min_key, no_members, object_id, put, regex, scalar, symbol, timestamp, undefined}
use Rattle.bson_base.specs.declared.spec.BinarySubtype.{BinarySubtype}
use Rattle.bson_bytes.proofs.MeaningLemmas.{subtype_back}
use Rattle.bson_json_read.specs.Outcome.{constant, ok_or_error, scalar_of}
use Rattle.bson_json_read.specs.Reading.{add, any_reserved, base64_body, bodies_under, byte_body, date_body, decimal_body, double_body, id_body, int_body, is_code_and_scope, is_one_body, is_true, is_whole, long_body, nearest, pointer_body, read, read_body, read_items, read_members, read_number, read_scope, read_typed, read_wrapped, regex_body, text_of, timestamp_body, uuid_body, whole}
use Rattle.bson_json_read.specs.declared.error.Error.{Error}
use Rattle.bson_json_read.specs.declared.error.Error.TheVariants.{RepeatedKey}
use Rattle.bson_model.specs.JsonKeys.{Reserved, of_binary, of_code, of_date, of_decimal, of_double, of_id, of_int, of_long, of_max, of_min, of_pointer, of_regex, of_symbol, of_timestamp, of_undefined, of_uuid, reserved_of}
use Rattle.bson_model.specs.JsonRead.{code_and_scope}
use Rattle.bson_model.specs.JsonTexts.{fits_32, long_of}
use Rattle.bson_json_read.specs.DoubleText.{double_of}
use Rattle.store_question_read.specs.Values.{AnyKey, Readable, ReadableScalar}

abbrev ReadableItems : Items → Type 0
ReadableItems vs = EachItem AnyKey ReadableScalar vs

abbrev ReadableMembers : Members → Type 0
ReadableMembers ms = EachMember AnyKey ReadableScalar ms

abbrev ReadableScope : Option Members → Type 0
ReadableScope None = Unit {0}
ReadableScope (Some ms) = ReadableMembers ms

-- ---- steps

step : {A B : Type 0} (P : B → Type 0) (r : Result A Error) (g : A → Result B Error) → ((x : A) → IfOk (g x) P) → IfOk (r >>= g) P
step P (Ok x) g h = h x
step P (Err e) g h = tt

known : {A B : Type 0} (Q : A → Type 0) (P : B → Type 0) (r : Result A Error) (g : A → Result B Error) → IfOk r Q → ((x : A) → Q x → IfOk (g x) P) → IfOk (r >>= g) P
known Q P (Ok x) g q h = h x q
known Q P (Err e) g q h = tt

either : {A : Type 0} (P : A → Type 0) (b : Bool) (r s : Result A Error) → IfOk r P → IfOk s P → IfOk (if b then r else s) P
either P true r s h k = h
either P false r s h k = k

-- ---- scalars

plain_constant : (b : Bool) (s : Scalar) → ReadableScalar s → IfOk (constant b s) ReadableScalar
plain_constant true s h = h
plain_constant false s h = tt

base64_readable : (b : ℕ) (j : Json) → IfOk (base64_body (subtype_of b) j) ReadableScalar
base64_readable b j = step ReadableScalar (text_of j) _ (λ t. step ReadableScalar (ok_or_error (decode_of standard t)) _ (λ bs. ap subtype_of (subtype_back b)))

body_readable : (r : Reserved) (j : Json) → IfOk (read_body r j) ReadableScalar
body_readable of_id j = step ReadableScalar (id_body j) _ (λ bs. tt)
body_readable of_symbol j = step ReadableScalar (text_of j) _ (λ t. tt)
body_readable of_regex j = step ReadableScalar (regex_body j) _ (λ r. tt)
body_readable of_int j = step ReadableScalar (int_body j) _ (λ z. tt)
body_readable of_long j = step ReadableScalar (long_body j) _ (λ z. tt)
body_readable of_double j = step ReadableScalar (double_body j) _ (λ n. tt)
body_readable of_decimal j = step ReadableScalar (decimal_body j) _ (λ bs. tt)
body_readable of_binary j = step ReadableScalar (bodies_under (codes "base64") (codes "subType") j) _ (λ p. step ReadableScalar (byte_body p.1) _ (λ b. base64_readable b p.0))
body_readable of_uuid j = step ReadableScalar (text_of j) _ (λ t. step ReadableScalar (ok_or_error (read_uuid t)) _ (λ bs. refl))
body_readable of_code j = step ReadableScalar (text_of j) _ (λ t. tt)
body_readable of_timestamp j = step ReadableScalar (timestamp_body j) _ (λ t. tt)
body_readable of_date j = step ReadableScalar (date_body j) _ (λ z. tt)
body_readable of_min j = plain_constant (is_one_body j) min_key tt
body_readable of_max j = plain_constant (is_one_body j) max_key tt
body_readable of_pointer j = step ReadableScalar (pointer_body j) _ (λ p. tt)
body_readable of_undefined j = plain_constant (is_true j) undefined tt

wrapped_readable : (r : Option Reserved) (j : Json) → IfOk (read_wrapped r j) Readable
wrapped_readable None j = tt
wrapped_readable (Some r) j = known ReadableScalar Readable (read_body r j) _ (body_readable r j) (λ s h. h)

number_readable : (t : List ℕ) → IfOk (read_number t) Readable
number_readable t = by (is_whole t) (long_of t) (double_of t)
  where
    size : (b : Bool) (z : ℤ) → Readable (if b then scalar (int32 z) else scalar (int64 z))
    size true z = tt
    size false z = tt

    by : (b : Bool) (l : Option ℤ) (d : Option ℕ) → IfOk (if b then whole l else nearest d) Readable
    by true (Some z) d = size (fits_32 z) z
    by true None d = tt
    by false l (Some n) = tt
    by false l None = tt

-- ---- trees

scoped_readable : (t : List ℕ) (o : Option Members) → ReadableScope o → Readable (code_and_scope t o)
scoped_readable t None h = tt
scoped_readable t (Some ms) h = (tt, h)

added : (k : List ℕ) (v : Value) (found : Members) → Readable v → ReadableMembers found → IfOk (add k v found) ReadableMembers
added k v found h g = by (has_key k found)
  where
    by : (b : Bool) → IfOk (if b then Err RepeatedKey else Ok (put k v found)) ReadableMembers
    by true = tt
    by false = put_each AnyKey ReadableScalar k v found tt h g

mutual
  pub readable : (j : Json) → IfOk (read j) Readable
  readable json.null = tt
  readable (json.boolean b) = tt
  readable (number t) = number_readable t
  readable (json.string t) = tt
  readable (json.array js) = known ReadableItems Readable (read_items js) _ (readable_items js) (λ vs h. h)
  readable (object js) = either Readable (any_reserved js) (read_typed js) _ (readable_typed js) (known ReadableMembers Readable (read_members js no_members) _ (readable_members js no_members tt) (λ ms h. h))

  readable_items : (js : json.Items) → IfOk (read_items js) ReadableItems
  readable_items json.no_items = tt
  readable_items (json.item j js) = known Readable ReadableItems (read j) _ (readable j) (λ v h. known ReadableItems ReadableItems (read_items js) _ (readable_items js) (λ vs g. (h, g)))

  readable_members : (js : json.Members) (found : Members) → ReadableMembers found → IfOk (read_members js found) ReadableMembers
  readable_members json.no_members found g = g
  readable_members (json.member k j js) found g =
      known Readable ReadableMembers (read j) _ (readable j) (λ v h. known ReadableMembers ReadableMembers (add k v found) _ (added k v found h g) (λ more m. readable_members js more m))

  readable_typed : (js : json.Members) → IfOk (read_typed js) Readable
  readable_typed json.no_members = tt
  readable_typed (json.member k j json.no_members) = wrapped_readable (reserved_of k) j
  readable_typed (json.member k j (json.member l i json.no_members)) =
      either Readable (is_code_and_scope k l) _ _
      (step Readable (text_of j) _ (λ t. known ReadableScope Readable (read_scope i) _ (readable_scope i) (λ o h. scoped_readable t o h)))
      (either Readable (is_code_and_scope l k) _ _
      (step Readable (text_of i) _ (λ t. known ReadableScope Readable (read_scope j) _ (readable_scope j) (λ o h. scoped_readable t o h))) tt)
  readable_typed (json.member k j (json.member l i (json.member m h js))) = tt

  readable_scope : (j : Json) → IfOk (read_scope j) ReadableScope
  readable_scope json.null = tt
  readable_scope (object js) = known ReadableMembers ReadableScope (read_members js no_members) _ (readable_members js no_members tt) (λ ms h. h)
  readable_scope (json.boolean b) = tt
  readable_scope (number t) = tt
  readable_scope (json.string t) = tt
  readable_scope (json.array js) = tt

-- What a JSON tree reads as is sound, and its normal form clean.
use Rattle.std.proofs.Common.{◌≡◌, ℕ, ℤ, ◌<◌, ◌^◌, nat_lt, List, length, Bool, true, false, cond, if◌then◌else◌, Option, Some, None, Result, Ok, Err, refl, ap, ◌∙◌, sym, subst, arith}
use Rattle.std.specs.Prelude.{◌&&◌, bytes_eq, codes, FitsSigned, IsUtf8}
use Rattle.std.specs.Int.{w32, w64}
use Rattle.std.proofs.lemmas.Bool.{ltb-true}
use Rattle.serde_json.specs.Data as json
use Rattle.serde_json.specs.Data.{Data, number, object, unsigned, negative, float}
use Rattle.serde_json.specs.Find.{as_i64}
use Rattle.base64.specs.GeneralPurpose.{decode_of}
use Rattle.base64.specs.Engines.{standard}
use Rattle.bson_base.specs.DateText.{date_of}
use Rattle.bson_base.specs.Decimal as decimals
use Rattle.bson_base.specs.Kinds.{AreBytes, HasNo00, IsPlainScalar, IsCleanScalar, IsRangedScalar, IsPlain, IsClean, IsSound}
use Rattle.bson_base.specs.ObjectIdText.{object_id_of}
use Rattle.bson_base.specs.ScalarTexts.{read_uuid}
use Rattle.bson_base.specs.Tags.{subtype_of}
use Rattle.bson_base.specs.Value.{Scalar, undefined, int32, int64, max_key, min_key, Value, scalar, document, Items, no_items, Members, no_members, look_up, EachPart, EachItem, EachMember, HasDistinctKeys, ItemsHaveDistinctKeys, MembersHaveDistinctKeys}
use Rattle.bson_model.specs.JsonKeys.{Reserved, any_reserved, key_of, reserved_of, scope_key, of_id, of_symbol, of_regex, of_int, of_long, of_double, of_decimal, of_binary, of_uuid, of_code, of_timestamp, of_date, of_min, of_max, of_pointer, of_undefined}
use Rattle.bson_base.specs.Answer.{◌>>=◌}
use Rattle.bson_model.specs.JsonRead.{ok_or_error, text_of, single, under, bodies_under, bodies_in, below_32, u32_of, is_one, is_true, integer, whole, id_body, regex_body, int_body, long_body, double_body, decimal_body, base64_body, byte_body, binary_body, uuid_body, timestamp_body, read_date_body, pointer_body, constant, read_body, read_wrapped, code_and_scope, read, read_items, read_members, read_typed, read_scope}
use Rattle.bson_model.specs.JsonTexts.{fits_32, int_of, long_of, byte_of}
use Rattle.bson_model.specs.declared.extjson.de.Error.{Error}
use Rattle.bson_model.specs.declared.extjson.de.Error.TheVariants.{DeserializationError}
use Rattle.bson_meaning.specs.JsonTrees.{LacksKey, IsJson, AreJson, IsJsonObject}
use Rattle.bson_meaning.specs.Meaning.{norm_members_in_order, norm_members}
use Rattle.bson_meaning.proofs.JsonBase64Lemmas.{base64_ranged}
use Rattle.bson_meaning.proofs.JsonDateLemmas.{date_ranged}
use Rattle.bson_meaning.proofs.JsonRangeLemmas.{id_ranged, int_ranged, long_ranged, double_ranged, byte_ranged, sixteen_ranged}
use Rattle.bson_meaning.proofs.JsonReadLemmas.{bound}
use Rattle.bson_meaning.proofs.JsonUuidLemmas.{uuid_ranged}
use Rattle.bson_meaning.proofs.KeyLemmas.{asc_distinct}
use Rattle.bson_meaning.proofs.NormalLemmas.{asc_each, both_each}
use Rattle.bson_bytes.proofs.MeaningLemmas.{subtype_back}
use Rattle.bson_model.proofs.JsonTextsLemmas.{so_fits_32}
use Rattle.bson_bytes.proofs.OptionsLemmas.{text_sorted}
use Rattle.bson_model.proofs.JsonGrammarLemmas.{wanted_ok, accepted_ok, accepted_id_ok}
use Rattle.bson_meaning.proofs.NowLemmas.{normal_scalar_ranged, normal_scalar_plain, normal_scalar_clean, norm_each}

-- ---- steps that gave something

same_ok : {A : Type 0} (x y : A) → ◌≡◌ {A = Result A Error} (Ok x) (Ok y) → x ≡ y
same_ok x y e = cc

-- ---- bodies

text_ranged : (j : Data) (t : List ℕ) → IsJson j → text_of j ≡ Ok t → IsUtf8 t
text_ranged (json.string u) t h e = subst IsUtf8 (same_ok u t e) h
text_ranged _ t h e = cc

pair_json : (k l : List ℕ) (js : json.Members) (p : Data × Data) → IsJsonObject js → bodies_in k l js ≡ Ok p → IsJson p.0 × IsJson p.1
pair_json k l (json.member m i (json.member n j json.no_members)) p h e = by (bytes_eq m k && bytes_eq n l) e
  where
    by : (b : Bool) → (if b then Ok (i, j) else Err DeserializationError) ≡ Ok p → IsJson p.0 × IsJson p.1
    by true f = subst (λ (q : Data × Data). IsJson q.0 × IsJson q.1) (same_ok _ p f) (h.2, h.3.2)
    by false f = cc
pair_json k l _ p h e = cc

both_json : (k l : List ℕ) (j : Data) (p : Data × Data) → IsJson j → bodies_under k l j ≡ Ok p → IsJson p.0 × IsJson p.1
both_json k l (object js) p h e = pair_json k l js p h e
both_json k l _ p h e = cc

id_body_ranged : (j : Data) (bs : List ℕ) → id_body j ≡ Ok bs → (length bs ≡ 12) × AreBytes bs
id_body_ranged j bs e = let a = bound (text_of j) _ bs e in id_ranged a.first bs (accepted_id_ok (object_id_of a.first) bs a.there)

long_body_ranged : (j : Data) (z : ℤ) → long_body j ≡ Ok z → FitsSigned w64 z
long_body_ranged j z e = let a = bound (text_of j) _ z e in long_ranged a.first z (wanted_ok (long_of a.first) z a.there)

int_body_ranged : (j : Data) (z : ℤ) → int_body j ≡ Ok z → FitsSigned w32 z
int_body_ranged j z e = let a = bound (text_of j) _ z e in int_ranged a.first z (wanted_ok (int_of a.first) z a.there)

double_body_ranged : (j : Data) (n : ℕ) → double_body j ≡ Ok n → n < 2 ^ 64
double_body_ranged j n e = let a = bound (text_of j) _ n e in double_ranged a.first n a.there

decimal_body_ranged : (j : Data) (bs : List ℕ) → decimal_body j ≡ Ok bs → (length bs ≡ 16) × AreBytes bs
decimal_body_ranged j bs e =
    let a = bound (text_of j) _ bs e in
    let b = bound (ok_or_error (decimals.read a.first)) _ bs a.there in
    subst (λ xs. (length xs ≡ 16) × AreBytes xs) (same_ok _ bs b.there) (sixteen_ranged b.first)

base64_body_ranged : (b : ℕ) → b < 256 → (j : Data) (s : Scalar) → IsJson j → base64_body (subtype_of b) j ≡ Ok s → IsRangedScalar s
base64_body_ranged b h j s u e =
    let a = bound (text_of j) _ s e in
    let c = bound (ok_or_error (decode_of standard a.first)) _ s a.there in
    subst IsRangedScalar (same_ok _ s c.there) (subst (λ n. n < 256) (sym (subtype_back b)) h, base64_ranged a.first c.first (text_ranged j a.first u a.here) (accepted_ok (decode_of standard a.first) c.first c.here))

binary_body_ranged : (j : Data) (s : Scalar) → IsJson j → binary_body j ≡ Ok s → IsRangedScalar s
binary_body_ranged j s h e =
    let a = bound (bodies_under (codes "base64") (codes "subType") j) _ s e in
    let b = bound (byte_body a.first.1) _ s a.there in
    let t = bound (text_of a.first.1) _ b.first b.here in
    base64_body_ranged b.first (byte_ranged t.first b.first (wanted_ok (byte_of t.first) b.first t.there)) a.first.0 s (both_json (codes "base64") (codes "subType") j a.first h a.here).0 b.there

uuid_body_ranged : (j : Data) (s : Scalar) → uuid_body j ≡ Ok s → IsRangedScalar s
uuid_body_ranged j s e =
    let a = bound (text_of j) _ s e in
    let b = bound (ok_or_error (read_uuid a.first)) _ s a.there in
    subst IsRangedScalar (same_ok _ s b.there) (omega arith, uuid_ranged a.first b.first (accepted_ok (read_uuid a.first) b.first b.here))

below_low : (m n : ℕ) → below_32 m ≡ Some n → n < 2 ^ 32
below_low m n e = by (nat_lt m (2 ^ 32)) refl e
  where
    by : (b : Bool) → nat_lt m (2 ^ 32) ≡ b → (if b then Some m else None) ≡ Some n → n < 2 ^ 32
    by true h f = let i : m ≡ n = cc in let l = ltb-true m (2 ^ 32) h in omega arith
    by false h f = cc

u32_low : (j : Data) (n : ℕ) → u32_of j ≡ Ok n → n < 2 ^ 32
u32_low (number (unsigned m)) n e = below_low m n (wanted_ok (below_32 m) n e)
u32_low (number (negative z)) n e = cc
u32_low (number (float x)) n e = cc
u32_low _ n e = cc

timestamp_body_ranged : (j : Data) (p : ℕ × ℕ) → timestamp_body j ≡ Ok p → (p.0 < 2 ^ 32) × (p.1 < 2 ^ 32)
timestamp_body_ranged j p e =
    let a = bound (bodies_under (codes "i") (codes "t") j) _ p e in
    let b = bound (u32_of a.first.0) _ p a.there in
    let c = bound (u32_of a.first.1) _ p b.there in
    subst (λ (q : ℕ × ℕ). (q.0 < 2 ^ 32) × (q.1 < 2 ^ 32)) (same_ok _ p c.there) (u32_low a.first.1 c.first c.here, u32_low a.first.0 b.first b.here)

date_body_ranged : (j : Data) (z : ℤ) → IsJson j → read_date_body j ≡ Ok z → FitsSigned w64 z
date_body_ranged (json.string t) z h e = date_ranged t z (accepted_ok (date_of t) z e)
date_body_ranged (number n) z h e = h z (wanted_ok (as_i64 n) z e)
date_body_ranged (object js) z h e = let a = bound (single (key_of of_long) js) long_body z e in long_body_ranged a.first z a.there
date_body_ranged _ z h e = cc

regex_body_ranged : (j : Data) (p : List ℕ × List ℕ) → IsJson j → regex_body j ≡ Ok p → IsUtf8 p.0 × IsUtf8 p.1
regex_body_ranged j p h e =
    let a = bound (bodies_under (codes "options") (codes "pattern") j) _ p e in
    let q = both_json (codes "options") (codes "pattern") j a.first h a.here in
    let b = bound (text_of a.first.0) _ p a.there in
    let c = bound (text_of a.first.1) _ p b.there in
    subst (λ (r : List ℕ × List ℕ). IsUtf8 r.0 × IsUtf8 r.1) (same_ok _ p c.there)
    (text_ranged a.first.1 c.first q.1 c.here, text_sorted b.first (text_ranged a.first.0 b.first q.0 b.here))

pointer_body_ranged : (j : Data) (p : List ℕ × List ℕ) → IsJson j → pointer_body j ≡ Ok p → IsUtf8 p.0 × (length p.1 ≡ 12) × AreBytes p.1
pointer_body_ranged j p h e =
    let a = bound (bodies_under (codes "$id") (codes "$ref") j) _ p e in
    let q = both_json (codes "$id") (codes "$ref") j a.first h a.here in
    let b = bound (under (key_of of_id) a.first.0 >>= id_body) _ p a.there in
    let i = bound (under (key_of of_id) a.first.0) id_body b.first b.here in
    let c = bound (text_of a.first.1) _ p b.there in
    let r = id_body_ranged i.first b.first i.there in
    subst (λ (x : List ℕ × List ℕ). IsUtf8 x.0 × (length x.1 ≡ 12) × AreBytes x.1) (same_ok _ p c.there) (text_ranged a.first.1 c.first q.1 c.here, r.0, r.1)

constant_ranged : (b : Bool) (s t : Scalar) → IsRangedScalar s → constant b s ≡ Ok t → IsRangedScalar t
constant_ranged true s t h e = subst IsRangedScalar (same_ok s t e) h
constant_ranged false s t h e = cc

body_ranged : (k : Reserved) (j : Data) (s : Scalar) → IsJson j → read_body k j ≡ Ok s → IsRangedScalar s
body_ranged of_id j s h e = let a = bound (id_body j) _ s e in subst IsRangedScalar (same_ok _ s a.there) (id_body_ranged j a.first a.here)
body_ranged of_symbol j s h e = let a = bound (text_of j) _ s e in subst IsRangedScalar (same_ok _ s a.there) (text_ranged j a.first h a.here)
body_ranged of_regex j s h e = let a = bound (regex_body j) _ s e in subst IsRangedScalar (same_ok _ s a.there) (regex_body_ranged j a.first h a.here)
body_ranged of_int j s h e = let a = bound (int_body j) _ s e in subst IsRangedScalar (same_ok _ s a.there) (int_body_ranged j a.first a.here)
body_ranged of_long j s h e = let a = bound (long_body j) _ s e in subst IsRangedScalar (same_ok _ s a.there) (long_body_ranged j a.first a.here)
body_ranged of_double j s h e = let a = bound (double_body j) _ s e in subst IsRangedScalar (same_ok _ s a.there) (double_body_ranged j a.first a.here)
body_ranged of_decimal j s h e = let a = bound (decimal_body j) _ s e in subst IsRangedScalar (same_ok _ s a.there) (decimal_body_ranged j a.first a.here)
body_ranged of_binary j s h e = binary_body_ranged j s h e
body_ranged of_uuid j s h e = uuid_body_ranged j s e
body_ranged of_code j s h e = let a = bound (text_of j) _ s e in subst IsRangedScalar (same_ok _ s a.there) (text_ranged j a.first h a.here)
body_ranged of_timestamp j s h e = let a = bound (timestamp_body j) _ s e in subst IsRangedScalar (same_ok _ s a.there) (timestamp_body_ranged j a.first a.here)
body_ranged of_date j s h e = let a = bound (read_date_body j) _ s e in subst IsRangedScalar (same_ok _ s a.there) (date_body_ranged j a.first h a.here)
body_ranged of_min j s h e = constant_ranged (is_one j) min_key s tt e
body_ranged of_max j s h e = constant_ranged (is_one j) max_key s tt e
body_ranged of_pointer j s h e = let a = bound (pointer_body j) _ s e in subst IsRangedScalar (same_ok _ s a.there) (pointer_body_ranged j a.first h a.here)
body_ranged of_undefined j s h e = constant_ranged (is_true j) undefined s tt e

-- ---- trees

abbrev Fine : Value → Type 0
Fine v = EachPart IsUtf8 IsRangedScalar v × HasDistinctKeys v

integer_fine : (z : ℤ) → FitsSigned w64 z → Fine (integer z)
integer_fine z h = by (fits_32 z) refl
  where
    by : (b : Bool) → fits_32 z ≡ b → Fine (if b then scalar (int32 z) else scalar (int64 z))
    by true e = (so_fits_32 z e, tt)
    by false e = (h, tt)

whole_fine : (o : Option ℤ) (v : Value) → ((z : ℤ) → o ≡ Some z → FitsSigned w64 z) → whole o ≡ Ok v → Fine v
whole_fine (Some z) v h e = subst Fine (same_ok (integer z) v e) (integer_fine z (h z refl))
whole_fine None v h e = cc

wrapped_fine : (o : Option Reserved) (j : Data) (v : Value) → IsJson j → read_wrapped o j ≡ Ok v → Fine v
wrapped_fine None j v h e = cc
wrapped_fine (Some r) j v h e = let a = bound (read_body r j) _ v e in subst Fine (same_ok _ v a.there) (body_ranged r j a.first h a.here, tt)

either : {X : Type 0} (b : Bool) (r s : Result Value Error) (v : Value) → (r ≡ Ok v → X) → (s ≡ Ok v → X) → (if b then r else s) ≡ Ok v → X
either true r s v f g e = f e
either false r s v f g e = g e

absent : (k : List ℕ) (js : json.Members) (ms : Members) → LacksKey k js → read_members js ≡ Ok ms → look_up k ms ≡ None
absent k json.no_members ms a e = ap (look_up k) (sym (same_ok no_members ms e))
absent k (json.member l j js) ms a e =
    let v = bound (read j) _ ms e in
    let r = bound (read_members js) _ ms v.there in
    subst (λ ns. look_up k ns ≡ None) (same_ok _ ms r.there) (ap (λ b. cond b (Some v.first) (look_up k r.first)) a.0 ∙ absent k js r.first a.1 r.here)

abbrev FineScope : Option Members → Type 0
FineScope None = Unit {0}
FineScope (Some ms) = EachMember IsUtf8 IsRangedScalar ms × MembersHaveDistinctKeys ms

scope_fine : (t : List ℕ) (o : Option Members) → IsUtf8 t → FineScope o → Fine (code_and_scope t o)
scope_fine t None u h = (u, tt)
scope_fine t (Some ms) u h = ((u, h.0), h.1)

mutual
  fine : (j : Data) (v : Value) → IsJson j → read j ≡ Ok v → Fine v
  fine json.null v h e = subst Fine (same_ok _ v e) (tt, tt)
  fine (json.boolean b) v h e = subst Fine (same_ok _ v e) (tt, tt)
  fine (number n) v h e = whole_fine (as_i64 n) v h e
  fine (json.string t) v h e = subst Fine (same_ok _ v e) (h, tt)
  fine (json.array js) v h e = let a = bound (read_items js) _ v e in subst Fine (same_ok _ v a.there) (fine_items js a.first h a.here)
  fine (object js) v h e = either (any_reserved js) (read_typed js) (read_members js >>= λ ms. Ok (document ms)) v (fine_typed js v h)
      (λ f. let a = bound (read_members js) (λ ms. Ok (document ms)) v f in subst Fine (same_ok _ v a.there) (fine_members js a.first h a.here)) e

  fine_items : (js : json.Items) (vs : Items) → AreJson js → read_items js ≡ Ok vs → EachItem IsUtf8 IsRangedScalar vs × ItemsHaveDistinctKeys vs
  fine_items json.no_items vs h e = subst (λ ws. EachItem IsUtf8 IsRangedScalar ws × ItemsHaveDistinctKeys ws) (same_ok no_items vs e) (tt, tt)
  fine_items (json.item j js) vs h e =
      let a = bound (read j) _ vs e in
      let b = bound (read_items js) _ vs a.there in
      let p = fine j a.first h.0 a.here in
      let q = fine_items js b.first h.1 b.here in
      subst (λ ws. EachItem IsUtf8 IsRangedScalar ws × ItemsHaveDistinctKeys ws) (same_ok _ vs b.there) ((p.0, q.0), (p.1, q.1))

  fine_members : (js : json.Members) (ms : Members) → IsJsonObject js → read_members js ≡ Ok ms → EachMember IsUtf8 IsRangedScalar ms × MembersHaveDistinctKeys ms
  fine_members json.no_members ms h e = subst (λ ns. EachMember IsUtf8 IsRangedScalar ns × MembersHaveDistinctKeys ns) (same_ok no_members ms e) (tt, tt)
  fine_members (json.member k j js) ms h e =
      let a = bound (read j) _ ms e in
      let b = bound (read_members js) _ ms a.there in
      let p = fine j a.first h.2 a.here in
      let q = fine_members js b.first h.3 b.here in
      subst (λ ns. EachMember IsUtf8 IsRangedScalar ns × MembersHaveDistinctKeys ns) (same_ok _ ms b.there) ((h.0, p.0, q.0), (absent k js b.first h.1 b.here, p.1, q.1))

  fine_typed : (js : json.Members) (v : Value) → IsJsonObject js → read_typed js ≡ Ok v → Fine v
  fine_typed json.no_members v h e = cc
  fine_typed (json.member k j json.no_members) v h e = wrapped_fine (reserved_of k) j v h.2 e
  fine_typed (json.member k j (json.member l i json.no_members)) v h e =
      either (bytes_eq k (key_of of_code) && bytes_eq l scope_key) (text_of j >>= λ t. read_scope i >>= λ o. Ok (code_and_scope t o)) (Err DeserializationError) v
      (λ f. let a = bound (text_of j) (λ t. read_scope i >>= λ o. Ok (code_and_scope t o)) v f in
      let b = bound (read_scope i) (λ o. Ok (code_and_scope a.first o)) v a.there in
      subst Fine (same_ok _ v b.there) (scope_fine a.first b.first (text_ranged j a.first h.2 a.here) (fine_scope i b.first h.3.2 b.here)))
      (λ f. cc) e
  fine_typed (json.member k j (json.member l i (json.member m g js))) v h e = cc

  fine_scope : (j : Data) (o : Option Members) → IsJson j → read_scope j ≡ Ok o → FineScope o
  fine_scope json.null o h e = subst FineScope (same_ok _ o e) tt
  fine_scope (object js) o h e = let a = bound (read_members js) _ o e in subst FineScope (same_ok _ o a.there) (fine_members js a.first h a.here)
  fine_scope (json.boolean b) o h e = cc
  fine_scope (number n) o h e = cc
  fine_scope (json.string t) o h e = cc
  fine_scope (json.array js) o h e = cc

pub value_sound : (j : Data) (v : Value) → IsJson j → read j ≡ Ok v → IsSound v
value_sound j v h e = let f = fine j v h e in record { ranged = f.0; distinct = f.1 }

pub document_sound : (js : json.Members) (e : Members) → IsJsonObject js → read_members js ≡ Ok e → IsSound (document e)
document_sound js e h r = let f = fine_members js e h r in record { ranged = f.0; distinct = f.1 }

-- ---- the document that is kept

pub kept_sound : (d : Members) → IsSound (document d) → IsSound (document (norm_members_in_order d))
kept_sound d s = record {
  ranged = asc_each IsUtf8 IsRangedScalar (document (norm_members d)) (norm_each IsUtf8 IsUtf8 IsRangedScalar IsRangedScalar (λ k h. h) normal_scalar_ranged (document d) s.ranged);
  distinct = asc_distinct (document (norm_members d));
}

pub kept_clean : (d : Members) → IsPlain (document d) → IsSound (document d) → IsClean (document (norm_members_in_order d))
kept_clean d p s =
    let all = both_each HasNo00 IsUtf8 IsPlainScalar IsRangedScalar (document d) p s.ranged in
    let normal = norm_each (λ k. HasNo00 k × IsUtf8 k) HasNo00 (λ s. IsPlainScalar s × IsRangedScalar s) (λ s. IsPlainScalar s × IsCleanScalar s) (λ k h. h.0)
    (λ s h. (normal_scalar_plain s h.1 h.0, normal_scalar_clean s h.1)) (document d) all in
    asc_each HasNo00 (λ s. IsPlainScalar s × IsCleanScalar s) (document (norm_members d)) normal

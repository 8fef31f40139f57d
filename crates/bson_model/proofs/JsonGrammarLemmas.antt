-- What is read is what the grammar says.
use Rattle.std.proofs.Common.{◌≡◌, ℕ, ◌^◌, ◌<◌, ◌&&◌, ◌↔◌, nat_lt, ℤ, Bool, true, false, List, codes, Option, Some, None, Result, Ok, Err, bytes_eq, refl, sym, ap, ◌∙◌, arith}
use Rattle.base64.specs.GeneralPurpose.{decode_of}
use Rattle.base64.specs.Engines.{standard}
use Rattle.serde_json.specs.Data as json
use Rattle.serde_json.specs.Data.{unsigned, Data, number, string as text, object}
use Rattle.serde_json.specs.Find.{as_i64}
use Rattle.bson_base.specs.DateText.{date_of}
use Rattle.bson_base.specs.Decimal.{read as decimal_of, sixteen_bytes}
use Rattle.bson_base.specs.ObjectIdText.{object_id_of}
use Rattle.bson_base.specs.Options.{sorted_text}
use Rattle.bson_base.specs.ScalarTexts.{read_uuid}
use Rattle.bson_base.specs.Tags.{subtype_of}
use Rattle.bson_base.specs.Value.{Scalar, double, binary, undefined, object_id, date_time, regex, db_pointer, code, symbol, int32, timestamp, int64, decimal, max_key, min_key, Value, scalar, array, document, Items, no_items, item, Members, no_members, member}
use Rattle.bson_base.specs.declared.oid.Error as oid
use Rattle.bson_base.specs.declared.spec.BinarySubtype.{BinarySubtype}
use Rattle.bson_base.specs.declared.spec.BinarySubtype.TheVariants.{Uuid}
use Rattle.bson_model.specs.JsonGrammar.{ReadsDate, ReadsBody, Reads, ReadsItems, ReadsMembers, ReadsTyped, ReadsScope}
use Rattle.bson_model.specs.JsonKeys.{Reserved, of_id, of_symbol, of_regex, of_int, of_long, of_double, of_decimal, of_binary, of_uuid, of_code, of_timestamp, of_date, of_min, of_max, of_pointer, of_undefined, key_of, scope_key, reserved_of, any_reserved, object_of_one, object_of_two}
use Rattle.bson_base.specs.Answer.{◌>>=◌}
use Rattle.bson_model.specs.JsonRead.{some_or_error, ok_or_error, id_or_error, text_of, single, under, bodies_in, bodies_under, u32_from, u32_of, is_one, is_true, integer, whole, id_body, regex_body, int_body, long_body, double_body, decimal_body, byte_body, base64_body, binary_body, uuid_body, timestamp_body, read_date_body, pointer_body, constant, read_body, read_wrapped, code_and_scope, read, read_items, read_members, read_typed, read_scope}
use Rattle.bson_model.specs.JsonTexts.{int_of, long_of, double_of, byte_of}
use Rattle.bson_model.specs.declared.extjson.de.Error.{Error}
use Rattle.std.proofs.lemmas.Bool.{and_parts}
use Rattle.bson_base.proofs.MemberLemmas.{equal_keys}

-- ---- a result that is Ok, step by step

bind_ok : {A B : Type 0} (r : Result A Error) (f : A → Result B Error) (y : B) → (r >>= f) ≡ Ok y → (x : A) × (r ≡ Ok x) × (f x ≡ Ok y)
bind_ok (Ok x) f y h = (x, refl, h)
bind_ok (Err e) f y h = absurd (cc h)

pub wanted_ok : {A : Type 0} (o : Option A) (x : A) → some_or_error o ≡ Ok x → o ≡ Some x
wanted_ok (Some y) x h = cc h
wanted_ok None x h = absurd (cc h)

pub accepted_ok : {A E : Type 0} (r : Result A E) (x : A) → ok_or_error r ≡ Ok x → r ≡ Ok x
accepted_ok (Ok y) x h = cc h
accepted_ok (Err e) x h = absurd (cc h)

pub accepted_id_ok : {A : Type 0} (r : Result A oid.Error) (x : A) → id_or_error r ≡ Ok x → r ≡ Ok x
accepted_id_ok (Ok y) x h = cc h
accepted_id_ok (Err e) x h = absurd (cc h)

-- ---- forms of bodies

text_ok : (j : Data) (t : List ℕ) → text_of j ≡ Ok t → j ≡ text t
text_ok (text u) t h = cc h
text_ok _ t h = absurd (cc h)

single_by : (b : Bool) (k l : List ℕ) (i j : Data) → bytes_eq l k ≡ b → single k (json.member l i json.no_members) ≡ Ok j → json.member l i json.no_members ≡ json.member k j json.no_members
single_by true k l i j e h = let is : l ≡ k = equal_keys l k e in let got : i ≡ j = cc (rw e at h) in rw (is, got) refl
single_by false k l i j e h = absurd (cc (rw e at h))

single_ok : (k : List ℕ) (js : json.Members) (j : Data) → single k js ≡ Ok j → js ≡ json.member k j json.no_members
single_ok k json.no_members j h = absurd (cc h)
single_ok k (json.member l i json.no_members) j h = single_by (bytes_eq l k) k l i j refl h
single_ok k (json.member l i (json.member m d ms)) j h = absurd (cc h)

under_ok : (k : List ℕ) (i j : Data) → under k i ≡ Ok j → i ≡ object_of_one k j
under_ok k (object js) j h = ap object (single_ok k js j h)
under_ok k _ j h = absurd (cc h)

pair_by : (b : Bool) (k l m n : List ℕ) (i j : Data) (p : Data × Data) → (bytes_eq m k && bytes_eq n l) ≡ b
    → bodies_in k l (json.member m i (json.member n j json.no_members)) ≡ Ok p → json.member m i (json.member n j json.no_members) ≡ json.member k p.0 (json.member l p.1 json.no_members)
pair_by true k l m n i j p e h =
    let t = and_parts (bytes_eq m k) (bytes_eq n l) e in
    let first : m ≡ k = equal_keys m k t.0 in
    let second : n ≡ l = equal_keys n l t.1 in
    let got : (i, j) ≡ p = cc (rw e at h) in
    rw (first, second, sym got) refl
pair_by false k l m n i j p e h = absurd (cc (rw e at h))

pair_ok : (k l : List ℕ) (js : json.Members) (p : Data × Data) → bodies_in k l js ≡ Ok p → js ≡ json.member k p.0 (json.member l p.1 json.no_members)
pair_ok k l json.no_members p h = absurd (cc h)
pair_ok k l (json.member m i json.no_members) p h = absurd (cc h)
pair_ok k l (json.member m i (json.member n j json.no_members)) p h = pair_by (bytes_eq m k && bytes_eq n l) k l m n i j p refl h
pair_ok k l (json.member m i (json.member n j (json.member o d ms))) p h = absurd (cc h)

both_ok : (k l : List ℕ) (j : Data) (p : Data × Data) → bodies_under k l j ≡ Ok p → j ≡ object_of_two k p.0 l p.1
both_ok k l (object js) p h = ap object (pair_ok k l js p h)
both_ok k l _ p h = absurd (cc h)

below : (b : Bool) (m n : ℕ) → nat_lt m (2 ^ 32) ≡ b → some_or_error (u32_from (unsigned m)) ≡ Ok n → (m ≡ n) × (n < 2 ^ 32)
below true m n e h = let is : m ≡ n = cc (rw e at h) in (is, grind arith)
below false m n e h = absurd (cc (rw e at h))

u32_ok : (j : Data) (n : ℕ) → u32_of j ≡ Ok n → (j ≡ number (unsigned n)) × (n < 2 ^ 32)
u32_ok (number (unsigned m)) n h = let k = below (nat_lt m (2 ^ 32)) m n refl h in (ap (λ x. number (unsigned x)) k.0, k.1)
u32_ok _ n h = absurd (cc h)

u32_so : (n : ℕ) → n < 2 ^ 32 → u32_of (number (unsigned n)) ≡ Ok n
u32_so n h = let k : nat_lt n (2 ^ 32) ≡ true = grind arith in rw k refl

one_ok : (j : Data) → is_one j ≡ true → j ≡ number (unsigned 1)
one_ok (number (unsigned n)) h = let is : n ≡ 1 = grind arith in ap (λ x. number (unsigned x)) is
one_ok _ h = absurd (cc h)

true_ok : (j : Data) → is_true j ≡ true → j ≡ json.boolean true
true_ok (json.boolean b) h = ap json.boolean h
true_ok _ h = absurd (cc h)

constant_ok : (b : Bool) (s x : Scalar) → constant b s ≡ Ok x → (b ≡ true) × (x ≡ s)
constant_ok true s x h = (refl, cc h)
constant_ok false s x h = absurd (cc h)

-- ---- a body that is read is one of the grammar

text_body : {A : Type 0} (f : List ℕ → Result A Error) (j : Data) (x : A) → (text_of j >>= f) ≡ Ok x → (t : List ℕ) × (j ≡ text t) × (f t ≡ Ok x)
text_body f j x h = let a = bind_ok (text_of j) f x h in (a.0, text_ok j a.0 a.1, a.2)

id_so : (j : Data) (bs : List ℕ) → id_body j ≡ Ok bs → (t : List ℕ) × (j ≡ text t) × (object_id_of t ≡ Ok bs)
id_so j bs h = let a = text_body (λ t. id_or_error (object_id_of t)) j bs h in (a.0, a.1, accepted_id_ok (object_id_of a.0) bs a.2)

long_so : (j : Data) (z : ℤ) → long_body j ≡ Ok z → (t : List ℕ) × (j ≡ text t) × (long_of t ≡ Some z)
long_so j z h = let a = text_body (λ t. some_or_error (long_of t)) j z h in (a.0, a.1, wanted_ok (long_of a.0) z a.2)

regex_so : (j : Data) (s : Scalar) → read_body of_regex j ≡ Ok s → ReadsBody of_regex j s
regex_so j s h =
    let a = bind_ok (regex_body j) (λ r. Ok (regex r.0 r.1)) s h in
    let b = bind_ok (bodies_under (codes "options") (codes "pattern") j) (λ p. text_of p.0 >>= λ o. text_of p.1 >>= λ t. Ok (t, sorted_text o)) a.0 a.1 in
    let c = text_body (λ o. text_of b.0.1 >>= λ t. Ok (t, sorted_text o)) b.0.0 a.0 b.2 in
    let d = text_body (λ t. Ok (t, sorted_text c.0)) b.0.1 a.0 c.2 in
    let pair : (d.0, sorted_text c.0) ≡ a.0 = cc d.2 in
    let is : s ≡ regex a.0.0 a.0.1 = cc a.2 in
    (d.0, c.0, both_ok (codes "options") (codes "pattern") j b.0 b.1 ∙ (λ i. object_of_two (codes "options") (c.1 i) (codes "pattern") (d.1 i)), is ∙ ap (λ p. regex p.0 p.1) (sym pair))

base64_so : (u : BinarySubtype) (j : Data) (s : Scalar) → base64_body u j ≡ Ok s → (t : List ℕ) × (bs : List ℕ) × (j ≡ text t) × (decode_of standard t ≡ Ok bs) × (s ≡ binary u bs)
base64_so u j s h =
    let a = text_body (λ t. ok_or_error (decode_of standard t) >>= λ bs. Ok (binary u bs)) j s h in
    let b = bind_ok (ok_or_error (decode_of standard a.0)) (λ bs. Ok (binary u bs)) s a.2 in
    (a.0, b.0, a.1, accepted_ok (decode_of standard a.0) b.0 b.1, cc b.2)

binary_so : (j : Data) (s : Scalar) → binary_body j ≡ Ok s → ReadsBody of_binary j s
binary_so j s h =
    let a = bind_ok (bodies_under (codes "base64") (codes "subType") j) (λ p. byte_body p.1 >>= λ b. base64_body (subtype_of b) p.0) s h in
    let b = bind_ok (byte_body a.0.1) (λ b. base64_body (subtype_of b) a.0.0) s a.2 in
    let c = text_body (λ t. some_or_error (byte_of t)) a.0.1 b.0 b.1 in
    let d = base64_so (subtype_of b.0) a.0.0 s b.2 in
    (d.0, c.0, d.1, b.0, both_ok (codes "base64") (codes "subType") j a.0 a.1 ∙ (λ i. object_of_two (codes "base64") (d.2 i) (codes "subType") (c.1 i)), d.3, wanted_ok (byte_of c.0) b.0 c.2, d.4)

uuid_so : (j : Data) (s : Scalar) → uuid_body j ≡ Ok s → ReadsBody of_uuid j s
uuid_so j s h =
    let a = text_body (λ t. ok_or_error (read_uuid t) >>= λ bs. Ok (binary Uuid bs)) j s h in
    let b = bind_ok (ok_or_error (read_uuid a.0)) (λ bs. Ok (binary Uuid bs)) s a.2 in
    (a.0, b.0, a.1, accepted_ok (read_uuid a.0) b.0 b.1, cc b.2)

decimal_so : (j : Data) (s : Scalar) → read_body of_decimal j ≡ Ok s → ReadsBody of_decimal j s
decimal_so j s h =
    let a = bind_ok (decimal_body j) (λ bs. Ok (decimal bs)) s h in
    let b = text_body (λ t. ok_or_error (decimal_of t) >>= λ n. Ok (sixteen_bytes n)) j a.0 a.1 in
    let c = bind_ok (ok_or_error (decimal_of b.0)) (λ n. Ok (sixteen_bytes n)) a.0 b.2 in
    let bytes : a.0 ≡ sixteen_bytes c.0 = cc c.2 in
    let is : s ≡ decimal a.0 = cc a.2 in
    (b.0, c.0, b.1, accepted_ok (decimal_of b.0) c.0 c.1, is ∙ ap decimal bytes)

timestamp_so : (j : Data) (s : Scalar) → read_body of_timestamp j ≡ Ok s → ReadsBody of_timestamp j s
timestamp_so j s h =
    let a = bind_ok (timestamp_body j) (λ t. Ok (timestamp t.0 t.1)) s h in
    let b = bind_ok (bodies_under (codes "i") (codes "t") j) (λ p. u32_of p.0 >>= λ i. u32_of p.1 >>= λ t. Ok (t, i)) a.0 a.1 in
    let c = bind_ok (u32_of b.0.0) (λ i. u32_of b.0.1 >>= λ t. Ok (t, i)) a.0 b.2 in
    let d = bind_ok (u32_of b.0.1) (λ t. Ok (t, c.0)) a.0 c.2 in
    let i = u32_ok b.0.0 c.0 c.1 in
    let t = u32_ok b.0.1 d.0 d.1 in
    let pair : (d.0, c.0) ≡ a.0 = cc d.2 in
    let is : s ≡ timestamp a.0.0 a.0.1 = cc a.2 in
    (d.0, c.0, both_ok (codes "i") (codes "t") j b.0 b.1 ∙ (λ k. object_of_two (codes "i") (i.0 k) (codes "t") (t.0 k)), i.1, t.1, is ∙ ap (λ p. timestamp p.0 p.1) (sym pair))

date_so : (j : Data) (z : ℤ) → read_date_body j ≡ Ok z → ReadsDate j z
date_so (text t) z h = accepted_ok (date_of t) z h
date_so (number n) z h = wanted_ok (as_i64 n) z h
date_so (object js) z h =
    let a = bind_ok (single (key_of of_long) js) long_body z h in
    let b = long_so a.0 z a.2 in
    (b.0, ap object (single_ok (key_of of_long) js a.0 a.1) ∙ ap (object_of_one (key_of of_long)) b.1, b.2)
date_so _ z h = absurd (cc h)

pointer_so : (j : Data) (s : Scalar) → read_body of_pointer j ≡ Ok s → ReadsBody of_pointer j s
pointer_so j s h =
    let a = bind_ok (pointer_body j) (λ p. Ok (db_pointer p.0 p.1)) s h in
    let b = bind_ok (bodies_under (codes "$id") (codes "$ref") j) (λ p. under (key_of of_id) p.0 >>= id_body >>= λ bs. text_of p.1 >>= λ t. Ok (t, bs)) a.0 a.1 in
    let c = bind_ok (under (key_of of_id) b.0.0 >>= id_body) (λ bs. text_of b.0.1 >>= λ t. Ok (t, bs)) a.0 b.2 in
    let d = bind_ok (under (key_of of_id) b.0.0) id_body c.0 c.1 in
    let e = id_so d.0 c.0 d.2 in
    let f = text_body (λ t. Ok (t, c.0)) b.0.1 a.0 c.2 in
    let id : b.0.0 ≡ object_of_one (key_of of_id) (text e.0) = under_ok (key_of of_id) b.0.0 d.0 d.1 ∙ ap (object_of_one (key_of of_id)) e.1 in
    let pair : (f.0, c.0) ≡ a.0 = cc f.2 in
    let is : s ≡ db_pointer a.0.0 a.0.1 = cc a.2 in
    (e.0, f.0, c.0, both_ok (codes "$id") (codes "$ref") j b.0 b.1 ∙ (λ i. object_of_two (codes "$id") (id i) (codes "$ref") (f.1 i)), e.2, is ∙ ap (λ p. db_pointer p.0 p.1) (sym pair))

body_so : (r : Reserved) (j : Data) (s : Scalar) → read_body r j ≡ Ok s → ReadsBody r j s
body_so of_id j s h = let a = bind_ok (id_body j) (λ bs. Ok (object_id bs)) s h in let b = id_so j a.0 a.1 in (b.0, a.0, b.1, b.2, cc a.2)
body_so of_symbol j s h = let a = text_body (λ t. Ok (symbol t)) j s h in (a.0, a.1, cc a.2)
body_so of_regex j s h = regex_so j s h
body_so of_int j s h =
    let a = bind_ok (int_body j) (λ z. Ok (int32 z)) s h in
    let b = text_body (λ t. some_or_error (int_of t)) j a.0 a.1 in
    (b.0, a.0, b.1, wanted_ok (int_of b.0) a.0 b.2, cc a.2)
body_so of_long j s h = let a = bind_ok (long_body j) (λ z. Ok (int64 z)) s h in let b = long_so j a.0 a.1 in (b.0, a.0, b.1, b.2, cc a.2)
body_so of_double j s h = let a = bind_ok (double_body j) (λ n. Ok (double n)) s h in let b = text_body double_of j a.0 a.1 in (b.0, a.0, b.1, b.2, cc a.2)
body_so of_decimal j s h = decimal_so j s h
body_so of_binary j s h = binary_so j s h
body_so of_uuid j s h = uuid_so j s h
body_so of_code j s h = let a = text_body (λ t. Ok (code t)) j s h in (a.0, a.1, cc a.2)
body_so of_timestamp j s h = timestamp_so j s h
body_so of_date j s h = let a = bind_ok (read_date_body j) (λ z. Ok (date_time z)) s h in (a.0, date_so j a.0 a.1, cc a.2)
body_so of_min j s h = let a = constant_ok (is_one j) min_key s h in (one_ok j a.0, a.1)
body_so of_max j s h = let a = constant_ok (is_one j) max_key s h in (one_ok j a.0, a.1)
body_so of_pointer j s h = pointer_so j s h
body_so of_undefined j s h = let a = constant_ok (is_true j) undefined s h in (true_ok j a.0, a.1)

-- ---- and back

date_back : (j : Data) (z : ℤ) → ReadsDate j z → read_date_body j ≡ Ok z
date_back (text t) z h = rw h refl
date_back (number n) z h = rw h refl
date_back (object js) z h = ap read_date_body h.1 ∙ rw h.2 refl
date_back _ z h = absurd h

body_back : (r : Reserved) (j : Data) (s : Scalar) → ReadsBody r j s → read_body r j ≡ Ok s
body_back of_id j s h = rw (h.2, h.3, h.4) refl
body_back of_symbol j s h = rw (h.1, h.2) refl
body_back of_regex j s h = rw (h.2, h.3) refl
body_back of_int j s h = rw (h.2, h.3, h.4) refl
body_back of_long j s h = rw (h.2, h.3, h.4) refl
body_back of_double j s h = rw (h.2, h.3, h.4) refl
body_back of_decimal j s h = rw (h.2, h.3, h.4) refl
body_back of_binary j s h = rw (h.4, h.5, h.6, h.7) refl
body_back of_uuid j s h = rw (h.2, h.3, h.4) refl
body_back of_code j s h = rw (h.1, h.2) refl
body_back of_timestamp j s h = rw (h.2, u32_so h.1 h.3, u32_so h.0 h.4, h.5) refl
body_back of_date j s h = rw (date_back j h.0 h.1, h.2) refl
body_back of_min j s h = rw (h.0, h.1) refl
body_back of_max j s h = rw (h.0, h.1) refl
body_back of_pointer j s h = rw (h.3, h.4, h.5) refl
body_back of_undefined j s h = rw (h.0, h.1) refl

-- ---- trees

whole_ok : (o : Option ℤ) (v : Value) → whole o ≡ Ok v → (z : ℤ) × (o ≡ Some z) × (v ≡ integer z)
whole_ok (Some z) v h = (z, refl, cc h)
whole_ok None v h = absurd (cc h)

wrapped_ok : (o : Option Reserved) (j : Data) (v : Value) → read_wrapped o j ≡ Ok v → (r : Reserved) × (s : Scalar) × (o ≡ Some r) × ReadsBody r j s × (v ≡ scalar s)
wrapped_ok None j v h = absurd (cc h)
wrapped_ok (Some r) j v h = let a = bind_ok (read_body r j) (λ s. Ok (scalar s)) v h in (r, a.0, refl, body_so r j a.0 a.1, cc a.2)

abbrev TypedGoes : json.Members → Value → Type 0
TypedGoes js v = read_typed js ≡ Ok v → ReadsTyped js v

abbrev MembersGo : json.Members → Type 0
MembersGo js = (ms : Members) → read_members js ≡ Ok ms → ReadsMembers js ms

object_by : (b : Bool) (js : json.Members) (v : Value) → any_reserved js ≡ b → TypedGoes js v → MembersGo js → read (object js) ≡ Ok v → Reads (object js) v
object_by true js v e typed members h = rw e (typed (rw e at h))
object_by false js v e typed members h = rw e (let a = bind_ok (read_members js) (λ ms. Ok (document ms)) v (rw e at h) in (a.0, members a.0 a.1, cc a.2))

abbrev ScopeGoes : Data → Type 0
ScopeGoes i = (t : List ℕ) (o : Option Members) (v : Value) → read_scope i ≡ Ok o → v ≡ code_and_scope t o → ReadsScope t i v

two_by : (b : Bool) (k l : List ℕ) (j i : Data) (v : Value) → (bytes_eq k (key_of of_code) && bytes_eq l scope_key) ≡ b → ScopeGoes i
    → read_typed (json.member k j (json.member l i json.no_members)) ≡ Ok v → ReadsTyped (json.member k j (json.member l i json.no_members)) v
two_by true k l j i v e scope h =
    let keys = and_parts (bytes_eq k (key_of of_code)) (bytes_eq l scope_key) e in
    let a = text_body (λ t. read_scope i >>= λ o. Ok (code_and_scope t o)) j v (rw e at h) in
    let b = bind_ok (read_scope i) (λ o. Ok (code_and_scope a.0 o)) v a.2 in
    (a.0, equal_keys k (key_of of_code) keys.0, equal_keys l scope_key keys.1, a.1, scope a.0 b.0 v b.1 (cc b.2))
two_by false k l j i v e scope h = absurd (cc (rw e at h))

mutual
  pub reads_so : (j : Data) (v : Value) → read j ≡ Ok v → Reads j v
  reads_so json.null v h = cc h
  reads_so (json.boolean b) v h = cc h
  reads_so (number n) v h = whole_ok (as_i64 n) v h
  reads_so (text t) v h = cc h
  reads_so (json.array js) v h = let a = bind_ok (read_items js) (λ vs. Ok (array vs)) v h in (a.0, items_so js a.0 a.1, cc a.2)
  reads_so (object js) v h = object_by (any_reserved js) js v refl (typed_so js v) (members_so js) h

  items_so : (js : json.Items) (vs : Items) → read_items js ≡ Ok vs → ReadsItems js vs
  items_so json.no_items no_items h = tt
  items_so json.no_items (item v vs) h = absurd (cc h)
  items_so (json.item j js) vs h =
      let a = bind_ok (read j) (λ v. read_items js >>= λ vs. Ok (item v vs)) vs h in
      let b = bind_ok (read_items js) (λ us. Ok (item a.0 us)) vs a.2 in
      let is : vs ≡ item a.0 b.0 = cc b.2 in
      rw is (reads_so j a.0 a.1, items_so js b.0 b.1)

  pub members_so : (js : json.Members) (ms : Members) → read_members js ≡ Ok ms → ReadsMembers js ms
  members_so json.no_members no_members h = tt
  members_so json.no_members (member k v ms) h = absurd (cc h)
  members_so (json.member k j js) ms h =
      let a = bind_ok (read j) (λ v. read_members js >>= λ ms. Ok (member k v ms)) ms h in
      let b = bind_ok (read_members js) (λ us. Ok (member k a.0 us)) ms a.2 in
      let is : ms ≡ member k a.0 b.0 = cc b.2 in
      rw is (refl, reads_so j a.0 a.1, members_so js b.0 b.1)

  typed_so : (js : json.Members) (v : Value) → read_typed js ≡ Ok v → ReadsTyped js v
  typed_so json.no_members v h = absurd (cc h)
  typed_so (json.member k j json.no_members) v h = wrapped_ok (reserved_of k) j v h
  typed_so (json.member k j (json.member l i json.no_members)) v h = two_by (bytes_eq k (key_of of_code) && bytes_eq l scope_key) k l j i v refl (scope_so i) h
  typed_so (json.member k j (json.member l i (json.member m d js))) v h = absurd (cc h)

  scope_so : (i : Data) (t : List ℕ) (o : Option Members) (v : Value) → read_scope i ≡ Ok o → v ≡ code_and_scope t o → ReadsScope t i v
  scope_so json.null t o v h e = let none : o ≡ None = cc h in e ∙ ap (code_and_scope t) none
  scope_so (object js) t o v h e =
      let a = bind_ok (read_members js) (λ ms. Ok (Some ms)) o h in
      let some : o ≡ Some a.0 = cc a.2 in
      (a.0, members_so js a.0 a.1, e ∙ ap (code_and_scope t) some)
  scope_so _ t o v h e = absurd (cc h)

-- ---- and back

abbrev TypedComes : json.Members → Value → Type 0
TypedComes js v = ReadsTyped js v → read_typed js ≡ Ok v

abbrev MembersCome : json.Members → Type 0
MembersCome js = (ms : Members) → ReadsMembers js ms → read_members js ≡ Ok ms

object_back : (b : Bool) (js : json.Members) (v : Value) → any_reserved js ≡ b → TypedComes js v → MembersCome js → Reads (object js) v → read (object js) ≡ Ok v
object_back true js v e typed members h = rw e (typed (rw e at h))
object_back false js v e typed members h = let k : (ms : Members) × ReadsMembers js ms × (v ≡ document ms) = rw e at h in rw (e, members k.0 k.1) (ap Ok (sym k.2))

mutual
  pub reads_back : (j : Data) (v : Value) → Reads j v → read j ≡ Ok v
  reads_back json.null v h = rw h refl
  reads_back (json.boolean b) v h = rw h refl
  reads_back (number n) v h = rw (h.1, h.2) refl
  reads_back (text t) v h = rw h refl
  reads_back (json.array js) v h = rw (items_back js h.0 h.1, h.2) refl
  reads_back (object js) v h = object_back (any_reserved js) js v refl (typed_back js v) (members_back js) h

  items_back : (js : json.Items) (vs : Items) → ReadsItems js vs → read_items js ≡ Ok vs
  items_back json.no_items no_items h = refl
  items_back json.no_items (item v vs) h = absurd h
  items_back (json.item j js) no_items h = absurd h
  items_back (json.item j js) (item v vs) h = rw (reads_back j v h.0, items_back js vs h.1) refl

  pub members_back : (js : json.Members) (ms : Members) → ReadsMembers js ms → read_members js ≡ Ok ms
  members_back json.no_members no_members h = refl
  members_back json.no_members (member k v ms) h = absurd h
  members_back (json.member k j js) no_members h = absurd h
  members_back (json.member k j js) (member l v ms) h = rw (h.0, reads_back j v h.1, members_back js ms h.2) refl

  typed_back : (js : json.Members) (v : Value) → ReadsTyped js v → read_typed js ≡ Ok v
  typed_back json.no_members v h = absurd h
  typed_back (json.member k j json.no_members) v h = rw (h.2, body_back h.0 j h.1 h.3, h.4) refl
  typed_back (json.member k j (json.member l i json.no_members)) v h = rw (h.1, h.2, h.3) (scope_back h.0 i v h.4)
  typed_back (json.member k j (json.member l i (json.member m d js))) v h = absurd h

  scope_back : (t : List ℕ) (i : Data) (v : Value) → ReadsScope t i v → (read_scope i >>= λ o. Ok (code_and_scope t o)) ≡ Ok v
  scope_back t json.null v h = rw h refl
  scope_back t (object js) v h = rw (members_back js h.0 h.1, h.2) refl
  scope_back t (json.boolean b) v h = absurd h
  scope_back t (number n) v h = absurd h
  scope_back t (text u) v h = absurd h
  scope_back t (json.array js) v h = absurd h

pub grammar : (j : Data) (v : Value) → (read j ≡ Ok v) ↔ Reads j v
grammar j v = (reads_so j v, reads_back j v)

pub members_grammar : (js : json.Members) (ms : Members) → (read_members js ≡ Ok ms) ↔ ReadsMembers js ms
members_grammar js ms = (members_so js ms, members_back js ms)

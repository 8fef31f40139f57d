-- What bson_json_read reads under a key is what is read of the body's tree, under the keys that IsAlike names.
use Rattle.std.proofs.Common.{◌≡◌, ◌&&◌, ℕ, ℤ, Bool, true, false, List, codes, Option, Some, None, Result, Ok, Err, bytes_eq, inl, inr, refl, subst, sym, ap, ◌∙◌}
use Rattle.std.specs.Prelude.{option_and_then, option_map}
use Rattle.std.specs.Cmp.Lexicographic.{slice_cmp}
use Rattle.std.specs.Ordering.{match_ordering, nat_cmp}
use Rattle.std.specs.declared.cmp.Ordering.TheVariants.{Less, Greater}
use Rattle.std.proofs.lemmas.Bool.{and_parts}
use Rattle.base64.specs.Engines.{standard}
use Rattle.base64.specs.GeneralPurpose.{decode_of}
use Rattle.json.specs.Json as json
use Rattle.json.specs.Json.{Json}
use Rattle.serde_json.specs.Data.{Data, object, member, no_members, put, string}
use Rattle.serde_json.specs.Read.{of_json, of_members}
use Rattle.bson_base.specs.Answer.{◌>>=◌}
use Rattle.bson_base.specs.DateText.{date_of}
use Rattle.bson_base.specs.Decimal.{read as decimal_of, sixteen_bytes}
use Rattle.bson_base.specs.ObjectIdText.{object_id_of}
use Rattle.bson_base.specs.Options.{sorted_text}
use Rattle.bson_base.specs.ScalarTexts.{read_uuid}
use Rattle.bson_base.specs.Tags.{subtype_of}
use Rattle.bson_base.specs.Value.{Scalar, Value, binary, code, date_time, decimal, int32, int64, object_id, regex, scalar, symbol, timestamp}
use Rattle.bson_base.specs.declared.oid.Error as oid
use Rattle.bson_base.specs.declared.spec.BinarySubtype.TheVariants.{Uuid}
use Rattle.bson_base.proofs.MemberLemmas.{equal_keys}
use Rattle.bson_model.specs.JsonKeys.{Reserved, key_of, of_binary, of_code, of_date, of_decimal, of_double, of_id, of_int, of_long, of_max, of_min, of_pointer, of_regex, of_symbol, of_timestamp, of_undefined, of_uuid, reserved_of}
use Rattle.bson_model.specs.JsonRead as stored
use Rattle.bson_model.specs.JsonTexts.{byte_of, int_of, long_of}
use Rattle.bson_model.specs.declared.extjson.de.Error.{Error as Stored}
use Rattle.bson_json_read.specs.Outcome as outcome
use Rattle.bson_json_read.specs.Reading as full
use Rattle.bson_json_read.specs.declared.error.Error.{Error as Full}
use Rattle.store_documents.specs.Reads.{AreTwoMembers, IsAlike, ReadsUnsigned, ReadsWrapped}

-- ---- one step after the other

bind_ok : {A B : Type 0} (r : Result A Full) (f : A → Result B Full) (y : B) → (r >>= f) ≡ Ok y → (x : A) × (r ≡ Ok x) × (f x ≡ Ok y)
bind_ok (Ok x) f y h = (x, refl, h)
bind_ok (Err e) f y h = absurd (cc h)

some_alike : {A : Type 0} (o : Option A) (x : A) → outcome.some_or_error o ≡ Ok x → stored.some_or_error o ≡ Ok x
some_alike (Some y) x e = let same : y ≡ x = cc e in ap Ok same
some_alike None x e = absurd (cc e)

ok_alike : {A E : Type 0} (r : Result A E) (x : A) → outcome.ok_or_error r ≡ Ok x → stored.ok_or_error r ≡ Ok x
ok_alike (Ok y) x e = let same : y ≡ x = cc e in ap Ok same
ok_alike (Err w) x e = absurd (cc e)

id_alike : {A : Type 0} (r : Result A oid.Error) (x : A) → outcome.id_or_error r ≡ Ok x → stored.id_or_error r ≡ Ok x
id_alike (Ok y) x e = let same : y ≡ x = cc e in ap Ok same
id_alike (Err w) x e = absurd (cc e)

-- a value of what was read
made_alike : {A B E : Type 0} (r : Result A E) (k : A → B) (y : B) → (outcome.ok_or_error r >>= λ x. Ok (k x)) ≡ Ok y → (stored.ok_or_error r >>= λ x. Ok (k x)) ≡ Ok y
made_alike (Ok x) k y e = some_alike (Some (k x)) y e
made_alike (Err w) k y e = absurd (cc e)

-- ---- bodies that are texts

text_alike : {A : Type 0} (f : List ℕ → Result A Full) (g : List ℕ → Result A Stored) → ((t : List ℕ) (x : A) → f t ≡ Ok x → g t ≡ Ok x)
    → (j : Json) (x : A) → (full.text_of j >>= f) ≡ Ok x → (d : Data) × (of_json j ≡ Some d) × ((stored.text_of d >>= g) ≡ Ok x)
text_alike f g h (json.string t) x e = (string t, refl, h t x e)
text_alike f g h _ x e = absurd (cc e)

-- the same, and a scalar of what is read
named_alike : {A : Type 0} (f : List ℕ → Result A Full) (g : List ℕ → Result A Stored) → ((t : List ℕ) (x : A) → f t ≡ Ok x → g t ≡ Ok x)
    → (k : A → Scalar) (j : Json) (s : Scalar) → ((full.text_of j >>= f) >>= λ x. Ok (k x)) ≡ Ok s → (d : Data) × (of_json j ≡ Some d) × (((stored.text_of d >>= g) >>= λ x. Ok (k x)) ≡ Ok s)
named_alike f g h k j s e =
    let a = bind_ok (full.text_of j >>= f) (λ x. Ok (k x)) s e in
    let b = text_alike f g h j a.0 a.1 in
    (b.0, b.1, ap (λ r. r >>= λ x. Ok (k x)) b.2 ∙ some_alike (Some (k a.0)) s a.2)

-- ---- bodies of two keys

way_by : (b c : Bool) (k l m n : List ℕ) (i j : Json) (p : Json × Json) → (bytes_eq m k && bytes_eq n l) ≡ b → (bytes_eq m l && bytes_eq n k) ≡ c
    → full.either_way k l m i n j ≡ Ok p → AreTwoMembers k l p (json.member m i (json.member n j json.no_members))
way_by true c k l m n i j p e f h =
    let t = and_parts (bytes_eq m k) (bytes_eq n l) e in
    let first : m ≡ k = equal_keys m k t.0 in
    let second : n ≡ l = equal_keys n l t.1 in
    let got : (i, j) ≡ p = cc (rw e at h) in
    inl (rw (first, second, sym got) refl)
way_by false true k l m n i j p e f h =
    let t = and_parts (bytes_eq m l) (bytes_eq n k) f in
    let first : m ≡ l = equal_keys m l t.0 in
    let second : n ≡ k = equal_keys n k t.1 in
    let got : (j, i) ≡ p = cc (rw (e, f) at h) in
    inr (rw (first, second, sym got) refl)
way_by false false k l m n i j p e f h = absurd (cc (rw (e, f) at h))

bodies_ok : (k l : List ℕ) (js : json.Members) (p : Json × Json) → full.bodies_in k l js ≡ Ok p → AreTwoMembers k l p js
bodies_ok k l (json.member m i (json.member n j json.no_members)) p h = way_by (bytes_eq m k && bytes_eq n l) (bytes_eq m l && bytes_eq n k) k l m n i j p refl refl h
bodies_ok k l _ p h = absurd (cc h)

turned : (k l : List ℕ) (p : Json × Json) (js : json.Members) → AreTwoMembers k l p js → AreTwoMembers l k (p.1, p.0) js
turned k l p js (inl e) = inr e
turned k l p js (inr e) = inl e

-- the tree has the lesser key first, in whichever order they come
in_order : (k l : List ℕ) → slice_cmp nat_cmp k l ≡ Less → slice_cmp nat_cmp l k ≡ Greater → (p : Json × Json) (js : json.Members) → AreTwoMembers k l p js
    → (a b : Data) → of_json p.0 ≡ Some a → of_json p.1 ≡ Some b → of_json (json.object js) ≡ Some (object (member k a (member l b no_members)))
in_order k l less greater p js (inl is) a b e f =
    let tree : of_json (json.object js) ≡ Some (object (put l b (member k a no_members))) = rw (is, e, f) refl in
    tree ∙ ap (λ r. Some (object (match_ordering r (member l b (member k a no_members)) (member k b no_members) (member k a (member l b no_members))))) greater
in_order k l less greater p js (inr is) a b e f =
    let tree : of_json (json.object js) ≡ Some (object (put k a (member l b no_members))) = rw (is, f, e) refl in
    tree ∙ ap (λ r. Some (object (match_ordering r (member k a (member l b no_members)) (member l a no_members) (member l b (member k a no_members))))) less

binary_alike : (j : Json) (s : Scalar) → full.binary_body j ≡ Ok s → (d : Data) × (of_json j ≡ Some d) × (stored.binary_body d ≡ Ok s)
binary_alike (json.object js) s e =
    let a = bind_ok (full.bodies_in (codes "base64") (codes "subType") js) (λ p. full.byte_body p.1 >>= λ b. full.base64_body (subtype_of b) p.0) s e in
    let b = bind_ok (full.byte_body a.0.1) (λ n. full.base64_body (subtype_of n) a.0.0) s a.2 in
    let second = text_alike (λ t. outcome.some_or_error (byte_of t)) (λ t. stored.some_or_error (byte_of t)) (λ t. some_alike (byte_of t)) a.0.1 b.0 b.1 in
    let first = text_alike (λ t. outcome.ok_or_error (decode_of standard t) >>= λ bs. Ok (binary (subtype_of b.0) bs)) (λ t. stored.ok_or_error (decode_of standard t) >>= λ bs. Ok (binary (subtype_of b.0) bs)) (λ t. made_alike (decode_of standard t) (binary (subtype_of b.0))) a.0.0 s b.2 in (
      object (member (codes "base64") first.0 (member (codes "subType") second.0 no_members)),
      in_order (codes "base64") (codes "subType") refl refl a.0 js (bodies_ok (codes "base64") (codes "subType") js a.0 a.1) first.0 second.0 first.1 second.1,
      ap (λ r. r >>= λ n. stored.base64_body (subtype_of n) first.0) second.2 ∙ first.2,
    )
binary_alike _ s e = absurd (cc e)

-- a pattern and its options
abbrev paired : List ℕ → List ℕ → Result (List ℕ × List ℕ) Full
paired t o = Ok (t, sorted_text o)

abbrev kept : List ℕ → List ℕ → Result (List ℕ × List ℕ) Stored
kept t o = Ok (t, sorted_text o)

regex_alike : (j : Json) (s : Scalar) → full.read_body of_regex j ≡ Ok s → (d : Data) × (of_json j ≡ Some d) × (stored.read_body of_regex d ≡ Ok s)
regex_alike (json.object js) s e =
    let z = bind_ok (full.regex_body (json.object js)) (λ r. Ok (regex r.0 r.1)) s e in
    let a = bind_ok (full.bodies_in (codes "pattern") (codes "options") js) (λ p. full.text_of p.0 >>= λ t. full.text_of p.1 >>= paired t) z.0 z.1 in
    let b = bind_ok (full.text_of a.0.0) (λ t. full.text_of a.0.1 >>= paired t) z.0 a.2 in
    let pattern = text_alike (λ t. outcome.some_or_error (Some t)) (λ t. stored.some_or_error (Some t)) (λ t. some_alike (Some t)) a.0.0 b.0 (only (full.text_of a.0.0) b.0 b.1) in
    let options = text_alike (paired b.0) (kept b.0) (λ o. some_alike (Some (b.0, sorted_text o))) a.0.1 z.0 b.2 in (
      object (member (codes "options") options.0 (member (codes "pattern") pattern.0 no_members)),
      in_order (codes "options") (codes "pattern") refl refl (a.0.1, a.0.0) js (turned (codes "pattern") (codes "options") a.0 js (bodies_ok (codes "pattern") (codes "options") js a.0 a.1)) options.0 pattern.0 options.1 pattern.1,
      regex_read options.0 pattern.0 b.0 z.0 s options.2 pattern.2 (some_alike (Some (regex z.0.0 z.0.1)) s z.2),
    )
  where
    only : (r : Result (List ℕ) Full) (t : List ℕ) → r ≡ Ok t → (r >>= λ u. Ok u) ≡ Ok t
    only (Ok u) t h = h
    only (Err w) t h = h

    regex_read : (o p : Data) (t : List ℕ) (r : List ℕ × List ℕ) (s : Scalar) → (stored.text_of o >>= kept t) ≡ Ok r → (stored.text_of p >>= λ u. stored.some_or_error (Some u)) ≡ Ok t
        → stored.some_or_error (Some (regex r.0 r.1)) ≡ Ok s → ((stored.text_of o >>= λ u. stored.text_of p >>= λ v. kept v u) >>= λ q. Ok (regex q.0 q.1)) ≡ Ok s
    regex_read (string u) (string v) t r s e f g = let same : v ≡ t = cc f in let pair : (t, sorted_text u) ≡ r = cc e in rw same (ap (λ q. Ok (regex q.0 q.1)) pair ∙ g)
    regex_read (string u) _ t r s e f g = absurd (cc f)
    regex_read _ p t r s e f g = absurd (cc e)
regex_alike _ s e = absurd (cc e)

-- ---- timestamps

-- a time and its increment
abbrev timed : ℕ → ℕ → Result (ℕ × ℕ) Stored
timed i t = Ok (t, i)

timestamp_told : (js : json.Members) (p : Json × Json) (i t : ℕ) → AreTwoMembers (codes "i") (codes "t") p js → ReadsUnsigned p.0 i → ReadsUnsigned p.1 t → ReadsWrapped of_timestamp (json.object js) (scalar (timestamp t i))
timestamp_told js p i t bodies first second = (
  object (member (codes "i") first.0 (member (codes "t") second.0 no_members)),
  in_order (codes "i") (codes "t") refl refl p js bodies first.0 second.0 first.1 second.1,
  ap (λ r. stored.scalar_of ((r >>= λ m. stored.u32_of second.0 >>= timed m) >>= λ q. Ok (timestamp q.0 q.1))) first.2
      ∙ ap (λ r. stored.scalar_of ((r >>= timed i) >>= λ q. Ok (timestamp q.0 q.1))) second.2,
)

pub timestamp_read : (j : Json) (js : json.Members) (p : Json × Json) (i t : ℕ) → j ≡ json.object js → AreTwoMembers (codes "i") (codes "t") p js
    → ReadsUnsigned p.0 i → ReadsUnsigned p.1 t → ReadsWrapped of_timestamp j (scalar (timestamp t i))
timestamp_read j js p i t is bodies first second = subst (λ x. ReadsWrapped of_timestamp x (scalar (timestamp t i))) (sym is) (timestamp_told js p i t bodies first second)

-- ---- dates

single_ok : (k : List ℕ) (js : json.Members) (j : Json) → full.single k js ≡ Ok j → js ≡ json.member k j json.no_members
single_ok k (json.member l i json.no_members) j h = by (bytes_eq l k) refl h
  where
    by : (b : Bool) → bytes_eq l k ≡ b → full.single k (json.member l i json.no_members) ≡ Ok j → json.member l i json.no_members ≡ json.member k j json.no_members
    by true e h = let is : l ≡ k = equal_keys l k e in let got : i ≡ j = cc (rw e at h) in rw (is, got) refl
    by false e h = absurd (cc (rw e at h))
single_ok k _ j h = absurd (cc h)

date_alike : (j : Json) (z : ℤ) → IsAlike of_date j → full.date_body j ≡ Ok z → (d : Data) × (of_json j ≡ Some d) × (stored.read_date_body d ≡ Ok z)
date_alike (json.string t) z a e = (string t, refl, ok_alike (date_of t) z e)
date_alike (json.number t) z a e = absurd a
date_alike (json.object js) z a e =
    let b = bind_ok (full.single (key_of of_long) js) full.long_body z e in
    let is = single_ok (key_of of_long) js b.0 b.1 in
    let c = text_alike (λ t. outcome.some_or_error (long_of t)) (λ t. stored.some_or_error (long_of t)) (λ t. some_alike (long_of t)) b.0 z b.2 in (
      object (member (key_of of_long) c.0 no_members),
      ap (λ ms. option_map object (of_members ms no_members)) is ∙ ap (λ o. option_map object (option_and_then (λ d. Some (put (key_of of_long) d no_members)) o)) c.1,
      c.2,
    )
date_alike _ z a e = absurd (cc e)

-- ---- one value

body_alike : (r : Reserved) (j : Json) (s : Scalar) → IsAlike r j → full.read_body r j ≡ Ok s → (d : Data) × (of_json j ≡ Some d) × (stored.read_body r d ≡ Ok s)
body_alike of_id j s a e = named_alike (λ t. outcome.id_or_error (object_id_of t)) (λ t. stored.id_or_error (object_id_of t)) (λ t. id_alike (object_id_of t)) object_id j s e
body_alike of_symbol j s a e = text_alike (λ t. outcome.some_or_error (Some (symbol t))) (λ t. stored.some_or_error (Some (symbol t))) (λ t. some_alike (Some (symbol t))) j s e
body_alike of_regex j s a e = regex_alike j s e
body_alike of_int j s a e = named_alike (λ t. outcome.some_or_error (int_of t)) (λ t. stored.some_or_error (int_of t)) (λ t. some_alike (int_of t)) int32 j s e
body_alike of_long j s a e = named_alike (λ t. outcome.some_or_error (long_of t)) (λ t. stored.some_or_error (long_of t)) (λ t. some_alike (long_of t)) int64 j s e
body_alike of_double j s a e = absurd a
body_alike of_decimal j s a e = named_alike (λ t. outcome.ok_or_error (decimal_of t) >>= λ n. Ok (sixteen_bytes n)) (λ t. stored.ok_or_error (decimal_of t) >>= λ n. Ok (sixteen_bytes n)) (λ t. made_alike (decimal_of t) sixteen_bytes) decimal j s e
body_alike of_binary j s a e = binary_alike j s e
body_alike of_uuid j s a e = text_alike (λ t. outcome.ok_or_error (read_uuid t) >>= λ bs. Ok (binary Uuid bs)) (λ t. stored.ok_or_error (read_uuid t) >>= λ bs. Ok (binary Uuid bs)) (λ t. made_alike (read_uuid t) (binary Uuid)) j s e
body_alike of_code j s a e = text_alike (λ t. outcome.some_or_error (Some (code t))) (λ t. stored.some_or_error (Some (code t))) (λ t. some_alike (Some (code t))) j s e
body_alike of_timestamp j s a e = absurd a
body_alike of_date j s a e =
    let b = bind_ok (full.date_body j) (λ z. Ok (date_time z)) s e in
    let c = date_alike j b.0 a b.1 in
    (c.0, c.1, ap (λ r. r >>= λ z. Ok (date_time z)) c.2 ∙ some_alike (Some (date_time b.0)) s b.2)
body_alike of_min j s a e = absurd a
body_alike of_max j s a e = absurd a
body_alike of_pointer j s a e = absurd a
body_alike of_undefined j s a e = absurd a

pub wrapped_alike : (k : List ℕ) (r : Reserved) (j : Json) (v : Value) → IsAlike r j → full.read_wrapped (reserved_of k) j ≡ Ok v → reserved_of k ≡ Some r → ReadsWrapped r j v
wrapped_alike k r j v a e reserved =
    let b = bind_ok (full.read_body r j) (λ s. Ok (scalar s)) v (ap (λ o. full.read_wrapped o j) (sym reserved) ∙ e) in
    let c = body_alike r j b.0 a b.1 in
    (c.0, c.1, ap stored.scalar_of c.2 ∙ some_alike (Some (scalar b.0)) v b.2)

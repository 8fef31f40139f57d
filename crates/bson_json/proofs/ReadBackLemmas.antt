-- Each form is read as the value, settled.
use Rattle.std.proofs.Common.{◌≡◌, ℕ, ◌<◌, ◌^◌, ℤ, pos, List, Bool, true, false, cond, if◌then◌else◌, Option, Some, None, Result, Ok, refl, ap, ◌∙◌, sym, subst, arith}
use Rattle.std.specs.Prelude.{◌||◌, bytes_eq, decimal as decimal_text_of, IsUtf8}
use Rattle.std.specs.Fmt.{signed_decimal}
use Rattle.std.proofs.lemmas.Bool.{or_parts}
use Rattle.base64.specs.GeneralPurpose.{encode_of}
use Rattle.base64.specs.Engines.{standard}
use Rattle.json.specs.Json as json
use Rattle.json.specs.Json.{Json, number, object}
use Rattle.bson_json_read.specs.DoubleText.{IsDoubleText, is_finite, settled}
use Rattle.bson_json_read.proofs.DoubleLemmas.{read_again}
use Rattle.bson_base.specs.Answer.{◌>>=◌}
use Rattle.bson_base.specs.DateText.{valid}
use Rattle.bson_base.specs.Dates.{date_text}
use Rattle.bson_base.specs.Decimal.{number_of, sixteen_bytes, unpack, decimal_text}
use Rattle.bson_base.specs.Kinds.{AreBytes, IsRangedScalar, IsSound}
use Rattle.bson_base.specs.Options.{sorted_text}
use Rattle.bson_base.specs.Tags.{subtype_of, subtype_byte}
use Rattle.bson_base.specs.Value.{Scalar, double, string, binary, undefined, object_id, boolean, date_time, null, regex, db_pointer, code, symbol, int32, timestamp, int64, decimal, max_key, min_key, Value, scalar, array, document, scoped_code, Items, no_items, item, Members, no_members, member, look_up, put, EachPart, EachItem, EachMember, HasDistinctKeys, ItemsHaveDistinctKeys, MembersHaveDistinctKeys}
use Rattle.bson_base.proofs.DecimalBitsLemmas.{unpack_is}
use Rattle.bson_base.proofs.MemberLemmas.{equal_keys, headed, later, not_first, look_up-put}
use Rattle.bson_model.specs.JsonKeys.{is_reserved, reserved_of, of_code, of_date, of_decimal, of_double, of_int, of_long, of_max, of_min, of_symbol, of_undefined}
use Rattle.bson_model.specs.JsonRead.{code_and_scope, integer}
use Rattle.bson_model.specs.JsonTexts.{fits_32, long_of}
use Rattle.bson_model.specs.JsonWrite.{is_relaxed_date}
use Rattle.bson_model.specs.declared.extjson.ser.Mode.{Mode}
use Rattle.bson_model.specs.declared.extjson.ser.Mode.TheVariants.{Canonical, Relaxed}
use Rattle.bson_model.proofs.JsonTextsLemmas.{fits_32_so}
use Rattle.bson_meaning.specs.Forms.{normal_decimal}
use Rattle.bson_meaning.specs.JsonReserved.{some_reserved, reserved_in, reserved_in_items, has_reserved}
use Rattle.bson_meaning.proofs.JsonReadBackLemmas.{byte_back, id_back, long_back, int_back, wider, decimal_back, base64_back}
use Rattle.bson_meaning.proofs.NormalScalarLemmas.{sorted_text_twice}
use Rattle.bson_json.specs.Form as form
use Rattle.bson_json.specs.Form.{Writes, WritesScalar, WritesItems, WritesMembers}
use Rattle.bson_json_read.specs.Outcome.{scalar_of, some_or_error, ok_or_error, id_or_error, constant}
use Rattle.bson_json_read.specs.Reading.{add, any_reserved, base64_body, below_32, is_one, nearest, read, read_items, read_members, read_top, read_typed, u32_body, whole}
use Rattle.bson_json_read.specs.declared.error.Error.{Error}
use Rattle.bson_json.proofs.DateBackLemmas.{relaxed_back}
use Rattle.bson_json.proofs.WholeNumberLemmas.{numeral_is_marked, long_is_whole}
use Rattle.bson_json.specs.Settled.{settled_long, settled_scalar, settle, settle_items, settle_members}

-- ---- scalars

read_double : (n : ℕ) (t : List ℕ) → n < 2 ^ 64 → IsDoubleText n t → read (form.text_wrapper of_double t) ≡ Ok (scalar (double (settled n)))
unfolding reserved_of
read_double n t h w = ap (λ o. scalar_of (some_or_error o >>= λ x. Ok (double x))) (read_again n t h w)

read_binary : (b : ℕ) (bs : List ℕ) → b < 256 → AreBytes bs → read (form.binary_form b bs) ≡ Ok (scalar (binary (subtype_of b) bs))
unfolding reserved_of
read_binary b bs h k = ap (λ o. scalar_of (some_or_error o >>= λ c. base64_body (subtype_of c) (json.string (encode_of standard bs)))) (byte_back b h)
    ∙ ap (λ r. scalar_of (ok_or_error r >>= λ x. Ok (binary (subtype_of b) x))) (base64_back bs k)

read_id : (bs : List ℕ) → IsRangedScalar (object_id bs) → read (form.id_form bs) ≡ Ok (scalar (object_id bs))
unfolding reserved_of
read_id bs h = ap (λ r. scalar_of (id_or_error r >>= λ x. Ok (object_id x))) (id_back bs h.0 h.1)

abbrev named : List ℕ → List ℕ → Result (List ℕ × List ℕ) Error
named t bs = Ok (t, bs)

read_pointer : (t bs : List ℕ) → IsRangedScalar (db_pointer t bs) → read (form.pointer_form t bs) ≡ Ok (scalar (db_pointer t bs))
unfolding reserved_of
read_pointer t bs h = ap (λ r. scalar_of ((id_or_error r >>= named t) >>= λ p. Ok (db_pointer p.0 p.1))) (id_back bs h.1 h.2)

read_regex : (p o : List ℕ) → IsUtf8 o → read (form.regex_form p o) ≡ Ok (scalar (regex p (sorted_text o)))
unfolding reserved_of
read_regex p o h = ap (λ q. Ok (scalar (regex p q))) (sorted_text_twice o h)

read_int : (z : ℤ) → IsRangedScalar (int32 z) → read (form.integer_form Canonical of_int z) ≡ Ok (scalar (int32 z))
unfolding reserved_of
read_int z h = ap (λ o. scalar_of (some_or_error o >>= λ x. Ok (int32 x))) (int_back z h)

read_long : (z : ℤ) → IsRangedScalar (int64 z) → read (form.integer_form Canonical of_long z) ≡ Ok (scalar (int64 z))
unfolding reserved_of
read_long z h = ap (λ o. scalar_of (some_or_error o >>= λ x. Ok (int64 x))) (long_back z h)

read_date : (z : ℤ) → IsRangedScalar (date_time z) → read (form.date_form Canonical z) ≡ Ok (scalar (date_time z))
unfolding reserved_of
read_date z h = ap (λ o. scalar_of (some_or_error o >>= λ x. Ok (date_time x))) (long_back z h)

read_decimal : (bs : List ℕ) → read (form.text_wrapper of_decimal (decimal_text bs)) ≡ Ok (scalar (decimal (normal_decimal bs)))
unfolding reserved_of normal_decimal
read_decimal bs = ap (λ r. scalar_of ((ok_or_error r >>= λ n. Ok (sixteen_bytes n)) >>= λ x. Ok (decimal x))) (decimal_back (unpack (number_of bs)) (unpack_is (number_of bs)))

small_back : (n : ℕ) → n < 2 ^ 32 → long_of (decimal_text_of n) ≡ Some (pos n)
small_back n h = long_back (pos n) (omega arith)

below_back : (n : ℕ) → n < 2 ^ 32 → below_32 (pos n) ≡ Ok n
below_back n h = grind arith

u32_back : (n : ℕ) → n < 2 ^ 32 → u32_body (number (decimal_text_of n)) ≡ Ok n
u32_back n h = ap (λ o. some_or_error o >>= below_32) (small_back n h) ∙ below_back n h

abbrev timed : ℕ → ℕ → Result (ℕ × ℕ) Error
timed t i = Ok (t, i)

read_timestamp : (t i : ℕ) → IsRangedScalar (timestamp t i) → read (form.timestamp_form t i) ≡ Ok (scalar (timestamp t i))
unfolding reserved_of
read_timestamp t i h =
    ap (λ (r : Result ℕ Error). scalar_of ((r >>= λ x. u32_body (number (decimal_text_of i)) >>= timed x) >>= λ p. Ok (timestamp p.0 p.1))) (u32_back t h.0)
    ∙ ap (λ (r : Result ℕ Error). scalar_of ((r >>= timed t) >>= λ p. Ok (timestamp p.0 p.1))) (u32_back i h.1)

read_max : read (form.wrapper_of of_max form.one_form) ≡ Ok (scalar max_key)
unfolding reserved_of
read_max = ap (λ o. scalar_of (constant (is_one o) max_key)) (small_back 1 (omega arith))

read_min : read (form.wrapper_of of_min form.one_form) ≡ Ok (scalar min_key)
unfolding reserved_of
read_min = ap (λ o. scalar_of (constant (is_one o) min_key)) (small_back 1 (omega arith))

read_undefined : read (form.wrapper_of of_undefined (json.boolean true)) ≡ Ok (scalar undefined)
unfolding reserved_of
read_undefined = refl

read_code : (t : List ℕ) → read (form.text_wrapper of_code t) ≡ Ok (scalar (code t))
unfolding reserved_of
read_code t = refl

read_symbol : (t : List ℕ) → read (form.text_wrapper of_symbol t) ≡ Ok (scalar (symbol t))
unfolding reserved_of
read_symbol t = refl

-- ---- the two forms

-- relaxed form
plain_double : (n : ℕ) (t : List ℕ) → n < 2 ^ 64 → is_finite n ≡ true → IsDoubleText n t → read (number t) ≡ Ok (scalar (double (settled n)))
plain_double n t h f w = rw (numeral_is_marked n t f w) (ap nearest (read_again n t h w))

relaxed_double : (n : ℕ) (t : List ℕ) (b : Bool) → n < 2 ^ 64 → is_finite n ≡ b → IsDoubleText n t → read (if b then number t else form.text_wrapper of_double t) ≡ Ok (scalar (double (settled n)))
relaxed_double n t true h f w = plain_double n t h f w
relaxed_double n t false h f w = read_double n t h w

form_double : (m : Mode) (n : ℕ) (t : List ℕ) → n < 2 ^ 64 → IsDoubleText n t → read (form.double_form m n t) ≡ Ok (scalar (double (settled n)))
form_double Canonical n t h w = read_double n t h w
form_double Relaxed n t h w = relaxed_double n t (is_finite n) h refl w

plain_long : (z : ℤ) → IsRangedScalar (int64 z) → read (number (signed_decimal z)) ≡ Ok (integer z)
plain_long z h =
    let e = long_back z h in
    rw (long_is_whole (signed_decimal z) z e) (ap whole e)

form_int : (m : Mode) (z : ℤ) → IsRangedScalar (int32 z) → read (form.integer_form m of_int z) ≡ Ok (scalar (int32 z))
form_int Canonical z h = read_int z h
form_int Relaxed z h = plain_long z (wider z h) ∙ rw (fits_32_so z h) refl

narrowed : (z : ℤ) (b : Bool) → (if b then scalar (int32 z) else scalar (int64 z)) ≡ scalar (if b then int32 z else int64 z)
narrowed z true = refl
narrowed z false = refl

form_long : (m : Mode) (z : ℤ) → IsRangedScalar (int64 z) → read (form.integer_form m of_long z) ≡ Ok (scalar (settled_long m z))
form_long Canonical z h = read_long z h
form_long Relaxed z h = plain_long z h ∙ ap Ok (narrowed z (fits_32 z))

-- a moment from 1970 to 9999 is written as its date text
text_date : (z : ℤ) (b : Bool) → IsRangedScalar (date_time z) → is_relaxed_date z ≡ b → read (form.wrapper_of of_date (if b then json.string (date_text z) else form.millis_form z)) ≡ Ok (scalar (date_time z))
unfolding reserved_of
text_date z true h e = ap (λ r. scalar_of (ok_or_error (valid r) >>= λ x. Ok (date_time x))) (relaxed_back z e)
text_date z false h e = read_date z h

form_date : (m : Mode) (z : ℤ) → IsRangedScalar (date_time z) → read (form.date_form m z) ≡ Ok (scalar (date_time z))
form_date Canonical z h = read_date z h
form_date Relaxed z h = text_date z (is_relaxed_date z) h refl

scalar_back : (m : Mode) (s : Scalar) → IsRangedScalar s → (j : Json) → WritesScalar m s j → read j ≡ Ok (scalar (settled_scalar m s))
scalar_back m (double x) h j w = ap read w.2 ∙ form_double m x w.0 h w.1
scalar_back m (string t) h j w = ap read w
scalar_back m (binary s bs) h j w = ap read w ∙ read_binary (subtype_byte s) bs h.0 h.1
scalar_back m undefined h j w = ap read w ∙ read_undefined
scalar_back m (object_id bs) h j w = ap read w ∙ read_id bs h
scalar_back m (boolean b) h j w = ap read w
scalar_back m (date_time z) h j w = ap read w ∙ form_date m z h
scalar_back m null h j w = ap read w
scalar_back m (regex p o) h j w = ap read w ∙ read_regex p o h.1
scalar_back m (db_pointer t bs) h j w = ap read w ∙ read_pointer t bs h
scalar_back m (code t) h j w = ap read w ∙ read_code t
scalar_back m (symbol t) h j w = ap read w ∙ read_symbol t
scalar_back m (int32 z) h j w = ap read w ∙ form_int m z h
scalar_back m (timestamp t i) h j w = ap read w ∙ read_timestamp t i h
scalar_back m (int64 z) h j w = ap read w ∙ form_long m z h
scalar_back m (decimal bs) h j w = ap read w ∙ read_decimal bs
scalar_back m max_key h j w = ap read w ∙ read_max
scalar_back m min_key h j w = ap read w ∙ read_min

-- ---- members, one after the other

abbrev join : Members → Members → Members
join no_members ns = ns
join (member k v ms) ns = member k v (join ms ns)

join_more : (a : Members) (k : List ℕ) (v : Value) (b : Members) → join (join a (member k v no_members)) b ≡ join a (member k v b)
join_more no_members k v b = refl
join_more (member l w a) k v b = ap (member l w) (join_more a k v b)

join_none : (ms : Members) → join ms no_members ≡ ms
join_none no_members = refl
join_none (member k v ms) = ap (member k v) (join_none ms)

put_new : (k : List ℕ) (v : Value) (ms : Members) → look_up k ms ≡ None → put k v ms ≡ join ms (member k v no_members)
put_new k v no_members h = refl
put_new k v (member l w ms) h =
    let n = not_first k l w ms h in
    rw n.0 (ap (member l w) (put_new k v ms n.1))

-- no key of the members is among those found
abbrev AreNew : Members → Members → Type 0
AreNew ms found = (q : List ℕ) (u : Value) → look_up q ms ≡ Some u → look_up q found ≡ None

none_some : {A : Type 0} (o : Option Value) (u : Value) → o ≡ None → o ≡ Some u → A
none_some o u h k = let e : Some u ≡ None = sym k ∙ h in absurd (cc e)

still_new : (k : List ℕ) (v w : Value) (ms found : Members) → look_up k ms ≡ None → AreNew (member k v ms) found → AreNew ms (put k w found)
still_new k v w ms found d new q u h = look_up-put q k w found ∙ by (bytes_eq q k) refl
  where
    by : (b : Bool) → bytes_eq q k ≡ b → cond b (Some w) (look_up q found) ≡ None
    by true e = none_some (look_up k ms) u d (subst (λ l. look_up l ms ≡ Some u) (equal_keys q k e) h)
    by false e = new q u (later q k v u ms d h)

any_written : (m : Mode) (ms : Members) (js : json.Members) → WritesMembers m ms js → any_reserved js ≡ some_reserved ms
any_written m no_members json.no_members w = refl
any_written m no_members (json.member l j js) w = absurd w
any_written m (member k v ms) json.no_members w = absurd w
any_written m (member k v ms) (json.member l j js) w = rw w.0 (ap (λ b. is_reserved l || b) (any_written m ms js w.2))

scope_reads : (t : List ℕ) (js : json.Members) (ms : Members) → read_members js no_members ≡ Ok ms → read (form.scope_form t js) ≡ Ok (scoped_code t ms)
unfolding reserved_of
scope_reads t js ms e = ap (λ (r : Result Members Error). (r >>= λ ns. Ok (Some ns)) >>= λ o. Ok (code_and_scope t o)) e

document_reads : (js : json.Members) (ms : Members) → any_reserved js ≡ false → read_members js no_members ≡ Ok ms → read (object js) ≡ Ok (document ms)
document_reads js ms n e =
    ap (λ b. if b then read_typed js else (read_members js no_members >>= λ ns. Ok (document ns))) n
    ∙ ap (λ (r : Result Members Error). r >>= λ ns. Ok (document ns)) e

-- a new key is put last
added : (k : List ℕ) (v : Value) (found : Members) → look_up k found ≡ None → add k v found ≡ Ok (put k v found)
added k v found h = rw h refl

mutual
  pub value_back : (m : Mode) (K : List ℕ → Type 0) (v : Value) → EachPart K IsRangedScalar v → HasDistinctKeys v → reserved_in v ≡ false → (j : Json) → Writes m v j → read j ≡ Ok (settle m v)
  value_back m K (scalar s) h d r j w = scalar_back m s h j w
  value_back m K (array vs) h d r j w = ap read w.2 ∙ ap (λ (q : Result Items Error). q >>= λ us. Ok (array us)) (items_back m K vs h d r w.0 w.1)
  value_back m K (document ms) h d r j w =
      let o = or_parts (some_reserved ms) (has_reserved ms) r in
      ap read w.2 ∙ document_reads w.0 (settle_members m ms) (any_written m ms w.0 w.1 ∙ o.0) (members_back m K ms h d o.1 no_members (λ q u e. refl) w.0 w.1)
  value_back m K (scoped_code t ms) h d r j w = ap read w.2 ∙ scope_reads t w.0 (settle_members m ms) (members_back m K ms h.1 d r no_members (λ q u e. refl) w.0 w.1)

  items_back : (m : Mode) (K : List ℕ → Type 0) (vs : Items) → EachItem K IsRangedScalar vs → ItemsHaveDistinctKeys vs → reserved_in_items vs ≡ false → (js : json.Items) → WritesItems m vs js → read_items js ≡ Ok (settle_items m vs)
  items_back m K no_items h d r json.no_items w = refl
  items_back m K no_items h d r (json.item j js) w = absurd w
  items_back m K (item v vs) h d r json.no_items w = absurd w
  items_back m K (item v vs) h d r (json.item j js) w =
      let o = or_parts (reserved_in v) (reserved_in_items vs) r in
      ap (λ (q : Result Value Error). q >>= λ u. read_items js >>= λ us. Ok (item u us)) (value_back m K v h.0 d.0 o.0 j w.0)
      ∙ ap (λ (q : Result Items Error). q >>= λ us. Ok (item (settle m v) us)) (items_back m K vs h.1 d.1 o.1 js w.1)

  pub members_back : (m : Mode) (K : List ℕ → Type 0) (ms : Members) → EachMember K IsRangedScalar ms → MembersHaveDistinctKeys ms → has_reserved ms ≡ false
      → (found : Members) → AreNew ms found → (js : json.Members) → WritesMembers m ms js → read_members js found ≡ Ok (join found (settle_members m ms))
  members_back m K no_members h d r found new json.no_members w = ap Ok (sym (join_none found))
  members_back m K no_members h d r found new (json.member l j js) w = absurd w
  members_back m K (member k v ms) h d r found new json.no_members w = absurd w
  members_back m K (member k v ms) h d r found new (json.member l j js) w =
      let o = or_parts (reserved_in v) (has_reserved ms) r in
      let free = new k v (headed k v ms) in
      ap (λ (q : Result Value Error). q >>= λ u. add l u found >>= λ more. read_members js more) (value_back m K v h.1 d.1 o.0 j w.1)
      ∙ ap (λ i. add i (settle m v) found >>= λ more. read_members js more) (sym w.0)
      ∙ ap (λ (q : Result Members Error). q >>= λ more. read_members js more) (added k (settle m v) found free)
      ∙ members_back m K ms h.2 d.2 o.1 (put k (settle m v) found) (still_new k v (settle m v) ms found d.0 new) js w.2
      ∙ ap (λ (a : Members). Ok (join a (settle_members m ms))) (put_new k (settle m v) found free)
      ∙ ap Ok (join_more found k (settle m v) (settle_members m ms))

pub top_back : (m : Mode) (ms : Members) (j : Json) → IsSound (document ms) → has_reserved ms ≡ false → Writes m (document ms) j → read_top j ≡ Ok (settle_members m ms)
top_back m ms j s r w = ap read_top w.2 ∙ members_back m _ ms s.ranged s.distinct r no_members (λ q u e. refl) w.0 w.1

-- A canonical tree reads as a value of the same meaning.
use Rattle.std.proofs.Common.{suc, max, ◌≤◌, lit≤, arith, ◌≡◌, ℕ, ◌<◌, ◌^◌, ◌==◌, List, ◌++◌, Bool, true, false, cond, if◌then◌else◌, Option, Some, None, Result, Ok, Err, refl, ap, ◌∙◌, sym, subst, ◌↔◌}
use Rattle.std.specs.Prelude.{◌||◌, bytes_eq, codes, option_map, option_and_then, IsUtf8}
use Rattle.std.specs.declared.cmp.Ordering.TheVariants.{Less, Equal, Greater}
use Rattle.std.specs.Ordering.{match_ordering}
use Rattle.std.proofs.lemmas.Bool.{eqb-true, leb-true, leb-false, and_parts, or_parts}
use Rattle.serde_json.specs.Data as json
use Rattle.serde_json.specs.Data.{Data, object}
use Rattle.base64.specs.GeneralPurpose.{encode_of}
use Rattle.base64.specs.Engines.{standard}
use Rattle.bson_base.specs.Decimal.{number_of, sixteen_bytes, unpack, minus_if, decimal_text}
use Rattle.bson_base.specs.Doubles.{exponent, fraction, is_nan, is_infinite, is_zero, is_negative}
use Rattle.bson_base.specs.Kinds.{AreBytes, HasNo00, IsPlainScalar, IsRangedScalar, IsPlain, IsSound}
use Rattle.bson_base.specs.Options.{sorted_text}
use Rattle.bson_base.specs.Tags.{subtype_of, subtype_byte}
use Rattle.bson_base.specs.Value.{Scalar, double, string, binary, undefined, object_id, boolean, date_time, null, regex, db_pointer, code, symbol, int32, timestamp, int64, decimal, max_key, min_key, Value, scalar, array, document, scoped_code, Items, no_items, item, Members, no_members, member, look_up, levels, items_levels, members_levels, EachPart, EachItem, EachMember, HasDistinctKeys, ItemsHaveDistinctKeys, MembersHaveDistinctKeys}
use Rattle.bson_base.proofs.DecimalBitsLemmas.{unpack_is}
use Rattle.bson_model.specs.JsonKeys.{any_reserved, is_reserved, reserved_of, of_decimal, of_double}
use Rattle.bson_base.specs.Answer.{◌>>=◌}
use Rattle.bson_model.specs.JsonRead.{read, read_items, read_members, read_typed, scalar_of, some_or_error, ok_or_error, id_or_error, base64_body, below_32}
use Rattle.bson_model.specs.JsonRead as reading
use Rattle.bson_model.specs.JsonTexts.{double_of}
use Rattle.bson_model.specs.JsonWrite.{double_text, text_wrapper, with_scope, write, write_binary, write_date, write_id, write_integer, write_items, write_members, write_pointer, write_regex, write_scalar, write_timestamp}
use Rattle.bson_model.specs.JsonKeys.{of_int, of_long}
use Rattle.bson_model.specs.declared.extjson.de.Error.{Error}
use Rattle.bson_model.specs.declared.extjson.ser.Mode.TheVariants.{Canonical}
use Rattle.bson_meaning.specs.JsonReserved.{some_reserved, reserved_in, reserved_in_items, has_reserved}
use Rattle.bson_meaning.specs.Forms.{normal_double, normal_decimal}
use Rattle.bson_meaning.specs.declared.scalars.Zeros.TheVariants.{Joined}
use Rattle.bson_meaning.specs.Meaning.{norm_members_in_order, norm_items_in_order, norm_in_order, norm_members, normal_scalar, place, Same}
use Rattle.bson_meaning.proofs.DecimalLemmas.{normal_decimal_twice}
use Rattle.bson_meaning.proofs.JsonReadBackLemmas.{byte_back, id_back, long_back, int_back, decimal_back, base64_back, zero_back, infinity_back, negative_infinity_back, nan_back, negative_nan_back}
use Rattle.bson_meaning.proofs.JsonSameLemmas.{quiet, zero_or_infinite, or_turned, or_twice, write_same}
use Rattle.bson_meaning.proofs.NormalLemmas.{place_each}
use Rattle.bson_meaning.proofs.NormalScalarLemmas.{sorted_text_twice, normal_double_twice}
use Rattle.bson_meaning.proofs.OrderLemmas.{Order, tied, ascending_asc, look_up-place, same_members}
use Rattle.bson_bytes.proofs.MeaningLemmas.{subtype_back}
use Rattle.bson_bytes.proofs.OptionsLemmas.{text_sorted, no_zero_sorted}
use Rattle.bson_base.proofs.MemberLemmas.{equal_keys}
use Rattle.bson_meaning.proofs.PairwiseLemmas.{levels_place}
use Rattle.bson_meaning.proofs.NowLemmas.{look_up-in_order, same_in_order}

-- ---- scalars

read_binary : (b : ℕ) (bs : List ℕ) → b < 256 → AreBytes bs → read (write_binary b bs) ≡ Ok (scalar (binary (subtype_of b) bs))
unfolding reserved_of
read_binary b bs h k = ap (λ o. scalar_of (some_or_error o >>= λ c. base64_body (subtype_of c) (json.string (encode_of standard bs)))) (byte_back b h)
    ∙ ap (λ r. scalar_of (ok_or_error r >>= λ x. Ok (binary (subtype_of b) x))) (base64_back bs k)

read_id : (bs : List ℕ) → IsRangedScalar (object_id bs) → read (write_id bs) ≡ Ok (scalar (object_id bs))
unfolding reserved_of
read_id bs h = ap (λ r. scalar_of (id_or_error r >>= λ x. Ok (object_id x))) (id_back bs h.0 h.1)

abbrev named : List ℕ → List ℕ → Result (List ℕ × List ℕ) Error
named t bs = Ok (t, bs)

read_pointer : (t bs : List ℕ) → IsRangedScalar (db_pointer t bs) → read (write_pointer t bs) ≡ Ok (scalar (db_pointer t bs))
unfolding reserved_of
read_pointer t bs h = ap (λ r. scalar_of ((id_or_error r >>= named t) >>= λ p. Ok (db_pointer p.0 p.1))) (id_back bs h.1 h.2)

read_regex : (p o : List ℕ) → read (write_regex p o) ≡ Ok (scalar (regex p (sorted_text (sorted_text o))))
unfolding reserved_of
read_regex p o = refl

read_int : (z : _) → IsRangedScalar (int32 z) → read (write_integer Canonical of_int z) ≡ Ok (scalar (int32 z))
unfolding reserved_of
read_int z h = ap (λ o. scalar_of (some_or_error o >>= λ x. Ok (int32 x))) (int_back z h)

read_long : (z : _) → IsRangedScalar (int64 z) → read (write_integer Canonical of_long z) ≡ Ok (scalar (int64 z))
unfolding reserved_of
read_long z h = ap (λ o. scalar_of (some_or_error o >>= λ x. Ok (int64 x))) (long_back z h)

read_date : (z : _) → IsRangedScalar (date_time z) → read (write_date Canonical z) ≡ Ok (scalar (date_time z))
unfolding reserved_of
read_date z h = ap (λ o. scalar_of (some_or_error o >>= λ x. Ok (date_time x))) (long_back z h)

below_back : (n : ℕ) → n < 2 ^ 32 → below_32 n ≡ Some n
below_back n h = grind arith

abbrev timed : ℕ → ℕ → Result (ℕ × ℕ) Error
timed i t = Ok (t, i)

read_timestamp : (t i : ℕ) → IsRangedScalar (timestamp t i) → read (write_timestamp t i) ≡ Ok (scalar (timestamp t i))
unfolding reserved_of
read_timestamp t i h =
    ap (λ o. scalar_of ((some_or_error o >>= λ x. some_or_error (below_32 t) >>= timed x) >>= λ p. Ok (timestamp p.0 p.1))) (below_back i h.1)
    ∙ ap (λ o. scalar_of ((some_or_error o >>= timed i) >>= λ p. Ok (timestamp p.0 p.1))) (below_back t h.0)

read_decimal : (bs : List ℕ) → read (text_wrapper of_decimal (decimal_text bs)) ≡ Ok (scalar (decimal (normal_decimal bs)))
unfolding reserved_of normal_decimal
read_decimal bs = ap (λ r. scalar_of ((ok_or_error r >>= λ n. Ok (sixteen_bytes n)) >>= λ x. Ok (decimal x))) (decimal_back (unpack (number_of bs)) (unpack_is (number_of bs)))

-- ---- doubles

nan_signed : (c : Bool) → double_of (minus_if c ++ codes "NaN") ≡ Ok (quiet c)
nan_signed true = negative_nan_back
nan_signed false = nan_back

infinity_signed : (c : Bool) → double_of (minus_if c ++ codes "Infinity") ≡ Ok (if c then 0xFFF0_0000_0000_0000 else 0x7FF0_0000_0000_0000)
infinity_signed true = negative_infinity_back
infinity_signed false = infinity_back

infinity_is : (n : ℕ) → n < 2 ^ 64 → is_infinite n ≡ true → (if is_negative n then 0xFFF0_0000_0000_0000 else 0x7FF0_0000_0000_0000) ≡ n
infinity_is n h e = by (is_negative n) refl
  where
    by : (c : Bool) → is_negative n ≡ c → (if c then 0xFFF0_0000_0000_0000 else 0x7FF0_0000_0000_0000) ≡ n
    by true k =
        let p = and_parts (exponent n == 2047) (fraction n == 0) e in
        let i = eqb-true (exponent n) 2047 p.0 in let j = eqb-true (fraction n) 0 p.1 in let l = leb-true (2 ^ 63) n k in omega arith
    by false k =
        let p = and_parts (exponent n == 2047) (fraction n == 0) e in
        let i = eqb-true (exponent n) 2047 p.0 in let j = eqb-true (fraction n) 0 p.1 in let l = leb-false (2 ^ 63) n k in omega arith

-- the text of a double reads as its normal form
double_back : (n : ℕ) → n < 2 ^ 64 → (t : List ℕ) → double_text n ≡ Some t → double_of t ≡ Ok (normal_double Joined n)
unfolding normal_double
double_back n h t e = by (is_nan n) (is_infinite n) (is_zero n) refl refl refl e
  where
    by : (a b c : Bool) → is_nan n ≡ a → is_infinite n ≡ b → is_zero n ≡ c
        → (if a then Some (minus_if (is_negative n) ++ codes "NaN") else if b then Some (minus_if (is_negative n) ++ codes "Infinity") else if c then Some (codes "0.0") else None) ≡ Some t
        → double_of t ≡ Ok (if a then quiet (is_negative n) else if c then 0 else n)
    by true b c k l m f = let i : minus_if (is_negative n) ++ codes "NaN" ≡ t = cc in ap double_of (sym i) ∙ nan_signed (is_negative n)
    by false true true k l m f = absurd (zero_or_infinite n l m)
    by false true false k l m f = let i : minus_if (is_negative n) ++ codes "Infinity" ≡ t = cc in ap double_of (sym i) ∙ infinity_signed (is_negative n) ∙ ap Ok (infinity_is n h l)
    by false false true k l m f = let i : codes "0.0" ≡ t = cc in ap double_of (sym i) ∙ zero_back
    by false false false k l m f = cc

read_double : (t : List ℕ) (n : ℕ) → double_of t ≡ Ok n → read (text_wrapper of_double t) ≡ Ok (scalar (double n))
unfolding reserved_of
read_double t n e = ap (λ r. scalar_of (r >>= λ x. Ok (double x))) e

-- ---- what a tree reads as

-- the tree reads as a value of the meaning of v
pub record Comes (j : Data) (v : Value) : Type 0 where
  pub value : Value
  pub reads : read j ≡ Ok value
  pub same : norm_in_order value ≡ norm_in_order v
  pub plain : IsPlain v → IsPlain value
  pub deep : levels value ≤ levels v

came : (i j : Data) (v u : Value) → i ≡ j → read i ≡ Ok u → norm_in_order u ≡ norm_in_order v → (IsPlain v → IsPlain u) → levels u ≤ levels v → Comes j v
came i j v u q r s p l = record { value = u; reads = subst (λ z. read z ≡ Ok u) q r; same = s; plain = p; deep = l }

alone : (i j : Data) (s t : Scalar) → Some i ≡ Some j → read i ≡ Ok (scalar t) → normal_scalar t ≡ normal_scalar s → (IsPlainScalar s → IsPlainScalar t) → Comes j (scalar s)
alone i j s t e r q p = let h : i ≡ j = cc in came i j (scalar s) (scalar t) h r (ap scalar q) p (lit≤ tt)

pub record Mapped {A C : Type 0} (o : Option A) (f : A → C) (c : C) : Type 0 where
  pub from : A
  pub here : o ≡ Some from
  pub to : f from ≡ c

pub mapped : {A C : Type 0} (o : Option A) (f : A → C) (c : C) → option_map f o ≡ Some c → Mapped o f c
mapped (Some a) f c e = let i : f a ≡ c = cc in record { from = a; here = refl; to = i }
mapped None f c e = cc

double_comes : (n : ℕ) → n < 2 ^ 64 → (j : Data) → write_scalar Canonical (double n) ≡ Some j → Comes j (scalar (double n))
double_comes n h j e =
    let t = mapped (double_text n) (text_wrapper of_double) j e in
    alone (text_wrapper of_double t.from) j (double n) (double (normal_double Joined n)) (ap Some t.to) (read_double t.from (normal_double Joined n) (double_back n h t.from t.here)) (ap double (normal_double_twice Joined n)) (λ p. tt)

scalar_comes : (s : Scalar) → IsRangedScalar s → (j : Data) → write_scalar Canonical s ≡ Some j → Comes j (scalar s)
unfolding reserved_of
scalar_comes (double n) h j e = double_comes n h j e
scalar_comes (string t) h j e = alone _ j _ (string t) e refl refl (λ p. tt)
scalar_comes (binary s bs) h j e = alone _ j _ (binary (subtype_of (subtype_byte s)) bs) e (read_binary (subtype_byte s) bs h.0 h.1) (ap (λ b. binary (subtype_of b) bs) (subtype_back (subtype_byte s))) (λ p. tt)
scalar_comes undefined h j e = alone _ j _ undefined e refl refl (λ p. tt)
scalar_comes (object_id bs) h j e = alone _ j _ (object_id bs) e (read_id bs h) refl (λ p. tt)
scalar_comes (boolean b) h j e = alone _ j _ (boolean b) e refl refl (λ p. tt)
scalar_comes (date_time z) h j e = alone _ j _ (date_time z) e (read_date z h) refl (λ p. tt)
scalar_comes null h j e = alone _ j _ null e refl refl (λ p. tt)
scalar_comes (regex p o) h j e = alone _ j _ (regex p (sorted_text (sorted_text o))) e (read_regex p o)
    (ap (regex p) (ap sorted_text (sorted_text_twice o h.1) ∙ sorted_text_twice o h.1))
    (λ k. (k.0, no_zero_sorted (sorted_text o) (text_sorted o h.1) (no_zero_sorted o h.1 k.1)))
scalar_comes (db_pointer t bs) h j e = alone _ j _ (db_pointer t bs) e (read_pointer t bs h) refl (λ p. tt)
scalar_comes (code t) h j e = alone _ j _ (code t) e refl refl (λ p. tt)
scalar_comes (symbol t) h j e = alone _ j _ (symbol t) e refl refl (λ p. tt)
scalar_comes (int32 z) h j e = alone _ j _ (int32 z) e (read_int z h) refl (λ p. tt)
scalar_comes (timestamp t i) h j e = alone _ j _ (timestamp t i) e (read_timestamp t i h) refl (λ p. tt)
scalar_comes (int64 z) h j e = alone _ j _ (int64 z) e (read_long z h) refl (λ p. tt)
scalar_comes (decimal bs) h j e = alone _ j _ (decimal (normal_decimal bs)) e (read_decimal bs) (ap decimal (normal_decimal_twice bs)) (λ p. tt)
scalar_comes max_key h j e = alone _ j _ max_key e refl refl (λ p. tt)
scalar_comes min_key h j e = alone _ j _ min_key e refl refl (λ p. tt)

-- ---- trees put together

-- two steps that both give something
pub record Chained {A B : Type 0} (o : Option A) (f : A → Option B) (b : B) : Type 0 where
  pub first : A
  pub here : o ≡ Some first
  pub there : f first ≡ Some b

pub chained : {A B : Type 0} (o : Option A) (f : A → Option B) (b : B) → option_and_then f o ≡ Some b → Chained o f b
chained (Some a) f b e = record { first = a; here = refl; there = e }
chained None f b e = cc

pub record Bound {A B : Type 0} (r : Result A Error) (f : A → Result B Error) (b : B) : Type 0 where
  pub first : A
  pub here : r ≡ Ok first
  pub there : f first ≡ Ok b

pub bound : {A B : Type 0} (r : Result A Error) (f : A → Result B Error) (b : B) → (r >>= f) ≡ Ok b → Bound r f b
bound (Ok a) f b e = record { first = a; here = refl; there = e }
bound (Err x) f b e = cc

read_member : (l : List ℕ) (i : Data) (js : json.Members) (w : Value) (rest : Members) → read i ≡ Ok w → read_members js ≡ Ok rest → read_members (json.member l i js) ≡ Ok (member l w rest)
read_member l i js w rest p q =
    ap (λ (r : Result Value Error). r >>= λ v. read_members js >>= λ ms. Ok (member l v ms)) p
    ∙ ap (λ (r : Result Members Error). r >>= λ ms. Ok (member l w ms)) q

read_put : (k : List ℕ) (j : Data) (u : Value) → read j ≡ Ok u → (js : json.Members) (ns : Members) → read_members js ≡ Ok ns → read_members (json.put k j js) ≡ Ok (place k u ns)
read_put k j u r json.no_members ns h =
    let i : no_members ≡ ns = cc in
    subst (λ z. read_members (json.member k j json.no_members) ≡ Ok (place k u z)) i (read_member k j json.no_members u no_members r refl)
read_put k j u r (json.member l i js) ns h =
    let a = bound (read i) (λ v. read_members js >>= λ ms. Ok (member l v ms)) ns h in
    let b = bound (read_members js) (λ ms. Ok (member l a.first ms)) ns a.there in
    let w = a.first in
    let rest = b.first in
    let e : member l w rest ≡ ns = let f : Ok (member l w rest) ≡ Ok ns = b.there in cc in
    subst (λ z. read_members (json.put k j (json.member l i js)) ≡ Ok (place k u z)) e
    (elim (Order k l) as (λ o. Order k l ≡ o → read_members (match_ordering o (json.member k j (json.member l i js)) (json.member l j js) (json.member l i (json.put k j js)))
    ≡ Ok (match_ordering o (member k u (member l w rest)) (member k u rest) (member l w (place k u rest)))) [
      | Less ↦ λ q. read_member k j (json.member l i js) u (member l w rest) r (read_member l i js w rest a.here b.here)
      | Equal ↦ λ q. read_member l j js u rest r b.here ∙ ap (λ m. Ok (member m u rest)) (sym (tied k l q))
      | Greater ↦ λ q. read_member l i (json.put k j js) w (place k u rest) a.here (read_put k j u r js rest b.here)
    ] refl)

any_put : (k : List ℕ) (j : Data) (js : json.Members) → any_reserved (json.put k j js) ≡ (is_reserved k || any_reserved js)
any_put k j json.no_members = refl
any_put k j (json.member l i js) =
    elim (Order k l) as (λ o. Order k l ≡ o → any_reserved (match_ordering o (json.member k j (json.member l i js)) (json.member l j js) (json.member l i (json.put k j js))) ≡ (is_reserved k || (is_reserved l || any_reserved js))) [
      | Less ↦ λ e. refl
      | Equal ↦ λ e. sym (ap (λ q. is_reserved q || (is_reserved l || any_reserved js)) (tied k l e) ∙ or_twice (is_reserved l) (any_reserved js))
      | Greater ↦ λ e. ap (λ b. is_reserved l || b) (any_put k j js) ∙ or_turned (is_reserved l) (is_reserved k) (any_reserved js)
    ] refl

or_moved : (a b c : Bool) → (b || (a || c)) ≡ ((a || b) || c)
or_moved true true c = refl
or_moved true false c = refl
or_moved false b c = refl

any_written : (ms : Members) (found js : json.Members) → write_members Canonical ms found ≡ Some js → any_reserved js ≡ (some_reserved ms || any_reserved found)
any_written no_members found js e = let i : found ≡ js = cc in ap any_reserved (sym i)
any_written (member k v ms) found js e =
    let t = chained (write Canonical v) (λ j. write_members Canonical ms (json.put k j found)) js e in
    any_written ms (json.put k t.first found) js t.there ∙ ap (λ b. some_reserved ms || b) (any_put k t.first found) ∙ or_moved (is_reserved k) (some_reserved ms) (any_reserved found)

-- ---- what is under a key

-- what the first gives, or else the second
abbrev over : Option Value → Option Value → Option Value
over (Some v) o = Some v
over None o = o

over_none : (o : Option Value) → over o None ≡ o
over_none (Some v) = refl
over_none None = refl

over_turned : (b : Bool) (x : Value) (o p : Option Value) → (b ≡ true → o ≡ None) → over o (cond b (Some x) p) ≡ over (cond b (Some x) o) p
over_turned true x o p h = ap (λ z. over z (Some x)) (h refl)
over_turned false x o p h = refl

pub chosen : (f : Value → Value) (b : Bool) (v : Value) (o : Option Value) → option_map f (cond b (Some v) o) ≡ cond b (Some (f v)) (option_map f o)
chosen f true v o = refl
chosen f false v o = refl

look_up-placed : (q k : List ℕ) (u : Value) (ns : Members) → look_up q (norm_members_in_order (place k u ns)) ≡ cond (bytes_eq q k) (Some (norm_in_order u)) (look_up q (norm_members_in_order ns))
look_up-placed q k u ns = look_up-in_order q (place k u ns) ∙ ap (option_map norm_in_order) (look_up-place q k u ns) ∙ chosen norm_in_order (bytes_eq q k) u (look_up q ns)
    ∙ sym (ap (cond (bytes_eq q k) (Some (norm_in_order u))) (look_up-in_order q ns))

none_there : (q k : List ℕ) (ms : Members) → look_up k ms ≡ None → bytes_eq q k ≡ true → look_up q (norm_members_in_order ms) ≡ None
none_there q k ms h e = subst (λ z. look_up z (norm_members_in_order ms) ≡ None) (sym (equal_keys q k e)) (look_up-in_order k ms ∙ ap (option_map norm_in_order) h)

pub raised : {m n : ℕ} → m ≤ n → suc m ≤ suc n
raised h = omega arith

-- ---- a canonical tree reads as a value of the same meaning

pub record ItemsCome (js : json.Items) (vs : Items) : Type 0 where
  pub values : Items
  pub reads : read_items js ≡ Ok values
  pub same : norm_items_in_order values ≡ norm_items_in_order vs
  pub plain : IsPlain (array vs) → IsPlain (array values)
  pub deep : items_levels values ≤ items_levels vs

-- ms were written onto what reads as ns
pub record MembersCome (js : json.Members) (ms ns : Members) : Type 0 where
  pub values : Members
  pub reads : read_members js ≡ Ok values
  pub same : (q : List ℕ) → look_up q (norm_members_in_order values) ≡ over (look_up q (norm_members_in_order ms)) (look_up q (norm_members_in_order ns))
  pub plain : IsPlain (document ms) → IsPlain (document ns) → IsPlain (document values)
  pub deep : members_levels values ≤ max (members_levels ms) (members_levels ns)

-- all of a document's members
pub record AllCome (js : json.Members) (ms : Members) : Type 0 where
  pub values : Members
  pub reads : read_members js ≡ Ok values
  pub same : norm_members_in_order values ≡ norm_members_in_order ms
  pub plain : IsPlain (document ms) → IsPlain (document values)
  pub deep : members_levels values ≤ members_levels ms

all_come : (js : json.Members) (ms : Members) → MembersCome js ms no_members → AllCome js ms
all_come js ms c = record {
  values = c.values;
  reads = c.reads;
  same = same_members _ _ (ascending_asc (norm_members c.values)) (ascending_asc (norm_members ms)) (λ q. c.same q ∙ over_none (look_up q (norm_members_in_order ms)));
  plain = λ p. c.plain p tt;
  deep = omega (arith, c.deep);
}

scope_reads : (t : List ℕ) (js : json.Members) (ns : Members) → read_members js ≡ Ok ns → read (with_scope t js) ≡ Ok (scoped_code t ns)
unfolding reserved_of
scope_reads t js ns e = ap (λ (r : Result Members Error). (r >>= λ ms. Ok (Some ms)) >>= λ o. Ok (reading.code_and_scope t o)) e

document_reads : (js : json.Members) (ns : Members) → any_reserved js ≡ false → read_members js ≡ Ok ns → read (object js) ≡ Ok (document ns)
document_reads js ns n e =
    ap (λ b. if b then read_typed js else (read_members js >>= λ ms. Ok (document ms))) n
    ∙ ap (λ (r : Result Members Error). r >>= λ ms. Ok (document ms)) e

array_reads : (js : json.Items) (vs : Items) → read_items js ≡ Ok vs → read (json.array js) ≡ Ok (array vs)
array_reads js vs e = ap (λ (r : Result Items Error). r >>= λ ws. Ok (array ws)) e

item_reads : (j : Data) (js : json.Items) (v : Value) (vs : Items) → read j ≡ Ok v → read_items js ≡ Ok vs → read_items (json.item j js) ≡ Ok (item v vs)
item_reads j js v vs p q =
    ap (λ (r : Result Value Error). r >>= λ w. read_items js >>= λ ws. Ok (item w ws)) p
    ∙ ap (λ (r : Result Items Error). r >>= λ ws. Ok (item v ws)) q

mutual
  pub value_comes : (K : List ℕ → Type 0) (v : Value) → EachPart K IsRangedScalar v → HasDistinctKeys v → reserved_in v ≡ false → (j : Data) → write Canonical v ≡ Some j → Comes j v
  value_comes K (scalar s) h d r j e = scalar_comes s h j e
  value_comes K (array vs) h d r j e =
      let t = mapped (write_items Canonical vs) json.array j e in
      let c = items_come K vs h d r t.from t.here in
      came (json.array t.from) j (array vs) (array c.values) t.to (array_reads t.from c.values c.reads) (ap array c.same) c.plain (raised c.deep)
  value_comes K (document ms) h d r j e =
      let t = mapped (write_members Canonical ms json.no_members) object j e in
      let n = or_parts (some_reserved ms) (has_reserved ms) r in
      let c = all_come t.from ms (members_come K ms h d n.1 json.no_members no_members refl t.from t.here) in
      came (object t.from) j (document ms) (document c.values) t.to
      (document_reads t.from c.values (any_written ms json.no_members t.from t.here ∙ ap (λ b. b || false) n.0) c.reads)
      (ap document c.same) c.plain (raised c.deep)
  value_comes K (scoped_code t ms) h d r j e =
      let m = mapped (write_members Canonical ms json.no_members) (with_scope t) j e in
      let c = all_come m.from ms (members_come K ms h.1 d r json.no_members no_members refl m.from m.here) in
      came (with_scope t m.from) j (scoped_code t ms) (scoped_code t c.values) m.to (scope_reads t m.from c.values c.reads) (ap (scoped_code t) c.same) (λ p. (p.0, c.plain p.1)) (raised c.deep)

  items_come : (K : List ℕ → Type 0) (vs : Items) → EachItem K IsRangedScalar vs → ItemsHaveDistinctKeys vs → reserved_in_items vs ≡ false → (js : json.Items) → write_items Canonical vs ≡ Some js → ItemsCome js vs
  items_come K no_items h d r js e = let i : json.no_items ≡ js = cc in subst (λ z. ItemsCome z no_items) i (record { values = no_items; reads = refl; same = refl; plain = λ p. tt; deep = lit≤ tt })
  items_come K (item v vs) h d r js e =
      let t = chained (write Canonical v) (λ j. option_map (json.item j) (write_items Canonical vs)) js e in
      let u = mapped (write_items Canonical vs) (json.item t.first) js t.there in
      let n = or_parts (reserved_in v) (reserved_in_items vs) r in
      let a = value_comes K v h.0 d.0 n.0 t.first t.here in
      let b = items_come K vs h.1 d.1 n.1 u.from u.here in
      let p : norm_in_order a.value ≡ norm_in_order v = a.same in
      let q : norm_items_in_order b.values ≡ norm_items_in_order vs = b.same in
      subst (λ z. ItemsCome z (item v vs)) u.to (record { values = item a.value b.values; reads = item_reads t.first u.from a.value b.values a.reads b.reads; same = cc; plain = λ p. (a.plain p.0, b.plain p.1); deep = omega (arith, a.deep, b.deep) })

  pub members_come : (K : List ℕ → Type 0) (ms : Members) → EachMember K IsRangedScalar ms → MembersHaveDistinctKeys ms → has_reserved ms ≡ false
      → (found : json.Members) (ns : Members) → read_members found ≡ Ok ns → (js : json.Members) → write_members Canonical ms found ≡ Some js → MembersCome js ms ns
  members_come K no_members h d r found ns f js e =
      let i : found ≡ js = cc in subst (λ z. MembersCome z no_members ns) i (record { values = ns; reads = f; same = λ q. refl; plain = λ p s. s; deep = omega arith })
  members_come K (member k v ms) h d r found ns f js e =
      let t = chained (write Canonical v) (λ j. write_members Canonical ms (json.put k j found)) js e in
      let n = or_parts (reserved_in v) (has_reserved ms) r in
      let a = value_comes K v h.1 d.1 n.0 t.first t.here in
      let b = members_come K ms h.2 d.2 n.1 (json.put k t.first found) (place k a.value ns) (read_put k t.first a.value a.reads found ns f) js t.there in
      record {
        values = b.values;
        reads = b.reads;
        same = λ q. b.same q ∙ ap (over (look_up q (norm_members_in_order ms))) (look_up-placed q k a.value ns ∙ ap (λ u. cond (bytes_eq q k) (Some u) (look_up q (norm_members_in_order ns))) a.same)
            ∙ over_turned (bytes_eq q k) (norm_in_order v) (look_up q (norm_members_in_order ms)) (look_up q (norm_members_in_order ns)) (none_there q k ms d.0)
            ∙ ap (λ o. over o (look_up q (norm_members_in_order ns))) (sym (look_up-place q k (norm_in_order v) (norm_members_in_order ms)));
        plain = λ p s. b.plain p.2 (place_each HasNo00 IsPlainScalar k a.value ns p.0 (a.plain p.1) s);
        deep = omega (arith, levels_place k a.value ns, a.deep, b.deep);
      }

pub canonical_comes : (d : Members) → IsSound (document d) → has_reserved d ≡ false → (js : json.Members) → write_members Canonical d json.no_members ≡ Some js → AllCome js d
canonical_comes d s r js e = all_come js d (members_come IsUtf8 d s.ranged s.distinct r json.no_members no_members refl js e)

-- ---- equal canonical trees

pub trees_tell : (d e : Members) → IsSound (document d) → IsSound (document e) → has_reserved d ≡ false → has_reserved e ≡ false
    → (j : Data) → write Canonical (document d) ≡ Some j → write Canonical (document e) ≡ Some j → Same (document d) (document e)
trees_tell d e s t r q j a b =
    let m = mapped (write_members Canonical d json.no_members) object j a in
    let n = mapped (write_members Canonical e json.no_members) object j b in
    let f : object m.from ≡ object n.from = m.to ∙ sym n.to in
    let g : m.from ≡ n.from = cc in
    let c = canonical_comes d s r m.from m.here in
    let i = canonical_comes e t q n.from n.here in
    let o : Ok c.values ≡ Ok i.values = sym c.reads ∙ ap read_members g ∙ i.reads in
    let k : c.values ≡ i.values = cc in
    same_in_order (document d) (document e) s.distinct (ap document (sym c.same ∙ ap norm_members_in_order k ∙ i.same))

pub trees_exactly : (d e : Members) (i j : Data) → IsSound (document d) → IsSound (document e) → has_reserved d ≡ false → has_reserved e ≡ false
    → write Canonical (document d) ≡ Some i → write Canonical (document e) ≡ Some j → (i ≡ j) ↔ Same (document d) (document e)
trees_exactly d e i j s t r q a b = (
  λ h. trees_tell d e s t r q i a (b ∙ ap Some (sym h)),
  λ h. let k : Some i ≡ Some j = sym a ∙ write_same Canonical (document d) (document e) s t h ∙ b in cc,
)

-- What a value is written as depends on its meaning only, and so does whether a reserved key is in it.
use Rattle.std.proofs.lemmas.Bool.{and_parts, eqb-true}
use Rattle.std.proofs.Common.{arith, ◌==◌, ◌≡◌, ℕ, List, ◌++◌, Bool, true, false, cond, if◌then◌else◌, Option, Some, None, refl, ap, ◌∙◌, sym, subst}
use Rattle.std.specs.Prelude.{◌||◌, bytes_eq, codes, option_map, option_and_then}
use Rattle.std.specs.declared.cmp.Ordering.{Ordering}
use Rattle.std.specs.declared.cmp.Ordering.TheVariants.{Less, Equal, Greater}
use Rattle.std.specs.Ordering.{match_ordering, ordering_reverse}
use Rattle.std.proofs.lemmas.Cmp.{nat_list_cmp_total}
use Rattle.serde_json.specs.Data as json
use Rattle.serde_json.specs.Data.{Data, object}
use Rattle.bson_base.specs.Decimal.{IsUnpacked, number_of, sixteen_bytes, pack, unpack, print, minus_if}
use Rattle.bson_base.specs.Doubles.{exponent, fraction, is_nan, is_infinite, is_zero, is_negative}
use Rattle.bson_base.specs.Kinds.{IsRangedScalar, IsSound}
use Rattle.bson_base.specs.Tags.{subtype_byte}
use Rattle.bson_base.specs.Value.{Scalar, double, binary, regex, decimal, Value, scalar, array, document, scoped_code, Items, no_items, item, Members, no_members, member, look_up, EachPart, EachItem, EachMember, HasDistinctKeys, ItemsHaveDistinctKeys, MembersHaveDistinctKeys}
use Rattle.bson_base.proofs.DecimalBitsLemmas.{unpack_is, unpack-pack}
use Rattle.bson_model.specs.JsonKeys.{is_reserved, of_decimal, of_double, of_regex, object_of_two}
use Rattle.bson_model.specs.JsonWrite.{double_text, text_wrapper, with_scope, write, write_binary, write_items, write_members, write_scalar, wrapper_of}
use Rattle.bson_model.specs.declared.extjson.ser.Mode.{Mode}
use Rattle.bson_meaning.specs.JsonReserved.{some_reserved, reserved_in, reserved_in_items, has_reserved}
use Rattle.bson_meaning.specs.Forms.{normal_double, normal_decimal}
use Rattle.bson_meaning.specs.declared.scalars.Zeros.TheVariants.{Joined}
use Rattle.bson_meaning.specs.Meaning.{norm_members_in_order, asc, asc_items, asc_members, norm, norm_items, norm_members, normal_scalar, place, Same}
use Rattle.bson_meaning.proofs.NormalScalarLemmas.{sorted_text_twice}
use Rattle.bson_meaning.proofs.OrderLemmas.{Order, tied, turned, look_up-asc}
use Rattle.bson_bytes.proofs.MeaningLemmas.{subtype_back}
use Rattle.bson_meaning.proofs.DecimalLemmas.{number_again, pack_low}
use Rattle.bson_base.proofs.MemberLemmas.{same_key, not_first}
use Rattle.bson_meaning.proofs.NowLemmas.{in_order_same, norm_distinct}

-- ---- the normal form of a scalar

abbrev pub quiet : Bool → ℕ
quiet c = if c then 0xFFF8_0000_0000_0000 else 0x7FF8_0000_0000_0000

abbrev told : ℕ → Bool → Bool → Bool → Option (List ℕ)
told n nan infinite zero =
    if nan then Some (minus_if (is_negative n) ++ codes "NaN")
    else if infinite then Some (minus_if (is_negative n) ++ codes "Infinity")
    else if zero then Some (codes "0.0")
    else None

-- no zero is an infinity
pub zero_or_infinite : (n : ℕ) → is_infinite n ≡ true → is_zero n ≡ true → ⊥
zero_or_infinite n h k =
    let i = eqb-true (exponent n) 2047 (and_parts (exponent n == 2047) (fraction n == 0) h).0 in
    let j = eqb-true (exponent n) 0 (and_parts (exponent n == 0) (fraction n == 0) k).0 in
    omega (arith, i, j)

quiet_told : (c : Bool) → double_text (quiet c) ≡ Some (minus_if c ++ codes "NaN")
quiet_told true = refl
quiet_told false = refl

double_again : (n : ℕ) → double_text (normal_double Joined n) ≡ double_text n
unfolding normal_double
double_again n = by (is_nan n) (is_infinite n) (is_zero n) refl refl refl
  where
    by : (a b c : Bool) → is_nan n ≡ a → is_infinite n ≡ b → is_zero n ≡ c → double_text (if a then quiet (is_negative n) else if c then 0 else n) ≡ double_text n
    by true b c e f g = quiet_told (is_negative n) ∙ sym (ap (λ x. told n x (is_infinite n) (is_zero n)) e)
    by false true true e f g = absurd (zero_or_infinite n f g)
    by false false true e f g = sym (ap (λ x. told n x (is_infinite n) (is_zero n)) e ∙ ap (λ x. told n false x (is_zero n)) f ∙ ap (told n false false) g)
    by false b false e f g = refl

unpack_again : (bs : List ℕ) → unpack (number_of (normal_decimal bs)) ≡ unpack (number_of bs)
unfolding normal_decimal sixteen_bytes
unpack_again bs =
    let d = unpack (number_of bs) in
    let u : IsUnpacked d = unpack_is (number_of bs) in
    ap unpack (number_again 16 (pack d) (pack_low d u)) ∙ unpack-pack d u

abbrev regex_tree : List ℕ → List ℕ → Data
regex_tree p t = wrapper_of of_regex (object_of_two (codes "options") (json.string t) (codes "pattern") (json.string p))

pub write_normal : (m : Mode) (s : Scalar) → IsRangedScalar s → write_scalar m (normal_scalar s) ≡ write_scalar m s
write_normal m (double n) h = ap (option_map (text_wrapper of_double)) (double_again n)
write_normal m (binary s bs) h = ap (λ b. Some (write_binary b bs)) (subtype_back (subtype_byte s))
write_normal m (regex p o) h = ap (λ t. Some (regex_tree p t)) (sorted_text_twice o h.1)
write_normal m (decimal bs) h = ap (λ d. Some (text_wrapper of_decimal (print d))) (unpack_again bs)
write_normal m _ h = refl

-- ---- the normal form of a value

pub then_alike : {A B : Type 0} (o : Option A) (f g : A → Option B) → ((a : A) → f a ≡ g a) → option_and_then f o ≡ option_and_then g o
then_alike (Some a) f g h = h a
then_alike None f g h = refl

abbrev item_in : Option Data → Option json.Items → Option json.Items
item_in j js = option_and_then (λ d. option_map (json.item d) js) j

mutual
  pub write_norm : (m : Mode) (K : List ℕ → Type 0) (v : Value) → EachPart K IsRangedScalar v → write m (norm v) ≡ write m v
  write_norm m K (scalar s) h = write_normal m s h
  write_norm m K (array vs) h = ap (option_map json.array) (write_norm_items m K vs h)
  write_norm m K (document ms) h = ap (option_map object) (write_norm_members m K ms h json.no_members)
  write_norm m K (scoped_code t ms) h = ap (option_map (with_scope t)) (write_norm_members m K ms h.1 json.no_members)

  write_norm_items : (m : Mode) (K : List ℕ → Type 0) (vs : Items) → EachItem K IsRangedScalar vs → write_items m (norm_items vs) ≡ write_items m vs
  write_norm_items m K no_items h = refl
  write_norm_items m K (item v vs) h = ap (λ j. item_in j (write_items m (norm_items vs))) (write_norm m K v h.0) ∙ ap (item_in (write m v)) (write_norm_items m K vs h.1)

  pub write_norm_members : (m : Mode) (K : List ℕ → Type 0) (ms : Members) → EachMember K IsRangedScalar ms → (found : json.Members)
      → write_members m (norm_members ms) found ≡ write_members m ms found
  write_norm_members m K no_members h found = refl
  write_norm_members m K (member k v ms) h found =
      ap (option_and_then (λ j. write_members m (norm_members ms) (json.put k j found))) (write_norm m K v h.1)
      ∙ then_alike (write m v) _ _ (λ j. write_norm_members m K ms h.2 (json.put k j found))

-- ---- members of a tree put in one after the other

abbrev With : List ℕ → Data → List ℕ → Data → json.Members → Ordering → json.Members
With k d l e js o = match_ordering o (json.member k d (json.member l e js)) (json.member l d js) (json.member l e (json.put k d js))

after : (k l : List ℕ) → Order k l ≡ Less → Order l k ≡ Greater
after k l e = nat_list_cmp_total.antisymm l k ∙ ap ordering_reverse e

-- one before l and l itself, put in either order
pub commute : (k l : List ℕ) (d e : Data) → Order k l ≡ Less → (js : json.Members) → json.put k d (json.put l e js) ≡ json.put l e (json.put k d js)
commute k l d e h json.no_members = ap (With k d l e json.no_members) h ∙ sym (ap (With l e k d json.no_members) (after k l h))
commute k l d e h (json.member m f js) = by (commute k l d e h js) (Order l m) (Order k m) refl refl
  where
    before : Order l k ≡ Greater
    before = after k l h

    first : json.put l e (json.member k d (json.member m f js)) ≡ json.member k d (json.put l e (json.member m f js))
    first = ap (With l e k d (json.member m f js)) before

    by : json.put k d (json.put l e js) ≡ json.put l e (json.put k d js) → (o p : Ordering) → Order l m ≡ o → Order k m ≡ p
        → json.put k d (With l e m f js o) ≡ json.put l e (With k d m f js p)
    by r Less Less a b = ap (With k d l e (json.member m f js)) h ∙ ap (json.member k d) (sym (ap (With l e m f js) a)) ∙ sym first
    by r Equal Less a b = ap (With k d m e js) b ∙ ap (json.member k d) (sym (ap (With l e m f js) a)) ∙ sym first
    by r Greater Less a b = ap (With k d m f (json.put l e js)) b ∙ ap (json.member k d) (sym (ap (With l e m f js) a)) ∙ sym first
    by r Greater Equal a b = ap (With k d m f (json.put l e js)) b ∙ sym (ap (With l e m d js) a)
    by r Greater Greater a b = ap (With k d m f (json.put l e js)) b ∙ ap (json.member m f) r ∙ sym (ap (With l e m f (json.put k d js)) a)
    by r Less Equal a b = let x : Order k m ≡ Less = nat_list_cmp_total.trans k l m h a in cc
    by r Less Greater a b = let x : Order k m ≡ Less = nat_list_cmp_total.trans k l m h a in cc
    by r Equal Equal a b = let x : Order k m ≡ Less = ap (Order k) (sym (tied l m a)) ∙ h in cc
    by r Equal Greater a b = let x : Order k m ≡ Less = ap (Order k) (sym (tied l m a)) ∙ h in cc

-- ---- the order of keys

pub met : (k l : List ℕ) (w : Value) (o : Option Value) → Order k l ≡ Equal → cond (bytes_eq k l) (Some w) o ≡ None → ⊥
met k l w o e n =
    let i : bytes_eq k l ≡ true = subst (λ m. bytes_eq k m ≡ true) (tied k l e) (same_key k) in
    let j : Some w ≡ None = sym (ap (λ b. cond b (Some w) o) i) ∙ n in cc

in_turns : {A B C : Type 0} (o : Option A) (p : Option B) (f : A → B → Option C) (g : B → A → Option C) → ((a : A) (b : B) → f a b ≡ g b a)
    → option_and_then (λ a. option_and_then (f a) p) o ≡ option_and_then (λ b. option_and_then (g b) o) p
in_turns (Some a) (Some b) f g h = h a b
in_turns (Some a) None f g h = refl
in_turns None (Some b) f g h = refl
in_turns None None f g h = refl

write_place : (m : Mode) (k : List ℕ) (v : Value) (ms : Members) → look_up k ms ≡ None → (found : json.Members)
    → write_members m (place k v ms) found ≡ option_and_then (λ j. write_members m ms (json.put k j found)) (write m v)
write_place m k v no_members h found = refl
write_place m k v (member l w ms) h found = by (Order k l) refl (write_place m k v ms)
  where
    by : (o : Ordering) → Order k l ≡ o
        → (look_up k ms ≡ None → (js : json.Members) → write_members m (place k v ms) js ≡ option_and_then (λ j. write_members m ms (json.put k j js)) (write m v))
        → write_members m (match_ordering o (member k v (member l w ms)) (member k v ms) (member l w (place k v ms))) found
        ≡ option_and_then (λ j. write_members m (member l w ms) (json.put k j found)) (write m v)
    by Less e r = refl
    by Equal e r = absurd (met k l w (look_up k ms) e h)
    by Greater e r =
        then_alike (write m w) (λ i. write_members m (place k v ms) (json.put l i found)) (λ i. option_and_then (λ j. write_members m ms (json.put k j (json.put l i found))) (write m v))
        (λ i. r (not_first k l w ms h).1 (json.put l i found))
        ∙ in_turns (write m w) (write m v) (λ i j. write_members m ms (json.put k j (json.put l i found))) (λ j i. write_members m ms (json.put l i (json.put k j found)))
        (λ i j. ap (write_members m ms) (sym (commute l k i j (turned k l e) found)))

pub none_ordered : (k : List ℕ) (ms : Members) → look_up k ms ≡ None → look_up k (asc_members ms) ≡ None
none_ordered k ms h = look_up-asc k ms ∙ ap (option_map asc) h

mutual
  pub write_asc : (m : Mode) (v : Value) → HasDistinctKeys v → write m (asc v) ≡ write m v
  write_asc m (scalar s) h = refl
  write_asc m (array vs) h = ap (option_map json.array) (write_asc_items m vs h)
  write_asc m (document ms) h = ap (option_map object) (write_asc_members m ms h json.no_members)
  write_asc m (scoped_code t ms) h = ap (option_map (with_scope t)) (write_asc_members m ms h json.no_members)

  write_asc_items : (m : Mode) (vs : Items) → ItemsHaveDistinctKeys vs → write_items m (asc_items vs) ≡ write_items m vs
  write_asc_items m no_items h = refl
  write_asc_items m (item v vs) h = ap (λ j. item_in j (write_items m (asc_items vs))) (write_asc m v h.0) ∙ ap (item_in (write m v)) (write_asc_items m vs h.1)

  pub write_asc_members : (m : Mode) (ms : Members) → MembersHaveDistinctKeys ms → (found : json.Members) → write_members m (asc_members ms) found ≡ write_members m ms found
  write_asc_members m no_members h found = refl
  write_asc_members m (member k v ms) h found = write_place m k (asc v) (asc_members ms) (none_ordered k ms h.0) found
      ∙ ap (option_and_then (λ j. write_members m (asc_members ms) (json.put k j found))) (write_asc m v h.1)
      ∙ then_alike (write m v) _ _ (λ j. write_asc_members m ms h.2 (json.put k j found))

pub write_same : (m : Mode) (v w : Value) → IsSound v → IsSound w → Same v w → write m v ≡ write m w
write_same m v w s t h = sym (write_asc m (norm v) (norm_distinct v s.distinct) ∙ write_norm m _ v s.ranged) ∙ ap (write m) (in_order_same v w h)
    ∙ write_asc m (norm w) (norm_distinct w t.distinct) ∙ write_norm m _ w t.ranged

-- ---- reserved keys

pub or_turned : (a b c : Bool) → (a || (b || c)) ≡ (b || (a || c))
or_turned true true c = refl
or_turned true false c = refl
or_turned false b c = refl

pub or_twice : (a c : Bool) → (a || (a || c)) ≡ (a || c)
or_twice true c = refl
or_twice false c = refl

mutual
  reserved_norm : (v : Value) → reserved_in (norm v) ≡ reserved_in v
  reserved_norm (scalar s) = refl
  reserved_norm (array vs) = reserved_norm_items vs
  reserved_norm (document ms) = ap (λ b. b || has_reserved (norm_members ms)) (some_reserved_norm ms) ∙ ap (λ b. some_reserved ms || b) (reserved_norm_members ms)
  reserved_norm (scoped_code t ms) = reserved_norm_members ms

  reserved_norm_items : (vs : Items) → reserved_in_items (norm_items vs) ≡ reserved_in_items vs
  reserved_norm_items no_items = refl
  reserved_norm_items (item v vs) = ap (λ b. b || reserved_in_items (norm_items vs)) (reserved_norm v) ∙ ap (λ b. reserved_in v || b) (reserved_norm_items vs)

  some_reserved_norm : (ms : Members) → some_reserved (norm_members ms) ≡ some_reserved ms
  some_reserved_norm no_members = refl
  some_reserved_norm (member k v ms) = ap (λ b. is_reserved k || b) (some_reserved_norm ms)

  pub reserved_norm_members : (ms : Members) → has_reserved (norm_members ms) ≡ has_reserved ms
  reserved_norm_members no_members = refl
  reserved_norm_members (member k v ms) = ap (λ b. b || has_reserved (norm_members ms)) (reserved_norm v) ∙ ap (λ b. reserved_in v || b) (reserved_norm_members ms)

some_reserved_place : (k : List ℕ) (v : Value) (ms : Members) → some_reserved (place k v ms) ≡ (is_reserved k || some_reserved ms)
some_reserved_place k v no_members = refl
some_reserved_place k v (member l w ms) =
    elim (Order k l) as (λ o. Order k l ≡ o → some_reserved (match_ordering o (member k v (member l w ms)) (member k v ms) (member l w (place k v ms))) ≡ (is_reserved k || (is_reserved l || some_reserved ms))) [
      | Less ↦ λ e. refl
      | Equal ↦ λ e. sym (ap (λ q. is_reserved k || (is_reserved q || some_reserved ms)) (sym (tied k l e)) ∙ or_twice (is_reserved k) (some_reserved ms))
      | Greater ↦ λ e. ap (λ b. is_reserved l || b) (some_reserved_place k v ms) ∙ or_turned (is_reserved l) (is_reserved k) (some_reserved ms)
    ] refl

below_place : (k : List ℕ) (v : Value) (ms : Members) → look_up k ms ≡ None → has_reserved (place k v ms) ≡ (reserved_in v || has_reserved ms)
below_place k v no_members h = refl
below_place k v (member l w ms) h = by (Order k l) refl (below_place k v ms)
  where
    by : (o : Ordering) → Order k l ≡ o → (look_up k ms ≡ None → has_reserved (place k v ms) ≡ (reserved_in v || has_reserved ms))
        → has_reserved (match_ordering o (member k v (member l w ms)) (member k v ms) (member l w (place k v ms))) ≡ (reserved_in v || (reserved_in w || has_reserved ms))
    by Less e r = refl
    by Equal e r = absurd (met k l w (look_up k ms) e h)
    by Greater e r = ap (λ b. reserved_in w || b) (r (not_first k l w ms h).1) ∙ or_turned (reserved_in w) (reserved_in v) (has_reserved ms)

mutual
  reserved_asc : (v : Value) → HasDistinctKeys v → reserved_in (asc v) ≡ reserved_in v
  reserved_asc (scalar s) h = refl
  reserved_asc (array vs) h = reserved_asc_items vs h
  reserved_asc (document ms) h = ap (λ b. b || has_reserved (asc_members ms)) (some_reserved_asc ms) ∙ ap (λ b. some_reserved ms || b) (reserved_asc_members ms h)
  reserved_asc (scoped_code t ms) h = reserved_asc_members ms h

  reserved_asc_items : (vs : Items) → ItemsHaveDistinctKeys vs → reserved_in_items (asc_items vs) ≡ reserved_in_items vs
  reserved_asc_items no_items h = refl
  reserved_asc_items (item v vs) h = ap (λ b. b || reserved_in_items (asc_items vs)) (reserved_asc v h.0) ∙ ap (λ b. reserved_in v || b) (reserved_asc_items vs h.1)

  some_reserved_asc : (ms : Members) → some_reserved (asc_members ms) ≡ some_reserved ms
  some_reserved_asc no_members = refl
  some_reserved_asc (member k v ms) = some_reserved_place k (asc v) (asc_members ms) ∙ ap (λ b. is_reserved k || b) (some_reserved_asc ms)

  pub reserved_asc_members : (ms : Members) → MembersHaveDistinctKeys ms → has_reserved (asc_members ms) ≡ has_reserved ms
  reserved_asc_members no_members h = refl
  reserved_asc_members (member k v ms) h = below_place k (asc v) (asc_members ms) (none_ordered k ms h.0)
      ∙ ap (λ b. b || has_reserved (asc_members ms)) (reserved_asc v h.1) ∙ ap (λ b. reserved_in v || b) (reserved_asc_members ms h.2)

pub reserved_same : (d e : Members) → IsSound (document d) → IsSound (document e) → Same (document d) (document e) → has_reserved d ≡ has_reserved e
reserved_same d e s t h =
    let i : document (norm_members_in_order d) ≡ document (norm_members_in_order e) = in_order_same (document d) (document e) h in
    let j : norm_members_in_order d ≡ norm_members_in_order e = cc in
    sym (reserved_asc_members (norm_members d) (norm_distinct (document d) s.distinct) ∙ reserved_norm_members d) ∙ ap has_reserved j
    ∙ reserved_asc_members (norm_members e) (norm_distinct (document e) t.distinct) ∙ reserved_norm_members e

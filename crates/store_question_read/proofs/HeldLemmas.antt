-- Values as a question holds them.
use Rattle.std.proofs.Common.{◌≡◌, ◌<◌, ◌^◌, ℕ, List, [], ◌∷◌, ◌++◌, drop, Bool, true, false, ◌==◌, Result, Ok, Err, refl, sym, ap, ◌∙◌, subst, arith}
use Rattle.std.specs.Prelude.{◌&&◌, not, nat_lt, if◌then◌else◌, IsUtf8}
use Rattle.std.proofs.lemmas.Bool.{and_from, and_parts, lt-ltb, ltb-true}
use Rattle.std.proofs.lemmas.Grind.{common_steps}
use Rattle.json.specs.Json.{Json}
use Rattle.bson_base.proofs.PartLemmas.{each_part}
use Rattle.bson_base.specs.Answer.{◌>>=◌}
use Rattle.bson_base.specs.Kinds.{HasNo00, IsPlain, IsPlainScalar, IsRangedScalar, IsSound}
use Rattle.bson_base.specs.Value.{Scalar, regex, Value, scalar, array, document, scoped_code, Items, no_items, item, Members, no_members, member, EachPart, EachItem, EachMember}
use Rattle.bson_bytes.proofs.SpellingLemmas.{framed_inside}
use Rattle.bson_bytes.specs.Encode.{items_bytes, members_bytes, value_size}
use Rattle.bson_bytes.specs.Spells.{SpellsItems, SpellsMembers}
use Rattle.bson_bytes.specs.Writing.{CanBeWritten}
use Rattle.bson_json_read.specs.Outcome.{Fails as FailsReading}
use Rattle.bson_json_read.specs.Reading.{read}
use Rattle.bson_json_read.specs.declared.error.Error.{Error}
use Rattle.bson_json_read.specs.declared.error.Error.TheVariants as errors
use Rattle.bson_meaning.proofs.NormalLemmas.{both_each}
use Rattle.bson_raw.specs.Convert.{SpellsRawValue}
use Rattle.bson_raw.specs.Raw.{RawValue, own_value}
use Rattle.bson_raw.specs.Trees.{CanBeRaw, raw_of}
use Rattle.bson_raw.specs.declared.bson.RawBson.{RawBson}
use Rattle.store_question_read.proofs.ReadableLemmas.{readable}
use Rattle.store_question_read.proofs.SpelledLemmas.{FitScalar, spelled_items, spelled_members}
use Rattle.store_question_read.proofs.OnwardLemmas.{names_fails}
use Rattle.store_question_read.specs.Outcome.{Fails, Gives, Names, Spells}
use Rattle.store_question_read.specs.Query.{no_operand, only_if, or_fault, value}
use Rattle.store_question_read.specs.Values.{AnyKey, Readable, ReadableScalar, are_plain, can_be_held, can_be_written, has_no_zero, have_plain, is_plain, is_plain_scalar}
use Rattle.store_question_read.specs.declared.error.QueryError.{QueryError}
use Rattle.std.specs.Prelude.{IfOk}

-- ---- tests

positive : (b : ℕ) → 0 < b → not (b == 0) ≡ true
positive b h = grind (arith, common_steps)

not_zero : (b : ℕ) → not (b == 0) ≡ true → 0 < b
not_zero b h = grind (arith, common_steps)

no_zero_from : (xs : List ℕ) → HasNo00 xs → has_no_zero xs ≡ true
no_zero_from [] h = refl
no_zero_from (b ∷ bs) h = and_from (not (b == 0)) (has_no_zero bs) (positive b h.0) (no_zero_from bs h.1)

no_zero_to : (xs : List ℕ) → has_no_zero xs ≡ true → HasNo00 xs
no_zero_to [] h = tt
no_zero_to (b ∷ bs) h = let p = and_parts (not (b == 0)) (has_no_zero bs) h in (not_zero b p.0, no_zero_to bs p.1)

scalar_from : (s : Scalar) → IsPlainScalar s → is_plain_scalar s ≡ true
scalar_from (regex p o) h = and_from (has_no_zero p) (has_no_zero o) (no_zero_from p h.0) (no_zero_from o h.1)
scalar_from s h = refl

scalar_to : (s : Scalar) → is_plain_scalar s ≡ true → IsPlainScalar s
scalar_to (regex p o) h = let q = and_parts (has_no_zero p) (has_no_zero o) h in (no_zero_to p q.0, no_zero_to o q.1)
scalar_to s h = tt

mutual
  plain_from : (v : Value) → IsPlain v → is_plain v ≡ true
  plain_from (scalar s) h = scalar_from s h
  plain_from (array vs) h = items_from vs h
  plain_from (document ms) h = members_from ms h
  plain_from (scoped_code t ms) h = members_from ms h.1

  items_from : (vs : Items) → EachItem HasNo00 IsPlainScalar vs → are_plain vs ≡ true
  items_from no_items h = refl
  items_from (item v vs) h = and_from (is_plain v) (are_plain vs) (plain_from v h.0) (items_from vs h.1)

  members_from : (ms : Members) → EachMember HasNo00 IsPlainScalar ms → have_plain ms ≡ true
  members_from no_members h = refl
  members_from (member k v ms) h = and_from (has_no_zero k) (is_plain v && have_plain ms) (no_zero_from k h.0) (and_from (is_plain v) (have_plain ms) (plain_from v h.1) (members_from ms h.2))

mutual
  plain_to : (v : Value) → is_plain v ≡ true → IsPlain v
  plain_to (scalar s) h = scalar_to s h
  plain_to (array vs) h = items_to vs h
  plain_to (document ms) h = members_to ms h
  plain_to (scoped_code t ms) h = (tt, members_to ms h)

  items_to : (vs : Items) → are_plain vs ≡ true → EachItem HasNo00 IsPlainScalar vs
  items_to no_items h = tt
  items_to (item v vs) h = let p = and_parts (is_plain v) (are_plain vs) h in (plain_to v p.0, items_to vs p.1)

  members_to : (ms : Members) → have_plain ms ≡ true → EachMember HasNo00 IsPlainScalar ms
  members_to no_members h = tt
  members_to (member k v ms) h =
      let p = and_parts (has_no_zero k) (is_plain v && have_plain ms) h in
      let q = and_parts (is_plain v) (have_plain ms) p.1 in
      (no_zero_to k p.0, plain_to v q.0, members_to ms q.1)

written_from : (v : Value) → CanBeWritten v → can_be_written v ≡ true
written_from v h = and_from (is_plain v) (nat_lt (value_size v) (2 ^ 31)) (plain_from v h.0) (lt-ltb (value_size v) (2 ^ 31) h.1)

written_to : (v : Value) → can_be_written v ≡ true → CanBeWritten v
written_to v h = let p = and_parts (is_plain v) (nat_lt (value_size v) (2 ^ 31)) h in (plain_to v p.0, ltb-true (value_size v) (2 ^ 31) p.1)

held_from : (v : Value) → CanBeRaw v → can_be_held v ≡ true
held_from (scalar s) h = refl
held_from (array vs) h = written_from (array vs) h
held_from (document ms) h = written_from (document ms) h
held_from (scoped_code t ms) h = written_from (document ms) h

held_to : (v : Value) → can_be_held v ≡ true → CanBeRaw v
held_to (scalar s) h = tt
held_to (array vs) h = written_to (array vs) h
held_to (document ms) h = written_to (document ms) h
held_to (scoped_code t ms) h = written_to (document ms) h

-- ---- what is written spells the value

fit : (v : Value) → IsPlain v → Readable v → EachPart HasNo00 FitScalar v
fit v p r = each_part (λ k. HasNo00 k × AnyKey k) HasNo00 (λ s. IsPlainScalar s × ReadableScalar s) FitScalar (λ k h. h.0) (λ s h. h) v (both_each HasNo00 AnyKey IsPlainScalar ReadableScalar v p r)

members_spelled : (ms : Members) → CanBeWritten (document ms) → Readable (document ms) → EachMember IsUtf8 IsRangedScalar ms → SpellsMembers (members_bytes ms ++ 0 ∷ []) ms
members_spelled ms h r ranged = let small = h.1 in spelled_members ms (fit (document ms) h.0 r) ranged (omega arith)

raw_spelled : (v : Value) → Readable v → EachPart IsUtf8 IsRangedScalar v → CanBeRaw v → SpellsRawValue (raw_of v) v
raw_spelled (scalar s) r ranged h = refl
raw_spelled (array vs) r ranged h =
    let small = h.1 in
    (vs, subst (λ (x : List ℕ). SpellsItems x vs) (sym (framed_inside (items_bytes 0 vs))) (spelled_items 0 vs (fit (array vs) h.0 r) ranged (omega arith) (omega arith)), refl)
raw_spelled (document ms) r ranged h = (ms, subst (λ (x : List ℕ). SpellsMembers x ms) (sym (framed_inside (members_bytes ms))) (members_spelled ms h r ranged), refl)
raw_spelled (scoped_code t ms) r ranged h = (ms, subst (λ (x : List ℕ). SpellsMembers x ms) (sym (framed_inside (members_bytes ms))) (members_spelled ms h r.1 ranged.1), refl)

-- ---- a value that is held, or why there is none

pub held_given : (k : List ℕ) (v : Value) (held : RawBson) → Readable v → IsSound v → CanBeRaw v → own_value held ≡ raw_of v → Gives Spells (Ok held) (only_if (can_be_held v) k v)
held_given k v held r s h e =
    let spelled = subst (λ (x : RawValue). SpellsRawValue x v) (sym e) (raw_spelled v r s.ranged h) in
    subst (λ b. Gives Spells (Ok held) (if b then Ok v else Err (no_operand k))) (sym (held_from v h)) spelled

pub unheld_named : (k : List ℕ) (v : Value) (e : QueryError) → (CanBeRaw v → ⊥) → Names e (no_operand k) → Fails e (only_if (can_be_held v) k v)
unheld_named k v e never names = by (can_be_held v) refl
  where
    by : (b : Bool) → can_be_held v ≡ b → Fails e (if b then Ok v else Err (no_operand k))
    by true t = absurd (never (held_to v t))
    by false t = names_fails _ e (no_operand k) names

refused : (e : Error) (k : List ℕ) (j : Json) (q : QueryError) → read j ≡ Err e → Names q (no_operand k) → Fails q (value k j)
refused e k j q is names = subst (λ m. Fails q (or_fault k m >>= λ w. only_if (can_be_held w) k w)) (sym is) (names_fails _ q (no_operand k) names)

pub value_given : (k : List ℕ) (j : Json) (v : Value) (r : Result RawBson QueryError) → read j ≡ Ok v → (Readable v → Gives Spells r (only_if (can_be_held v) k v)) → Gives Spells r (value k j)
value_given k j v r e h =
    subst (λ m. Gives Spells r (or_fault k m >>= λ w. only_if (can_be_held w) k w)) (sym e) (h (subst (λ m. IfOk m Readable) e (readable j)))

pub read_refused : (e : Error) (k : List ℕ) (j : Json) (q : QueryError) → FailsReading e (read j) → (e ≡ errors.Memory → ⊥) → Names q (no_operand k) → Fails q (value k j)
read_refused errors.Memory k j q f other names = absurd (other refl)
read_refused (errors.NotJson n) k j q f other names = absurd f
read_refused errors.RepeatedKey k j q f other names = refused errors.RepeatedKey k j q f names
read_refused (errors.InvalidObjectId x) k j q f other names = refused (errors.InvalidObjectId x) k j q f names
read_refused errors.NumberOutOfRange k j q f other names = refused errors.NumberOutOfRange k j q f names
read_refused errors.NotExtendedJson k j q f other names = refused errors.NotExtendedJson k j q f names

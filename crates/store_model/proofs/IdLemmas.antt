-- Written keys of ids: two ids mean the same exactly if their keys are equal, and an id that can't be written is nobody's.
use Rattle.std.proofs.Common.{◌≡◌, ℕ, ◌+◌, ◌≤◌, List, length, Bool, true, false, cond, Option, Some, None, refl, ap, ◌∙◌, sym, subst, arith}
use Rattle.std.specs.Prelude.{bytes_eq, IsSomeAnd, IsUtf8, option_map, unwrap_or, is_some}
use Rattle.bson_base.specs.Kinds.{HasNo00, IsPlainScalar, IsCleanScalar, IsRangedScalar, IsSound, IsPlain, IsClean}
use Rattle.bson_base.specs.Value.{Value, document, Members, no_members, member, look_up}
use Rattle.bson_bytes.specs.Encode.{value_size, members_size, encode, size}
use Rattle.bson_frame.specs.Frame.{size_limit}
use Rattle.bson_meaning.specs.Meaning.{norm_members_in_order, key, Same}
use Rattle.store_model.specs.State.{id_key, HasId, IsKept}
use Rattle.store_model.specs.Table.{only_id, own_id}
use Rattle.bson_bytes.proofs.LengthLemmas.{encode_length}
use Rattle.bson_meaning.proofs.NowLemmas.{in_order_same, key_law, key_size, same_back}
use Rattle.store_model.proofs.SelectLemmas.{Distinct?, look_up_distinct}
use Rattle.bson_meaning.proofs.PlainLemmas.{plain_same, some_found, only_same}
use Rattle.bson_base.proofs.MemberLemmas.{equal_keys, key_at}
use Rattle.bson_base.proofs.PartLemmas.{each_part}

-- ---- documents that have an id and nothing else

found_size : (k : List ℕ) (ms : Members) (v : Value) → look_up k ms ≡ Some v → length k + value_size v + 2 ≤ members_size ms
found_size k no_members v e = cc
found_size k (member l w ms) v e = by (bytes_eq k l) refl e (found_size k ms v)
  where
    by : (b : Bool) → bytes_eq k l ≡ b → cond b (Some w) (look_up k ms) ≡ Some v → (look_up k ms ≡ Some v → length k + value_size v + 2 ≤ members_size ms) → length k + value_size v + 2 ≤ members_size (member l w ms)
    by true i e rest = let same : w ≡ v = cc in omega (arith, ap value_size same, ap length (equal_keys k l i))
    by false i e rest = omega (arith, rest e)

-- what is known of the document of a kept document's id
pub record Own (d : Members) (own : Value) : Type 0 where
  pub plain_key : HasNo00 id_key
  pub text : IsUtf8 id_key
  pub clean : IsClean own
  pub sound : IsSound own
  pub small : size (only_id own) ≤ size_limit

pub own_of : (d : Members) (own : Value) → IsKept d → look_up id_key d ≡ Some own → Own d own
own_of d own k e =
    let c = key_at HasNo00 (λ s. IsPlainScalar s × IsCleanScalar s) d id_key own k.read.clean e in
    let r = key_at IsUtf8 IsRangedScalar d id_key own k.read.sound.ranged e in
    record {
      plain_key = c.0;
      text = r.0;
      clean = c.1;
      sound = record { ranged = r.1; distinct = subst Distinct? e (look_up_distinct d id_key k.read.sound.distinct) };
      small = omega (arith, found_size id_key d own e, k.small);
    }

only_sound : (v : Value) → IsUtf8 id_key → IsSound v → IsSound (document (only_id v))
only_sound v t s = record { ranged = (t, s.ranged, tt); distinct = (refl, s.distinct, tt) }

pub plain_of : (v : Value) → IsClean v → IsPlain v
plain_of v c = each_part HasNo00 HasNo00 (λ s. IsPlainScalar s × IsCleanScalar s) IsPlainScalar (λ k h. h) (λ s h. h.0) v c

pub key_long : (d : Members) (own : Value) → Own d own → length (key (only_id own)) ≤ size_limit
key_long d own o = omega (arith, encode_length (norm_members_in_order (only_id own)), key_size (only_id own) (o.plain_key, o.clean, tt) (only_sound own o.text o.sound), o.small)

pub own_is : (d : Members) (own : Value) → look_up id_key d ≡ Some own → own_id d ≡ only_id own
own_is d own e = ap (λ o. unwrap_or (option_map only_id o) no_members) e

-- what an id that a kept document has is like
pub record IsWritten (d : Members) (id : Value) : Type 0 where
  pub plain : IsPlain id
  pub keys : key (only_id id) ≡ key (own_id d)
  pub short : length (key (only_id id)) ≤ size_limit

pub has_written : (d : Members) (id : Value) → IsKept d → IsSound id → HasId id d → IsWritten d id
has_written d id k s h = some_found (look_up id_key d) (λ own. Same own id) by h
  where
    by : (own : Value) → look_up id_key d ≡ Some own → Same own id → IsWritten d id
    by own e same =
        let o = own_of d own k e in
        let i : document (norm_members_in_order (only_id own)) ≡ document (norm_members_in_order (only_id id)) = in_order_same (document (only_id own)) (document (only_id id)) (only_same id_key own id same) in
        let j : norm_members_in_order (only_id own) ≡ norm_members_in_order (only_id id) = cc in
        let keys : key (only_id id) ≡ key (only_id own) = ap encode (sym j) in
        record {
          plain = plain_same id own (same_back own id s same) s.ranged o.sound.ranged (plain_of own o.clean);
          keys = keys ∙ ap key (sym (own_is d own e));
          short = subst (λ x. length x ≤ size_limit) (sym keys) (key_long d own o);
        }

pub written_has : (d : Members) (id : Value) → IsKept d → IsSound id → IsPlain id → length (key (only_id id)) ≤ 2147483647 → key (only_id id) ≡ key (own_id d) → HasId id d
written_has d id k s p l h = by (look_up id_key d) refl
  where
    by : (o : Option Value) → look_up id_key d ≡ o → IsSomeAnd o (λ own. Same own id)
    by None e = let no : true ≡ false = sym k.identified ∙ ap is_some e in cc
    by (Some own) e =
        let o = own_of d own k e in
        let keys : key (only_id own) ≡ key (only_id id) = sym (h ∙ ap key (own_is d own e)) in
        ((key_law (only_id own) (only_id id) (o.plain_key, plain_of own o.clean, tt) (only_sound own o.text o.sound) (o.plain_key, p, tt) (only_sound id o.text s) (omega (arith, key_long d own o)) l).0 keys).1.0

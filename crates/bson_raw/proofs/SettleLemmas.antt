-- Putting pairs in one after the other settles them.
use Rattle.std.proofs.Common.{◌≡◌, ℕ, List, [], ◌∷◌, unwrap_or, cond, Bool, true, false, refl, sym, ap, ◌∙◌, subst}
use Rattle.std.specs.Str.{bytes_eq}
use Rattle.bson_base.specs.Value.{Value, Members, no_members, member, look_up, put, without}
use Rattle.bson_bytes.specs.Spells.{settle, settle_value}
use Rattle.bson_model.specs.Keyed.{put as put_pair}
use Rattle.bson_model.specs.View.{members_of}
use Rattle.bson_base.proofs.MemberLemmas.{equal_keys, same_key, key_turned, other_stays, without_twice, without_swap}

-- the pairs put in one after the other, each value settled
abbrev pub put_all : Members → Members → Members
put_all acc no_members = acc
put_all acc (member k v ps) = put_all (put k (settle_value v) acc) ps

-- acc with the values of ps, and then the pairs of ps whose keys acc lacks
abbrev pub merge : Members → Members → Members
merge no_members ps = ps
merge (member k v acc) ps = member k (unwrap_or (look_up k ps) v) (merge acc (without k ps))

-- ps with the key in front, which has the value that it has in ps, or else v
abbrev pub front : List ℕ → Value → Members → Members
front k v ps = member k (unwrap_or (look_up k ps) v) (without k ps)

-- a member put in before the others are merged, or put in front of them
merge_put : (k : List ℕ) (v : Value) (acc ps : Members) → merge (put k v acc) ps ≡ merge acc (front k v ps)
merge_put k v no_members ps = refl
merge_put k v (member l w acc) ps = at_test (bytes_eq k l) refl (merge_put k v acc (without l ps))
  where
    at_test : (b : Bool) → bytes_eq k l ≡ b → merge (put k v acc) (without l ps) ≡ merge acc (front k v (without l ps))
        → merge (cond b (member l v acc) (member l w (put k v acc))) ps ≡ member l (unwrap_or (look_up l (front k v ps)) w) (merge acc (without l (front k v ps)))
    at_test true e more =
        let same = equal_keys k l e in
        let twice : without l (without k ps) ≡ without l ps = subst (λ m. without l (without m ps) ≡ without l ps) (sym same) (without_twice l ps) in
        rw (same, same_key l) (ap (λ q. member l (unwrap_or (look_up l ps) v) (merge acc q)) (sym twice))
    at_test false e more = let e' : bytes_eq l k ≡ false = key_turned l k ∙ e in rw (more, e', other_stays l k ps e', other_stays k l ps e, without_swap k l ps) refl

pub put_all_merges : (acc ps : Members) → put_all acc ps ≡ merge acc (settle ps)
put_all_merges acc no_members = merge_none acc
  where
    merge_none : (acc : Members) → acc ≡ merge acc no_members
    merge_none no_members = refl
    merge_none (member k v acc) = ap (member k v) (merge_none acc)
put_all_merges acc (member k v ps) = put_all_merges (put k (settle_value v) acc) ps ∙ merge_put k (settle_value v) acc (settle ps)

pub put_all_settles : (ps : Members) → put_all no_members ps ≡ settle ps
put_all_settles ps = put_all_merges no_members ps

-- a pair put into a list of pairs is a member put into the members
pub members_of_put : (k : List ℕ) (v : Value) (ps : List (List ℕ × Value)) → members_of (put_pair k v ps) ≡ put k v (members_of ps)
members_of_put k v [] = refl
members_of_put k v (p ∷ ps) = at_test (bytes_eq k p.0) refl (members_of_put k v ps)
  where
    at_test : (b : Bool) → bytes_eq k p.0 ≡ b → members_of (put_pair k v ps) ≡ put k v (members_of ps)
        → members_of (cond b ((p.0, v) ∷ ps) (p ∷ put_pair k v ps)) ≡ cond b (member p.0 v (members_of ps)) (member p.0 p.1 (put k v (members_of ps)))
    at_test true e h = refl
    at_test false e h = ap (member p.0 p.1) h

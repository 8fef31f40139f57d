-- The keys of values of one rank are apart.
use Rattle.std.proofs.Common.{◌≡◌, ℕ, suc, List, [], ◌∷◌, ◌++◌, refl, sym, ap, arith}
use Rattle.bson_base.specs.Value.{Scalar, double, string, binary, undefined, object_id, boolean, date_time, null, regex, db_pointer, code, symbol, int32, timestamp, int64, decimal, max_key, min_key, scalar_kind, Value, scalar, array, document, scoped_code, Items, no_items, item, Members, no_members, member, value_kind}
use Rattle.bson_order.specs.Order.{rank, ended, parts, inside, items_inside, members_inside}
use Rattle.bson_order.proofs.KeyLemmas.{Apart, nil_apart, cons_apart, append_apart, head_apart, front_less, front_greater, ended_apart, parts_apart}

-- no scalar has the rank of a document, an array or code with scope
pub scalar_not : (s : Scalar) → (rank (scalar_kind s) ≡ 5 → ⊥) × (rank (scalar_kind s) ≡ 6 → ⊥) × (rank (scalar_kind s) ≡ 15 → ⊥)
scalar_not (double n) = (λ e. omega arith, λ e. omega arith, λ e. omega arith)
scalar_not (string t) = (λ e. omega arith, λ e. omega arith, λ e. omega arith)
scalar_not (binary s bs) = (λ e. omega arith, λ e. omega arith, λ e. omega arith)
scalar_not undefined = (λ e. omega arith, λ e. omega arith, λ e. omega arith)
scalar_not (object_id bs) = (λ e. omega arith, λ e. omega arith, λ e. omega arith)
scalar_not (boolean b) = (λ e. omega arith, λ e. omega arith, λ e. omega arith)
scalar_not (date_time z) = (λ e. omega arith, λ e. omega arith, λ e. omega arith)
scalar_not null = (λ e. omega arith, λ e. omega arith, λ e. omega arith)
scalar_not (regex p o) = (λ e. omega arith, λ e. omega arith, λ e. omega arith)
scalar_not (db_pointer t bs) = (λ e. omega arith, λ e. omega arith, λ e. omega arith)
scalar_not (code t) = (λ e. omega arith, λ e. omega arith, λ e. omega arith)
scalar_not (symbol t) = (λ e. omega arith, λ e. omega arith, λ e. omega arith)
scalar_not (int32 z) = (λ e. omega arith, λ e. omega arith, λ e. omega arith)
scalar_not (timestamp t i) = (λ e. omega arith, λ e. omega arith, λ e. omega arith)
scalar_not (int64 z) = (λ e. omega arith, λ e. omega arith, λ e. omega arith)
scalar_not (decimal bs) = (λ e. omega arith, λ e. omega arith, λ e. omega arith)
scalar_not max_key = (λ e. omega arith, λ e. omega arith, λ e. omega arith)
scalar_not min_key = (λ e. omega arith, λ e. omega arith, λ e. omega arith)

pub one_suc : (m n : ℕ) → suc m ≡ suc n → m ≡ n
one_suc m n e = omega arith

mutual
  pub inside_apart : (v w : Value) → rank (value_kind v) ≡ rank (value_kind w) → Apart (inside v) (inside w)
  inside_apart (scalar s) (scalar t) e = parts_apart (parts s) (parts t)
  inside_apart (scalar s) (array ws) e = absurd ((scalar_not s).1 e)
  inside_apart (scalar s) (document ns) e = absurd ((scalar_not s).0 e)
  inside_apart (scalar s) (scoped_code u ns) e = absurd ((scalar_not s).2 e)
  inside_apart (array vs) (scalar t) e = absurd ((scalar_not t).1 (sym e))
  inside_apart (array vs) (array ws) e = items_apart vs ws
  inside_apart (array vs) (document ns) e = absurd (omega (arith, e))
  inside_apart (array vs) (scoped_code u ns) e = absurd (omega (arith, e))
  inside_apart (document ms) (scalar t) e = absurd ((scalar_not t).0 (sym e))
  inside_apart (document ms) (array ws) e = absurd (omega (arith, e))
  inside_apart (document ms) (document ns) e = members_apart ms ns
  inside_apart (document ms) (scoped_code u ns) e = absurd (omega (arith, e))
  inside_apart (scoped_code t ms) (scalar s) e = absurd ((scalar_not s).2 (sym e))
  inside_apart (scoped_code t ms) (array ws) e = absurd (omega (arith, e))
  inside_apart (scoped_code t ms) (document ns) e = absurd (omega (arith, e))
  inside_apart (scoped_code t ms) (scoped_code u ns) e = append_apart (ended t) (ended u) (members_inside ms) (members_inside ns) (ended_apart t u) (members_apart ms ns)

  pub items_apart : (vs ws : Items) → Apart (items_inside vs) (items_inside ws)
  items_apart no_items no_items = cons_apart 0 0 [] [] nil_apart
  items_apart no_items (item w ws) = front_less (rank (value_kind w)) [] (inside w ++ items_inside ws)
  items_apart (item v vs) no_items = front_greater (rank (value_kind v)) (inside v ++ items_inside vs) []
  items_apart (item v vs) (item w ws) = append_apart (suc (rank (value_kind v)) ∷ inside v) (suc (rank (value_kind w)) ∷ inside w) (items_inside vs) (items_inside ws)
      (head_apart (suc (rank (value_kind v))) (suc (rank (value_kind w))) (inside v) (inside w) (λ e. inside_apart v w (one_suc (rank (value_kind v)) (rank (value_kind w)) e))) (items_apart vs ws)

  pub members_apart : (ms ns : Members) → Apart (members_inside ms) (members_inside ns)
  members_apart no_members no_members = cons_apart 0 0 [] [] nil_apart
  members_apart no_members (member l w ns) = front_less (rank (value_kind w)) [] ((ended l ++ inside w) ++ members_inside ns)
  members_apart (member k v ms) no_members = front_greater (rank (value_kind v)) ((ended k ++ inside v) ++ members_inside ms) []
  members_apart (member k v ms) (member l w ns) = append_apart (suc (rank (value_kind v)) ∷ (ended k ++ inside v)) (suc (rank (value_kind w)) ∷ (ended l ++ inside w)) (members_inside ms) (members_inside ns)
      (head_apart (suc (rank (value_kind v))) (suc (rank (value_kind w))) (ended k ++ inside v) (ended l ++ inside w)
      (λ e. append_apart (ended k) (ended l) (inside v) (inside w) (ended_apart k l) (inside_apart v w (one_suc (rank (value_kind v)) (rank (value_kind w)) e)))) (members_apart ms ns)

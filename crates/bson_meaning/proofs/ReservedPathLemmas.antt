-- There is a path to a reserved key exactly if there is such a key.
use Rattle.std.proofs.Common.{◌≡◌, ℕ, suc, Bool, true, false, List, Option, Some, None, option_map, Result, Ok, Err, IfOk, String, Global, string_bytes, refl, sym, ap, ◌∙◌, if◌then◌else◌}
use Rattle.std.specs.Prelude.{◌||◌, is_some, decimal}
use Rattle.std.specs.declared.alloc.AllocError.{AllocError}
use Rattle.bson_base.specs.Value.{Value, scalar, array, document, scoped_code, Items, no_items, item, Members, no_members, member}
use Rattle.bson_model.specs.JsonKeys.{is_reserved}
use Rattle.bson_meaning.specs.JsonReserved.{some_reserved, reserved_in, reserved_in_items, has_reserved, first_reserved, behind_step, first_path, reserved_path, reserved_path_in_items, reserved_path_below}

either : (p q : Option (List ℕ)) (a b : Bool) → is_some p ≡ a → is_some q ≡ b → is_some (first_path p q) ≡ (a || b)
either (Some p) q a b h k = rw (sym h) refl
either None q a b h k = rw (sym h) k

behind : (s : List ℕ) (p : Option (List ℕ)) → is_some (behind_step s p) ≡ is_some p
behind s (Some p) = refl
behind s None = refl

keys : (ms : Members) → is_some (first_reserved ms) ≡ some_reserved ms
keys no_members = refl
keys (member k v ms) = by (is_reserved k) (keys ms)
  where
    by : (b : Bool) → is_some (first_reserved ms) ≡ some_reserved ms → is_some (if b then Some k else first_reserved ms) ≡ (b || some_reserved ms)
    by true h = refl
    by false h = h

mutual
  inside : (v : Value) → is_some (reserved_path v) ≡ reserved_in v
  inside (scalar s) = refl
  inside (array vs) = in_items 0 vs
  inside (document ms) = either (first_reserved ms) (reserved_path_below ms) (some_reserved ms) (has_reserved ms) (keys ms) (below ms)
  inside (scoped_code t ms) = below ms

  in_items : (n : ℕ) (vs : Items) → is_some (reserved_path_in_items n vs) ≡ reserved_in_items vs
  in_items n no_items = refl
  in_items n (item v vs) = either (behind_step (decimal n) (reserved_path v)) (reserved_path_in_items (suc n) vs) (reserved_in v) (reserved_in_items vs) (behind (decimal n) (reserved_path v) ∙ inside v) (in_items (suc n) vs)

  pub below : (ms : Members) → is_some (reserved_path_below ms) ≡ has_reserved ms
  below no_members = refl
  below (member k v ms) = either (behind_step k (reserved_path v)) (reserved_path_below ms) (reserved_in v) (has_reserved ms) (behind k (reserved_path v) ∙ inside v) (below ms)

-- ---- what is returned

mapped : (o : Option (String Global)) → is_some (option_map (λ t. string_bytes t) o) ≡ is_some o
mapped (Some t) = refl
mapped None = refl

pub told : (ms : Members) (r : Result (Option (String Global)) AllocError) → IfOk r (λ o. option_map (λ t. string_bytes t) o ≡ reserved_path_below ms) → IfOk r (λ o. is_some o ≡ has_reserved ms)
told ms (Ok o) h = sym (mapped o) ∙ ap is_some h ∙ below ms
told ms (Err e) h = tt

-- How many members a path meets at most.
use Rattle.std.proofs.Common.{◌≡◌, ℕ, suc, ◌+◌, ◌*◌, ◌≤◌, List, [], ◌∷◌, Bool, true, false, cond, Some, refl, arith}
use Rattle.std.specs.Prelude.{bytes_eq, option_map, unwrap_or}
use Rattle.bson_bytes.specs.Encode.{value_size, items_size, members_size, size}
use Rattle.store_model.specs.Filter.{under_places, place_among, frames}
use Rattle.bson_base.specs.Value.{Value, scalar, array, document, scoped_code, Items, no_items, item, Members, no_members, member, look_up}

keyed_size : (i : ℕ) (vs : Items) → members_size (under_places i vs) ≡ items_size i vs
keyed_size i no_items = refl
keyed_size i (item v vs) = omega (arith, keyed_size (suc i) vs)

step_short : (k : List ℕ) (path : List (List ℕ)) (ms : Members) → ((v : Value) → 2 * frames v path ≤ value_size v)
    → 2 * (place_among k ms + unwrap_or (option_map (λ w. frames w path) (look_up k ms)) 0) ≤ members_size ms
step_short k path no_members f = omega arith
step_short k path (member l v ms) f = by (step_short k path ms f) (bytes_eq k l)
  where
    by : 2 * (place_among k ms + unwrap_or (option_map (λ w. frames w path) (look_up k ms)) 0) ≤ members_size ms → (b : Bool)
        → 2 * (cond b 1 (suc (place_among k ms)) + unwrap_or (option_map (λ w. frames w path) (cond b (Some v) (look_up k ms))) 0) ≤ members_size (member l v ms)
    by r true = omega (arith, f v)
    by r false = omega arith

pub path_short : (path : List (List ℕ)) (v : Value) → 2 * frames v path ≤ value_size v
path_short [] v = omega arith
path_short (k ∷ path) (scalar s) = omega arith
path_short (k ∷ path) (array vs) = omega (arith, step_short k path (under_places 0 vs) (path_short path), keyed_size 0 vs)
path_short (k ∷ path) (document ms) = omega (arith, step_short k path ms (path_short path))
path_short (k ∷ path) (scoped_code t ms) = omega arith

pub document_short : (path : List (List ℕ)) (d : Members) → 2 * frames (document d) path + 4 ≤ size d
document_short [] d = omega arith
document_short (k ∷ path) d = omega (arith, step_short k path d (path_short path))

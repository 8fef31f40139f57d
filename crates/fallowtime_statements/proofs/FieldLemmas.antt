-- What the lists of keys come to.
use Rattle.std.proofs.Common.{◌≡◌, refl, ℕ, List, [], ◌∷◌, map, Bor, bytes_eq, ap₂, ◌||◌}
use Rattle.std.specs.List.{list_any}
use Rattle.bson_base.proofs.MemberLemmas.{key_turned}
use Rattle.fallowtime_statements.specs.Fields.{is_among}

-- a key is looked for among borrowed texts
pub among_told : (keys : List (Bor (List ℕ))) → (key : List ℕ) → list_any (λ k. bytes_eq k.now key) keys ≡ is_among (map (λ k. k.now) keys) key
among_told [] key = refl
among_told (k ∷ ks) key = ap₂ (λ here more. here || more) (key_turned k.now key) (among_told ks key)

-- Values of commands.
use Rattle.std.proofs.Common.{◌≡◌, ◌↔◌, ◌==◌, ℕ, suc, Bool, true, false, IsTrue, List, [], ◌∷◌, length, map, refl, ap, ◌∙◌, ne_eqb}
use Rattle.bson_base.specs.Value.{Value, array, document}
use Rattle.bson_pairs.specs.Keyed.{Key}
use Rattle.bson_model.specs.View.{items_of, members_of, view}
use Rattle.bson_model.specs.declared.bson.Bson.{Bson}
use Rattle.fallowtime_statements.specs.Fields.{is_empty}

-- a document without members asks for nothing
pub empty_document : (b : Bool) (ps : List (Key × Value)) → (IsTrue b ↔ (ps ≡ [])) → b ≡ is_empty (document (members_of ps))
empty_document b [] h = h.1 refl
empty_document true (p ∷ ps) h = let e = h.0 refl in absurd cc
empty_document false (p ∷ ps) h = refl

pub not_empty : (v : Bson) (vs : List Bson) → (length (v ∷ vs) == 0) ≡ false
not_empty v vs = ne_eqb (suc (length vs)) 0 (λ h. absurd cc)

-- nor does an array without items
pub empty_array : (n : ℕ) (vs : List Bson) → n ≡ length vs → (n == 0) ≡ is_empty (array (items_of (map view vs)))
empty_array n [] e = ap (λ k. k == 0) e
empty_array n (v ∷ vs) e = ap (λ k. k == 0) e ∙ not_empty v vs

-- One turn of a loop over the pairs of a document, or over the items of an array.
use Rattle.std.proofs.Common.{◌≡◌, ◌↔◌, ℕ, suc, List, [], ◌∷◌, map, length, eqb, IsTrue, Bool, true, refl, ap, ◌∙◌, sym, subst, max, ◌≤◌, arith}
use Rattle.std.proofs.lemmas.Bool.{eqb-true}
use Rattle.bson_base.specs.Value.{Value, levels, members_levels}
use Rattle.bson_model.specs.Keyed.{Key}
use Rattle.bson_model.specs.View.{view, items_of, members_of}
use Rattle.bson_model.specs.declared.bson.Bson.{Bson}
use Rattle.bson_meaning.specs.Meaning.{SameItems}

longer : (n : ℕ) → eqb (suc n) 0 ≡ true → ⊥
longer n e = let i : suc n ≡ 0 = eqb-true (suc n) 0 e in omega arith

-- both are at their end, or one is longer
pub items_end : (A : Type 0) (rest left : List Bson) (b : Bool) → (A ↔ SameItems (items_of (map view rest)) (items_of (map view left))) → rest ≡ [] → b ≡ eqb (length left) 0 → IsTrue b ↔ A
items_end A rest left b h e f = by left refl
  where
    P : List Bson → List Bson → Type 0
    P vs ws = SameItems (items_of (map view vs)) (items_of (map view ws))

    by : (ws : List Bson) → left ≡ ws → IsTrue b ↔ A
    by [] g = (λ _. h.1 (subst (λ vs. P vs left) (sym e) (subst (P []) (sym g) tt)), λ _. f ∙ ap (λ ws. eqb (length ws) 0) g)
    by (w ∷ ws) g = (λ t. absurd (longer (length ws) (sym (ap (λ xs. eqb (length xs) 0) g) ∙ sym f ∙ t)), λ x. absurd (subst (P []) g (subst (λ vs. P vs left) e (h.0 x))))

-- what is left of a document has no more levels
pub levels_more : (rest more : List (Key × Value)) (p : Key × Value) (n : ℕ) → rest ≡ p ∷ more → members_levels (members_of rest) ≤ n → members_levels (members_of more) ≤ n
levels_more rest more p n e h =
    let m : max (levels p.1) (members_levels (members_of more)) ≤ n = subst (λ ps. members_levels (members_of ps) ≤ n) e h in
    omega arith

-- Lines, and the trees that they have.
use Rattle.std.proofs.Common.{◌≡◌, ◌≢◌, ℕ, List, [], ◌∷◌, ◌++◌, refl, ap}
use Rattle.serde_json.specs.Data.{Data}
use Rattle.cli_commands.specs.Inputs.{HaveTrees, IsTreeLine}

-- a line more, without a byte
pub no_tree_more : (lines : List (List ℕ)) (js : List Data) → HaveTrees lines js → HaveTrees (lines ++ [] ∷ []) js
no_tree_more [] js h = h
no_tree_more ([] ∷ lines) js h = no_tree_more lines js h
no_tree_more ((b ∷ bs) ∷ lines) js (j, more, e, is, h) = (j, more, e, is, no_tree_more lines more h)

-- one with a tree
pub tree_more : (lines : List (List ℕ)) (js : List Data) (line : List ℕ) (j : Data) → line ≢ [] → IsTreeLine line j → HaveTrees lines js → HaveTrees (lines ++ line ∷ []) (js ++ j ∷ [])
tree_more [] js [] j some is h = absurd (some refl)
tree_more [] js (b ∷ bs) j some is h = (j, [], ap (λ (xs : List Data). xs ++ j ∷ []) h, is, refl)
tree_more ([] ∷ lines) js line j some is h = tree_more lines js line j some is h
tree_more ((b ∷ bs) ∷ lines) js line j some is (i, more, e, first, h) = (i, more ++ j ∷ [], ap (λ (xs : List Data). xs ++ j ∷ []) e, first, tree_more lines more line j some is h)

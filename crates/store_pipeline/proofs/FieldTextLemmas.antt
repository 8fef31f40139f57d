-- Paths of a text.
use Rattle.std.proofs.Common.{◌≡◌, ◌∙◌, ℕ, ◌≤◌, List, [], ◌∷◌, length, take, map, refl, ap}
use Rattle.std.proofs.lemmas.List.{take_all}
use Rattle.std.specs.Borrow.{Bor}
use Rattle.store_model.specs.Filter.{Path}
use Rattle.store_pipeline.specs.Texts.{path_in}

map_lent : (parts : List (Bor (List ℕ))) → map (λ x. path_in x.now) parts ≡ map path_in (map (λ x. x.now) parts)
map_lent [] = refl
map_lent (part ∷ parts) = ap (λ ps. path_in part.now ∷ ps) (map_lent parts)

pub paths_whole : (parts slice : List (Bor (List ℕ))) (i : ℕ) (all : List (List ℕ)) (paths : List Path) → slice ≡ parts → length slice ≤ i → map (λ x. x.now) parts ≡ all → paths ≡ map (λ x. path_in x.now) (take i slice) → paths ≡ map path_in all
paths_whole parts slice i all paths e h is so_far = so_far ∙ ap (map (λ x. path_in x.now)) (take_all i slice h ∙ e) ∙ map_lent parts ∙ ap (map path_in) is

-- A function of the values, pair by pair.
use Rattle.std.specs.Prelude.{◌≡◌, Bool, true, false, cond, List, [], ◌∷◌, map, Option, Some, bytes_eq}
use Rattle.std.specs.Option.{option_map}
use Rattle.std.specs.Map.{keys_of}
use Rattle.std.proofs.Common.{refl, sym, ap, ◌∙◌}
use Rattle.bson_pairs.specs.Keyed.{Key, get}

module _ {V W : Type 0} (h : V → W) where
  -- each pair, with h of its value
  abbrev pub over : List (Key × V) → List (Key × W)
  over = map (λ p. (p.0, h p.1))

  cond-option : (b : Bool) (v : V) (r : Option V) → option_map h (cond b (Some v) r) ≡ cond b (Some (h v)) (option_map h r)
  cond-option true v r = refl
  cond-option false v r = refl

  pub get-over : (k : Key) (ps : List (Key × V)) → get k (over ps) ≡ option_map h (get k ps)
  get-over k [] = refl
  get-over k (p ∷ ps) = ap (cond (bytes_eq k p.0) (Some (h p.1))) (get-over k ps) ∙ sym (cond-option (bytes_eq k p.0) p.1 (get k ps))

  pub keys_of-over : (ps : List (Key × V)) → keys_of (over ps) ≡ keys_of ps
  keys_of-over [] = refl
  keys_of-over (p ∷ ps) = ap (λ l. p.0 ∷ l) (keys_of-over ps)

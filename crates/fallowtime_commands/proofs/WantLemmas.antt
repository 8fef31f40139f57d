-- What is wanted of documents of which all fields are wanted.
use Rattle.std.proofs.Common.{◌≡◌, ℕ, List, [], ◌∷◌, Vec, Option, None, map, refl, sym, ap, subst}
use Rattle.std.specs.declared.alloc.Global.{Global}
use Rattle.store_pipeline.specs.declared.sorted.fields.Fields.{Fields}
use Rattle.store_model.specs.Reading.{Documents}
use Rattle.store_pipeline.specs.Bodies.{AreBodies}
use Rattle.fallowtime_requests.specs.Fields.{left_by}

unchanged : (ds : Documents) → map (left_by None) ds ≡ ds
unchanged [] = refl
unchanged (d ∷ ds) = ap (λ l. d ∷ l) (unchanged ds)

pub all_whole : (fields : Option Fields) (bodies : List (Vec ℕ Global)) (ds : Documents) → fields ≡ None → AreBodies bodies ds → AreBodies bodies (map (left_by fields) ds)
all_whole fields bodies ds none are = subst (λ f. AreBodies bodies (map (left_by f) ds)) (sym none) (subst (AreBodies bodies) (sym (unchanged ds)) are)

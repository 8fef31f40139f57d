-- Parts of documents, and a pipeline after its first stages.
use Rattle.std.proofs.Common.{◌≡◌, inl, inr, ◌+◌, ◌<◌, ◌≤◌, ℕ, List, drop, take, length, get_or, Result, Ok, Err, Vec, refl, sym, subst}
use Rattle.std.specs.declared.alloc.Global.{Global}
use Rattle.store_model.specs.Reading.{Documents}
use Rattle.store_pipeline.proofs.PlaceLemmas.{zip_take}
use Rattle.store_pipeline.specs.Bodies.{AreBodies, IsBody}
use Rattle.store_update.proofs.UpdateLemmas.{drop_at, drop_end, drop_none}
use Rattle.store_pipeline.specs.Faithful.{AnswersStage, BodiesOf}
use Rattle.store_pipeline.specs.Stages.{Makes, MakesAll}
use Rattle.store_pipeline.specs.declared.error.PipelineError.{PipelineError}
use Rattle.store_pipeline.specs.declared.stage.Stage.{Stage}
use Rattle.store_pipeline.specs.declared.stage.Stage.TheVariants as stage
use Rattle.store_pipeline.proofs.EachLemmas.{zip_drop}

-- ---- a part of the documents

pub skipped : (s : Stage) (n : ℕ) (ds : Documents) (bodies : List (Vec ℕ Global)) (made : Vec (Vec ℕ Global) Global) → s ≡ stage.Skip n → made.items ≡ drop n bodies → AreBodies bodies ds → BodiesOf (λ es. Makes s ds (Ok es)) made
skipped s n ds bodies made is part are = (
  drop n ds,
  subst (λ x. Makes x ds (Ok (drop n ds))) (sym is) refl,
  subst (λ l. AreBodies l (drop n ds)) (sym part) (zip_drop (λ (b : Vec ℕ Global) d. IsBody b.items d) n bodies ds are),
)

pub limited : (s : Stage) (n : ℕ) (ds : Documents) (bodies : List (Vec ℕ Global)) (made : Vec (Vec ℕ Global) Global) → s ≡ stage.Limit n → made.items ≡ take n bodies → AreBodies bodies ds → BodiesOf (λ es. Makes s ds (Ok es)) made
limited s n ds bodies made is part are = (
  take n ds,
  subst (λ x. Makes x ds (Ok (take n ds))) (sym is) refl,
  subst (λ l. AreBodies l (take n ds)) (sym part) (zip_take (λ (b : Vec ℕ Global) d. IsBody b.items d) n bodies ds are),
)

-- ---- stages one after the other

-- these are bodies of the documents that the first stages make: what the others make of them, the whole pipeline makes
abbrev pub Reaches : List Stage → Documents → ℕ → List (Vec ℕ Global) → Type 0
Reaches stages ds i bodies = (es : Documents) × AreBodies bodies es × ((r : Result Documents PipelineError) → MakesAll (drop i stages) es r → MakesAll stages ds r)

pub begun : (stages : List Stage) (ds : Documents) (bodies : List (Vec ℕ Global)) → AreBodies bodies ds → Reaches stages ds 0 bodies
begun stages ds bodies are = (ds, are, λ r h. subst (λ l. MakesAll l ds r) (drop_none stages) h)

module _ (stages : List Stage) (i : ℕ) (s : Stage) (ds : Documents) (bodies : List (Vec ℕ Global)) (low : i < length stages) (is : s ≡ get_or stages i s) (before : Reaches stages ds i bodies) where
  pub one_more : (made : Vec (Vec ℕ Global) Global) → AnswersStage s bodies (Ok made) → Reaches stages ds (i + 1) made.items
  one_more made h =
      let one = h before.0 before.1 in
      (one.0, one.2, λ r more. before.2 r (subst (λ l. MakesAll l before.0 r) (sym (drop_at stages i s low is)) (inl (one.0, one.1, more))))

  pub stopped : (e : PipelineError) → AnswersStage s bodies (Err e) → MakesAll stages ds (Err e)
  stopped e h = before.2 (Err e) (subst (λ l. MakesAll l before.0 (Err e)) (sym (drop_at stages i s low is)) (inr (e, h before.0 before.1, refl)))

pub finished : (stages : List Stage) (i : ℕ) (ds : Documents) (bodies : Vec (Vec ℕ Global) Global) → length stages ≤ i → Reaches stages ds i bodies.items → BodiesOf (λ es. MakesAll stages ds (Ok es)) bodies
finished stages i ds bodies end h = (h.0, h.2 (Ok h.0) (subst (λ l. MakesAll l h.0 (Ok h.0)) (sym (drop_end stages i end)) refl), h.1)

-- Documents that stages make, written one after the other, down to the first that can't be.
use Rattle.std.proofs.Common.{◌≡◌, ◌∙◌, inl, inr, ◌+◌, ◌<◌, ◌≤◌, ℕ, suc, List, [], ◌∷◌, ◌++◌, take, drop, length, get_or, Result, Ok, Err, Vec, refl, sym, ap, subst, append_assoc, append-nil}
use Rattle.std.specs.List.{AllByRecursion, flat_map}
use Rattle.std.specs.Prelude.{MatchResult}
use Rattle.std.specs.declared.alloc.Global.{Global}
use Rattle.std.proofs.lemmas.List.{take_more}
use Rattle.std.proofs.lemmas.List.Concat.{flat_map-append}
use Rattle.bson_base.specs.Value.{Members, no_members, document, levels}
use Rattle.bson_meaning.specs.Gate.{level_limit}
use Rattle.store_documents.specs.Bodies as kept
use Rattle.store_documents.specs.Bodies.{IsUnwritten}
use Rattle.store_model.specs.Reading.{Documents, IsKeepable}
use Rattle.store_model.specs.declared.error.ErrorKind.{ErrorKind}
use Rattle.store_pipeline.proofs.PlaceLemmas.{zip_at, zip_long, zip_more}
use Rattle.store_pipeline.specs.Bodies.{AreBodies, IsBody}
use Rattle.store_pipeline.specs.Faithful.{AnswersMade, AnswersWritten, AreFaithful, BodiesOf, IsFaithful}
use Rattle.store_pipeline.specs.Stages.{AreMade, Makes, Stops}
use Rattle.store_pipeline.specs.declared.error.PipelineError.{PipelineError}
use Rattle.store_pipeline.specs.declared.error.PipelineError.TheVariants as why
use Rattle.store_pipeline.specs.declared.stage.Stage.{Stage}
use Rattle.store_pipeline.proofs.EachLemmas.{all_at, all_both, all_more, parted, zip_both}
use Rattle.store_pipeline.proofs.FaithfulLemmas.{to_body}

-- ---- one

module _ (e : Members) (low : levels (document e) ≤ level_limit) where
  pub written_one : (body : Vec ℕ Global) → kept.IsBody body.items e → AnswersWritten e (Ok body)
  written_one body h = (h.0, record { shallow = low; plain = h.1; small = h.2 })

  pub unwritten : (k : ErrorKind) → IsUnwritten e k → AnswersWritten e (Err (why.Document k))
  unwritten k (inl h) = inl (rw h.0 (low, h.1))
  unwritten k (inr (inl h)) = inl (rw h.0 (low, h.1, h.2))
  unwritten k (inr (inr h)) = inr h

-- ---- many

abbrev pub AreWritten : Documents → List (Vec ℕ Global) → Type 0
AreWritten es bodies = AllByRecursion IsKeepable es × AreBodies bodies es

pub made_of : (es : Documents) (bodies : Vec (Vec ℕ Global) Global) → AreWritten es bodies.items → AnswersMade es (Ok bodies)
made_of es bodies h = ((h.0, refl), h.1)

-- the documents are written up to a place
module _ (es : Documents) (i : ℕ) (low : i < length es) where
  pub written_more : (bodies : List (Vec ℕ Global)) (body : Vec ℕ Global) → AreFaithful es → AnswersWritten (get_or es i no_members) (Ok body) → AreWritten (take i es) bodies → AreWritten (take (i + 1) es) (bodies ++ body ∷ [])
  written_more bodies body faithful one before =
      let e = get_or es i no_members in
      let is : IsBody body.items e = to_body body.items e one.0 one.1 (all_at (λ x. IsFaithful (document x)) i es no_members low faithful) in
      subst (λ l. AreWritten l (bodies ++ body ∷ [])) (sym (take_more es i no_members low))
      (all_more IsKeepable (take i es) e before.0 one.1, zip_more (λ (b : Vec ℕ Global) x. IsBody b.items x) bodies (take i es) body e before.1 is)

  pub written_stop : (x : PipelineError) → AnswersWritten (get_or es i no_members) (Err x) → AllByRecursion IsKeepable (take i es) → AnswersMade es (Err x)
  written_stop (why.Document k) (inl h) before = inl (take i es, drop (suc i) es, get_or es i no_members, parted i es no_members low, before, h)
  written_stop (why.Document k) (inr h) before = inr (ap why.Document h)
  written_stop (why.Calculation x) h before = absurd h

-- the document of a body at a place
pub body_at : (bodies : List (Vec ℕ Global)) (ds : Documents) (i : ℕ) (x : Vec ℕ Global) → AreBodies bodies ds → i < length bodies → x ≡ get_or bodies i x → (i < length ds) × IsBody x.items (get_or ds i no_members)
body_at bodies ds i x are low is = (
  subst (λ n. i < n) (zip_long (λ (b : Vec ℕ Global) d. IsBody b.items d) bodies ds are) low,
  subst (λ (b : Vec ℕ Global). IsBody b.items (get_or ds i no_members)) (sym is) (zip_at (λ (b : Vec ℕ Global) d. IsBody b.items d) i bodies ds x no_members are low),
)

-- ---- those that are made of each document

module _ (g : Members → Documents) (ds : Documents) (i : ℕ) (low : i < length ds) where
  one_more : flat_map g (take (i + 1) ds) ≡ flat_map g (take i ds) ++ g (get_or ds i no_members)
  one_more = ap (flat_map g) (take_more ds i no_members low) ∙ flat_map-append g (take i ds) (get_or ds i no_members ∷ []) ∙ ap (λ l. flat_map g (take i ds) ++ l) (append-nil (g (get_or ds i no_members)))

  whole : flat_map g ds ≡ flat_map g (take i ds) ++ (g (get_or ds i no_members) ++ flat_map g (drop (suc i) ds))
  whole = ap (flat_map g) (parted i ds no_members low) ∙ flat_map-append g (take i ds) (get_or ds i no_members ∷ drop (suc i) ds)

  pub pieces_more : (bodies more : List (Vec ℕ Global)) → AreWritten (g (get_or ds i no_members)) more → AreWritten (flat_map g (take i ds)) bodies → AreWritten (flat_map g (take (i + 1) ds)) (bodies ++ more)
  pieces_more bodies more one before =
      subst (λ l. AreWritten l (bodies ++ more)) (sym one_more)
      (all_both IsKeepable (flat_map g (take i ds)) (g (get_or ds i no_members)) before.0 one.0, zip_both (λ (b : Vec ℕ Global) x. IsBody b.items x) bodies more (flat_map g (take i ds)) (g (get_or ds i no_members)) before.1 one.1)

  regrouped : (a front back c : Documents) (e : Members) → a ++ ((front ++ e ∷ back) ++ c) ≡ (a ++ front) ++ e ∷ (back ++ c)
  regrouped a front back c e = simp append_assoc

  pub pieces_stop : (x : PipelineError) → AnswersMade (g (get_or ds i no_members)) (Err x) → AllByRecursion IsKeepable (flat_map g (take i ds)) → AnswersMade (flat_map g ds) (Err x)
  pieces_stop x (inr h) before = inr h
  pieces_stop (why.Document k) (inl h) before =
      let a = flat_map g (take i ds) in
      let c = flat_map g (drop (suc i) ds) in
      inl (a ++ h.0, h.1 ++ c, h.2, whole ∙ ap (λ l. a ++ (l ++ c)) h.3 ∙ regrouped a h.0 h.1 c h.2, all_both IsKeepable a h.0 before h.4, h.5)
  pieces_stop (why.Calculation x) (inl h) before = absurd h

-- ---- stages

-- a stage that makes these documents, written
pub answered : (s : Stage) (ds es : Documents) (r : Result (Vec (Vec ℕ Global) Global) PipelineError) → ((x : Result Documents PipelineError) → AreMade es x → Makes s ds x) → AnswersMade es r → MatchResult r (BodiesOf (λ x. Makes s ds (Ok x))) (Stops s ds)
answered s ds es (Ok bodies) to h = (es, to (Ok es) h.0, h.1)
answered s ds es (Err x) to (inl h) = inl (to (Err x) h)
answered s ds es (Err x) to (inr h) = inr h

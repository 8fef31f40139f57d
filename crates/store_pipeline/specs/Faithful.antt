-- Documents that stages make, and their bodies.
use Rattle.std.specs.Prelude.{◌≡◌, ◌⊎◌, ℕ, List, MatchResult, Result, Ok, Err, Vec}
use Rattle.std.specs.List.{AllByRecursion}
use Rattle.std.specs.declared.alloc.Global.{Global}
use Rattle.bson_base.specs.Kinds.{IsCleanScalar, IsSound}
use Rattle.bson_base.specs.Value.{Value, document, Members, EachPart}
use Rattle.bson_bytes.specs.Encode.{encode}
use Rattle.store_model.specs.Reading.{Documents, IsKeepable, IsUnkeepable}
use Rattle.store_model.specs.declared.error.ErrorKind.TheVariants.{Memory}
use Rattle.store_pipeline.specs.Bodies.{AreBodies}
use Rattle.store_pipeline.specs.Stages.{AreMade, Makes, Stops}
use Rattle.store_pipeline.specs.declared.error.PipelineError.{PipelineError}
use Rattle.store_pipeline.specs.declared.error.PipelineError.TheVariants as why
use Rattle.store_pipeline.specs.declared.stage.Stage.{Stage}

-- if it can be written, it comes back from its bytes as it is
pub record IsFaithful (v : Value) : Type 0 where
  pub sound : IsSound v
  pub settled : EachPart (λ k. Unit {0}) IsCleanScalar v

abbrev pub AreFaithful : Documents → Type 0
AreFaithful es = AllByRecursion (λ e. IsFaithful (document e)) es

-- the body of one of them, or why there is none
abbrev pub AnswersWritten : Members → Result (Vec ℕ Global) PipelineError → Type 0
AnswersWritten e (Ok body) = (body.items ≡ encode e) × IsKeepable e
AnswersWritten e (Err (why.Document k)) = IsUnkeepable e k ⊎ (k ≡ Memory)
AnswersWritten e (Err (why.Calculation x)) = ⊥

-- the bodies of all, or why there are none
abbrev pub AnswersMade : Documents → Result (Vec (Vec ℕ Global) Global) PipelineError → Type 0
AnswersMade es (Ok bodies) = AreMade es (Ok es) × AreBodies bodies.items es
AnswersMade es (Err e) = AreMade es (Err e) ⊎ (e ≡ why.Document Memory)

-- ---- stages

-- they are bodies of documents of which P holds
abbrev pub BodiesOf : (Documents → Type 0) → Vec (Vec ℕ Global) Global → Type 0
BodiesOf P bodies = (es : Documents) × P es × AreBodies bodies.items es

-- what a stage makes of the documents that have these bodies
abbrev pub AnswersStage : Stage → List (Vec ℕ Global) → Result (Vec (Vec ℕ Global) Global) PipelineError → Type 0
AnswersStage s bodies r = (ds : Documents) → AreBodies bodies ds → MatchResult r (BodiesOf (λ es. Makes s ds (Ok es))) (Stops s ds)

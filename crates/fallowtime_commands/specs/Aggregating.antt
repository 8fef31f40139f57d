-- What a pipeline makes of the documents of a collection that answer a question.
use Rattle.std.specs.Prelude.{◌≡◌, ℕ, List, Result, Ok, Err, Vec, MatchResult}
use Rattle.std.specs.declared.alloc.Global.{Global}
use Rattle.store_asked.specs.Asking.{AskedFrom}
use Rattle.store_model.specs.Reading.{Documents}
use Rattle.store_model.specs.Refusal.{refusal}
use Rattle.store_model.specs.declared.error.StoreError.{StoreError}
use Rattle.store_pipeline.specs.Stages.{MakesAll}
use Rattle.store_pipeline.specs.declared.error.PipelineError.{PipelineError}
use Rattle.store_pipeline.specs.declared.error.PipelineError.TheVariants as why
use Rattle.store_pipeline.specs.declared.stage.Stage.{Stage}
use Rattle.store_question.specs.Reads.{Form}
use Rattle.store_pipeline.specs.Bodies.{AreBodies}
use Rattle.store_table.specs.Rows.{TableRow}
use Rattle.fallowtime_commands.specs.declared.answer.Answer.{Answer}
use Rattle.fallowtime_commands.specs.declared.answer.Answer.TheVariants as answer

abbrev pub Bodies : Type 0
Bodies = Vec (Vec ℕ Global) Global

-- the bodies are those of all these documents
abbrev pub AreAll : Bodies → Documents → Type 0
AreAll bodies ds = AreBodies bodies.items ds

-- the bodies are those of the documents that the stages make of these; or that is why they are stopped
abbrev pub Yields : List Stage → Documents → Result Bodies PipelineError → Type 0
Yields stages ds made = MatchResult made (λ bodies. (es : Documents) × MakesAll stages ds (Ok es) × AreBodies bodies.items es) (λ e. MakesAll stages ds (Err e))

-- what is returned of a pipeline: a sum that isn't calculated is an answer, a document that can't be written is refused
abbrev pub returned : Result Bodies PipelineError → Result Answer StoreError
returned (Ok bodies) = Ok (answer.Documents bodies)
returned (Err (why.Calculation e)) = Ok (answer.NotCalculated e)
returned (Err (why.Document k)) = Err (refusal k)

-- what the stages make of the documents that were found is returned; or why none were found
abbrev pub Follows : List Stage → Result Bodies StoreError → Result Answer StoreError → Type 0
Follows stages (Ok bodies) o = (made : Result Bodies PipelineError) × (o ≡ returned made) × ((ds : Documents) → AreBodies bodies.items ds → Yields stages ds made)
Follows stages (Err e) o = o ≡ Err e

-- those of the collection n that answer the question go through the stages
abbrev pub Aggregates : List ℕ → Form → List Stage → Result Answer StoreError → List TableRow → List TableRow → Type 0
Aggregates n form stages o old new = (found : Result Bodies StoreError) × AskedFrom AreAll n form found old new × Follows stages found o

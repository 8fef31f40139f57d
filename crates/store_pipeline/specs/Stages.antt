-- What a pipeline makes of documents: its stages, one after the other (MongoDB, Aggregation Pipeline).
use Rattle.std.specs.Prelude.{◌≡◌, ◌⊎◌, ◌^◌, ℕ, zero, suc, pos, List, [], ◌∷◌, ◌++◌, length, map, take, drop, nat_lt, if◌then◌else◌, Result, Ok, Err, string_bytes}
use Rattle.std.specs.List.{AllByRecursion, flat_map}
use Rattle.bson_base.specs.Value.{Value, scalar, int32, int64, Members, no_members, member}
use Rattle.store_pipeline.specs.Views.{left_of}
use Rattle.store_model.specs.Reading.{Documents, IsKeepable, IsUnkeepable}
use Rattle.store_model.specs.declared.error.ErrorKind.TheVariants.{Memory}
use Rattle.store_question.specs.Asked.{Asked}
use Rattle.store_question.specs.Keeps.{Keeps}
use Rattle.store_question.specs.Reads.{Reads, form_of}
use Rattle.store_pipeline.specs.Bodies.{keys_of}
use Rattle.store_pipeline.specs.Order.{Sorts}
use Rattle.store_update.specs.declared.error.UpdateError.{UpdateError}
use Rattle.store_pipeline.specs.Groups.{AreGroups}
use Rattle.store_pipeline.specs.Unwound.{unwound}
use Rattle.store_pipeline.specs.declared.error.PipelineError.{PipelineError}
use Rattle.store_pipeline.specs.declared.error.PipelineError.TheVariants as why
use Rattle.store_pipeline.specs.declared.stage.Stage.{Stage}
use Rattle.store_pipeline.specs.declared.stage.Stage.TheVariants as stage

-- ---- documents that a stage makes

-- each of them can be written; or the first that can't is the reason
abbrev pub AreMade : Documents → Result Documents PipelineError → Type 0
AreMade es (Ok ds) = AllByRecursion IsKeepable es × (ds ≡ es)
AreMade es (Err (why.Document k)) = (front back : Documents) × (e : Members) × (es ≡ front ++ e ∷ back) × AllByRecursion IsKeepable front × IsUnkeepable e k
AreMade es (Err (why.Calculation e)) = ⊥

-- the same of documents that were calculated; or why they weren't
abbrev pub AreCalculated : Result Documents UpdateError → Result Documents PipelineError → Type 0
AreCalculated (Ok es) r = AreMade es r
AreCalculated (Err e) r = r ≡ Err (why.Calculation e)

-- an integer of 32 bits if it fits, else of 64
abbrev pub number_value : ℕ → Value
number_value n = if nat_lt n (2 ^ 31) then scalar (int32 (pos n)) else scalar (int64 (pos n))

-- a number of documents under a name; of none there is no document
abbrev pub count_of : List ℕ → ℕ → Documents
count_of name zero = []
count_of name (suc n) = member name (number_value (suc n)) no_members ∷ []

-- ---- stages

-- the stage isn't stopped, and P holds of the documents
abbrev pub Gives : (Documents → Type 0) → Result Documents PipelineError → Type 0
Gives P (Ok es) = P es
Gives P (Err e) = ⊥

abbrev pub Makes : Stage → Documents → Result Documents PipelineError → Type 0
Makes (stage.Match t) ds r = Gives (λ es. (q : Asked) → Reads (form_of t) q → Keeps q ds es) r
Makes (stage.Sort ks) ds r = Gives (Sorts (keys_of ks.items) ds) r
Makes (stage.Skip n) ds r = Gives (λ es. es ≡ drop n ds) r
Makes (stage.Limit n) ds r = Gives (λ es. es ≡ take n ds) r
Makes (stage.Project f) ds r = Gives (λ es. es ≡ map (left_of f) ds) r
Makes (stage.Count name) ds r = AreMade (count_of (string_bytes name) (length ds)) r
Makes (stage.Unwind u) ds r = AreMade (flat_map (unwound u) ds) r
Makes (stage.Group g) ds r = (es : Result Documents UpdateError) × AreGroups g ds es × AreCalculated es r

-- for its own reason, or out of memory
abbrev pub Stops : Stage → Documents → PipelineError → Type 0
Stops s ds e = Makes s ds (Err e) ⊎ (e ≡ why.Document Memory)

-- each stage makes its documents of those of the one before it; the first that is stopped stops the pipeline
abbrev pub MakesAll : List Stage → Documents → Result Documents PipelineError → Type 0
MakesAll [] ds r = r ≡ Ok ds
MakesAll (s ∷ ss) ds r = ((es : Documents) × Makes s ds (Ok es) × MakesAll ss es r) ⊎ ((e : PipelineError) × Stops s ds e × (r ≡ Err e))

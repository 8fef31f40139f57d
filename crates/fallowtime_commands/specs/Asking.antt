-- What is replied to a question about a collection, or about all.
use Rattle.std.specs.Prelude.{◌≡◌, ◌-◌, ℕ, min, List, [], ◌∷◌, map, length, sum_by, Bool, true, false, Option, Some, None, Result, Ok, Err, Vec}
use Rattle.std.specs.declared.alloc.Global.{Global}
use Rattle.bson_bytes.specs.Encode.{encode}
use Rattle.store_asked.specs.Asking.{AskedFrom}
use Rattle.store_pipeline.specs.Counted.{AreDistinct, Holds, path_in}
use Rattle.store_pipeline.specs.declared.sorted.counted.Counted.{Counted}
use Rattle.store_pipeline.specs.declared.sorted.distinct.Distinct.{Distinct}
use Rattle.store_model.specs.Filter.{Path}
use Rattle.store_model.specs.Reading.{Documents}
use Rattle.store_model.specs.State as model
use Rattle.store_model.specs.Table.{DocumentTable, state_of}
use Rattle.store_model.specs.declared.error.StoreError.{StoreError}
use Rattle.store_question.specs.Reads.{Form}
use Rattle.store_pipeline.specs.Bodies.{AreBodies, ArrangedBy}
use Rattle.store_table.specs.Rows.{TableRow}
use Rattle.bson_store.specs.Calls.{Does}
use Rattle.bson_store.specs.Export.{bytes_of_each}
use Rattle.bson_store.specs.Questions.{as_list}
use Rattle.bson_store.specs.Refusals.{as_number, reply_by}
use Rattle.bson_store.specs.Shown.{Represents}
use Rattle.fallowtime_requests.specs.Fields.{left_by}
use Rattle.fallowtime_requests.specs.declared.request.Part.{Part}
use Rattle.fallowtime_requests.specs.declared.request.Wanted.{Wanted}
use Rattle.fallowtime_commands.specs.declared.answer.Answer.{Answer}
use Rattle.fallowtime_commands.specs.declared.answer.Answer.TheVariants as answer
use Rattle.fallowtime_commands.specs.declared.meant.Meant.{Meant}

-- all of them, or the first
abbrev pub chosen : {A : Type 0} → Bool → List A → List A
chosen true xs = xs
chosen false [] = []
chosen false (x ∷ xs) = x ∷ []

-- the bodies are the written forms of all documents, or of the first
abbrev pub AreChosen : Bool → Vec (Vec ℕ Global) Global → Documents → Type 0
AreChosen many bodies ds = bytes_of_each bodies.items ≡ map encode (chosen many ds)

abbrev pub MeansOf : Meant → Meant → Documents → Type 0
MeansOf first t out = (t.many ≡ first.many) × AreChosen first.many t.copies.bodies out

abbrev pub IsNumberOf : ℕ → Documents → Type 0
IsNumberOf n ds = n ≡ length ds

-- the bodies are those of what is left of each of the documents that the arrangement has
abbrev pub AreWanted : Wanted → Vec (Vec ℕ Global) Global → Documents → Type 0
AreWanted w bodies ds = (es : Documents) × ArrangedBy w.arrangement ds es × AreBodies bodies.items (map (left_by w.fields) es)

-- those of the collection n that answer the question, as they are wanted
abbrev pub Finds : List ℕ → Form → Wanted → model.Reply → List TableRow → List TableRow → Type 0
Finds n form w r old new = (outcome : Result (Vec (Vec ℕ Global) Global) StoreError) × (r ≡ reply_by as_list outcome) × AskedFrom (AreWanted w) n form outcome old new

-- at most so many, if there is a most
abbrev pub at_most : Option ℕ → ℕ → ℕ
at_most None k = k
at_most (Some limit) k = min k limit

-- how many of so many documents a part has
abbrev pub counted : Part → ℕ → ℕ
counted p k = at_most p.limit (k - p.skip)

abbrev pub HasPart : Part → ℕ → Documents → Type 0
HasPart p n ds = n ≡ counted p (length ds)

-- how many of them a part has
abbrev pub Counts : List ℕ → Form → Part → model.Reply → List TableRow → List TableRow → Type 0
Counts n form p r old new = (outcome : Result ℕ StoreError) × (r ≡ reply_by as_number outcome) × AskedFrom (HasPart p) n form outcome old new

-- the different values at the path of these documents, each with how many of them have it
abbrev pub AreCounted : Path → Vec Counted Global → Documents → Type 0
AreCounted p cs ds = AreDistinct p ds cs.items

-- of the documents they were counted, at the same path as before
abbrev pub TookValues : Distinct → Distinct → Documents → Type 0
TookValues first t out = (path_in t ≡ path_in first) × Holds t out

abbrev pub values_by : Bool → Result (Vec Counted Global) StoreError → Result Answer StoreError
values_by counts (Ok cs) = Ok (answer.Values cs counts)
values_by counts (Err e) = Err e

-- those of the documents of the collection n that answer the question
abbrev pub Differs : List ℕ → Form → Path → Bool → Result Answer StoreError → List TableRow → List TableRow → Type 0
Differs n form p counts o old new = (outcome : Result (Vec Counted Global) StoreError) × (o ≡ values_by counts outcome) × AskedFrom (AreCounted p) n form outcome old new

-- ---- all collections

-- how many documents the lists of all names have
abbrev pub IsTotal : model.State → ℕ → Type 0
IsTotal s k = (ns : List (List ℕ)) × model.AreNames s ns × (k ≡ sum_by (λ n. length (model.list_of s n)) ns)

-- whatever table the rows showed, they show it still, and its documents are counted; or that is refused as `collections` is
abbrev pub Totals : Result ℕ StoreError → List TableRow → List TableRow → Type 0
Totals (Ok k) old new = (a : DocumentTable) → Represents old a → Represents new a × IsTotal (state_of a) k
Totals (Err e) old new = Does model.collections (model.refused e.kind e.document) old new

abbrev pub CountsAll : model.Reply → List TableRow → List TableRow → Type 0
CountsAll r old new = (outcome : Result ℕ StoreError) × (r ≡ reply_by as_number outcome) × Totals outcome old new

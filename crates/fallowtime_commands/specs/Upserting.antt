-- Changes by query that put a document in if none answers.
use Rattle.std.specs.Prelude.{◌≡◌, ◌⊎◌, ℕ, List, [], ◌∷◌, Bool, Result, Ok}
use Rattle.bson_model.specs.View.{content}
use Rattle.store_model.specs.Reading.{Documents}
use Rattle.store_model.specs.State.{in_bytes, insert, IsName, Reply}
use Rattle.store_model.specs.Table.{DocumentTable}
use Rattle.store_model.specs.declared.error.StoreError.{StoreError}
use Rattle.store_question.specs.Asked.{Asked}
use Rattle.store_question.specs.Reads.{Form, Reads}
use Rattle.store_table.specs.Rows.{TableRow}
use Rattle.bson_store.specs.Shown.{Represents}
use Rattle.fallowtime_commands.specs.Changing.{AreMeant, Changes, IsUnfound}
use Rattle.fallowtime_commands.specs.Storing.{Stores}
use Rattle.fallowtime_commands.specs.declared.answer.Answer.{Answer}
use Rattle.fallowtime_commands.specs.declared.answer.Answer.TheVariants as answer
use Rattle.fallowtime_requests.specs.declared.request.Otherwise.{Otherwise}
use Rattle.fallowtime_requests.specs.declared.request.Otherwise.TheVariants as otherwise
use Rattle.fallowtime_requests.specs.declared.request.Work.{Work}

-- no document answers: the one that is to go in is inserted; or that is refused, and the rows stay
abbrev pub Ends : List ℕ → Otherwise → Result Answer StoreError → Reply → List TableRow → List TableRow → Type 0
Ends n (otherwise.Insert id d) o r docs after = Stores n (insert in_bytes) (content d) r docs after
Ends n (otherwise.Refuse e) o r docs after = (o ≡ Ok (answer.NotUpserted e)) × (after ≡ docs)

-- what comes of it if these documents are meant: they are changed, or there is none
abbrev pub Upserts : List ℕ → Work → Otherwise → Documents → Result Answer StoreError → Reply → List TableRow → List TableRow → Type 0
Upserts n w u [] o r docs after = Ends n u o r docs after
Upserts n w u (d ∷ ds) o r docs after = Changes n w (d ∷ ds) o docs after

-- Whatever table the rows showed: the look-up is refused, and the rows stay; or this comes of it.
abbrev pub UpsertsFound : List ℕ → Form → Work → Bool → Otherwise → Result Answer StoreError → Reply → List TableRow → List TableRow → Type 0
UpsertsFound n form w many u o r old new =
    (q : Asked) → Reads form q → (a : DocumentTable) → Represents old a
    → (IsUnfound n o × (new ≡ old)) ⊎ (IsName n × ((ds : Documents) × AreMeant n q many a ds × Upserts n w u ds o r old new))

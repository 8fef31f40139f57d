-- What the programs do over a store, and which words ask for nothing.
use Rattle.std.specs.Prelude.{◌≡◌, ◌⊎◌, ℕ, List, Option, Some, None, Result, Ok, Err}
use Rattle.sqlite.specs.State.{State}
use Rattle.bson_base.specs.Device.{Feed, Tally}
use Rattle.store_table.specs.Beside.{SparesOthers}
use Rattle.store_table.specs.Crash.{AddsNothing}
use Rattle.store_table.specs.Moves.{Moves, WasOpen}
use Rattle.store_table.specs.Rows.{TableRow, HoldsRows}
use Rattle.bson_store.specs.Export.{SendsCollection}
use Rattle.bson_store.specs.Opening.{RepresentsSome}
use Rattle.cli_commands.specs.Execute.{Reports}
use Rattle.cli_commands.specs.declared.stop.Failure.{Failure}
use Rattle.cli_commands.specs.Words.{IsLine}
use Rattle.cli_commands.specs.declared.call.Call.{Call}
use Rattle.fallowtime_front.specs.Words.{AsksForCopy, AsksToWait}
use Rattle.fallowtime_front.specs.Asking.{refused}
use Rattle.fallowtime_front.specs.Ending.{ended_by}
use Rattle.fallowtime_front.specs.declared.asking.Asked.{Asked}
use Rattle.fallowtime_front.specs.declared.ending.Ended.{Ended}
use Rattle.fallowtime_commands.specs.Executing.{Executes}
use Rattle.fallowtime_commands.specs.Reports.{plain}
use Rattle.fallowtime_commands.specs.declared.printing.Form.{Form}
use Rattle.fallowtime_commands.specs.declared.refusal.Refusal.{Refusal}
use Rattle.fallowtime_requests.specs.declared.request.Request.{Request}
use Rattle.fallowtime_messages.specs.Done.{DoesAll}
use Rattle.fallowtime_commands.specs.Leaving.{LeavesTurns}
use Rattle.fallowtime_commands.specs.Sessions.{Turn, Ends}
use Rattle.cli_convert.specs.declared.made.IdMaker.{IdMaker}
use Rattle.fallowtime_messages.specs.Exchanges.{Ends as EndsMessages}
use Rattle.store_model.specs.declared.error.ErrorKind.{ErrorKind}
use Rattle.store_model.specs.declared.error.StoreError.{StoreError}

-- a result; its refusal has no further details
abbrev pub plainly : Result (Unit {0}) StoreError → Result (Unit {0}) Refusal
plainly (Ok x) = Ok x
plainly (Err e) = Err (plain e)

-- a request was performed, and what it returns printed in this form
abbrev pub ServesRequest : Asked → Form → Tally → Tally → Result (Unit {0}) Ended → State → State → Type 0
ServesRequest asked form before after result old new =
    (r : Request) → asked.request ≡ Some r → (done : Result (Unit {0}) Refusal) × (result ≡ ended_by asked.lines.items done) × Executes asked.collection.now r form before after done old new

-- without a request the collection was written as BSON
abbrev pub ServesExport : Asked → Tally → Tally → Result (Unit {0}) Ended → State → State → Type 0
ServesExport asked before after result old new =
    asked.request ≡ None
    → (sent : Result (Unit {0}) StoreError) × (result ≡ ended_by asked.lines.items (plainly sent)) × Moves old new (SendsCollection asked.collection.now before after sent) × AddsNothing old new × WasOpen old new sent

-- how a session ends the program
abbrev pub session_end : Result (Unit {0}) ErrorKind → Result (Unit {0}) Ended
session_end (Ok x) = Ok x
session_end (Err kind) = Err (refused kind)

-- lines of the input were answered one after the other, up to this end
abbrev pub AnswersLines : IdMaker → IdMaker → Feed → Feed → Tally → Tally → Result (Unit {0}) Ended → State → State → Type 0
AnswersLines first last fed left before after result old new =
    (done : Result (Unit {0}) ErrorKind) × (result ≡ session_end done) × ((turns : List Turn) × Ends done turns fed left before after × Moves old new (LeavesTurns first last turns old new))

-- messages of the input, over the database of this name, were answered one after the other, up to this end
abbrev pub AnswersMessages : List ℕ → Feed → Feed → Tally → Tally → Result (Unit {0}) Ended → State → State → Type 0
AnswersMessages database fed left before after result old new =
    (done : Result (Unit {0}) ErrorKind) × (result ≡ session_end done) × DoesAll (EndsMessages database done fed left before after) old new

-- so were lines, or, if a database is named, messages
abbrev pub AnswersRequests : Option (List ℕ) → IdMaker → IdMaker → Feed → Feed → Tally → Tally → Result (Unit {0}) Ended → State → State → Type 0
AnswersRequests None first last fed left before after result old new = AnswersLines first last fed left before after result old new
AnswersRequests (Some database) first last fed left before after result old new = (last ≡ first) × AnswersMessages database fed left before after result old new

-- rows of documents, as a store keeps them, are committed, and the other tables are as they were
abbrev pub IsSoundCopy : State → State → Type 0
IsSoundCopy old new = (docs : List TableRow) × HoldsRows new docs × RepresentsSome docs × SparesOthers old.now new.now

-- the status of bson_store, and what it reports, are those of some outcome of a command
abbrev pub ReportsSome : Tally → Tally → ℕ → Type 0
ReportsSome before after status = (outcome : Result (Unit {0}) Failure) × Reports outcome status before after

-- the words are no line of bson_store's table, nor do they ask for a back-up
abbrev pub AskNothing : List (List ℕ) → Type 0
AskNothing words =
    ((file path : List ℕ) → AsksForCopy words file path → ⊥)
    × ((file coll : List ℕ) (call : Call) (rest : List (List ℕ)) → IsLine words file call coll rest → ⊥)

-- neither these words nor, if they begin with `--wait SECONDS`, those behind it ask for anything
abbrev pub AreNoLine : List (List ℕ) → Type 0
AreNoLine words = (rest : List (List ℕ)) → (rest ≡ words) ⊎ ((seconds : ℕ) × AsksToWait words seconds rest) → AskNothing rest

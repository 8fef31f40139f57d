-- What a command of the program does to the rows and the devices, and what is reported of it.
use Rattle.std.specs.Prelude.{◌≡◌, ◌≢◌, ◌⊎◌, ℕ, ◌+◌, List, [], Result, Ok, Err, IfOk, map, string_bytes}
use Rattle.bson_base.specs.Device.{Feed, Tally, TakesText}
use Rattle.store_table.specs.Rows.{TableRow}
use Rattle.store_model.specs.State.{Command, Reply, refused, When, IsName}
use Rattle.store_model.specs.Table.{DocumentTable, Serves, IsRefusal, state_of}
use Rattle.store_model.specs.declared.error.ErrorKind.{ErrorKind}
use Rattle.store_model.specs.declared.error.ErrorKind.TheVariants.{Memory, Reader, Writer}
use Rattle.cli_commands.specs.Lines.{complaint_line, refusal_line}
use Rattle.cli_commands.specs.Words.{Takes}
use Rattle.cli_commands.specs.declared.call.Call.{Call}
use Rattle.cli_commands.specs.declared.call.Call.TheVariants.{Import, Load, Export, Dump}
use Rattle.cli_commands.specs.declared.lines.UsageError.{UsageError}
use Rattle.cli_commands.specs.declared.words.Words.{Words as Wording}
use Rattle.bson_store.specs.Export.{Exports}
use Rattle.store_model.specs.Refusal.{refusal}
use Rattle.bson_store.specs.Shown.{Represents}
use Rattle.store_model.specs.declared.error.StoreError.{StoreError}
use Rattle.cli_commands.specs.Commands.{AsksFor, Complains}
use Rattle.cli_commands.specs.Printing.{Prints, reply_of}
use Rattle.cli_commands.specs.declared.answer.Answer.{Answer}
use Rattle.cli_commands.specs.declared.answer.Answer.TheVariants.{Tree}
use Rattle.cli_commands.specs.declared.stop.Failure.{Failure}
use Rattle.cli_commands.specs.declared.stop.Failure.TheVariants.{Words, Refused}

-- ---- the table

-- an accepted command of those that are meant takes the table a to b, with a reply of which this is so
abbrev pub Accepts : (Command → Type 0) → (Reply → Type 0) → DocumentTable → DocumentTable → Type 0
Accepts Meant Told a b = (c : Command) × Meant c × (r : Reply) × Told r × (IsRefusal r → ⊥) × Serves a c r b

-- of its reply nothing is said
abbrev pub Any : Reply → Type 0
Any r = Unit {0}

-- such a command is refused with this error: by its own step, or because memory, places or the database is denied
abbrev pub IsRefusedBy : (Command → Type 0) → StoreError → DocumentTable → Type 0
IsRefusedBy Meant e a = (c : Command) × Meant c × Serves a c (refused e.kind e.document) a

-- whatever table the rows showed, they now show one that To relates it to
abbrev pub Comes : (DocumentTable → DocumentTable → Type 0) → List TableRow → List TableRow → Type 0
Comes To old new = (a : DocumentTable) → Represents old a → (b : DocumentTable) × Represents new b × To a b

-- ---- the devices

-- a call of a device failed, and this kind reports it
abbrev pub IsFailure : ErrorKind → ℕ → ℕ → StoreError → Type 0
IsFailure kind old new e = (e ≡ refusal kind) × (new ≡ old + 1)

-- the same; or it is out of memory, and no call failed
abbrev pub IsFault : ErrorKind → ℕ → ℕ → StoreError → Type 0
IsFault kind old new e = IsFailure kind old new e ⊎ ((e ≡ refusal Memory) × (new ≡ old))

-- a call of a device failed exactly if its kind is reported
abbrev pub Fails : ErrorKind → Result (Unit {0}) Failure → ℕ → ℕ → Type 0
Fails kind (Err (Refused e)) old new = When (e.kind ≡ kind) (new ≡ old + 1) (new ≡ old)
Fails kind _ old new = new ≡ old

-- at most one call of a device failed, and if one did, its kind is reported
abbrev pub IsReported : {A : Type 0} → ErrorKind → Result A Failure → ℕ → ℕ → Type 0
IsReported kind (Err (Refused e)) old new = (new ≡ old) ⊎ ((e.kind ≡ kind) × (new ≡ old + 1))
IsReported kind _ old new = new ≡ old

-- So of the input and the output, whatever the disk does: `Reader` of an import, and `Writer` of an export and a dump, only if a
-- call failed.
abbrev pub ReportsFailures : Call → Result (Unit {0}) Failure → ℕ → ℕ → ℕ → ℕ → Type 0
ReportsFailures Import outcome fed left old new = Fails Reader outcome fed left × IsReported Writer outcome old new
ReportsFailures Export outcome fed left old new = IsReported Reader outcome fed left × Fails Writer outcome old new
ReportsFailures Dump outcome fed left old new = IsReported Reader outcome fed left × Fails Writer outcome old new
ReportsFailures _ outcome fed left old new = IsReported Reader outcome fed left × IsReported Writer outcome old new

-- ---- one command of the store

-- a text can't be read, and this is reported; or out of memory
abbrev pub StopsFor : UsageError → Type 0 → Failure → Type 0
StopsFor w Unread (Words c) = (c ≡ w) × Unread
StopsFor w Unread (Refused e) = e ≡ refusal Memory

-- A command was accepted with this answer. Or it was refused, and the table is the same; or the store wasn't asked because of this
-- fault; or a text can't be read, as is reported.
abbrev pub Performed : (Command → Type 0) → (StoreError → Type 0) → (UsageError → Type 0) → Result Answer Failure → DocumentTable → DocumentTable → Type 0
Performed Meant Fault Unread (Ok x) a b = Accepts Meant (λ r. r ≡ reply_of x) a b
Performed Meant Fault Unread (Err (Refused e)) a b = (b ≡ a) × (IsRefusedBy Meant e a ⊎ Fault e)
Performed Meant Fault Unread (Err (Words w)) a b = (b ≡ a) × Unread w

-- the same of whatever table the rows showed
abbrev pub Performs : (Command → Type 0) → (StoreError → Type 0) → (UsageError → Type 0) → Result Answer Failure → List TableRow → List TableRow → Type 0
Performs Meant Fault Unread result = Comes (Performed Meant Fault Unread result)

-- an answer wasn't printed: a write failed, or it is out of memory, which only the text of a tree can be
abbrev pub IsUnprinted : Answer → ℕ → ℕ → StoreError → Type 0
IsUnprinted (Tree j) old new e = IsFault Writer old new e
IsUnprinted x old new e = IsFailure Writer old new e

-- what was done is printed, or it is reported why not; if nothing was done, nothing is printed
abbrev pub Tells : Result Answer Failure → Result (Unit {0}) Failure → ℕ → ℕ → Type 0
Tells (Ok x) result old new = ((result ≡ Ok tt) × (new ≡ old)) ⊎ ((e : StoreError) × (result ≡ Err (Refused e)) × IsUnprinted x old new e)
Tells (Err e) result old new = (result ≡ Err e) × (new ≡ old)

-- if it is done, what was returned was printed
abbrev pub ShowsAnswer : Result Answer Failure → Result (Unit {0}) Failure → Tally → Tally → Type 0
ShowsAnswer returned result old new = IfOk result (λ _. IfOk returned (λ x. Prints (reply_of x) old new))

-- ---- a command and its printing

-- before the store is asked, memory runs out for a text of the words, or a read fails, or memory runs out for what was
-- read; an import reads only under a good name
abbrev pub Starves : Call → List ℕ → List (List ℕ) → Feed → Feed → StoreError → Type 0
Starves Import n texts fed left e = IsName n × IsFault Reader fed.failures left.failures e
Starves Load n texts fed left e = IsFault Reader fed.failures left.failures e
Starves call n texts fed left e = (texts ≢ []) × (e ≡ refusal Memory) × (left ≡ fed)

abbrev pub IsUnasked : Call → List ℕ → List (List ℕ) → Feed → Feed → StoreError → Type 0
IsUnasked call n texts fed left e = Takes call texts × Starves call n texts fed left e

-- what a command returned wasn't printed, as a write failed; or it is out of memory, and the table is the same
abbrev pub Misprints : ℕ → ℕ → StoreError → DocumentTable → DocumentTable → Type 0
Misprints old new e a b = IsFailure Writer old new e ⊎ ((e ≡ refusal Memory) × (new ≡ old) × (b ≡ a))

-- the call on the collection, with these texts
pub record CommandLine : Type 0 where
  pub call : Call
  pub name : List ℕ
  pub texts : List (List ℕ)

-- what is known of the input and of the output, before a command and after it
pub record Streams : Type 0 where
  pub fed : Feed
  pub left : Feed
  pub before : Tally
  pub behind : Tally

abbrev pub streams : Feed → Feed → Tally → Tally → Streams
streams fed left before behind = record { fed = fed; left = left; before = before; behind = behind }

-- one without texts
abbrev pub line_on : Call → List ℕ → CommandLine
line_on call n = record { call = call; name = n; texts = [] }

-- all documents of an export were written, or a prefix of them
abbrev pub Sends : Call → List ℕ → Tally → Tally → Result (Unit {0}) Failure → DocumentTable → Type 0
Sends Export n old new (Ok x) a = Exports (state_of a) n old new (Ok x)
Sends Export n old new (Err (Refused e)) a = Exports (state_of a) n old new (Err e)
Sends _ n old new _ a = Unit {0}

module _ (l : CommandLine) (d : Streams) where
  -- the commands that the line may ask for
  abbrev pub Asked : Command → Type 0
  Asked = AsksFor l.call l.name l.texts d.fed d.left

  -- A command was accepted, and its reply was printed. Or the table is the same, and the refusal is the command's own, or
  -- that of the input; or a command was accepted, and the refusal is that of the output. Or a text can't be read, and the
  -- table is the same.
  abbrev pub Ended : Result (Unit {0}) Failure → DocumentTable → DocumentTable → Type 0
  Ended (Ok x) a b = Accepts Asked (λ r. Prints r d.before d.behind) a b
  Ended (Err (Refused e)) a b =
      ((b ≡ a) × (IsRefusedBy Asked e a ⊎ IsUnasked l.call l.name l.texts d.fed d.left e)) ⊎ (Misprints d.before.failures d.behind.failures e a b × Accepts Asked Any a b)
  Ended (Err (Words w)) a b = (b ≡ a) × Complains l.call l.texts d.fed d.left w

  -- and a device is reported exactly if it failed
  pub record Executed (outcome : Result (Unit {0}) Failure) (a b : DocumentTable) : Type 0 where
    pub ended : Ended outcome a b
    pub reader : Fails Reader outcome d.fed.failures d.left.failures
    pub writer : Fails Writer outcome d.before.failures d.behind.failures
    pub sent : Sends l.call l.name d.before d.behind outcome a

abbrev pub line_of : Wording → CommandLine
line_of w = record { call = w.call; name = w.coll.now; texts = map string_bytes w.rest.now }

-- the same of whatever table the rows showed
abbrev pub Executes : Wording → Streams → Result (Unit {0}) Failure → List TableRow → List TableRow → Type 0
Executes w d outcome = Comes (Executed (line_of w) d outcome)

-- ---- what is reported

-- if a text couldn't be read, the output is as it was
abbrev pub SilentUnread : {A : Type 0} → Result (Unit {0}) Failure → A → A → Type 0
SilentUnread (Ok x) old new = Unit {0}
SilentUnread (Err (Refused e)) old new = Unit {0}
SilentUnread (Err (Words w)) old new = new ≡ old

-- the status, and the line that was written, or a prefix of it if a write failed
abbrev pub Reports : Result (Unit {0}) Failure → ℕ → Tally → Tally → Type 0
Reports (Ok x) status old new = status ≡ 0
Reports (Err (Refused e)) status old new = (status ≡ 1) × TakesText old new (refusal_line e.kind e.document)
Reports (Err (Words w)) status old new = (status ≡ 2) × TakesText old new (complaint_line w)

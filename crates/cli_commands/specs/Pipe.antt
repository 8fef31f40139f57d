-- What the program does to its input, its output and the device that faults are reported to.
use Rattle.std.specs.Prelude.{◌≡◌, ◌⊎◌, ℕ, List, [], ◌∷◌, Some, None, Result, Ok, Err, codes}
use Rattle.bson_base.specs.Device.{Feed, TookAll, Tally, TakesText, StopsReading}
use Rattle.bson_base.specs.Value.{Members}
use Rattle.bson_bytes.specs.Encode.{encode}
use Rattle.sqlite.specs.State.{State}
use Rattle.store_table.specs.Rows.{TableRow}
use Rattle.store_table.specs.Moves.{Stands}
use Rattle.store_model.specs.Reading.{readable, unreadable, ReadsBytes}
use Rattle.store_model.specs.State.{list_of, refusal_of}
use Rattle.store_model.specs.Table.{DocumentTable, state_of}
use Rattle.store_model.specs.declared.error.ErrorKind.{ErrorKind}
use Rattle.store_model.specs.declared.error.ErrorKind.TheVariants.{Memory, Database, Reader, Writer}
use Rattle.bson_base.specs.declared.whole.ReadAllError.TheVariants as reads
use Rattle.cli_commands.specs.Lines.{refusal_line}
use Rattle.bson_store.specs.Shown.{Represents}
use Rattle.bson_store.specs.Export.{Delivers}

-- ---- the document

-- all of the input was read, and it means the document
abbrev pub ReadsInput : Feed → Feed → Members → Type 0
ReadsInput old new d = (bytes : List ℕ) × TookAll old new bytes × ReadsBytes bytes (readable d)

-- all of the input was read; it can't be read as a document for this reason, or it means one that isn't kept for this
-- reason
abbrev pub ReadsRefused : Feed → Feed → ErrorKind → Type 0
ReadsRefused old new kind = (bytes : List ℕ) × TookAll old new bytes × (ReadsBytes bytes (unreadable kind) ⊎ ((d : Members) × ReadsBytes bytes (readable d) × (refusal_of d ≡ Some kind)))

-- the rows are those of a table whose list under the program's name is the document alone
abbrev pub HasAlone : State → Members → Type 0
HasAlone s d = (docs : List TableRow) × (a : DocumentTable) × Stands s docs × Represents docs a × (list_of (state_of a) (codes "c") ≡ d ∷ [])

-- the document of the input is kept, alone
abbrev pub KeepsInput : Feed → Feed → State → Type 0
KeepsInput old new s = (d : Members) × ReadsInput old new d × (refusal_of d ≡ None) × HasAlone s d

-- why it is not kept
abbrev pub RefusesInput : ErrorKind → Feed → Feed → Type 0
RefusesInput Reader old new = StopsReading reads.Reader old new
RefusesInput Memory old new = StopsReading reads.Memory old new ⊎ ((d : Members) × ReadsInput old new d)
RefusesInput Database old new = (new ≡ old) ⊎ ((d : Members) × ReadsInput old new d)
RefusesInput kind old new = ReadsRefused old new kind

-- ---- the program

-- After a document was read, memory ran out or the database refused: nothing was written, or the document is kept, and
-- a prefix of it was written.
abbrev pub Denies : ErrorKind → Feed → Feed → Tally → Tally → Type 0
Denies kind old new before after = (d : Members) × ReadsInput old new d × ((after ≡ before) ⊎ ((refusal_of d ≡ None) × Delivers (encode d) before after (Err kind)))

-- All of the input was read, it means a document that is kept, and this was written to the output; or why not. Only if
-- Writer, Memory or Database is reported can something have been written. The database can refuse before the first byte
-- is read.
abbrev pub Exchanges : Feed → Feed → Tally → Tally → Result (Unit {0}) ErrorKind → Type 0
Exchanges old new before after (Ok x) = (d : Members) × ReadsInput old new d × (refusal_of d ≡ None) × Delivers (encode d) before after (Ok x)
Exchanges old new before after (Err Writer) = (d : Members) × ReadsInput old new d × (refusal_of d ≡ None) × Delivers (encode d) before after (Err Writer)
Exchanges old new before after (Err Memory) = (StopsReading reads.Memory old new × (after ≡ before)) ⊎ Denies Memory old new before after
Exchanges old new before after (Err Database) = ((new ≡ old) × (after ≡ before)) ⊎ Denies Database old new before after
Exchanges old new before after (Err Reader) = StopsReading reads.Reader old new × (after ≡ before)
Exchanges old new before after (Err kind) = ReadsRefused old new kind × (after ≡ before)

-- the three devices
pub record Devices : Type 0 where
  pub input : Feed
  pub output : Tally
  pub faults : Tally

-- status 0: it is done, and nothing is reported; status 1: it was refused, and the line reports why
abbrev pub Pipes : Devices → Devices → ℕ → Type 0
Pipes old new status = ((status ≡ 0) × Exchanges old.input new.input old.output new.output (Ok tt) × (new.faults ≡ old.faults))
    ⊎ ((kind : ErrorKind) × (status ≡ 1) × Exchanges old.input new.input old.output new.output (Err kind) × TakesText old.faults new.faults (refusal_line kind None))

-- What an export does to the device that it writes to.
use Rattle.std.specs.Prelude.{◌≡◌, ℕ, ◌+◌, List, None, Result, Ok, Err, Vec, Bool, true, false, map}
use Rattle.std.specs.List.{flat_map}
use Rattle.std.specs.Io.KnownBytes.{Appends}
use Rattle.std.specs.declared.alloc.Global.{Global}
use Rattle.bson_base.specs.Device.{TakesBeginning, Tally}
use Rattle.bson_bytes.specs.Encode.{encode}
use Rattle.store_table.specs.Rows.{TableRow}
use Rattle.store_model.specs.State.{State, list_of, IsName}
use Rattle.store_model.specs.Table.{DocumentTable, state_of}
use Rattle.store_model.specs.declared.error.ErrorKind.{ErrorKind}
use Rattle.store_model.specs.declared.error.ErrorKind.TheVariants.{BadName, Memory, Database, Writer}
use Rattle.bson_store.specs.Shown.{Represents}
use Rattle.store_model.specs.declared.error.StoreError.{StoreError}

-- All of bs was written; or a prefix of it was, and a call of the sink failed if `Writer` is reported, and none failed
-- if `Memory` or `Database` is.
abbrev pub Delivers : List ℕ → Tally → Tally → Result (Unit {0}) ErrorKind → Type 0
Delivers bs old new (Ok x) = (new.failures ≡ old.failures) × Appends old.taken new.taken bs
Delivers bs old new (Err Memory) = (new.failures ≡ old.failures) × TakesBeginning old.taken new.taken bs
Delivers bs old new (Err Database) = (new.failures ≡ old.failures) × TakesBeginning old.taken new.taken bs
Delivers bs old new (Err Writer) = (new.failures ≡ old.failures + 1) × TakesBeginning old.taken new.taken bs
Delivers bs old new (Err _) = ⊥

-- what an export is refused for
abbrev pub ExportRefused : State → List ℕ → Tally → Tally → ErrorKind → Type 0
ExportRefused s n old new BadName = (IsName n → ⊥) × (new ≡ old)
ExportRefused s n old new kind = IsName n × Delivers (flat_map encode (list_of s n)) old new (Err kind)

-- an export delivers the written documents of the list; under a bad name it does nothing
abbrev pub Exports : State → List ℕ → Tally → Tally → Result (Unit {0}) StoreError → Type 0
Exports s n old new (Ok x) = IsName n × Delivers (flat_map encode (list_of s n)) old new (Ok x)
Exports s n old new (Err e) = (e.document ≡ None) × ExportRefused s n old new e.kind

-- whatever table the rows show, its list is written, and the rows stay
pub record SendsCollection (n : List ℕ) (old new : Tally) (result : Result (Unit {0}) StoreError) (docs after : List TableRow) : Type 0 where
  pub same : after ≡ docs
  pub exports : (a : DocumentTable) → Represents docs a → Exports (state_of a) n old new result

-- the bodies of a collection, one after the other
abbrev pub bytes_of_each : List (Vec ℕ Global) → List (List ℕ)
bytes_of_each = map (λ (v : Vec ℕ Global). v.items)

-- bodies were written one after the other, or a prefix of them was, and a write failed
abbrev pub Sent : Tally → Tally → Bool → List (List ℕ) → Type 0
Sent old new false bodies = (new.failures ≡ old.failures) × Appends old.taken new.taken (flat_map (λ (b : List ℕ). b) bodies)
Sent old new true bodies = (new.failures ≡ old.failures + 1) × TakesBeginning old.taken new.taken (flat_map (λ (b : List ℕ). b) bodies)

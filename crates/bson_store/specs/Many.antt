-- What calls of many documents say of the rows: imports and loads, and dumps.
use Rattle.std.specs.Prelude.{◌≡◌, ◌⊎◌, ◌||◌, ℕ, Bool, List, length, map, filter, Option, None, Result, Ok, Err, IfOk, IfErr, OnErr}
use Rattle.std.specs.Cow.{cow_slice_items}
use Rattle.std.specs.List.{list_any}
use Rattle.std.specs.Str.{bytes_eq}
use Rattle.store_table.specs.Rows.{TableRow, is_in}
use Rattle.store_table.specs.declared.fault.Fault.{Fault}
use Rattle.store_table.specs.declared.row.NewRow.{NewRow}
use Rattle.store_documents.specs.declared.write.KeptRow.{KeptRow}
use Rattle.store_model.specs.Reading.{Documents, AreRead, ReadsStream}
use Rattle.store_model.specs.State as model
use Rattle.store_model.specs.Table.{DocumentTable, documents_of}
use Rattle.store_model.specs.declared.error.ErrorKind.{ErrorKind}
use Rattle.store_model.specs.declared.error.ErrorKind.TheVariants.{BadName, DuplicateId, Memory, Reader}
use Rattle.bson_base.specs.declared.whole.ReadAllError.TheVariants as reads
use Rattle.store_documents.specs.declared.keys.Keys.{Keys}
use Rattle.bson_base.specs.Device.{Feed, TookAll, StopsReading}
use Rattle.store_documents.specs.Judging.{AreWrittenRows}
use Rattle.store_documents.specs.Keys.{first_taken, has_met, keys_of_rows}
use Rattle.bson_store.specs.Shown.{Represents}
use Rattle.bson_store.specs.Calls.{Does}
use Rattle.bson_store.specs.Refusals.{IsDenied, as_number, kind_of_fault, reply_by}
use Rattle.store_model.specs.Refusal.{refusal, refusal_at}
use Rattle.store_model.specs.declared.error.StoreError.{StoreError}

-- ---- what comes in

-- a call with many documents, which stand for what they read as
abbrev pub DoesMany : List ℕ → (Documents → Option ErrorKind → Type 0) → model.Reply → List TableRow → List TableRow → Type 0
DoesMany n Reads r old new = (ds : Documents) × (stop : Option ErrorKind) × Reads ds stop × Does (model.on n (model.import ds stop)) r old new

-- the reader was read to its end, and the reply is that to its bytes
abbrev pub TakesStream : List ℕ → Feed → Feed → model.Reply → List TableRow → List TableRow → Type 0
TakesStream n old new r docs after = model.IsName n × ((bytes : List ℕ) × TookAll old new bytes × DoesMany n (ReadsStream bytes) r docs after)

-- under a bad name nothing is read; `Reader` reports that a read failed, and no other kind does
abbrev pub ImportRefused : List ℕ → Feed → Feed → ErrorKind → Option ℕ → List TableRow → List TableRow → Type 0
ImportRefused n old new BadName place docs after = (model.IsName n → ⊥) × (place ≡ None) × (new ≡ old) × (after ≡ docs)
ImportRefused n old new Reader place docs after = model.IsName n × (place ≡ None) × StopsReading reads.Reader old new × (after ≡ docs)
ImportRefused n old new Memory place docs after = model.IsName n × (place ≡ None) × StopsReading reads.Memory old new × (after ≡ docs)
ImportRefused n old new kind place docs after = TakesStream n old new (model.refused kind place) docs after

abbrev pub Imports : List ℕ → Feed → Feed → Result ℕ StoreError → List TableRow → List TableRow → Type 0
Imports n old new (Ok count) docs after = TakesStream n old new (model.number count) docs after
Imports n old new (Err e) docs after = ImportRefused n old new e.kind e.document docs after

-- ---- the keys of what comes in

-- the written keys of a collection, in order of place
abbrev pub keys_in : List ℕ → List TableRow → List (List ℕ)
keys_in n docs = map (λ (d : TableRow). d.idkey) (filter (is_in n) docs)

-- whether a key is in the collection or among those that were met
pub record Meets (n k : List ℕ) (met : Keys) (result : Result Bool StoreError) (docs after : List TableRow) : Type 0 where
  pub same : after ≡ docs
  pub there : IfOk result (λ b. b ≡ list_any (bytes_eq k) (keys_in n docs) || has_met met k)
  pub denied : IfErr result IsDenied

-- the place of the first row whose key is in the collection or is that of an earlier row
pub record FindsTaken (n : List ℕ) (rows : List KeptRow) (result : Result (Option ℕ) StoreError) (docs after : List TableRow) : Type 0 where
  pub same : after ≡ docs
  pub place : IfOk result (λ o. o ≡ first_taken 0 (keys_in n docs) (keys_of_rows rows))
  pub denied : IfErr result IsDenied

-- a row to come lends the key and the bytes of a written document
abbrev pub Lends : NewRow → KeptRow → Type 0
Lends r w = (r.idkey.now ≡ w.key.items) × (r.body.now ≡ cow_slice_items w.body)

-- a row's key is there already, or the table refused, or memory ran out
abbrev pub IsAddFault : StoreError → Type 0
IsAddFault e = ((x : Fault) × (e ≡ refusal (kind_of_fault x))) ⊎ ((i : ℕ) × (e ≡ refusal_at DuplicateId i))

-- The rows of documents that were read and can be kept go in, or the call is refused and every row is as it was.
pub record AddsAll (n : List ℕ) (rows : List KeptRow) (result : Result ℕ StoreError) (docs after : List TableRow) : Type 0 where
  pub same : OnErr result (after ≡ docs)
  pub fault : IfErr result IsAddFault
  pub does : (ds : Documents) → AreRead ds → model.first_refusal 0 ds None ≡ None → AreWrittenRows rows ds → Does (model.on n (model.import ds None)) (reply_by as_number result) docs after

-- ---- what comes back

-- `count` documents were put in, and the rows show a table whose list of the name m is ds
abbrev pub Restored : List ℕ → Documents → ℕ → List TableRow → Type 0
Restored m ds count docs = (count ≡ length ds) × ((u : DocumentTable) × Represents docs u × (documents_of u m ≡ ds))

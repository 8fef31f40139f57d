-- What the refusals of the table are reported as, and what a call's result is as a reply.
use Rattle.std.specs.Prelude.{◌≡◌, ◌≢◌, ◌+◌, Bool, ℕ, Result, Ok, Err, Vec, map}
use Rattle.std.specs.declared.alloc.Global.{Global}
use Rattle.serde_json.specs.View.{view as data_of}
use Rattle.serde_json.specs.declared.value.Value.{Value as Json}
use Rattle.store_table.specs.declared.fault.Fault.{Fault}
use Rattle.store_table.specs.declared.fault.Fault.TheVariants as faults
use Rattle.store_table.specs.declared.opening.OpenError.{OpenError}
use Rattle.store_table.specs.declared.opening.OpenError.TheVariants as opens
use Rattle.store_model.specs.State as model
use Rattle.store_model.specs.declared.error.ErrorKind.{ErrorKind}
use Rattle.store_model.specs.declared.error.ErrorKind.TheVariants.{NotAStore, BadRow, IdsCollide, Memory, Database, Places}
use Rattle.store_model.specs.Refusal.{refusal}
use Rattle.store_model.specs.declared.error.StoreError.{StoreError}

abbrev pub kind_of_fault : Fault → ErrorKind
kind_of_fault faults.Memory = Memory
kind_of_fault faults.Database = Database
kind_of_fault faults.Places = Places

abbrev pub kind_of_opening : OpenError → ErrorKind
kind_of_opening opens.NotAStore = NotAStore
kind_of_opening (opens.BadRow place) = BadRow place
kind_of_opening (opens.IdsCollide first second) = IdsCollide first second
kind_of_opening opens.Memory = Memory
kind_of_opening opens.Database = Database

-- out of memory, or the database refused
abbrev pub IsDenied : StoreError → Type 0
IsDenied e = (x : Fault) × (x ≢ faults.Places) × (e ≡ refusal (kind_of_fault x))

-- a result as the reply that it is
abbrev pub reply_by : {A : Type 0} → (A → model.Reply) → Result A StoreError → model.Reply
reply_by f (Ok x) = f x
reply_by f (Err e) = model.refused e.kind e.document

abbrev pub as_done : Unit {0} → model.Reply
as_done x = model.done

abbrev pub as_flag : Bool → model.Reply
as_flag b = model.flag b

abbrev pub as_bytes : Vec ℕ Global → model.Reply
as_bytes v = model.bytes v.items

abbrev pub as_json : Json → model.Reply
as_json j = model.json (data_of j)

abbrev pub as_number : ℕ → model.Reply
as_number i = model.number i

abbrev pub as_json_list : Vec Json Global → model.Reply
as_json_list v = model.json_list (map data_of v.items)

-- a call of a device failed exactly if its kind is reported
abbrev pub ReportsFailure : {A : Type 0} → ErrorKind → Result A StoreError → ℕ → ℕ → Type 0
ReportsFailure kind (Ok x) old new = new ≡ old
ReportsFailure kind (Err e) old new = model.When (e.kind ≡ kind) (new ≡ old + 1) (new ≡ old)

-- What is printed of answers.
use Rattle.std.specs.Prelude.{◌≡◌, ◌⊎◌, ℕ, ◌+◌, List, ◌∷◌, ◌++◌, map, Bool, true, false, Option, None, Some, Result, Ok, Err, String, Vec, codes, decimal, string_bytes, MatchOption}
use Rattle.std.specs.declared.alloc.Global.{Global}
use Rattle.bson_base.specs.Device.{Tally}
use Rattle.bson_base.specs.Value.{Value, Members, document}
use Rattle.bson_bytes.specs.Encode.{encode}
use Rattle.bson_json.specs.Prints.{IsTextOf}
use Rattle.bson_meaning.specs.JsonReserved.{reserved_path_below}
use Rattle.bson_model.specs.View.{view}
use Rattle.bson_model.specs.declared.extjson.ser.Mode.{Mode}
use Rattle.bson_model.specs.declared.extjson.ser.Mode.TheVariants.{Relaxed}
use Rattle.bson_store.specs.Export.{bytes_of_each}
use Rattle.cli_convert.specs.Parts.{InParts, Passed}
use Rattle.cli_commands.specs.Lines.{line}
use Rattle.cli_convert.specs.Shown.{shown}
use Rattle.store_pipeline.specs.declared.sorted.counted.Counted.{Counted}
use Rattle.store_model.specs.Refusal.{refusal, refusal_at}
use Rattle.store_model.specs.State.{IsKept}
use Rattle.store_model.specs.declared.error.ErrorKind.{ErrorKind}
use Rattle.store_model.specs.declared.error.ErrorKind.TheVariants.{BadKey, Database, Memory, ReservedKey, Writer}
use Rattle.store_model.specs.declared.error.StoreError.{StoreError}
use Rattle.store_update.specs.declared.error.UpdateError.{UpdateError}
use Rattle.cli_convert.specs.Printed.{holding}
use Rattle.cli_convert.specs.declared.printed.PrintFault.{PrintFault}
use Rattle.cli_convert.specs.declared.printed.PrintFault.TheVariants as faults
use Rattle.fallowtime_commands.specs.declared.answer.Answer.{Answer}
use Rattle.fallowtime_commands.specs.declared.answer.Answer.TheVariants as answer
use Rattle.fallowtime_commands.specs.declared.printing.Form.{Form}
use Rattle.fallowtime_commands.specs.declared.printing.Form.TheVariants.{Lines, Bytes}
use Rattle.fallowtime_commands.specs.declared.refusal.Refusal.{Refusal}
use Rattle.fallowtime_requests.specs.declared.request.Request.{Request}
use Rattle.fallowtime_commands.specs.Performing.{inserted_id}

-- ---- one document

-- a line of a text of the document, or its bytes
abbrev pub IsPrinted : Form → Members → List ℕ → Type 0
IsPrinted (Lines m) d part = (text : List ℕ) × IsTextOf m (document d) text × (part ≡ line text)
IsPrinted Bytes d part = part ≡ encode d

-- a write failed
abbrev pub IsUnwritten : Tally → Tally → StoreError → Type 0
IsUnwritten before after e = (e ≡ refusal Writer) × (after.failures ≡ before.failures + 1)

-- it is out of memory
abbrev pub IsOutOfMemory : Tally → Tally → StoreError → Type 0
IsOutOfMemory before after e = (e ≡ refusal Memory) × (after ≡ before)

-- what is refused for a document that has no text
abbrev pub kind_of_fault : PrintFault → ErrorKind
kind_of_fault (faults.ReservedKey path) = ReservedKey
kind_of_fault faults.Damaged = Database
kind_of_fault faults.Memory = Memory

-- the path that is reported of it
abbrev pub key_of_fault : PrintFault → Option (String Global)
key_of_fault (faults.ReservedKey path) = Some path
key_of_fault _ = None

-- it has a reserved key below its top, and the path to the first one is reported
abbrev pub IsReserved : Members → Refusal → Type 0
IsReserved d r = (r.error ≡ refusal ReservedKey) × ((path : String Global) × (reserved_path_below d ≡ Some (string_bytes path)) × (r.key ≡ Some path))

-- why the document isn't printed: it has such a key, and so no text, or one of these
abbrev pub IsUnprinted : Members → Tally → Tally → Refusal → Type 0
IsUnprinted d before after r = (IsReserved d r × (after ≡ before)) ⊎ (IsOutOfMemory before after r.error ⊎ IsUnwritten before after r.error)

-- the same of the document whose written form is kept as the body
abbrev pub PrintsBody : Form → List ℕ → Tally → Tally → Result (Unit {0}) Refusal → Type 0
PrintsBody f body before after (Ok x) = (part : List ℕ) × Passed before after part × ((d : Members) → IsKept d → body ≡ encode d → IsPrinted f d part)
PrintsBody f body before after (Err r) = (d : Members) → IsKept d → body ≡ encode d → IsUnprinted d before after r

-- ---- many

-- one part is printed for each body, in their order
abbrev pub ArePrinted : Form → List ℕ → List (List ℕ) → Type 0
ArePrinted f out bodies = InParts (λ part body. (d : Members) → IsKept d → body ≡ encode d → IsPrinted f d part) out bodies

-- all are printed; or the first ones are, and the next one isn't
abbrev pub PrintsBodies : Form → List (List ℕ) → Tally → Tally → Result (Unit {0}) Refusal → Type 0
PrintsBodies f bodies before after (Ok x) = (out : List ℕ) × Passed before after out × ArePrinted f out bodies
PrintsBodies f bodies before after (Err r) =
    (front : List (List ℕ)) × (body : List ℕ) × (back : List (List ℕ)) × (out : List ℕ) × (mid : Tally) × (bodies ≡ front ++ body ∷ back)
    × Passed before mid out × ArePrinted f out front × PrintsBody f body mid after (Err r)

-- ---- lines

abbrev pub PrintsLine : List ℕ → Tally → Tally → Result (Unit {0}) Refusal → Type 0
PrintsLine text before after (Ok x) = Passed before after (line text)
PrintsLine text before after (Err r) = IsUnwritten before after r.error

-- the text of an id, which was made before: memory can't run out
abbrev pub PrintsMadeId : Mode → Value → Tally → Tally → Result (Unit {0}) Refusal → Type 0
PrintsMadeId m id before after (Ok x) = (text : List ℕ) × IsTextOf m id text × Passed before after (line text)
PrintsMadeId m id before after (Err r) = IsUnwritten before after r.error

-- ---- names

-- a name as a line may show it
abbrev pub IsNameLine : List ℕ → List ℕ → Type 0
IsNameLine part name = part ≡ line (shown name)

-- it is out of memory, or a write failed
abbrev pub IsUnnamed : Tally → Tally → StoreError → Type 0
IsUnnamed before after e = IsOutOfMemory before after e ⊎ IsUnwritten before after e

abbrev pub PrintsName : List ℕ → Tally → Tally → Result (Unit {0}) Refusal → Type 0
PrintsName name before after (Ok x) = (part : List ℕ) × Passed before after part × IsNameLine part name
PrintsName name before after (Err r) = IsUnnamed before after r.error

-- all names are printed, one a line; or the first ones are, and the next one isn't
abbrev pub PrintsNames : List (List ℕ) → Tally → Tally → Result (Unit {0}) Refusal → Type 0
PrintsNames names before after (Ok x) = (out : List ℕ) × Passed before after out × InParts IsNameLine out names
PrintsNames names before after (Err r) =
    (front : List (List ℕ)) × (name : List ℕ) × (back : List (List ℕ)) × (out : List ℕ) × (mid : Tally) × (names ≡ front ++ name ∷ back)
    × Passed before mid out × InParts IsNameLine out front × PrintsName name mid after (Err r)

-- ---- values

-- an object with a text and digits
abbrev pub counted_text : List ℕ → List ℕ → List ℕ
counted_text text digits = codes "{\"value\":" ++ (text ++ (codes ",\"count\":" ++ (digits ++ codes "}")))

-- its text, or an object with it and the number of documents that have it
abbrev pub value_text : Bool → List ℕ → ℕ → List ℕ
value_text false text n = text
value_text true text n = counted_text text (decimal n)

abbrev pub IsValueLine : Mode → Bool → List ℕ → Counted → Type 0
IsValueLine m counts part c = (text : List ℕ) × IsTextOf m (view c.value) text × (part ≡ line (value_text counts text c.documents))

-- a document in it, or the value itself, has a reserved key, and the path behind `value` to the first one is reported
abbrev pub IsReservedValue : Value → Refusal → Type 0
IsReservedValue v r = (r.error ≡ refusal ReservedKey) × ((path : String Global) × (reserved_path_below (holding v) ≡ Some (string_bytes path)) × (r.key ≡ Some path))

abbrev pub PrintsValue : Mode → Bool → Counted → Tally → Tally → Result (Unit {0}) Refusal → Type 0
PrintsValue m counts c before after (Ok x) = (part : List ℕ) × Passed before after part × IsValueLine m counts part c
PrintsValue m counts c before after (Err r) = (IsReservedValue (view c.value) r × (after ≡ before)) ⊎ (IsOutOfMemory before after r.error ⊎ IsUnwritten before after r.error)

-- all are printed, one a line; or the first ones are, and the next one isn't
abbrev pub PrintsValues : Mode → Bool → List Counted → Tally → Tally → Result (Unit {0}) Refusal → Type 0
PrintsValues m counts cs before after (Ok x) = (out : List ℕ) × Passed before after out × InParts (IsValueLine m counts) out cs
PrintsValues m counts cs before after (Err r) =
    (front : List Counted) × (c : Counted) × (back : List Counted) × (out : List ℕ) × (mid : Tally) × (cs ≡ front ++ c ∷ back)
    × Passed before mid out × InParts (IsValueLine m counts) out front × PrintsValue m counts c mid after (Err r)

-- ---- answers

abbrev pub mode_of : Form → Mode
mode_of (Lines m) = m
mode_of Bytes = Relaxed

abbrev pub flag_text : Bool → List ℕ
flag_text true = codes "true"
flag_text false = codes "false"

-- the text is that of the id that is returned, if one is
abbrev pub IsIdText : Form → Answer → List ℕ → Type 0
IsIdText f (answer.Id v) text = IsTextOf (mode_of f) (view v) text
IsIdText f (answer.Upserted v) text = IsTextOf (mode_of f) (view v) text
IsIdText f _ text = Unit {0}

-- how many documents were selected, and how many of them became other ones
abbrev pub update_text : ℕ → ℕ → List ℕ
update_text m c = codes "{\"matched\":" ++ (decimal m ++ (codes ",\"changed\":" ++ (decimal c ++ codes "}")))

-- none was selected, and a document went in with the `_id` of this text
abbrev pub upsert_text : List ℕ → List ℕ
upsert_text id = codes "{\"matched\":0,\"changed\":0,\"upserted\":" ++ (id ++ codes "}")

abbrev pub PrintsUpsert : Mode → Value → Tally → Tally → Result (Unit {0}) Refusal → Type 0
PrintsUpsert m id before after (Ok x) = (text : List ℕ) × IsTextOf m id text × Passed before after (line (upsert_text text))
PrintsUpsert m id before after (Err r) = IsUnwritten before after r.error

-- an update isn't made of the query's equality fields, or a sum isn't calculated: that is refused, by its name
abbrev pub Refuses : UpdateError → Tally → Tally → Result (Unit {0}) Refusal → Type 0
Refuses e before after result = ((r : Refusal) × (result ≡ Err r) × (r.error ≡ refusal BadKey) × (r.update ≡ Some e)) × (after ≡ before)

-- an update isn't made of the document at a place: that is refused, by its name
abbrev pub RefusesUpdate : ℕ → UpdateError → Tally → Tally → Result (Unit {0}) Refusal → Type 0
RefusesUpdate i e before after result = ((r : Refusal) × (result ≡ Err r) × (r.error ≡ refusal_at BadKey i) × (r.update ≡ Some e)) × (after ≡ before)

-- a document that was found and changed, if one was; else nothing
abbrev pub PrintsFound : Form → Option (Vec ℕ Global) → Tally → Tally → Result (Unit {0}) Refusal → Type 0
PrintsFound f None before after result = (result ≡ Ok tt) × (after ≡ before)
PrintsFound f (Some body) before after result = PrintsBody f body.items before after result

abbrev pub Prints : Form → Answer → Tally → Tally → Result (Unit {0}) Refusal → Type 0
Prints f answer.Nothing before after result = (result ≡ Ok tt) × (after ≡ before)
Prints f (answer.Id v) before after result = PrintsMadeId (mode_of f) (view v) before after result
Prints f (answer.Flag b) before after result = PrintsLine (flag_text b) before after result
Prints f (answer.Number n) before after result = PrintsLine (decimal n) before after result
Prints f (answer.Document body) before after result = PrintsBody f body.items before after result
Prints f (answer.Documents bodies) before after result = PrintsBodies f (bytes_of_each bodies.items) before after result
Prints f (answer.Found found) before after result = PrintsFound f found before after result
Prints f (answer.Names names) before after result = PrintsNames (map string_bytes names.items) before after result
Prints f (answer.Values cs counts) before after result = PrintsValues (mode_of f) counts cs.items before after result
Prints f (answer.Updated m c) before after result = PrintsLine (update_text m c) before after result
Prints f (answer.NotUpdated i e) before after result = RefusesUpdate i e before after result
Prints f (answer.Upserted v) before after result = PrintsUpsert (mode_of f) (view v) before after result
Prints f (answer.NotUpserted e) before after result = Refuses e before after result
Prints f (answer.NotCalculated e) before after result = Refuses e before after result

-- what a request returns that only reads
abbrev pub IsRead : Answer → Type 0
IsRead (answer.Number n) = Unit {0}
IsRead (answer.Document body) = Unit {0}
IsRead (answer.Documents bodies) = Unit {0}
IsRead (answer.Names names) = Unit {0}
IsRead (answer.Values cs counts) = Unit {0}
IsRead (answer.NotCalculated e) = Unit {0}
IsRead _ = ⊥

-- the text is that of the id of the document that is to go in, or that may, if there is one
abbrev pub IsInsertText : Form → Request → List ℕ → Type 0
IsInsertText f q text = MatchOption (inserted_id q) (Unit {0}) (λ id. IsTextOf (mode_of f) id text)

abbrev pub IsOutcomeText : Form → Result Answer StoreError → List ℕ → Type 0
IsOutcomeText f (Ok a) text = IsIdText f a text
IsOutcomeText f (Err e) text = Unit {0}

-- what a request returned is printed, or why it was refused is returned, and nothing printed
abbrev pub Tells : Form → Result Answer StoreError → Tally → Tally → Result (Unit {0}) Refusal → Type 0
Tells f (Ok a) before after result = Prints f a before after result
Tells f (Err e) before after result = ((r : Refusal) × (result ≡ Err r) × (r.error ≡ e)) × (after ≡ before)

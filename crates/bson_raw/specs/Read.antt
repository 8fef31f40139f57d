-- The walk with its values read, and what a look-up returns.
use Rattle.std.specs.Prelude.{◌≡◌, ℕ, List, Option, Some, None, Result, Ok, Err}
use Rattle.std.specs.Borrow.{Bor}
use Rattle.bson_frame.specs.declared.error.ErrorKind.{ErrorKind}
use Rattle.bson_frame.specs.declared.error.Error.{Error}
use Rattle.bson_frame.specs.Frame.{Element}
use Rattle.bson_frame.specs.Payload.{IsPayloadFault}
use Rattle.bson_frame.specs.View.{IsBare, IsFaultUnder}
use Rattle.bson_raw.specs.declared.bson_ref.RawBsonRef.{RawBsonRef}
use Rattle.bson_raw.specs.declared.element.RawElement.{RawElement}
use Rattle.bson_raw.specs.declared.raw_iter.RawIter.{RawIter}
use Rattle.bson_raw.specs.declared.iter.Iter.{Iter}
use Rattle.bson_raw.specs.declared.array_iter.RawArrayIter.{RawArrayIter}
use Rattle.bson_raw.specs.View.{parts_of}
use Rattle.bson_raw.specs.ReadValue.{IsValue}
use Rattle.bson_raw.specs.Walk.{raw_steps}

-- an item of a walk was read: the element's value, its payload fault under its key, or the structural fault under none
abbrev pub IsItemRead : Result Element ErrorKind → Result RawBsonRef Error → Type 0
IsItemRead (Ok e) (Ok v) = IsValue e.tag e.payload v
IsItemRead (Ok e) (Err x) = (kind : ErrorKind) × IsPayloadFault e.tag e.payload kind × IsFaultUnder e.key kind x
IsItemRead (Err kind) (Ok v) = ⊥
IsItemRead (Err kind) (Err x) = IsBare kind x

-- an item of a walk was read as a pair: the element's key beside its value, or the fault
abbrev pub IsPairRead : Result Element ErrorKind → Result (Bor (List ℕ) × RawBsonRef) Error → Type 0
IsPairRead (Ok e) (Ok p) = (p.0.now ≡ e.key) × IsItemRead (Ok e) (Ok p.1)
IsPairRead (Ok e) (Err x) = IsItemRead (Ok e) (Err x)
IsPairRead (Err kind) (Ok p) = ⊥
IsPairRead (Err kind) (Err x) = IsItemRead (Err kind) (Err x)

-- what a look-up returns: nothing if nothing was found, else what was found, read
abbrev pub GetAnswer : Option (Result Element ErrorKind) → Result (Option RawBsonRef) Error → Type 0
GetAnswer None (Ok None) = Unit {0}
GetAnswer None (Ok (Some v)) = ⊥
GetAnswer None (Err x) = ⊥
GetAnswer (Some i) (Ok None) = ⊥
GetAnswer (Some i) (Ok (Some v)) = IsItemRead i (Ok v)
GetAnswer (Some i) (Err x) = IsItemRead i (Err x)

-- ---- the iterators over values

-- an item of the walk without its place in memory
abbrev pub item_of : Result RawElement Error → Result Element ErrorKind
item_of (Ok e) = Ok (parts_of e)
item_of (Err x) = Err x.kind

-- what a call of `next` made of the walk's next item
abbrev pub ReadsNext : {T : Type 0} → (Result Element ErrorKind → T → Type 0) → Option (Result RawElement Error) → Option T → Type 0
ReadsNext R None None = Unit {0}
ReadsNext R None (Some item) = ⊥
ReadsNext R (Some raw) None = ⊥
ReadsNext R (Some raw) (Some item) = R (item_of raw) item

-- a call of `next` takes one step of the walk, and reads what it gave
abbrev pub reading_steps : {T : Type 0} → (Result Element ErrorKind → T → Type 0) → RawIter → Option T → RawIter → Type 0
reading_steps R s item t = (raw : Option (Result RawElement Error)) × raw_steps s raw t × ReadsNext R raw item

abbrev pub pair_steps : Iter → Option (Result (Bor (List ℕ) × RawBsonRef) Error) → Iter → Type 0
pair_steps s item t = reading_steps IsPairRead s.raw item t.raw

abbrev pub value_steps : RawArrayIter → Option (Result RawBsonRef Error) → RawArrayIter → Type 0
value_steps s item t = reading_steps IsItemRead s.raw item t.raw

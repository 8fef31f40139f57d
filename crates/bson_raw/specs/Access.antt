-- What a getter of one kind returns.
use Rattle.std.specs.Prelude.{◌≡◌, ◌≢◌, List, [], ℕ, ◌⊎◌, Option, Some, None, Result, Ok, Err}
use Rattle.std.specs.Fmt.{decimal}
use Rattle.bson_frame.specs.declared.error.ErrorKind.{ErrorKind}
use Rattle.bson_frame.specs.declared.error.ErrorKind.TheVariants as faults
use Rattle.bson_frame.specs.declared.error.ValueAccessError.{ValueAccessError}
use Rattle.bson_frame.specs.declared.error.ValueAccessErrorKind.{ValueAccessErrorKind}
use Rattle.bson_frame.specs.declared.error.ValueAccessErrorKind.TheVariants as refusals
use Rattle.bson_frame.specs.Frame.{Element}
use Rattle.bson_frame.specs.View.{asked_key}
use Rattle.bson_raw.specs.declared.access.Asked.{Asked}
use Rattle.bson_raw.specs.declared.access.Asked.TheVariants.{Key, Place}
use Rattle.bson_raw.specs.declared.bson_ref.RawBsonRef.{RawBsonRef}
use Rattle.bson_raw.specs.ReadValue.{IsValue}
use Rattle.bson_raw.specs.Read.{GetAnswer}

-- the key of a refusal; for an array, the index in decimal
abbrev pub asked_text : Asked → List ℕ
asked_text (Key key) = key.now
asked_text (Place index) = decimal index

-- a getter that takes every kind
abbrev pub any_value : RawBsonRef → Option RawBsonRef
any_value v = Some v

-- an element was found, and this is what the getter takes of its value
pub record TakesValue {T : Type 0} (pick : RawBsonRef → Option T) (found : Option (Result Element ErrorKind)) (taken : Option T) : Type 0 where
  pub element : Element
  pub is_found : found ≡ Some (Ok element)
  pub value : RawBsonRef
  pub is_value : IsValue element.tag element.payload value
  pub picked : pick value ≡ taken

-- why a getter refuses: nothing was found, a value of another kind, or a fault
abbrev pub RefusesAccess : {T : Type 0} → (RawBsonRef → Option T) → Option (Result Element ErrorKind) → ValueAccessErrorKind → Type 0
RefusesAccess pick found refusals.NotPresent = found ≡ None
RefusesAccess pick found refusals.UnexpectedType = TakesValue pick found None
RefusesAccess pick found (refusals.InvalidBson x) = GetAnswer found (Err x)
RefusesAccess pick found refusals.OutOfMemory = ⊥

-- out of memory isn't inside another refusal
abbrev pub HasNoWant : ValueAccessErrorKind → Type 0
HasNoWant (refusals.InvalidBson x) = x.kind ≢ faults.OutOfMemory
HasNoWant kind = Unit {0}

-- a refusal of this kind under the key, or out of memory instead, under the empty key
abbrev pub IsAccessRefusal : List ℕ → ValueAccessErrorKind → ValueAccessError → Type 0
IsAccessRefusal key kind e = ((e.kind ≡ kind) × (asked_key e ≡ key) × HasNoWant kind) ⊎ ((e.kind ≡ refusals.OutOfMemory) × (asked_key e ≡ []))

-- what a getter returns: what it takes of the value that was found, or why it takes nothing
abbrev pub AccessAnswer : {T : Type 0} → (RawBsonRef → Option T) → List ℕ → Option (Result Element ErrorKind) → Result T ValueAccessError → Type 0
AccessAnswer pick key found (Ok x) = TakesValue pick found (Some x)
AccessAnswer pick key found (Err e) = (kind : ValueAccessErrorKind) × RefusesAccess pick found kind × IsAccessRefusal key kind e

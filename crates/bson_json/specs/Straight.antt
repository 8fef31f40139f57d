-- Which documents have a text.
use Rattle.std.specs.Prelude.{◌≡◌, ◌<◌, ◌-◌, ℕ, List, false, None}
use Rattle.bson_base.specs.Value.{Scalar, Value, scalar, array, document, scoped_code, Items, no_items, item, Members, no_members, member, look_up}
use Rattle.bson_meaning.specs.JsonReserved.{some_reserved}
use Rattle.bson_model.specs.JsonWrite.{scalar_is_finite}
use Rattle.bson_raw.specs.Raw as raw
use Rattle.bson_raw.specs.Raw.{RawValue}
use Rattle.bson_json.specs.declared.style.Style.{Style}
use Rattle.bson_json.specs.declared.style.Style.TheVariants.{Stored, Full}
use Rattle.bson_json.specs.declared.unwritten.Unwritten.{Unwritten}
use Rattle.bson_json.specs.declared.unwritten.Unwritten.TheVariants.{Memory, Unseen}

-- a store prints no finite double but the zeros
abbrev pub IsStraightScalar : Style → Scalar → Type 0
IsStraightScalar Stored s = scalar_is_finite s ≡ false
IsStraightScalar (Full m) s = Unit {0}

-- nothing is inside the value
abbrev pub IsLeaf : RawValue → Type 0
IsLeaf (raw.leaf s) = Unit {0}
IsLeaf _ = ⊥

-- where keys are sorted, none of the members behind it has the key
abbrev pub IsApart : Style → List ℕ → Members → Type 0
IsApart Stored k ms = look_up k ms ≡ None
IsApart (Full m) k ms = Unit {0}

-- No document in the value has a reserved key; the keys of a scope are free. Documents, arrays and scopes nest n levels
-- at most. In a store no key is there twice, and no finite double but the zeros.
abbrev mutual
  pub IsStraight : Style → ℕ → Value → Type 0
  IsStraight style n (scalar s) = IsStraightScalar style s
  IsStraight style n (array vs) = (0 < n) × ItemsAreStraight style (n - 1) vs
  IsStraight style n (document ms) = (some_reserved ms ≡ false) × (0 < n) × MembersAreStraight style (n - 1) ms
  IsStraight style n (scoped_code t ms) = (0 < n) × MembersAreStraight style (n - 1) ms

  pub ItemsAreStraight : Style → ℕ → Items → Type 0
  ItemsAreStraight style n no_items = Unit {0}
  ItemsAreStraight style n (item v vs) = IsStraight style n v × ItemsAreStraight style n vs

  pub MembersAreStraight : Style → ℕ → Members → Type 0
  MembersAreStraight style n no_members = Unit {0}
  MembersAreStraight style n (member k v ms) = IsStraight style n v × MembersAreStraight style n ms × IsApart style k ms

-- the same of a document whose own keys are free, as at the top
abbrev pub IsStraightAtTop : Style → ℕ → Members → Type 0
IsStraightAtTop style n ms = (0 < n) × MembersAreStraight style (n - 1) ms

-- if a document has no text for another reason than memory, this holds
abbrev pub IfUnseen : Type 0 → Unwritten → Type 0
IfUnseen P Memory = Unit {0}
IfUnseen P Unseen = P

-- The walk of a document: its elements in order, down to a rest of exactly 00, or elements and one structural fault.
use Rattle.std.specs.Prelude.{◌≡◌, ◌≢◌, ℕ, ◌+◌, ◌/◌, List, [], ◌∷◌, length, drop, Option, Some, None, Result, Ok, Err, find, slice_get, Bool, true}
use Rattle.std.specs.List.{AllZip}
use Rattle.std.specs.Str.{bytes_eq}
use Rattle.bson_frame.specs.declared.error.ErrorKind.{ErrorKind}
use Rattle.bson_frame.specs.declared.error.Error.{Error}
use Rattle.bson_frame.specs.Frame.{Element, IsFirstFrame, IsStructuralFault}
use Rattle.bson_frame.specs.View.{fault_key, IsBare}
use Rattle.bson_raw.specs.declared.element.RawElement.{RawElement}
use Rattle.bson_raw.specs.declared.raw_iter.RawIter.{RawIter}
use Rattle.bson_raw.specs.View.{parts_of, left_of}

-- bytes are these elements, and end in the document's 00 or in this structural fault
abbrev pub IsWalk : List ℕ → List Element → Option ErrorKind → Type 0
IsWalk bytes [] None = bytes ≡ 0 ∷ []
IsWalk bytes [] (Some kind) = (bytes ≢ 0 ∷ []) × IsStructuralFault bytes kind
IsWalk bytes (e ∷ elements) fault = (rest : List ℕ) × IsFirstFrame bytes e rest × IsWalk rest elements fault

-- the walk of a document begins after its length
abbrev pub IsDocumentWalk : List ℕ → List Element → Option ErrorKind → Type 0
IsDocumentWalk bytes elements fault = IsWalk (drop 4 bytes) elements fault

-- P holds of the walk of the bytes: of its elements, and of the structural fault that it ends at
abbrev pub OnWalk : List ℕ → (List Element → Option ErrorKind → Type 0) → Type 0
OnWalk bytes P = (elements : List Element) (fault : Option ErrorKind) → IsDocumentWalk bytes elements fault → P elements fault

-- the items of a walk: its elements in order, a structural fault last
abbrev pub walk_items : List Element → Option ErrorKind → List (Result Element ErrorKind)
walk_items [] None = []
walk_items [] (Some kind) = Err kind ∷ []
walk_items (e ∷ elements) fault = Ok e ∷ walk_items elements fault

-- the items are those of the walk of a document, in order, each as R says
pub record YieldsWalk {T : Type 0} (R : Result Element ErrorKind → T → Type 0) (bytes : List ℕ) (items : List T) : Type 0 where
  pub elements : List Element
  pub fault : Option ErrorKind
  pub walk : IsDocumentWalk bytes elements fault
  pub in_order : AllZip R (walk_items elements fault) items

-- an item of the walk as it is yielded: a structural fault is under no key
abbrev pub IsItem : Result Element ErrorKind → Result RawElement Error → Type 0
IsItem (Ok e) (Ok x) = parts_of x ≡ e
IsItem (Ok e) (Err x) = ⊥
IsItem (Err kind) (Ok x) = ⊥
IsItem (Err kind) (Err x) = IsBare kind x

-- ---- look-ups

-- a look-up ends at the first element with the key, or at the structural fault
abbrev pub ends_at : List ℕ → Result Element ErrorKind → Bool
ends_at key (Ok e) = bytes_eq e.key key
ends_at key (Err kind) = true

-- what a look-up of a key finds in a walk
abbrev pub found_under : List ℕ → List Element → Option ErrorKind → Option (Result Element ErrorKind)
found_under key elements fault = find (ends_at key) (walk_items elements fault)

-- what is at a place of a walk, from 0
abbrev pub found_at : ℕ → List Element → Option ErrorKind → Option (Result Element ErrorKind)
found_at index elements fault = slice_get (walk_items elements fault) index

-- what was found, as it is yielded
abbrev pub IsFound : Option (Result Element ErrorKind) → Option (Result RawElement Error) → Type 0
IsFound None None = Unit {0}
IsFound None (Some x) = ⊥
IsFound (Some i) None = ⊥
IsFound (Some i) (Some x) = IsItem i x

-- ---- the iterator

-- what comes next, if bytes are left
abbrev pub IsNext : List ℕ → Option (Result RawElement Error) → Option (List ℕ) → Type 0
IsNext bytes None left = (bytes ≡ 0 ∷ []) × (left ≡ None)
IsNext bytes (Some (Ok x)) left = IsFirstFrame bytes (parts_of x) x.frame.rest.now × (left ≡ Some x.frame.rest.now)
IsNext bytes (Some (Err x)) left = (bytes ≢ 0 ∷ []) × IsStructuralFault bytes x.kind × (fault_key x ≡ None) × (left ≡ None)

abbrev pub steps_from : Option (List ℕ) → Option (Result RawElement Error) → Option (List ℕ) → Type 0
steps_from None item left = (item ≡ None) × (left ≡ None)
steps_from (Some bytes) item left = IsNext bytes item left

-- a call of `next`
abbrev pub raw_steps : RawIter → Option (Result RawElement Error) → RawIter → Type 0
raw_steps s item t = steps_from (left_of s) item (left_of t)

-- how many items come at most: a frame has two bytes or more, and a structural fault may follow the last one
abbrev pub items_left : Option (List ℕ) → ℕ
items_left None = 0
items_left (Some bytes) = length bytes / 2 + 1

-- Bytes that are the written form of what they spell: nothing of it has to be settled.
use Rattle.std.specs.Prelude.{◌≡◌, ◌≢◌, ◌≤◌, ℕ, List, [], ◌∷◌, ◌++◌, Some, None, length, slice_index}
use Rattle.std.specs.Borrow.{Bor}
use Rattle.bson_base.specs.declared.spec.BinarySubtype.TheVariants as subtypes
use Rattle.bson_base.specs.declared.spec.ElementType.{ElementType}
use Rattle.bson_base.specs.declared.spec.ElementType.TheVariants as kinds
use Rattle.bson_base.specs.Options.{sorted_text}
use Rattle.bson_base.specs.Tags.{subtype_byte}
use Rattle.bson_base.specs.Value.{Value, value_kind, levels, Items, items_levels, Members, members_levels, look_up}
use Rattle.bson_bytes.specs.Encode.{value_bytes, items_bytes, members_bytes}
use Rattle.bson_bytes.specs.Spells.{SpellsValue, SpellsItems, SpellsMembers, settle_value, settle_items, settle}
use Rattle.bson_frame.specs.Frame.{Element, IsRegexSize}

-- a payload of this kind is written as the value that it spells
abbrev pub IsWritten : ElementType → List ℕ → Type 0
IsWritten tag payload = (v : Value) → value_kind v ≡ tag → SpellsValue payload v → (settle_value v ≡ v) × (payload ≡ value_bytes v)

-- elements, with the 00 after them, are written as the members that they spell
abbrev pub AreWritten : List ℕ → Type 0
AreWritten elements = (ms : Members) → SpellsMembers elements ms → (settle ms ≡ ms) × (elements ≡ members_bytes ms ++ 0 ∷ [])

-- an array's elements, with the 00 after them, are written as the items that they spell, from the place i on
abbrev pub AreItemsWritten : ℕ → List ℕ → Type 0
AreItemsWritten i elements = (vs : Items) → SpellsItems elements vs → (settle_items vs ≡ vs) × (elements ≡ items_bytes i vs ++ 0 ∷ [])

-- a payload of this kind spells a value of at most `inner` levels, none of which has a fault
abbrev pub IsSpelled : ElementType → List ℕ → ℕ → Type 0
IsSpelled tag payload inner = (v : Value) × (value_kind v ≡ tag) × SpellsValue payload v × (levels v ≤ inner)

-- elements, with the 00 after them, spell members of at most `inner` levels
abbrev pub AreSpelled : List ℕ → ℕ → Type 0
AreSpelled elements inner = (ms : Members) × SpellsMembers elements ms × (members_levels ms ≤ inner)

-- an array's elements, with the 00 after them, spell items of at most `inner` levels
abbrev pub AreItemsSpelled : List ℕ → ℕ → Type 0
AreItemsSpelled elements inner = (vs : Items) × SpellsItems elements vs × (items_levels vs ≤ inner)

-- no element has the key
abbrev pub IsAbsent : List ℕ → List ℕ → Type 0
IsAbsent k elements = (ms : Members) → SpellsMembers elements ms → look_up k ms ≡ None

-- no element has any of the keys
abbrev pub AreAbsent : List (Bor (List ℕ)) → List ℕ → Type 0
AreAbsent [] elements = Unit {0}
AreAbsent (met ∷ keys) elements = IsAbsent met.now elements × AreAbsent keys elements

-- A scalar of this kind has one payload: it has no options to be put in order, no second length, and no name.
abbrev pub HasOneForm : ElementType → Type 0
HasOneForm kinds.EmbeddedDocument = ⊥
HasOneForm kinds.Array = ⊥
HasOneForm kinds.Binary = ⊥
HasOneForm kinds.RegularExpression = ⊥
HasOneForm kinds.DbPointer = ⊥
HasOneForm kinds.JavaScriptCodeWithScope = ⊥
HasOneForm _ = Unit {0}

-- the payload of a binary has its length once
abbrev pub IsNewBinary : List ℕ → Type 0
IsNewBinary payload = slice_index payload 4 ≢ subtype_byte subtypes.BinaryOld

-- the options after the pattern of a regular expression are in the order of their characters
abbrev pub HasOrderedOptions : List ℕ → Type 0
HasOrderedOptions payload = (size : IsRegexSize payload (length payload)) → sorted_text size.options ≡ size.options

-- the first element with the key is e
abbrev pub IsFirstUnder : List ℕ → List ℕ → Element → Type 0
IsFirstUnder k elements e = (ms : Members) → SpellsMembers elements ms → (v : Value) × (look_up k ms ≡ Some v) × (value_kind v ≡ e.tag) × SpellsValue e.payload v

-- the document has the value under the key that e is written for
abbrev pub IsWrittenUnder : List ℕ → Members → Element → Type 0
IsWrittenUnder k ms e = (v : Value) × (look_up k ms ≡ Some v) × (value_kind v ≡ e.tag) × (e.payload ≡ value_bytes v)

-- What a view of raw bytes spells.
use Rattle.std.specs.Prelude.{◌≡◌, ◌↔◌, ℕ, List, Bool, IsTrue, Option, Some, None}
use Rattle.bson_base.specs.Value.{Scalar, null, Value, Items, no_items, Members, no_members, value_kind, HasDistinctKeys}
use Rattle.bson_bytes.specs.Spells.{SpellsValue, SpellsItems, SpellsMembers}
use Rattle.bson_frame.specs.Frame.{Element}
use Rattle.bson_meaning.specs.Meaning.{Same}
use Rattle.bson_raw.specs.Raw.{RawValue, leaf, ref_value}
use Rattle.bson_raw.specs.declared.bson_ref.RawBsonRef.{RawBsonRef}
use Rattle.bson_raw.specs.declared.bson_ref.RawBsonRef.TheVariants as views

-- the scalar that a raw value is; null for documents and arrays
abbrev pub scalar_in : RawValue → Scalar
scalar_in (leaf s) = s
scalar_in _ = null

-- the scalar that a view shows
abbrev pub view_scalar : RawBsonRef → Scalar
view_scalar raw = scalar_in (ref_value raw)

-- no document, array or scope
abbrev pub ShowsScalar : RawBsonRef → Type 0
ShowsScalar (views.Array x) = ⊥
ShowsScalar (views.Document x) = ⊥
ShowsScalar (views.JavaScriptCodeWithScope x) = ⊥
ShowsScalar _ = Unit {0}

-- the view shows a scalar of a kind that is its own normal form: no double, regular expression, binary value or decimal
abbrev pub ShowsFixed : RawBsonRef → Type 0
ShowsFixed (views.Double x) = ⊥
ShowsFixed (views.RegularExpression x) = ⊥
ShowsFixed (views.Binary x) = ⊥
ShowsFixed (views.Decimal128 x) = ⊥
ShowsFixed raw = ShowsScalar raw

-- the view shows a scalar that is its own normal form and holds no text
abbrev pub ShowsNumber : RawBsonRef → Type 0
ShowsNumber (views.String x) = ⊥
ShowsNumber (views.JavaScriptCode x) = ⊥
ShowsNumber (views.Symbol x) = ⊥
ShowsNumber (views.DbPointer x) = ⊥
ShowsNumber raw = ShowsFixed raw

-- the elements that are still to come, and the items
abbrev pub IsRest : Option (List ℕ) → Members → Type 0
IsRest None ms = ms ≡ no_members
IsRest (Some bytes) ms = SpellsMembers bytes ms

abbrev pub IsItemsRest : Option (List ℕ) → Items → Type 0
IsItemsRest None vs = vs ≡ no_items
IsItemsRest (Some bytes) vs = SpellsItems bytes vs

-- b says whether a value that the element's payload spells means the same as w
abbrev pub ComparesPayload : Element → Value → Bool → Type 0
ComparesPayload e w b = (v : Value) → value_kind v ≡ e.tag → SpellsValue e.payload v → HasDistinctKeys v → IsTrue b ↔ Same v w

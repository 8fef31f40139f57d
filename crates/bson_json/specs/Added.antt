-- What was printed of raw values.
use Rattle.std.specs.Prelude.{◌≡◌, false}
use Rattle.json.specs.Json.{Json}
use Rattle.json.specs.Tree.{json_tokens}
use Rattle.json.specs.Written.{Written}
use Rattle.bson_base.specs.Value.{Scalar, Value, scalar, Members, document}
use Rattle.bson_meaning.specs.JsonReserved.{has_reserved, reserved_in, some_reserved}
use Rattle.bson_raw.specs.Raw.{RawValue, leaf, array, document as raw_document, scoped_code}
use Rattle.bson_json.specs.Prints.{AddsSome}
use Rattle.bson_json.specs.Styles.{HasForm}
use Rattle.bson_json.specs.declared.keys.Keys.{Keys}
use Rattle.bson_json.specs.declared.keys.Keys.TheVariants.{Unreserved}
use Rattle.bson_json.specs.declared.style.Style.{Style}

-- the tokens of a form of a scalar were added
abbrev pub AddsScalar : Style → Scalar → Written → Written → Type 0
AddsScalar style s old new = AddsSome json_tokens (HasForm style (scalar s)) old new

-- j is a form of a value with nothing inside
abbrev pub HasLeafForm : Style → RawValue → Json → Type 0
HasLeafForm style (leaf s) j = HasForm style (scalar s) j
HasLeafForm style (array bs) j = ⊥
HasLeafForm style (raw_document bs) j = ⊥
HasLeafForm style (scoped_code t bs) j = ⊥

-- the tokens of a form of it were added
abbrev pub AddsLeaf : Style → RawValue → Written → Written → Type 0
AddsLeaf style r old new = AddsSome json_tokens (HasLeafForm style r) old new

-- the tokens of a form of the value were added, and no document in it has a reserved key
abbrev pub AddsValue : Style → Value → Written → Written → Type 0
AddsValue style v old new = (reserved_in v ≡ false) × AddsSome json_tokens (HasForm style v) old new

-- the keys of a document are such
abbrev pub HasKeys : Keys → Members → Type 0
HasKeys keys ms = keys ≡ Unreserved → some_reserved ms ≡ false

-- the same of a document, whose own keys are such
abbrev pub AddsDocument : Style → Keys → Members → Written → Written → Type 0
AddsDocument style keys ms old new = HasKeys keys ms × (has_reserved ms ≡ false) × AddsSome json_tokens (HasForm style (document ms)) old new

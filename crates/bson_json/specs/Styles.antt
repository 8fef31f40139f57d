-- The forms that a document has in each style.
use Rattle.std.specs.Prelude.{◌≡◌, List, ℕ, Some}
use Rattle.json.specs.Json.{Json, Items as JsonItems}
use Rattle.serde_json.specs.Data as sorted
use Rattle.serde_json.specs.Data.{Data}
use Rattle.serde_json.specs.Written.{compact_text, outline, items_outline}
use Rattle.bson_base.specs.Value.{Value, Items}
use Rattle.bson_model.specs.JsonWrite.{write, write_items}
use Rattle.bson_model.specs.declared.extjson.ser.Mode.{Mode}
use Rattle.bson_model.specs.declared.extjson.ser.Mode.TheVariants.{Canonical}
use Rattle.bson_json.specs.Form.{Writes, WritesItems}
use Rattle.bson_json.specs.Prints.{IsTextOf}
use Rattle.bson_json.specs.declared.style.Style.{Style}
use Rattle.bson_json.specs.declared.style.Style.TheVariants.{Stored, Full}

-- the mode of the values whose form both styles share
abbrev pub mode_of : Style → Mode
mode_of Stored = Canonical
mode_of (Full m) = m

-- j is a form of the value: in a store the tree that `write` makes of it
abbrev pub HasForm : Style → Value → Json → Type 0
HasForm Stored v j = (d : Data) × (write Canonical v ≡ Some d) × (j ≡ outline d)
HasForm (Full m) v j = Writes m v j

abbrev pub HasItemsForm : Style → Items → JsonItems → Type 0
HasItemsForm Stored vs js = (ds : sorted.Items) × (write_items Canonical vs ≡ Some ds) × (js ≡ items_outline ds)
HasItemsForm (Full m) vs js = WritesItems m vs js

-- the text is that of a form of the value
abbrev pub HasText : Style → Value → List ℕ → Type 0
HasText Stored v t = (d : Data) × (write Canonical v ≡ Some d) × (t ≡ compact_text d)
HasText (Full m) v t = IsTextOf m v t

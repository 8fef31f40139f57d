-- What a pipeline takes of a document: what a path leads to, or a value that is the same of each (MongoDB, Field Paths).
use Rattle.std.specs.Prelude.{ℕ, List, [], ◌∷◌, Option, Some, None, option_and_then, string_bytes, unwrap_or}
use Rattle.std.specs.List.{filter_map}
use Rattle.bson_base.specs.Value.{Value, scalar, null, boolean, int32, int64, double, string, array, document, Members, look_up}
use Rattle.bson_model.specs.View.{items_of}
use Rattle.store_question.specs.Filters.{path_of}
use Rattle.store_model.specs.Filter.{Path}
use Rattle.store_update.specs.Arrays.{values}
use Rattle.store_pipeline.specs.declared.stage.Operand.{Operand}
use Rattle.store_pipeline.specs.declared.stage.Operand.TheVariants as operand

-- what is under the key of a document
abbrev pub inside : List ℕ → Value → Option Value
inside k (document ms) = look_up k ms
inside k v = None

-- on from there
abbrev pub under : List ℕ → (Value → Option Value) → Value → Option Value
under k on v = option_and_then on (inside k v)

-- through documents, and into each document of an array, which gives the array of what is found
abbrev pub led_to : Path → Value → Option Value
led_to [] v = Some v
led_to (k ∷ path) (array vs) = Some (array (items_of (filter_map (under k (led_to path)) (values vs))))
led_to (k ∷ path) v = under k (led_to path) v

abbrev pub taken : Operand → Members → Option Value
taken (operand.Path p) d = led_to (path_of p.items) (document d)
taken operand.Null d = Some (scalar null)
taken (operand.Boolean b) d = Some (scalar (boolean b))
taken (operand.Int32 z) d = Some (scalar (int32 z))
taken (operand.Int64 z) d = Some (scalar (int64 z))
taken (operand.Double n) d = Some (scalar (double n.0))
taken (operand.String t) d = Some (scalar (string (string_bytes t)))

-- the key of a document; what is absent is null
abbrev pub key_in : Operand → Members → Value
key_in o d = unwrap_or (taken o d) (scalar null)

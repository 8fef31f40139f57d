-- The elements that buffers are built of.
use Rattle.std.specs.Prelude.{ℕ, ◌+◌, List, [], ◌∷◌, String, string_bytes}
use Rattle.std.specs.Fmt.{decimal}
use Rattle.std.specs.declared.alloc.Global.{Global}
use Rattle.bson_raw.specs.declared.bson.RawBson.{RawBson}
use Rattle.bson_raw.specs.Raw.{RawValue, own_value}

abbrev pub raw_pair : String Global × RawBson → List ℕ × RawValue
raw_pair p = (string_bytes p.0, own_value p.1)

-- the values of an array from the place i on, under their places in decimal
abbrev pub items_from : ℕ → List RawBson → List (List ℕ × RawValue)
items_from i [] = []
items_from i (v ∷ values) = (decimal i, own_value v) ∷ items_from (i + 1) values

-- The places of an array's values.
use Rattle.std.specs.Prelude.{◌≡◌, length}
use Rattle.bson_frame.specs.declared.error.ErrorKind.{ErrorKind}
use Rattle.bson_raw.specs.declared.array_buf.RawArrayBuf.{RawArrayBuf}
use Rattle.bson_raw.specs.declared.bson.RawBson.{RawBson}
use Rattle.bson_raw.specs.declared.bson.RawBson.TheVariants.{Array}
use Rattle.bson_raw.specs.Buffer.{array_buffer_bytes, next_place}
use Rattle.bson_raw.specs.Walk.{walk_items, OnWalk}

-- the place of the next value is the number of the items; a fault counts as an item
abbrev pub GoesOn : RawArrayBuf → Type 0
GoesOn a = OnWalk (array_buffer_bytes a) (λ elements fault. next_place a ≡ length (walk_items elements fault))

-- the place of the next value is that of `GoesOn`, if the value is an array
abbrev pub ArrayGoesOn : RawBson → Type 0
ArrayGoesOn (Array a) = GoesOn a
ArrayGoesOn v = Unit {0}

-- two values have the next place in common, if they are arrays
abbrev pub SamePlace : RawBson → RawBson → Type 0
SamePlace (Array a) (Array b) = next_place a ≡ next_place b
SamePlace v w = Unit {0}

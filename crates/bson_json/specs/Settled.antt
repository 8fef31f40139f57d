-- A value as its text gives it back. In both forms a double that is not a number keeps its sign alone, a decimal number
-- has the first form of what it means, options are in order, and a subtype is what its byte reads as. In relaxed form
-- an Int64 that fits 32 bits becomes an Int32. Everything else, the order of keys too, stays bit for bit.
use Rattle.std.specs.Prelude.{◌≡◌, ℕ, suc, max, ℤ, if◌then◌else◌, Result, Ok, Err}
use Rattle.bson_json_read.specs.DoubleText.{settled}
use Rattle.bson_base.specs.Options.{sorted_text}
use Rattle.bson_base.specs.Tags.{subtype_of, subtype_byte}
use Rattle.bson_base.specs.Value.{Scalar, double, binary, regex, int32, int64, decimal, Value, scalar, array, document, scoped_code, Items, no_items, item, Members, no_members, member}
use Rattle.bson_meaning.specs.Forms.{normal_decimal}
use Rattle.bson_model.specs.JsonTexts.{fits_32}
use Rattle.bson_model.specs.View.{content}
use Rattle.bson_model.specs.declared.document.Document.{Document}
use Rattle.bson_model.specs.declared.extjson.ser.Mode.{Mode}
use Rattle.bson_model.specs.declared.extjson.ser.Mode.TheVariants.{Canonical, Relaxed}
use Rattle.bson_json_read.specs.declared.error.Error.{Error}
use Rattle.bson_json_read.specs.declared.error.Error.TheVariants.{Memory}

abbrev pub settled_long : Mode → ℤ → Scalar
settled_long Canonical z = int64 z
settled_long Relaxed z = if fits_32 z then int32 z else int64 z

abbrev pub settled_scalar : Mode → Scalar → Scalar
settled_scalar m (double n) = double (settled n)
settled_scalar m (regex p o) = regex p (sorted_text o)
settled_scalar m (binary s bs) = binary (subtype_of (subtype_byte s)) bs
settled_scalar m (decimal bs) = decimal (normal_decimal bs)
settled_scalar m (int64 z) = settled_long m z
settled_scalar m s = s

abbrev mutual
  pub settle : Mode → Value → Value
  settle m (scalar s) = scalar (settled_scalar m s)
  settle m (array vs) = array (settle_items m vs)
  settle m (document ms) = document (settle_members m ms)
  settle m (scoped_code t ms) = scoped_code t (settle_members m ms)

  pub settle_items : Mode → Items → Items
  settle_items m no_items = no_items
  settle_items m (item v vs) = item (settle m v) (settle_items m vs)

  pub settle_members : Mode → Members → Members
  settle_members m no_members = no_members
  settle_members m (member k v ms) = member k (settle m v) (settle_members m ms)

-- how deep the values inside nest as JSON; a scope is an object in an object
abbrev mutual
  pub json_levels : Value → ℕ
  json_levels (scalar s) = 0
  json_levels (array vs) = suc (json_items_levels vs)
  json_levels (document ms) = suc (json_members_levels ms)
  json_levels (scoped_code t ms) = suc (suc (json_members_levels ms))

  pub json_items_levels : Items → ℕ
  json_items_levels no_items = 0
  json_items_levels (item v vs) = max (json_levels v) (json_items_levels vs)

  pub json_members_levels : Members → ℕ
  json_members_levels no_members = 0
  json_members_levels (member k v ms) = max (json_levels v) (json_members_levels ms)

-- what was read is the document, settled; or memory ran out
abbrev pub ComesBack : Mode → Members → Result Document Error → Type 0
ComesBack m ms (Ok d) = content d ≡ settle_members m ms
ComesBack m ms (Err e) = e ≡ Memory

-- What holds of every JSON tree (RFC 8259): its texts are UTF-8, its integers have 64 bits, and no key of an object
-- occurs twice.
use Rattle.std.specs.Prelude.{◌≡◌, ℕ, ℤ, List, false, Some, FitsSigned, IsUtf8}
use Rattle.std.specs.Int.{w64}
use Rattle.std.specs.Str.{bytes_eq}
use Rattle.serde_json.specs.Data.{Data, null, boolean, number, string, array, object, Items, no_items, item, Members, no_members, member}
use Rattle.serde_json.specs.Find.{as_i64}

-- the key is none of these
abbrev pub LacksKey : List ℕ → Members → Type 0
LacksKey k no_members = Unit {0}
LacksKey k (member l j js) = (bytes_eq k l ≡ false) × LacksKey k js

abbrev mutual
  pub IsJson : Data → Type 0
  IsJson null = Unit {0}
  IsJson (boolean b) = Unit {0}
  IsJson (number n) = (z : ℤ) → as_i64 n ≡ Some z → FitsSigned w64 z
  IsJson (string t) = IsUtf8 t
  IsJson (array js) = AreJson js
  IsJson (object js) = IsJsonObject js

  pub AreJson : Items → Type 0
  AreJson no_items = Unit {0}
  AreJson (item j js) = IsJson j × AreJson js

  pub IsJsonObject : Members → Type 0
  IsJsonObject no_members = Unit {0}
  IsJsonObject (member k j js) = IsUtf8 k × LacksKey k js × IsJson j × IsJsonObject js

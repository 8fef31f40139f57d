-- A document as it is printed.
use Rattle.std.specs.Prelude.{◌≡◌, codes, ℕ, List, false, Some, Result, Ok, Err, string_bytes}
use Rattle.bson_base.specs.Value.{Value, Members, no_members, member, document}
use Rattle.bson_json.specs.Prints.{IsTextOf}
use Rattle.bson_meaning.specs.JsonReserved.{has_reserved, reserved_path_below}
use Rattle.bson_model.specs.declared.extjson.ser.Mode.{Mode}
use Rattle.cli_convert.specs.declared.printed.PrintFault.{PrintFault}
use Rattle.cli_convert.specs.declared.printed.PrintFault.TheVariants.{ReservedKey, Damaged, Memory}

-- the text of a document without a reserved key below its top, or the path to the first such key
abbrev pub PrintsDocument : Mode → Members → List ℕ → Result (Unit {0}) PrintFault → Type 0
PrintsDocument m d text (Ok x) = (has_reserved d ≡ false) × IsTextOf m (document d) text
PrintsDocument m d text (Err (ReservedKey path)) = reserved_path_below d ≡ Some (string_bytes path)
PrintsDocument m d text (Err Damaged) = ⊥
PrintsDocument m d text (Err Memory) = Unit {0}

-- ---- a value

-- the document `{"value":V}`
abbrev pub holding : Value → Members
holding v = member (codes "value") v no_members

-- the text of a value, no document in which has a reserved key, nor it itself; or the path behind `value` to the first such key
abbrev pub PrintsValue : Mode → Value → List ℕ → Result (Unit {0}) PrintFault → Type 0
PrintsValue m v text (Ok x) = (has_reserved (holding v) ≡ false) × IsTextOf m v text
PrintsValue m v text (Err (ReservedKey path)) = reserved_path_below (holding v) ≡ Some (string_bytes path)
PrintsValue m v text (Err Damaged) = ⊥
PrintsValue m v text (Err Memory) = Unit {0}

-- The indexes of `createIndexes` that change no answer, and those that `dropIndexes` names (MongoDB's manual, the page of each).
use Rattle.std.specs.Prelude.{◌≡◌, ◌&&◌, ℕ, Bool, true, false, List, codes, Option, Some}
use Rattle.std.specs.List.{AllByRecursion}
use Rattle.std.specs.Str.{bytes_eq}
use Rattle.bson_base.specs.Value.{Value, Members, array, document, double, int32, int64, look_up, member, no_members, scalar, string}
use Rattle.bson_model.specs.View.{items_of}
use Rattle.fallowtime_statements.specs.Fields.{AreAllowed}
use Rattle.fallowtime_statements.specs.declared.name.Name.TheVariants as name

-- an order by numbers: texts are those of kinds of indexes, as "text" and "hashed"
abbrev pub is_number : Value → Bool
is_number (scalar (int32 z)) = true
is_number (scalar (int64 z)) = true
is_number (scalar (double n)) = true
is_number v = false

abbrev pub are_numbers : Members → Bool
are_numbers no_members = true
are_numbers (member k v ms) = is_number v && are_numbers ms

abbrev pub IsOrder : Option Value → Type 0
IsOrder (Some (document ms)) = are_numbers ms ≡ true
IsOrder v = ⊥

-- `{key: ORDER, name: NAME}`, with no key that would change what is stored or found
abbrev pub IsPlainIndex : Value → Type 0
IsPlainIndex (document ms) = AreAllowed name.Index ms × IsOrder (look_up (codes "key") ms)
IsPlainIndex v = ⊥

abbrev pub ArePlainIndexes : Option Value → Type 0
ArePlainIndexes indexes = (vs : List Value) × (indexes ≡ Some (array (items_of vs))) × AllByRecursion IsPlainIndex vs

-- all indexes are to go but that of the `_id`, or one that has another name
abbrev pub IsToGo : Option Value → Bool → Type 0
IsToGo index all = (t : List ℕ) × (index ≡ Some (scalar (string t))) × (bytes_eq t (codes "_id_") ≡ false) × (all ≡ bytes_eq t (codes "*"))

-- A value that is set, and keeps the order of its keys.
use Rattle.std.specs.Prelude.{◌≡◌, ◌⊎◌, ℕ, List, Some}
use Rattle.bson_base.specs.Value.{Value, Members, put}
use Rattle.bson_bytes.specs.Encode.{encode}
use Rattle.store_table.specs.Rows.{TableRow}
use Rattle.store_model.specs.Reading.{Reading, ReadsBytes}
use Rattle.store_model.specs.State.{Reply, get_raw, in_bytes, IsFreeKey, IsKept, on, replace, set}
use Rattle.store_model.specs.State as model
use Rattle.store_model.specs.Table.{DocumentTable, IsRefusal, Serves}
use Rattle.bson_store.specs.Shown.{Represents}
use Rattle.fallowtime_commands.specs.Storing.{IsFit, IsStopped}

-- d is the document with the id
abbrev pub Gets : List ℕ → Value → DocumentTable → Members → DocumentTable → Type 0
Gets n id a d b = IsKept d × Serves a (on n (get_raw id)) (model.bytes (encode d)) b

-- A key that can't be set is refused as `set` refuses it, and an id that no document has as `get_raw` refuses it.
-- Otherwise the document with the id is replaced by one with the value under the key: in the key's place, or last.
abbrev pub SetsIn : List ℕ → Value → List ℕ → Value → Reply → DocumentTable → DocumentTable → Type 0
SetsIn n id k v r a c =
    ((IsFreeKey k → ⊥) × Serves a (on n (set id k (Some v))) r c)
    ⊎ ((IsRefusal r × Serves a (on n (get_raw id)) r c)
    ⊎ ((d : Members) × (b : DocumentTable) × Gets n id a d b
    × ((IsStopped n (put k v d) r × (c ≡ b)) ⊎ (IsFit (put k v d) × (x : Reading) × ReadsBytes (encode (put k v d)) x × Serves b (on n (replace in_bytes x)) r c))))

-- the same of whatever table the rows showed
abbrev pub Sets : List ℕ → Value → List ℕ → Value → Reply → List TableRow → List TableRow → Type 0
Sets n id k v r old new = (a : DocumentTable) → Represents old a → (c : DocumentTable) × Represents new c × SetsIn n id k v r a c

-- What trees of JSON with their members in the order of the text are read as: the tree with sorted members that they stand for is
-- read so (JsonRead of bson_model).
use Rattle.std.specs.Prelude.{◌≡◌, ◌⊎◌, ℕ, List, Option, Some, Ok}
use Rattle.std.specs.Borrow.{Bor}
use Rattle.std.specs.declared.alloc.Global.{Global}
use Rattle.json.specs.Json as json
use Rattle.json.specs.Json.{Json}
use Rattle.json.specs.Tree.{HasNumbers}
use Rattle.json.specs.Value.{value_view}
use Rattle.json.specs.declared.value.Value.{Value as Tree}
use Rattle.serde_json.specs.Data as sorted
use Rattle.serde_json.specs.Data.{Data, object}
use Rattle.serde_json.specs.Read.{of_json, of_items, of_members}
use Rattle.store_documents.specs.Forms.{ShowPairs, pair_forms}
use Rattle.bson_base.specs.Value.{Value, Items, Members}
use Rattle.bson_model.specs.View.{members_of}
use Rattle.bson_model.specs.JsonKeys.{Reserved, of_date, of_double, of_max, of_min, of_pointer, of_timestamp, of_undefined}
use Rattle.bson_model.specs.JsonRead.{read, read_items, read_members, read_wrapped, u32_of}

abbrev pub ReadsJson : Json → Value → Type 0
ReadsJson j v = (d : Data) × (of_json j ≡ Some d) × (read d ≡ Ok v)

abbrev pub ReadsItems : json.Items → Items → Type 0
ReadsItems js vs = (ds : sorted.Items) × (of_items js ≡ Some ds) × (read_items ds ≡ Ok vs)

-- the body of a wrapper with this key alone
abbrev pub ReadsWrapped : Reserved → Json → Value → Type 0
ReadsWrapped r j v = (d : Data) × (of_json j ≡ Some d) × (read_wrapped (Some r) d ≡ Ok v)

-- bson_json_read reads the body under this key as JsonRead does its tree
abbrev pub IsAlike : Reserved → Json → Type 0
IsAlike of_double j = ⊥
IsAlike of_timestamp j = ⊥
IsAlike of_min j = ⊥
IsAlike of_max j = ⊥
IsAlike of_pointer j = ⊥
IsAlike of_undefined j = ⊥
IsAlike of_date (json.number t) = ⊥
IsAlike r j = Unit {0}

-- a whole number of 32 unsigned bits
abbrev pub ReadsUnsigned : Json → ℕ → Type 0
ReadsUnsigned j n = (d : Data) × (of_json j ≡ Some d) × (u32_of d ≡ Ok n)

-- the members are these two bodies under these keys, in either order
abbrev pub AreTwoMembers : List ℕ → List ℕ → Json × Json → json.Members → Type 0
AreTwoMembers k l p js = (js ≡ json.member k p.0 (json.member l p.1 json.no_members)) ⊎ (js ≡ json.member l p.1 (json.member k p.0 json.no_members))

-- the lent tree is this one
abbrev pub IsTree : Bor (Tree Global) → Json → Type 0
IsTree r j = (j ≡ value_view r.now) × HasNumbers j

-- the members with their keys ascending
abbrev pub AreInOrder : json.Members → List (Bor (List ℕ) × Bor (Tree Global)) → Type 0
AreInOrder js rs = (ps : List (List ℕ × Json)) × ShowPairs IsTree rs ps × (of_members js sorted.no_members ≡ pair_forms of_json ps)

-- whatever trees the pairs have, the object of them is read as these members
abbrev pub ReadsPairs : List (Bor (List ℕ) × Bor (Tree Global)) → List (List ℕ × Value) → Type 0
ReadsPairs rs vs = (ps : List (List ℕ × Json)) → ShowPairs IsTree rs ps → (ds : sorted.Members) × (pair_forms of_json ps ≡ Some ds) × (read_members ds ≡ Ok (members_of vs))

-- the tree is an object, which is read as this document
abbrev pub ReadsDocument : Option Data → Members → Type 0
ReadsDocument tree ms = (ds : sorted.Members) × (tree ≡ Some (object ds)) × (read_members ds ≡ Ok ms)

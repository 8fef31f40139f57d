-- What is seen of a document's JSON tree in its bytes: there is no double, and no reserved key below the top.
use Rattle.std.specs.Prelude.{◌≡◌, ℕ, List, false}
use Rattle.bson_base.specs.Value.{Value, value_kind, Items, Members}
use Rattle.bson_base.specs.declared.spec.ElementType.{ElementType}
use Rattle.bson_base.specs.declared.spec.ElementType.TheVariants as kinds
use Rattle.bson_bytes.specs.Spells.{SpellsValue, SpellsItems, SpellsMembers}
use Rattle.bson_meaning.specs.JsonReserved.{has_reserved, reserved_in, reserved_in_items, some_reserved}
use Rattle.bson_model.specs.JsonWrite.{holds_finite, items_hold_finite, members_hold_finite}
use Rattle.store_documents.specs.declared.trees.Keys.{Keys}
use Rattle.store_documents.specs.declared.trees.Keys.TheVariants.{Unreserved}

-- a value of this kind is no double, and holds no values
abbrev pub HasNoDouble : ElementType → Type 0
HasNoDouble kinds.Double = ⊥
HasNoDouble kinds.EmbeddedDocument = ⊥
HasNoDouble kinds.Array = ⊥
HasNoDouble kinds.JavaScriptCodeWithScope = ⊥
HasNoDouble _ = Unit {0}

-- the value of a payload of this kind has a tree, and is read back from it
abbrev pub IsTold : ElementType → List ℕ → Type 0
IsTold tag payload = (v : Value) → value_kind v ≡ tag → SpellsValue payload v → (reserved_in v ≡ false) × (holds_finite v ≡ false)

-- the same of each member of a document, and of its keys, if none may be reserved
abbrev pub AreMembersTold : Keys → List ℕ → Type 0
AreMembersTold keys elements = (ms : Members) → SpellsMembers elements ms → (has_reserved ms ≡ false) × (members_hold_finite ms ≡ false) × (keys ≡ Unreserved → some_reserved ms ≡ false)

-- the same of each item of an array
abbrev pub AreItemsTold : List ℕ → Type 0
AreItemsTold elements = (vs : Items) → SpellsItems elements vs → (reserved_in_items vs ≡ false) × (items_hold_finite vs ≡ false)

abbrev pub AreTold : Keys → List ℕ → Type 0
AreTold keys elements = AreMembersTold keys elements × AreItemsTold elements

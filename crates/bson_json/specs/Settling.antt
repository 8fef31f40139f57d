-- Bytes that spell a tree of which nothing is to be settled: no key is there twice, and options are in order.
use Rattle.std.specs.Prelude.{◌≡◌, ℕ, List}
use Rattle.bson_base.specs.Value.{Value, Items, Members}
use Rattle.bson_bytes.specs.Spells.{SpellsItems, SpellsMembers, settle, settle_items, settle_value}
use Rattle.bson_raw.specs.Convert.{SpellsRawValue}
use Rattle.bson_raw.specs.Raw.{RawValue}
use Rattle.bson_raw.specs.declared.bson_ref.RawBsonRef.{RawBsonRef}
use Rattle.bson_raw.specs.declared.bson_ref.RawBsonRef.TheVariants as views

-- elements, with the 00 after them, spell such members
abbrev pub SpellsSettled : List ℕ → Type 0
SpellsSettled elements = (ms : Members) × SpellsMembers elements ms × (settle ms ≡ ms)

-- an array's elements, with the 00 after them, spell such items
abbrev pub SpellsSettledItems : List ℕ → Type 0
SpellsSettledItems elements = (vs : Items) × SpellsItems elements vs × (settle_items vs ≡ vs)

-- a raw value spells such a value
abbrev pub ShowsSettled : RawValue → Type 0
ShowsSettled r = (v : Value) × SpellsRawValue r v × (settle_value v ≡ v)

-- the view shows no regular expression, whose options may be out of order
abbrev pub IsNoRegex : RawBsonRef → Type 0
IsNoRegex (views.RegularExpression x) = ⊥
IsNoRegex _ = Unit {0}

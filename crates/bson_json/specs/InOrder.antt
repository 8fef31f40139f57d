-- The members of a document as views, with the keys ascending.
use Rattle.std.specs.Prelude.{ℕ, List, [], ◌∷◌}
use Rattle.std.specs.Borrow.{Bor}
use Rattle.std.specs.Cmp.Lexicographic.{slice_cmp}
use Rattle.std.specs.List.{AllZip}
use Rattle.std.specs.List.Sorted.{IsPermutation, IsStrictlySortedBy}
use Rattle.std.specs.Map.{keys_of}
use Rattle.std.specs.Ordering.{nat_cmp}
use Rattle.std.specs.Prelude.{◌≡◌, map}
use Rattle.bson_base.specs.Value.{Value, Members, no_members, member}
use Rattle.bson_bytes.specs.Spells.{SpellsMembers}
use Rattle.bson_raw.specs.Convert.{SpellsRawValue}
use Rattle.bson_raw.specs.Raw.{ref_value}
use Rattle.bson_raw.specs.declared.bson_ref.RawBsonRef.{RawBsonRef}
use Rattle.bson_json.specs.Added.{HasKeys}
use Rattle.bson_json.specs.declared.keys.Keys.{Keys}

abbrev pub Views : Type 0
Views = List (Bor (List ℕ) × RawBsonRef)

abbrev pub Pairs : Type 0
Pairs = List (List ℕ × Value)

-- the members as pairs of a key and a value
abbrev pub pairs_in : Members → Pairs
pairs_in no_members = []
pairs_in (member k v ms) = (k, v) ∷ pairs_in ms

-- the view shows the value
abbrev pub Shows : RawBsonRef → Value → Type 0
Shows r v = SpellsRawValue (ref_value r) v

-- beside each other, views have the keys of the pairs, and show their values
abbrev pub ShowPairs : Views → Pairs → Type 0
ShowPairs rs ps = AllZip (λ r p. (p.0 ≡ r.0.now) × Shows r.1 p.1) rs ps

-- the views show the members of a document that has such keys, in their order
abbrev pub ShowsInTurn : Keys → List ℕ → Views → Type 0
ShowsInTurn keys elements rs = (ms : Members) → SpellsMembers elements ms → HasKeys keys ms × ShowPairs rs (pairs_in ms)

-- each key is less than those behind it
abbrev pub Ascends : {T : Type 0} → List (Bor (List ℕ) × T) → Type 0
Ascends rs = IsStrictlySortedBy (slice_cmp nat_cmp) (map (λ r. r.0.now) rs)

-- the views show these members with their keys ascending
abbrev pub ShowsInOrder : Keys → List ℕ → Views → Type 0
ShowsInOrder keys elements rs = (ms : Members) → SpellsMembers elements ms
    → HasKeys keys ms × (ps : Pairs) × ShowPairs rs ps × IsPermutation (pairs_in ms) ps × IsStrictlySortedBy (slice_cmp nat_cmp) (keys_of ps)

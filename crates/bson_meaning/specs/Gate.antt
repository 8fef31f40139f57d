-- Bytes that are taken for a document, and why others are refused.
use Rattle.std.specs.Prelude.{◌≡◌, ◌≢◌, ℕ, zero, suc, ◌+◌, ◌-◌, ◌<◌, ◌≤◌, ◌⊎◌, List, [], ◌∷◌, length, drop, slice_index, Result, Ok, Err}
use Rattle.bson_base.specs.declared.spec.ElementType.{ElementType}
use Rattle.bson_base.specs.declared.spec.ElementType.TheVariants as kinds
use Rattle.bson_base.specs.Value.{value_kind, Value, document, levels, Members, members_levels}
use Rattle.bson_bytes.specs.Spells.{SpellsMembers, SpellsValue, IsFaulty}
use Rattle.bson_frame.specs.Frame.{number, size_limit, Element, IsFirstFrame}
use Rattle.bson_frame.specs.Payload.{IsEnvelope, IsFaultless, scope_in}
use Rattle.bson_meaning.specs.declared.gating.GateError.{GateError}
use Rattle.bson_meaning.specs.declared.gating.GateError.TheVariants.{EndInside, BadLength, NotTerminated, Faulty, TooDeep}

-- how many documents, arrays and scopes may lie inside each other, the outermost document counted
abbrev pub level_limit : ℕ
level_limit = 100

-- ---- how deep frames nest

-- the payload of this kind holds a document, an array's included (bsonspec.org 1.1, element types 03, 04 and 0F)
abbrev pub HoldsDocument : ElementType → List ℕ → List ℕ → Type 0
HoldsDocument kinds.EmbeddedDocument payload inner = inner ≡ payload
HoldsDocument kinds.Array payload inner = inner ≡ payload
HoldsDocument kinds.JavaScriptCodeWithScope payload inner = IsFaultless kinds.JavaScriptCodeWithScope payload × (inner ≡ scope_in payload)
HoldsDocument _ payload inner = ⊥

-- the frames, one after the other, lead from these bytes to this rest
abbrev pub Leads : List ℕ → List Element → List ℕ → Type 0
Leads bytes [] rest = bytes ≡ rest
Leads bytes (e ∷ es) rest = (next : List ℕ) × IsFirstFrame bytes e next × Leads next es rest

-- Among these elements n documents nest, each in a frame of the one around it. Faults outside of these frames don't
-- matter.
unfoldable pub Nests : ℕ → List ℕ → Type 0
Nests zero elements = Unit {0}
Nests (suc n) elements = (before : List Element) × (rest : List ℕ) × (e : Element) × (next : List ℕ) × (inner : List ℕ) ×
    Leads elements before rest × IsFirstFrame rest e next × HoldsDocument e.tag e.payload inner × Nests n (drop 4 inner)

-- ---- the tests, in their order

-- the declared length is within its limits and is that of the bytes
abbrev pub IsCounted : List ℕ → Type 0
IsCounted bytes = (5 ≤ number bytes) × (number bytes ≤ size_limit) × (length bytes ≡ number bytes)

-- the bytes fail this test, and none before it; if they fail both Faulty and TooDeep, either is reported
abbrev pub IsRefused : List ℕ → GateError → Type 0
IsRefused bytes EndInside = (length bytes < 4) ⊎ ((5 ≤ number bytes) × (number bytes ≤ size_limit) × (length bytes < number bytes))
IsRefused bytes BadLength = (4 ≤ length bytes) × ((number bytes < 5) ⊎ (size_limit < number bytes) ⊎ (number bytes < length bytes))
IsRefused bytes NotTerminated = IsCounted bytes × (slice_index bytes (length bytes - 1) ≢ 0)
IsRefused bytes Faulty = IsCounted bytes × IsEnvelope bytes × IsFaulty bytes
IsRefused bytes TooDeep = IsCounted bytes × IsEnvelope bytes × Nests level_limit (drop 4 bytes)

-- the tests of which either is reported if bytes fail both
abbrev pub IsFaultyOrDeep : GateError → Type 0
IsFaultyOrDeep Faulty = Unit {0}
IsFaultyOrDeep TooDeep = Unit {0}
IsFaultyOrDeep _ = ⊥

-- no test refuses the bytes: they spell a document, repeated keys included, of at most 100 levels
abbrev pub Passes : List ℕ → Type 0
Passes bytes = IsCounted bytes × IsEnvelope bytes × ((ms : Members) × SpellsMembers (drop 4 bytes) ms × (levels (document ms) ≤ level_limit))

-- ---- what testing elements reports, if at most `inner` levels may be among them

abbrev pub ReadsElements : List ℕ → ℕ → Result (Unit {0}) GateError → Type 0
ReadsElements elements inner (Ok x) = (ms : Members) × SpellsMembers elements ms × (members_levels ms ≤ inner)
ReadsElements elements inner (Err Faulty) = (ms : Members) → SpellsMembers elements ms → ⊥
ReadsElements elements inner (Err TooDeep) = Nests (inner + 1) elements
ReadsElements elements inner (Err _) = ⊥

-- what testing a payload reports, if at most `inner` levels may be inside it
abbrev pub ReadsPayload : ElementType → List ℕ → ℕ → Result (Unit {0}) GateError → Type 0
ReadsPayload tag payload inner (Ok x) = (v : Value) × (value_kind v ≡ tag) × SpellsValue payload v × (levels v ≤ inner)
ReadsPayload tag payload inner (Err Faulty) = (v : Value) → value_kind v ≡ tag → SpellsValue payload v → ⊥
ReadsPayload tag payload inner (Err TooDeep) = (held : List ℕ) × HoldsDocument tag payload held × Nests inner (drop 4 held)
ReadsPayload tag payload inner (Err _) = ⊥

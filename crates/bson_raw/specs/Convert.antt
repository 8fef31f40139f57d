-- What a conversion from bytes to trees gives, and which fault it reports if bytes mean no tree.
use Rattle.std.specs.Prelude.{◌≡◌, ◌≢◌, ℕ, List, [], ◌∷◌, map, drop, Option, Some, None, Result, MatchResult, Vec, string_bytes, ◌⊎◌}
use Rattle.std.specs.declared.alloc.Global.{Global}
use Rattle.bson_base.specs.declared.spec.ElementType.{ElementType}
use Rattle.bson_base.specs.declared.spec.ElementType.TheVariants as kinds
use Rattle.bson_base.specs.Value.{value_kind, Value, scalar, array, document, scoped_code, Items, Members}
use Rattle.bson_bytes.specs.Spells.{SpellsValue, SpellsItems, SpellsMembers, settle_value, settle_items, settle}
use Rattle.bson_frame.specs.declared.error.ErrorKind.{ErrorKind}
use Rattle.bson_frame.specs.declared.error.ErrorKind.TheVariants.{MalformedValue, Utf8EncodingError, OutOfMemory}
use Rattle.bson_frame.specs.declared.error.Error.{Error}
use Rattle.bson_frame.specs.Frame.{Element, IsFirstFrame, IsStructuralFault}
use Rattle.bson_frame.specs.Payload.{scope_in, IsEnvelope, IsPayload, IsPayloadFault, IsFaultless}
use Rattle.bson_frame.specs.View.{fault_key}
use Rattle.bson_model.specs.declared.bson.Bson.{Bson}
use Rattle.bson_model.specs.declared.bson.JavaScriptCodeWithScope.{JavaScriptCodeWithScope}
use Rattle.bson_model.specs.declared.document.Document.{Document}
use Rattle.bson_model.specs.View.{view, items_of, content}
use Rattle.bson_raw.specs.declared.bson_ref.RawJavaScriptCodeWithScopeRef.{RawJavaScriptCodeWithScopeRef}
use Rattle.bson_raw.specs.Raw as raws
use Rattle.bson_raw.specs.Raw.{RawValue}
use Rattle.bson_raw.specs.View.{bytes_of}

-- ---- the first fault

-- a way along the elements of a document: no further, past an element, or into one
pub data Way : Type 0 where
  here : Way
  past : Way → Way
  into : Way → Way

-- the elements inside a payload, if its kind has some
abbrev pub elements_in : ElementType → List ℕ → Option (List ℕ)
elements_in kinds.EmbeddedDocument payload = Some (drop 4 payload)
elements_in kinds.Array payload = Some (drop 4 payload)
elements_in kinds.JavaScriptCodeWithScope payload = Some (drop 4 (scope_in payload))
elements_in tag payload = None

-- The way leads past elements that spell values to a fault: no frame, which is reported under no key, or a fault in the
-- payload of an element, under its key.
abbrev pub IsFirstFault : List ℕ → Way → Option (List ℕ) → ErrorKind → Type 0
IsFirstFault bytes here None kind = (bytes ≢ 0 ∷ []) × IsStructuralFault bytes kind
IsFirstFault bytes here (Some key) kind = (e : Element) × (rest : List ℕ) × IsFirstFrame bytes e rest × (e.key ≡ key) × IsPayloadFault e.tag e.payload kind
IsFirstFault bytes (past way) key kind = (e : Element) × (rest : List ℕ) × (v : Value) × IsFirstFrame bytes e rest × (value_kind v ≡ e.tag) × SpellsValue e.payload v × IsFirstFault rest way key kind
IsFirstFault bytes (into way) key kind = (e : Element) × (rest inner : List ℕ) × IsFirstFrame bytes e rest × IsFaultless e.tag e.payload × (elements_in e.tag e.payload ≡ Some inner) × IsFirstFault inner way key kind

-- the first fault of elements, in the order of their bytes
abbrev pub HasFault : List ℕ → Option (List ℕ) → ErrorKind → Type 0
HasFault bytes key kind = (way : Way) × IsFirstFault bytes way key kind

-- the first fault of one element's value
abbrev pub HasFaultIn : Element → Option (List ℕ) → ErrorKind → Type 0
HasFaultIn e key kind = ((key ≡ Some e.key) × IsPayloadFault e.tag e.payload kind)
    ⊎ ((inner : List ℕ) × IsFaultless e.tag e.payload × (elements_in e.tag e.payload ≡ Some inner) × HasFault inner key kind)

-- a fault is reported: out of memory, under no key, or a kind and a key for which Fault holds
abbrev pub Told : (Option (List ℕ) → ErrorKind → Type 0) → Option (List ℕ) → ErrorKind → Type 0
Told Fault key MalformedValue = Fault key MalformedValue
Told Fault key Utf8EncodingError = Fault key Utf8EncodingError
Told Fault key OutOfMemory = key ≡ None

abbrev pub TellsFault : (Option (List ℕ) → ErrorKind → Type 0) → Error → Type 0
TellsFault Fault e = Told Fault (fault_key e) e.kind

-- ---- trees

-- elements spell the tree of a document
abbrev pub IsDocumentOf : List ℕ → Document → Type 0
IsDocumentOf bytes d = (ms : Members) × SpellsMembers bytes ms × (content d ≡ settle ms)

-- elements spell the items of an array, whatever their keys
abbrev pub IsArrayOf : List ℕ → Vec Bson Global → Type 0
IsArrayOf bytes a = (vs : Items) × SpellsItems bytes vs × (items_of (map view a.items) ≡ settle_items vs)

-- the code, and the tree of the scope
abbrev pub IsScopedOf : RawJavaScriptCodeWithScopeRef → JavaScriptCodeWithScope → Type 0
IsScopedOf x c = (string_bytes c.code ≡ x.code.now) × IsDocumentOf (drop 4 (bytes_of x.scope)) c.scope

-- an element spells the tree of a value
abbrev pub IsValueOf : Element → Bson → Type 0
IsValueOf e b = (v : Value) × (value_kind v ≡ e.tag) × SpellsValue e.payload v × (view b ≡ settle_value v)

-- the elements inside a raw value, if its kind has some
abbrev pub elements_of : RawValue → Option (List ℕ)
elements_of (raws.leaf s) = None
elements_of (raws.array bs) = Some (drop 4 bs)
elements_of (raws.document bs) = Some (drop 4 bs)
elements_of (raws.scoped_code t bs) = Some (drop 4 bs)

-- a raw value spells a tree: what it holds, and what the elements inside spell
abbrev pub SpellsRawValue : RawValue → Value → Type 0
SpellsRawValue (raws.leaf s) v = v ≡ scalar s
SpellsRawValue (raws.array bs) v = (vs : Items) × SpellsItems (drop 4 bs) vs × (v ≡ array vs)
SpellsRawValue (raws.document bs) v = (ms : Members) × SpellsMembers (drop 4 bs) ms × (v ≡ document ms)
SpellsRawValue (raws.scoped_code t bs) v = (ms : Members) × SpellsMembers (drop 4 bs) ms × (v ≡ scoped_code t ms)

-- a raw value spells the tree of a value
abbrev pub IsBsonOf : RawValue → Bson → Type 0
IsBsonOf r b = (v : Value) × SpellsRawValue r v × (view b ≡ settle_value v)

-- the first fault of a raw value
abbrev pub HasFaultInside : RawValue → Option (List ℕ) → ErrorKind → Type 0
HasFaultInside r key kind = (inner : List ℕ) × (elements_of r ≡ Some inner) × HasFault inner key kind

-- ---- what the conversions return

abbrev pub ConvertsMembers : List ℕ → Result Document Error → Type 0
ConvertsMembers bytes result = MatchResult result (IsDocumentOf bytes) (TellsFault (HasFault bytes))

abbrev pub ConvertsItems : List ℕ → Result (Vec Bson Global) Error → Type 0
ConvertsItems bytes result = MatchResult result (IsArrayOf bytes) (TellsFault (HasFault bytes))

abbrev pub ConvertsElement : Element → Result Bson Error → Type 0
ConvertsElement e result = IsPayload e.tag e.payload → MatchResult result (IsValueOf e) (TellsFault (HasFaultIn e))

abbrev pub ConvertsValue : RawValue → Result Bson Error → Type 0
ConvertsValue r result = MatchResult result (IsBsonOf r) (TellsFault (HasFaultInside r))

-- the bytes of an array mean the items
abbrev pub MeansItems : List ℕ → Items → Type 0
MeansItems bytes items = (vs : Items) × IsEnvelope bytes × SpellsItems (drop 4 bytes) vs × (items ≡ settle_items vs)

-- What is wrong inside a payload whose extent is right.
use Rattle.std.specs.Prelude.{◌≡◌, ◌≢◌, ℕ, ◌+◌, ◌-◌, ◌<◌, ◌≤◌, List, length, slice_index, take, drop, IsUtf8, ◌⊎◌}
use Rattle.bson_base.specs.declared.spec.ElementType.{ElementType}
use Rattle.bson_base.specs.declared.spec.ElementType.TheVariants as kinds
use Rattle.bson_base.specs.declared.spec.BinarySubtype.TheVariants as subtypes
use Rattle.bson_base.specs.Tags.{subtype_byte}
use Rattle.bson_frame.specs.declared.error.ErrorKind.{ErrorKind}
use Rattle.bson_frame.specs.declared.error.ErrorKind.TheVariants.{MalformedValue, Utf8EncodingError, OutOfMemory}
use Rattle.bson_frame.specs.Frame.{number, HasSize, IsTextSize, IsDocumentSize}
use Rattle.bson_frame.specs.Reader.{IsWhole, IsNeverWhole}

-- the payload by itself has the size that its kind requires; a code with scope may have any size
abbrev pub IsPayload : ElementType → List ℕ → Type 0
IsPayload kinds.JavaScriptCodeWithScope payload = Unit {0}
IsPayload tag payload = HasSize tag payload (length payload)

-- the bytes of a text after its length, without the 00
abbrev pub text_in : List ℕ → List ℕ
text_in bytes = take (number bytes - 1) (drop 4 bytes)

-- the text at the front is whole
abbrev pub IsTextAt : List ℕ → Type 0
IsTextAt bytes = IsWhole IsTextSize bytes (number bytes + 4)

-- why no text is at the front
abbrev pub TextFault : List ℕ → ErrorKind → Type 0
TextFault bytes MalformedValue = IsNeverWhole IsTextSize bytes
TextFault bytes Utf8EncodingError = IsTextAt bytes × (IsUtf8 (text_in bytes) → ⊥)
TextFault bytes OutOfMemory = ⊥

-- a document that declares its own length and ends in 00
abbrev pub IsEnvelope : List ℕ → Type 0
IsEnvelope bytes = IsDocumentSize bytes (length bytes)

-- a text isn't UTF-8
abbrev pub IsNoText : List ℕ → ErrorKind → Type 0
IsNoText bytes kind = (kind ≡ Utf8EncodingError) × (IsUtf8 bytes → ⊥)

-- an old binary whose inner length isn't the outer one less 4, which includes an outer one under 4
pub record IsOldMisfit (payload : List ℕ) (kind : ErrorKind) : Type 0 where
  pub is : kind ≡ MalformedValue
  pub old : slice_index payload 4 ≡ subtype_byte subtypes.BinaryOld
  pub misfit : number payload ≢ number (drop 5 payload) + 4

-- a code with scope is a length, a text and a document: the code, and the scope
abbrev pub code_in : List ℕ → List ℕ
code_in payload = drop 4 payload

abbrev pub scope_in : List ℕ → List ℕ
scope_in payload = drop (number (code_in payload) + 4) (code_in payload)

-- a code with scope under 14 bytes, without a proper text, or whose scope has no envelope
abbrev pub CodeFault : List ℕ → ErrorKind → Type 0
CodeFault payload MalformedValue = (length payload < 14) ⊎ (TextFault (code_in payload) MalformedValue
    ⊎ (IsTextAt (code_in payload) × IsUtf8 (text_in (code_in payload)) × (IsEnvelope (scope_in payload) → ⊥)))
CodeFault payload Utf8EncodingError = (14 ≤ length payload) × TextFault (code_in payload) Utf8EncodingError
CodeFault payload OutOfMemory = ⊥

-- the payload has a fault of this kind
abbrev pub IsPayloadFault : ElementType → List ℕ → ErrorKind → Type 0
IsPayloadFault kinds.String payload kind = IsNoText (text_in payload) kind
IsPayloadFault kinds.JavaScriptCode payload kind = IsNoText (text_in payload) kind
IsPayloadFault kinds.Symbol payload kind = IsNoText (text_in payload) kind
IsPayloadFault kinds.DbPointer payload kind = IsNoText (text_in payload) kind
IsPayloadFault kinds.Boolean payload kind = (kind ≡ MalformedValue) × (1 < slice_index payload 0)
IsPayloadFault kinds.Binary payload kind = IsOldMisfit payload kind
IsPayloadFault kinds.JavaScriptCodeWithScope payload kind = CodeFault payload kind
IsPayloadFault tag payload kind = ⊥

-- the payload has no fault
abbrev pub IsFaultless : ElementType → List ℕ → Type 0
IsFaultless tag payload = (kind : ErrorKind) → IsPayloadFault tag payload kind → ⊥

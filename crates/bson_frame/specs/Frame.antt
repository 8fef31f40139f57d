-- The first frame of a byte list: a tag, a key and a payload, whose size depends on the kind (bsonspec.org 1.1,
-- "element").
use Rattle.std.specs.Prelude.{◌≡◌, ℕ, zero, suc, ◌+◌, ◌-◌, ◌<◌, ◌≤◌, ◌^◌, List, [], ◌∷◌, ◌++◌, length, slice_index, IsUtf8, ◌⊎◌}
use Rattle.std.specs.Int.{w32, from_le_bytes}
use Rattle.bson_base.specs.declared.spec.ElementType.{ElementType}
use Rattle.bson_base.specs.declared.spec.ElementType.TheVariants as kinds
use Rattle.bson_base.specs.Tags.{tag_byte}
use Rattle.bson_base.specs.Kinds.{HasNo00}
use Rattle.bson_frame.specs.declared.error.ErrorKind.{ErrorKind}
use Rattle.bson_frame.specs.declared.error.ErrorKind.TheVariants.{MalformedValue, Utf8EncodingError, OutOfMemory}

-- the greatest number of bytes that a length can declare, since it is a signed number of 32 bits (bsonspec.org 1.1,
-- "int32")
abbrev pub length_limit : ℕ
length_limit = 2147483647

-- the greatest number of bytes of a document that is taken from a reader, tested or kept: 16 MiB
abbrev pub size_limit : ℕ
size_limit = 16777216

-- the number in the first four bytes, the lowest first
abbrev pub number : List ℕ → ℕ
number bytes = from_le_bytes w32 bytes

-- a key, a pattern or options, without the 00 after it: a text without 00 (bsonspec.org 1.1, "cstring")
pub record IsCstring (run : List ℕ) : Type 0 where
  pub no_zero : HasNo00 run
  pub text : IsUtf8 run

-- The sizes of payloads at the front of bytes. A length is a signed number that isn't negative.

-- a length of at least 1, and that many bytes, the last one 00 (bsonspec.org 1.1, "string")
pub record IsTextSize (bytes : List ℕ) (size : ℕ) : Type 0 where
  pub declared : size ≡ number bytes + 4
  pub fits : number bytes < 2 ^ 31
  pub some : 1 ≤ number bytes
  pub ended : slice_index bytes (size - 1) ≡ 0

-- a length of at least 5 that counts itself, and that many bytes, the last one 00 (bsonspec.org 1.1, "document")
pub record IsDocumentSize (bytes : List ℕ) (size : ℕ) : Type 0 where
  pub declared : size ≡ number bytes
  pub fits : number bytes < 2 ^ 31
  pub some : 5 ≤ size
  pub ended : slice_index bytes (size - 1) ≡ 0

-- a length, a subtype, and that many bytes (bsonspec.org 1.1, "binary")
pub record IsBinarySize (bytes : List ℕ) (size : ℕ) : Type 0 where
  pub declared : size ≡ number bytes + 5
  pub fits : number bytes < 2 ^ 31

-- a length whose four bytes are there and count, also if it is under 4 (bsonspec.org 1.1, "code_w_s")
pub record IsCodeSize (bytes : List ℕ) (size : ℕ) : Type 0 where
  pub declared : size ≡ number bytes
  pub fits : number bytes < 2 ^ 31
  pub there : 4 ≤ length bytes

-- a text and 12 bytes (bsonspec.org 1.1, element type 0C)
pub record IsPointerSize (bytes : List ℕ) (size : ℕ) : Type 0 where
  pub room : 12 ≤ size
  pub text : IsTextSize bytes (size - 12)

-- two names, each with its 00 (bsonspec.org 1.1, element type 0B)
pub record IsRegexSize (bytes : List ℕ) (size : ℕ) : Type 0 where
  pub pattern : List ℕ
  pub options : List ℕ
  pub rest : List ℕ
  pub parts : bytes ≡ pattern ++ 0 ∷ (options ++ 0 ∷ rest)
  pub pattern_name : IsCstring pattern
  pub options_name : IsCstring options
  pub declared : size ≡ length pattern + length options + 2

-- a payload of this kind at the front of bytes takes size bytes
abbrev pub HasSize : ElementType → List ℕ → ℕ → Type 0
HasSize kinds.Double bytes size = size ≡ 8
HasSize kinds.String bytes size = IsTextSize bytes size
HasSize kinds.EmbeddedDocument bytes size = IsDocumentSize bytes size
HasSize kinds.Array bytes size = IsDocumentSize bytes size
HasSize kinds.Binary bytes size = IsBinarySize bytes size
HasSize kinds.Undefined bytes size = size ≡ 0
HasSize kinds.ObjectId bytes size = size ≡ 12
HasSize kinds.Boolean bytes size = size ≡ 1
HasSize kinds.DateTime bytes size = size ≡ 8
HasSize kinds.Null bytes size = size ≡ 0
HasSize kinds.RegularExpression bytes size = IsRegexSize bytes size
HasSize kinds.DbPointer bytes size = IsPointerSize bytes size
HasSize kinds.JavaScriptCode bytes size = IsTextSize bytes size
HasSize kinds.Symbol bytes size = IsTextSize bytes size
HasSize kinds.JavaScriptCodeWithScope bytes size = IsCodeSize bytes size
HasSize kinds.Int32 bytes size = size ≡ 4
HasSize kinds.Timestamp bytes size = size ≡ 8
HasSize kinds.Int64 bytes size = size ≡ 8
HasSize kinds.Decimal128 bytes size = size ≡ 16
HasSize kinds.MaxKey bytes size = size ≡ 0
HasSize kinds.MinKey bytes size = size ≡ 0

-- an element before its value is read
pub record Element : Type 0 where
  pub tag : ElementType
  pub key : List ℕ
  pub payload : List ℕ

-- bytes begin with the element, and this follows it
pub record IsFirstFrame (bytes : List ℕ) (e : Element) (rest : List ℕ) : Type 0 where
  pub parts : bytes ≡ tag_byte e.tag ∷ (e.key ++ 0 ∷ (e.payload ++ rest))
  pub key_name : IsCstring e.key
  pub size : HasSize e.tag (e.payload ++ rest) (length e.payload)

abbrev pub HasNoFrame : List ℕ → Type 0
HasNoFrame bytes = (e : Element) (rest : List ℕ) → IsFirstFrame bytes e rest → ⊥

-- The kind of the structural fault if there is no frame.

-- after n names, each with its 00, comes a run with its 00 that isn't UTF-8
abbrev pub NoTextAfter : ℕ → List ℕ → Type 0
NoTextAfter zero bytes = (run : List ℕ) × (rest : List ℕ) × (bytes ≡ run ++ 0 ∷ rest) × HasNo00 run × (IsUtf8 run → ⊥)
NoTextAfter (suc n) bytes = (name : List ℕ) × (rest : List ℕ) × (bytes ≡ name ++ 0 ∷ rest) × IsCstring name × NoTextAfter n rest

-- the key isn't UTF-8; or it is that of a regular expression, and the pattern or the options aren't
abbrev pub HasBadText : List ℕ → Type 0
HasBadText [] = ⊥
HasBadText (tag ∷ bytes) = NoTextAfter 0 bytes ⊎ ((tag ≡ tag_byte kinds.RegularExpression) × (NoTextAfter 1 bytes ⊎ NoTextAfter 2 bytes))

abbrev pub IsFaultKind : List ℕ → ErrorKind → Type 0
IsFaultKind bytes Utf8EncodingError = HasBadText bytes
IsFaultKind bytes MalformedValue = HasBadText bytes → ⊥
IsFaultKind bytes OutOfMemory = ⊥

-- bytes begin with no frame, for this reason
pub record IsStructuralFault (bytes : List ℕ) (kind : ErrorKind) : Type 0 where
  pub no_frame : HasNoFrame bytes
  pub reason : IsFaultKind bytes kind

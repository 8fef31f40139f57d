-- What the parts of the reader of frames say.
use Rattle.std.specs.Prelude.{◌≡◌, ◌⊎◌, ℕ, ◌≤◌, List, length, Result, MatchResult}
use Rattle.bson_base.specs.declared.spec.ElementType.{ElementType}
use Rattle.bson_base.specs.declared.spec.ElementType.TheVariants as kinds
use Rattle.bson_base.specs.Kinds.{HasNo00}
use Rattle.bson_frame.specs.declared.error.ErrorKind.{ErrorKind}
use Rattle.bson_frame.specs.declared.error.ErrorKind.TheVariants.{MalformedValue, Utf8EncodingError, OutOfMemory}
use Rattle.bson_frame.specs.Frame.{NoTextAfter}

-- why no name is at the front
abbrev pub NameFault : List ℕ → ErrorKind → Type 0
NameFault bytes MalformedValue = HasNo00 bytes
NameFault bytes Utf8EncodingError = NoTextAfter 0 bytes
NameFault bytes OutOfMemory = ⊥

-- a payload of this size is there
abbrev pub IsWhole : (List ℕ → ℕ → Type 0) → List ℕ → ℕ → Type 0
IsWhole Size bytes size = Size bytes size × (size ≤ length bytes)

abbrev pub IsNeverWhole : (List ℕ → ℕ → Type 0) → List ℕ → Type 0
IsNeverWhole Size bytes = (size : ℕ) → Size bytes size → size ≤ length bytes → ⊥

-- a reader of sizes found the size, or there is none
abbrev pub GivesSize : (List ℕ → ℕ → Type 0) → List ℕ → Result ℕ ErrorKind → Type 0
GivesSize Size bytes result = MatchResult result (IsWhole Size bytes) (λ kind. (kind ≡ MalformedValue) × IsNeverWhole Size bytes)

-- why no two names are at the front
abbrev pub RegexFault : List ℕ → ErrorKind → Type 0
RegexFault bytes MalformedValue = NoTextAfter 0 bytes ⊎ NoTextAfter 1 bytes → ⊥
RegexFault bytes Utf8EncodingError = NoTextAfter 0 bytes ⊎ NoTextAfter 1 bytes
RegexFault bytes OutOfMemory = ⊥

-- why no payload of this kind is at the front
abbrev pub SizeFault : ElementType → List ℕ → ErrorKind → Type 0
SizeFault tag bytes MalformedValue = tag ≡ kinds.RegularExpression → NoTextAfter 0 bytes ⊎ NoTextAfter 1 bytes → ⊥
SizeFault tag bytes Utf8EncodingError = (tag ≡ kinds.RegularExpression) × (NoTextAfter 0 bytes ⊎ NoTextAfter 1 bytes)
SizeFault tag bytes OutOfMemory = ⊥

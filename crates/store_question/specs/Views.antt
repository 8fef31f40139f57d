-- Which value a view of written bytes is of, and what the walk over written members finds.
use Rattle.std.specs.Prelude.{◌≡◌, ℕ, ◌-◌, ◌<◌, ◌^◌, List, length, Option, Some, None}
use Rattle.bson_base.specs.Kinds.{IsClean, IsSound}
use Rattle.bson_base.specs.Value.{Value, scalar, array, document, scoped_code, Items, Members, no_members, member, value_kind}
use Rattle.bson_bytes.specs.Encode.{encode, value_bytes, value_size}
use Rattle.bson_frame.specs.Frame.{Element, IsCstring}
use Rattle.bson_meaning.specs.Views.{view_scalar}
use Rattle.bson_raw.specs.View.{bytes_of, array_bytes, parts_of}
use Rattle.bson_raw.specs.declared.bson_ref.RawBsonRef.{RawBsonRef}
use Rattle.bson_raw.specs.declared.bson_ref.RawBsonRef.TheVariants as views
use Rattle.bson_raw.specs.declared.document.RawDocument.{RawDocument}
use Rattle.bson_raw.specs.declared.element.RawElement.{RawElement}
use Rattle.store_model.specs.Filter.{pairs}

-- the view is of the value as it is written: of the scalar, or of the bytes of the array, the document or the scope
abbrev pub Encodes : RawBsonRef → Value → Type 0
Encodes (views.Array x) v = (vs : Items) × (v ≡ array vs) × (array_bytes x ≡ value_bytes (array vs))
Encodes (views.Document x) v = (ms : Members) × (v ≡ document ms) × (bytes_of x ≡ encode ms)
Encodes (views.JavaScriptCodeWithScope x) v = (ms : Members) × (v ≡ scoped_code x.code.now ms) × (bytes_of x.scope ≡ encode ms)
Encodes raw v = v ≡ scalar (view_scalar raw)

-- P holds of the document whose written form the bytes are
abbrev pub OfWritten : List ℕ → (Members → Type 0) → Type 0
OfWritten bytes P = (d : Members) → IsClean (document d) → IsSound (document d) → bytes ≡ encode d → P d

-- nothing is there, or the view is of what is there
abbrev pub Finds : Option RawBsonRef → Option Value → Type 0
Finds None o = o ≡ None
Finds (Some raw) o = (v : Value) × (o ≡ Some v) × Encodes raw v

-- ---- a step of a path

-- a value that comes back from its bytes: clean, sound, and not longer than a length can state
pub record ComesBack (v : Value) : Type 0 where
  pub clean : IsClean v
  pub sound : IsSound v
  pub short : value_size v < 2 ^ 31

-- members of such values, under keys that are names
abbrev pub ComeBack : Members → Type 0
ComeBack no_members = Unit {0}
ComeBack (member k v ms) = IsCstring k × ComesBack v × ComeBack ms

-- the view is of a value without pairs, or the document has the pairs of the value
abbrev pub HoldsPairs : Option RawDocument → Value → Type 0
HoldsPairs None v = pairs v ≡ no_members
HoldsPairs (Some d) v = bytes_of d ≡ encode (pairs v)

-- the element is written for the value
pub record IsWrittenFor (e : Element) (v : Value) : Type 0 where
  pub kind : e.tag ≡ value_kind v
  pub payload : e.payload ≡ value_bytes v

-- nothing is there, or the element is written for what is there
abbrev pub FindsElement : Option RawElement → Option Value → Type 0
FindsElement None o = o ≡ None
FindsElement (Some e) o = (v : Value) × (o ≡ Some v) × IsWrittenFor (parts_of e) v

-- how many bytes follow the length of a value that a path can go into
abbrev pub room : RawBsonRef → ℕ
room (views.Array x) = length (array_bytes x) - 4
room (views.Document x) = length (bytes_of x) - 4
room _ = 0

abbrev pub room_of : Option RawBsonRef → ℕ
room_of None = 0
room_of (Some raw) = room raw

abbrev pub document_room : Option RawDocument → ℕ
document_room None = 0
document_room (Some d) = length (bytes_of d) - 4

-- how many bytes the payload of what was found takes
abbrev pub payload_length : Option RawElement → ℕ
payload_length None = 0
payload_length (Some e) = length (parts_of e).payload

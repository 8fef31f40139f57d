-- Documents as they are kept, the keys of their ids, and changed documents.
use Rattle.std.specs.Prelude.{◌≡◌, ◌≢◌, ◌⊎◌, ℕ, ◌^◌, ◌<◌, ◌≤◌, List, length, Some, None, Result, Ok, Err, Vec, IsUtf8}
use Rattle.std.specs.Cow.{cow_slice_items}
use Rattle.std.specs.declared.alloc.Global.{Global}
use Rattle.bson_base.specs.Kinds.{IsPlain, IsSound}
use Rattle.bson_base.specs.declared.spec.ElementType.{ElementType}
use Rattle.bson_base.specs.declared.spec.ElementType.TheVariants as kinds
use Rattle.bson_base.specs.Value.{Value, document, Members, has_key, without}
use Rattle.bson_bytes.specs.Encode.{encode, size}
use Rattle.bson_frame.specs.Frame.{length_limit, size_limit}
use Rattle.bson_meaning.specs.Before.{key as key_before}
use Rattle.bson_meaning.specs.Meaning.{key}
use Rattle.bson_meaning.specs.declared.key.KeyError.{KeyError}
use Rattle.bson_meaning.specs.declared.key.KeyError.TheVariants as key_errors
use Rattle.store_model.specs.Reading.{Reading, IsRead, IsKeepable, IsUnkeepable, ReadsBytes, readable, unreadable}
use Rattle.store_model.specs.State.{IsKept, IsName, refusal_of}
use Rattle.store_model.specs.Table.{only_id, own_id}
use Rattle.store_model.specs.declared.error.ErrorKind.{ErrorKind}
use Rattle.store_model.specs.declared.error.ErrorKind.TheVariants.{Nul, TooLong, Memory}
use Rattle.store_documents.specs.declared.change.Unset.{Unset}
use Rattle.store_documents.specs.declared.row.RowKey.{RowKey}
use Rattle.store_documents.specs.declared.row.RowKey.TheVariants.{Own, Before, Neither}
use Rattle.store_documents.specs.declared.write.KeptRow.{KeptRow}

-- ---- ids

-- the key of an id decides whether a kept document has the id
pub record IsKeyOf (k : List ℕ) (id : Value) : Type 0 where
  pub sound : IsSound id
  pub plain : IsPlain id
  pub short : length (key (only_id id)) ≤ length_limit
  pub key : k ≡ key (only_id id)

-- values of the kind are their own normal form
abbrev pub MeansItself : ElementType → Type 0
MeansItself kinds.Double = ⊥
MeansItself kinds.EmbeddedDocument = ⊥
MeansItself kinds.Array = ⊥
MeansItself kinds.Binary = ⊥
MeansItself kinds.RegularExpression = ⊥
MeansItself kinds.JavaScriptCodeWithScope = ⊥
MeansItself kinds.Decimal128 = ⊥
MeansItself _ = Unit {0}

-- what is reported for an `_id` that has no key; every `_id` that is kept has one
abbrev pub refusal_of_key : KeyError → ErrorKind
refusal_of_key key_errors.NotPlain = Nul
refusal_of_key key_errors.TooLong = TooLong
refusal_of_key key_errors.Memory = Memory

-- ---- bytes

-- the bytes of a document that is small enough to be kept
abbrev pub IsBody : List ℕ → Members → Type 0
IsBody bytes d = (bytes ≡ encode d) × IsPlain (document d) × (size d ≤ size_limit)

-- the size is too large for a length, or memory ran out
abbrev pub IsLong : Members → ErrorKind → Type 0
IsLong d k = ((k ≡ TooLong) × (2 ^ 31 ≤ size d)) ⊎ (k ≡ Memory)

-- why the bytes of a document aren't written
abbrev pub IsUnwritten : Members → ErrorKind → Type 0
IsUnwritten d k = ((k ≡ Nul) × (IsPlain (document d) → ⊥)) ⊎ ((k ≡ TooLong) × IsPlain (document d) × (size_limit < size d)) ⊎ (k ≡ Memory)

-- ---- what is returned

-- a document is written beside the key of its `_id`, or refused
abbrev pub AnswersWritten : Members → Result KeptRow ErrorKind → Type 0
AnswersWritten d (Ok w) = (refusal_of d ≡ None) × (w.key.items ≡ key (own_id d)) × (cow_slice_items w.body ≡ encode d)
AnswersWritten d (Err k) = (refusal_of d ≡ Some k) ⊎ (k ≡ Memory)

-- a changed document is written, or can't be kept
abbrev pub AnswersChanged : Members → Result (Vec ℕ Global) ErrorKind → Type 0
AnswersChanged d (Ok body) = IsKeepable d × (body.items ≡ encode d)
AnswersChanged d (Err k) = IsUnkeepable d k ⊎ (k ≡ Memory)

-- the member is taken out
abbrev pub AnswersUnset : List ℕ → Members → Result Unset ErrorKind → Type 0
AnswersUnset k d (Ok u) = (u.was_there ≡ has_key k d) × (u.body.items ≡ encode (without k d))
AnswersUnset k d (Err x) = x ≡ Memory

-- the row of the document that bytes mean, or why there is none
abbrev pub AnswersKept : List ℕ → Result KeptRow ErrorKind → Type 0
AnswersKept bytes (Ok w) = (d : Members) × ReadsBytes bytes (readable d) × IsRead d × AnswersWritten d (Ok w)
AnswersKept bytes (Err k) = ReadsBytes bytes (unreadable k) ⊎ ((d : Members) × ReadsBytes bytes (readable d) × IsRead d × AnswersWritten d (Err k))

-- the bytes are the written form of a document that can be kept, and this is the key of its `_id`
abbrev pub StandUnder : List ℕ → List ℕ → Type 0
StandUnder k bytes = (d : Members) × ReadsBytes bytes (readable d) × IsRead d × ((refusal_of d ≡ None) × (k ≡ key (own_id d)) × (bytes ≡ encode d))

-- ---- rows

-- a row that a store can have written: of a kept document, under a good name, with the key of its `_id`
pub record IsRow (coll k bytes : List ℕ) : Type 0 where
  pub name : IsName coll
  pub utf8 : IsUtf8 coll
  pub document : Members
  pub kept : IsKept document
  pub key : k ≡ key (own_id document)
  pub body : bytes ≡ encode document

-- a row that a store can have written before the two zeros of a double meant the same: it has the key that its `_id`
-- had then, and `now` is the current key
pub record IsRowOnce (coll k bytes now : List ℕ) : Type 0 where
  pub row : IsRow coll now bytes
  pub old : k ≡ key_before (own_id row.document)

-- what is reported of a row's key
abbrev pub TellsKey : List ℕ → List ℕ → List ℕ → RowKey → Type 0
TellsKey coll k bytes Own = IsRow coll k bytes
TellsKey coll k bytes (Before now) = IsRowOnce coll k bytes now.items × (k ≢ now.items)
TellsKey coll k bytes Neither = (now : List ℕ) (row : IsRow coll now bytes) → (k ≢ now) × (k ≢ key_before (own_id row.document))

-- ---- JSON

-- the bytes of a document's normal form with its keys in order, which are few enough to be kept
abbrev pub IsOrderedBody : List ℕ → Members → Type 0
IsOrderedBody bytes e = (bytes ≡ key e) × IsSound (document e) × IsPlain (document e) × (length (key e) ≤ size_limit)

-- why there are no such bytes
abbrev pub IsUnordered : Members → ErrorKind → Type 0
IsUnordered e k = ((k ≡ Nul) × (IsPlain (document e) → ⊥)) ⊎ ((k ≡ TooLong) × IsPlain (document e) × (size_limit < length (key e))) ⊎ (k ≡ Memory)

-- the row of the document that an input reads as, or why there is none, or memory ran out
abbrev pub AnswersInput : (Reading → Type 0) → Result KeptRow ErrorKind → Type 0
AnswersInput Reads (Ok w) = (d : Members) × Reads (readable d) × IsRead d × AnswersWritten d (Ok w)
AnswersInput Reads (Err k) = Reads (unreadable k) ⊎ ((d : Members) × Reads (readable d) × (refusal_of d ≡ Some k)) ⊎ (k ≡ Memory)

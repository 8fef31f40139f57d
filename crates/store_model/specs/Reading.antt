-- What inputs read as: the bytes of a document, a JSON tree, a stream of bytes, a list of trees.
use Rattle.std.specs.Prelude.{◌≡◌, ◌⊎◌, ℕ, ◌<◌, ◌≤◌, List, [], ◌∷◌, ◌++◌, length, Option, Some, None, Result, Ok, Err}
use Rattle.serde_json.specs.Data.{Data, object}
use Rattle.bson_base.specs.Kinds.{IsPlain, IsClean, IsSound}
use Rattle.bson_base.specs.Value.{Value, document, Members, levels}
use Rattle.bson_bytes.specs.Encode.{size}
use Rattle.bson_bytes.specs.Spells.{Means}
use Rattle.bson_frame.specs.Frame.{number, size_limit}
use Rattle.bson_model.specs.JsonRead.{read, read_members}
use Rattle.bson_model.specs.declared.extjson.de.Error.{Error}
use Rattle.bson_meaning.specs.Gate.{level_limit, IsCounted, IsRefused, Passes}
use Rattle.bson_meaning.specs.JsonTrees.{IsJson}
use Rattle.bson_meaning.specs.Meaning.{norm_members_in_order}
use Rattle.bson_meaning.specs.declared.gating.GateError.{GateError}
use Rattle.bson_meaning.specs.declared.gating.GateError.TheVariants as gate
use Rattle.store_model.specs.declared.error.ErrorKind.{ErrorKind}
use Rattle.store_model.specs.declared.error.ErrorKind.TheVariants.{NotAnObject, JsonRefused, EndInside, BadLength, NotTerminated, Faulty, TooDeep, Nul, TooLong}

abbrev pub Documents : Type 0
Documents = List Members

-- a document, or why there is none
pub data Reading : Type 0 where
  readable : Members → Reading
  unreadable : ErrorKind → Reading

-- ---- one document

-- the kind that is reported for a test of the gate
abbrev pub kind_of_gate_error : GateError → ErrorKind
kind_of_gate_error gate.EndInside = EndInside
kind_of_gate_error gate.BadLength = BadLength
kind_of_gate_error gate.NotTerminated = NotTerminated
kind_of_gate_error gate.Faulty = Faulty
kind_of_gate_error gate.TooDeep = TooDeep

abbrev pub ReadsBytes : List ℕ → Reading → Type 0
ReadsBytes bytes (readable d) = Passes bytes × Means bytes d
ReadsBytes bytes (unreadable k) = (e : GateError) × IsRefused bytes e × (k ≡ kind_of_gate_error e)

-- why a changed document can't be kept: it fails this test, and none before it
abbrev pub IsUnkeepable : Members → ErrorKind → Type 0
IsUnkeepable d TooDeep = level_limit < levels (document d)
IsUnkeepable d Nul = (levels (document d) ≤ level_limit) × (IsPlain (document d) → ⊥)
IsUnkeepable d TooLong = (levels (document d) ≤ level_limit) × IsPlain (document d) × (size_limit < size d)
IsUnkeepable d _ = ⊥

-- the changed document passes all three tests
pub record IsKeepable (d : Members) : Type 0 where
  pub shallow : levels (document d) ≤ level_limit
  pub plain : IsPlain (document d)
  pub small : size d ≤ size_limit

-- why a document that JSON stands for can't be normalized: the same tests except that of its size
abbrev pub IsUnfit : Members → ErrorKind → Type 0
IsUnfit e TooLong = ⊥
IsUnfit e k = IsUnkeepable e k

-- the normal form of the document that JSON stands for, with its keys in order
abbrev pub Keeps : Members → Reading → Type 0
Keeps e (readable d) = (levels (document e) ≤ level_limit) × IsPlain (document e) × (d ≡ norm_members_in_order e)
Keeps e (unreadable k) = IsUnfit e k

abbrev pub KeepsRead : Result Members Error → Reading → Type 0
KeepsRead (Ok e) a = Keeps e a
KeepsRead (Err x) a = a ≡ unreadable JsonRefused

-- the keys of the top object are not tested
abbrev pub ReadsTree : Data → Reading → Type 0
ReadsTree (object js) a = KeepsRead (read_members js) a
ReadsTree _ a = a ≡ unreadable NotAnObject

-- the value that JSON stands for, if its reader takes it
abbrev pub value_of : Result Value Error → Option Value
value_of (Ok v) = Some v
value_of (Err x) = None

abbrev pub read_value : Data → Option Value
read_value j = value_of (read j)

-- ---- many

-- The inputs read as these documents, one for each, down to where it stops: at the end, with what `behind` says; or at
-- the first input that can't be read, and why it can't.
abbrev pub ReadsEach : {A : Type 0} → (A → Reading → Type 0) → List A → Option ErrorKind → Documents → Option ErrorKind → Type 0
ReadsEach Reads [] behind [] stop = stop ≡ behind
ReadsEach Reads (a ∷ more) behind [] (Some k) = Reads a (unreadable k)
ReadsEach Reads (a ∷ more) behind (d ∷ ds) stop = Reads a (readable d) × ReadsEach Reads more behind ds stop
ReadsEach Reads _ behind _ _ = ⊥

-- no document can be cut off in front
abbrev pub IsUncut : List ℕ → ErrorKind → Type 0
IsUncut bytes EndInside = (length bytes < 4) ⊎ ((5 ≤ number bytes) × (number bytes ≤ size_limit) × (length bytes < number bytes))
IsUncut bytes BadLength = (4 ≤ length bytes) × ((number bytes < 5) ⊎ (size_limit < number bytes))
IsUncut bytes _ = ⊥

-- the pieces by their declared lengths, down to the end, or to where no document can be cut off
abbrev pub Cuts : List ℕ → List (List ℕ) → Option ErrorKind → Type 0
Cuts bytes [] None = bytes ≡ []
Cuts bytes [] (Some k) = (0 < length bytes) × IsUncut bytes k
Cuts bytes (p ∷ ps) stop = (rest : List ℕ) × (bytes ≡ p ++ rest) × IsCounted p × Cuts rest ps stop

abbrev pub ReadsStream : List ℕ → Documents → Option ErrorKind → Type 0
ReadsStream bytes ds stop = (ps : List (List ℕ)) × (behind : Option ErrorKind) × Cuts bytes ps behind × ReadsEach ReadsBytes ps behind ds stop

abbrev pub ReadsTrees : List Data → Documents → Option ErrorKind → Type 0
ReadsTrees js ds stop = ReadsEach ReadsTree js None ds stop

-- ---- what holds of every reading

-- a document as it is read: clean, with numbers and texts of its kinds and no key twice, of at most 100 levels
pub record IsRead (d : Members) : Type 0 where
  pub clean : IsClean (document d)
  pub sound : IsSound (document d)
  pub shallow : levels (document d) ≤ level_limit

abbrev pub AreRead : Documents → Type 0
AreRead [] = Unit {0}
AreRead (d ∷ ds) = IsRead d × AreRead ds

-- why an input can't be read: the kinds 3 to 11
abbrev pub IsReadingKind : ErrorKind → Type 0
IsReadingKind NotAnObject = Unit {0}
IsReadingKind JsonRefused = Unit {0}
IsReadingKind EndInside = Unit {0}
IsReadingKind BadLength = Unit {0}
IsReadingKind NotTerminated = Unit {0}
IsReadingKind Faulty = Unit {0}
IsReadingKind TooDeep = Unit {0}
IsReadingKind Nul = Unit {0}
IsReadingKind _ = ⊥

abbrev pub IsReading : Reading → Type 0
IsReading (readable d) = IsRead d
IsReading (unreadable k) = IsReadingKind k

abbrev pub IsStop : Option ErrorKind → Type 0
IsStop None = Unit {0}
IsStop (Some k) = IsReadingKind k

abbrev pub AreAllJson : List Data → Type 0
AreAllJson [] = Unit {0}
AreAllJson (j ∷ js) = IsJson j × AreAllJson js

-- the two refusals of bytes of which either is reported if both hold
abbrev pub MayBoth : ErrorKind → Type 0
MayBoth Faulty = Unit {0}
MayBoth TooDeep = Unit {0}
MayBoth _ = ⊥

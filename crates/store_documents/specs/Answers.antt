-- What is returned when bytes or JSON are read as documents, and when documents are given as JSON.
use Rattle.std.specs.Prelude.{◌≡◌, ◌⊎◌, ℕ, List, Some, None, Result, Ok, Err}
use Rattle.serde_json.specs.Data.{Data}
use Rattle.serde_json.specs.View.{view as data_of}
use Rattle.serde_json.specs.Written.{compact_text}
use Rattle.serde_json.specs.declared.value.Value.{Value as Json}
use Rattle.bson_base.specs.Value.{Members}
use Rattle.bson_model.specs.View.{view, content}
use Rattle.bson_model.specs.declared.bson.Bson.{Bson}
use Rattle.bson_model.specs.declared.document.Document.{Document}
use Rattle.store_model.specs.Reading.{Reading, readable, unreadable, read_value, ReadsBytes, ReadsTree}
use Rattle.store_model.specs.Run.{IsUnread}
use Rattle.store_model.specs.State.{in_json}
use Rattle.store_model.specs.declared.error.ErrorKind.{ErrorKind}
use Rattle.store_model.specs.declared.error.ErrorKind.TheVariants.{JsonRefused, Memory, Reader, Writer}

-- what the bytes read as; or memory ran out, and they read as some document
abbrev pub AnswersBytes : List ℕ → Result Document ErrorKind → Type 0
AnswersBytes bytes (Ok d) = ReadsBytes bytes (readable (content d))
AnswersBytes bytes (Err k) = ReadsBytes bytes (unreadable k) ⊎ ((k ≡ Memory) × (d : Members) × ReadsBytes bytes (readable d))

-- what the tree reads as; or memory ran out, and it reads as something that isn't decided before anything grows
abbrev pub AnswersTree : Data → Result Document ErrorKind → Type 0
AnswersTree j (Ok d) = ReadsTree j (readable (content d))
AnswersTree j (Err k) = ReadsTree j (unreadable k) ⊎ ((k ≡ Memory) × (a : Reading) × ReadsTree j a × (IsUnread in_json a → ⊥))

-- the value that the tree reads as, or why there is none
abbrev pub AnswersValue : Data → Result Bson ErrorKind → Type 0
AnswersValue j (Ok v) = read_value j ≡ Some (view v)
AnswersValue j (Err k) = ((k ≡ JsonRefused) × (read_value j ≡ None)) ⊎ (k ≡ Memory)

-- the tree of r, its refusal, or out of memory
abbrev pub AnswersJson : Result Data ErrorKind → Result Json ErrorKind → Type 0
AnswersJson r (Ok j) = r ≡ Ok (data_of j)
AnswersJson r (Err k) = (r ≡ Err k) ⊎ (k ≡ Memory)

-- the text of the tree of r, its refusal, or out of memory
abbrev pub AnswersText : Result Data ErrorKind → List ℕ → Result (Unit {0}) ErrorKind → Type 0
AnswersText r t (Ok x) = (j : Data) × (r ≡ Ok j) × (t ≡ compact_text j)
AnswersText r t (Err k) = (r ≡ Err k) ⊎ (k ≡ Memory)

-- there is a tree
abbrev pub HasTree : Result Data ErrorKind → Type 0
HasTree r = (j : Data) × (r ≡ Ok j)

-- there is a tree, or it is refused as the tree would be
abbrev pub AnswersChecked : Result Data ErrorKind → Result (Unit {0}) ErrorKind → Type 0
AnswersChecked r (Ok x) = HasTree r
AnswersChecked r (Err k) = (r ≡ Err k) ⊎ (k ≡ Memory)

-- the kind is no device's: neither a read nor a write failed
abbrev pub IsOfStore : ErrorKind → Type 0
IsOfStore Reader = ⊥
IsOfStore Writer = ⊥
IsOfStore _ = Unit {0}

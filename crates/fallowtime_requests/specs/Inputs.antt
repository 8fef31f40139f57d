-- What an argument of a command is, and what it is read as. A command line is a request of a session: a name, a key and
-- a path are texts; of the others a word is a text of JSON, and an id that is no JSON is a text itself.
use Rattle.std.specs.Prelude.{◌≡◌, ℕ, Bool, false, List, [], ◌∷◌, map, codes, if◌then◌else◌, String, string_bytes, Option, Some, None, Ok}
use Rattle.std.specs.Str.{bytes_eq}
use Rattle.std.specs.declared.alloc.Global.{Global}
use Rattle.json.specs.Json.{Json, Items, no_items, item, Members as Pairs, no_members, member, document as tree_of}
use Rattle.json.specs.Json as json
use Rattle.json.specs.Strict.{HasUniqueKeys}
use Rattle.json.specs.Value.{value_view}
use Rattle.bson_base.specs.Value.{Value, Members}
use Rattle.bson_json_read.specs.Reading.{read, read_top}
use Rattle.cli_convert.specs.Ids.{id_of}
use Rattle.cli_convert.specs.Made.{date_of}
use Rattle.cli_convert.specs.declared.made.IdMaker.{IdMaker}
use Rattle.store_question.specs.Asked.{Asked}
use Rattle.store_question_read.specs.Query.{keys, query}
use Rattle.store_update.specs.Plan.{Plan}
use Rattle.store_question_read.specs.Read.{update}
use Rattle.fallowtime_requests.specs.declared.input.Input.{Input}
use Rattle.fallowtime_requests.specs.declared.input.Input.TheVariants as input

-- a word of a command line, or a value of JSON
pub data Given : Type 0 where
  word : List ℕ → Given
  tree : Json → Given

abbrev pub seen : Input → Given
seen (input.Word w) = word w.now
seen (input.Tree t) = tree (value_view t.now)

-- the words of a command line
abbrev pub texts : List (String Global) → List Given
texts ws = map (λ (w : String Global). word (string_bytes w)) ws

-- the values of an array
abbrev pub trees : Items → List Given
trees no_items = []
trees (item j js) = tree j ∷ trees js

-- a name, a key or a path
abbrev pub IsText : Given → List ℕ → Type 0
IsText (word w) t = t ≡ w
IsText (tree (json.string s)) t = t ≡ s
IsText (tree j) t = ⊥

-- its JSON
abbrev pub HasJson : Given → Json → Type 0
HasJson (word w) j = tree_of w ≡ Some j
HasJson (tree k) j = j ≡ k

abbrev pub IsDocument : Given → Members → Type 0
IsDocument g d = (j : Json) × HasJson g j × (read_top j ≡ Ok d)

abbrev pub IsValue : Given → Value → Type 0
IsValue g v = (j : Json) × HasJson g j × (read j ≡ Ok v)

abbrev pub IsId : Given → Value → Type 0
IsId (word w) v = id_of w (tree_of w) ≡ Ok v
IsId (tree j) v = read j ≡ Ok v

-- The JSON of a query or an update, in which no object has a key twice: that of a line has none anyway.
abbrev pub HasQuery : Given → Json → Type 0
HasQuery (word w) j = (tree_of w ≡ Some j) × HasUniqueKeys j
HasQuery (tree k) j = j ≡ k

abbrev pub IsAsked : Given → Asked → Type 0
IsAsked g a = (j : Json) × HasQuery g j × (query j ≡ Ok a)

-- what is planned at the time of the maker
abbrev pub IsUpdate : IdMaker → Given → List Plan → Type 0
IsUpdate m g plans = (j : Json) × HasQuery g j × (update (date_of m) j ≡ Ok plans)

-- options of which there is one, that is true or false: whether it is given as true; and that of an update, whether all documents are
-- meant
abbrev pub boolean_of : Json → Option Bool
boolean_of (json.boolean is) = Some is
boolean_of _ = None

abbrev pub flag_among : List ℕ → Pairs → Option Bool
flag_among name no_members = Some false
flag_among name (member key j no_members) = if bytes_eq key name then boolean_of j else None
flag_among name _ = None

abbrev pub flag_of : List ℕ → Json → Option Bool
flag_of name (json.object js) = flag_among name js
flag_of name _ = None

abbrev pub many_of : Given → Option Bool
many_of (tree j) = flag_of (codes "many") j
many_of _ = None

-- the keys between the dots, as under a query's path
abbrev pub IsPath : Given → List (List ℕ) → Type 0
IsPath g path = (t : List ℕ) × IsText g t × (path ≡ keys t)

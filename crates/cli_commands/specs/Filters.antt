-- What the JSON texts of filters stand for.
use Rattle.std.specs.Prelude.{◌≡◌, ℕ, List, Some, Result, Ok, Err, Vec, String, codes, map}
use Rattle.std.specs.declared.alloc.Global.{Global}
use Rattle.serde_json.specs.Data.{Data, number, unsigned, string, array, object, Items, no_items, item, no_members, member}
use Rattle.serde_json.specs.Read.{read as data_of_text}
use Rattle.serde_json.specs.View.{items_of}
use Rattle.bson_base.specs.Tags.{tag_byte}
use Rattle.bson_base.specs.declared.spec.ElementType.{ElementType}
use Rattle.bson_model.specs.JsonRead.{read as value_of}
use Rattle.store_model.specs.Filter.{Filter, equals, exists, is_of, no, all_of, any_of, Filters, no_filters, filter, Path}
use Rattle.store_question.specs.Filters.{filter_of, path_of, tests_of}
use Rattle.store_question.specs.declared.filter.Filter.{Filter as Test}
use Rattle.cli_commands.specs.declared.word_texts.TextError.{TextError}
use Rattle.cli_commands.specs.declared.word_texts.TextError.TheVariants.{Unreadable, Memory}

-- an object with one key
abbrev pub one : List ℕ → Data → Data
one key body = object (member key body no_members)

-- an array of two
abbrev pub two : Data → Data → Data
two first second = array (item first (item second no_items))

-- a path is the array of its keys
abbrev pub path_json : Path → Data
path_json path = array (items_of (map string path))

-- a kind is the number of its tag
abbrev pub kind_json : ElementType → Data
kind_json kind = number (unsigned (tag_byte kind))

-- ---- trees

-- the tree stands for the filter
abbrev mutual
  pub IsFilter : Data → Filter → Type 0
  IsFilter j (equals path v) = (w : Data) × (j ≡ one (codes "eq") (two (path_json path) w)) × (value_of w ≡ Ok v)
  IsFilter j (exists path) = j ≡ one (codes "exists") (path_json path)
  IsFilter j (is_of path kind) = j ≡ one (codes "kind") (two (path_json path) (kind_json kind))
  IsFilter j (no f) = (i : Data) × (j ≡ one (codes "not") i) × IsFilter i f
  IsFilter j (all_of fs) = (js : Items) × (j ≡ one (codes "and") (array js)) × AreFilters js fs
  IsFilter j (any_of fs) = (js : Items) × (j ≡ one (codes "or") (array js)) × AreFilters js fs

  pub AreFilters : Items → Filters → Type 0
  AreFilters no_items no_filters = Unit {0}
  AreFilters (item j js) (filter f fs) = IsFilter j f × AreFilters js fs
  AreFilters _ _ = ⊥

-- the tree is that of the path, or of none; or out of memory
abbrev pub AnswersPath : Data → Result (Vec (String Global) Global) TextError → Type 0
AnswersPath j (Ok path) = j ≡ path_json (path_of path.items)
AnswersPath j (Err Unreadable) = (path : Path) → j ≡ path_json path → ⊥
AnswersPath j (Err Memory) = Unit {0}

-- the tree stands for the filter, or for none; or out of memory
abbrev pub AnswersTree : Data → Result Test TextError → Type 0
AnswersTree j (Ok f) = IsFilter j (filter_of f)
AnswersTree j (Err Unreadable) = (f : Filter) → IsFilter j f → ⊥
AnswersTree j (Err Memory) = Unit {0}

-- the tree is an array of trees that stand for the filters, or it is no such array; or out of
-- memory
abbrev pub AnswersTrees : Data → Result (Vec Test Global) TextError → Type 0
AnswersTrees j (Ok fs) = (js : Items) × (j ≡ array js) × AreFilters js (tests_of (map filter_of fs.items))
AnswersTrees j (Err Unreadable) = (js : Items) (fs : Filters) → j ≡ array js → AreFilters js fs → ⊥
AnswersTrees j (Err Memory) = Unit {0}

-- ---- texts

-- the text is that of a tree that stands for the filter
abbrev pub IsFilterText : List ℕ → Filter → Type 0
IsFilterText text f = (j : Data) × (data_of_text text ≡ Some j) × IsFilter j f

-- the text stands for the filter, or for none; or out of memory
abbrev pub AnswersFilter : List ℕ → Result Test TextError → Type 0
AnswersFilter text (Ok f) = IsFilterText text (filter_of f)
AnswersFilter text (Err Unreadable) = (f : Filter) → IsFilterText text f → ⊥
AnswersFilter text (Err Memory) = Unit {0}

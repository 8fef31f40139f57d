-- Which commands the words of the program ask for.
use Rattle.std.specs.Prelude.{◌≡◌, ℕ, List, [], ◌∷◌, ◌++◌, Option, Some, Ok, Err}
use Rattle.serde_json.specs.Data.{Data}
use Rattle.serde_json.specs.Read.{read as data_of_text}
use Rattle.bson_base.specs.Device.{Feed, TookAll}
use Rattle.bson_base.specs.Value.{Value}
use Rattle.bson_model.specs.JsonRead.{read as value_of}
use Rattle.bson_model.specs.declared.extjson.ser.Mode.{Mode}
use Rattle.bson_model.specs.declared.extjson.ser.Mode.TheVariants.{Canonical, Relaxed}
use Rattle.store_model.specs.Filter.{Filter}
use Rattle.store_model.specs.Reading.{Documents, Reading, ReadsStream, ReadsTree, ReadsTrees, read_value}
use Rattle.store_model.specs.State as model
use Rattle.store_model.specs.declared.error.ErrorKind.{ErrorKind}
use Rattle.cli_commands.specs.declared.call.Call.{Call}
use Rattle.cli_commands.specs.declared.call.Call.TheVariants.{Insert, Replace, Get, Set, Unset, Remove, Find, Count, Import, Export, Dump, Load, Collections}
use Rattle.cli_commands.specs.Filters.{AnswersFilter, IsFilterText}
use Rattle.cli_commands.specs.Inputs.{HaveTrees, IsFirstBadLine, lines_in}
use Rattle.cli_commands.specs.Texts.{AnswersId, AnswersText}
use Rattle.cli_commands.specs.Words.{Takes}
use Rattle.cli_commands.specs.declared.lines.UsageError.{UsageError}
use Rattle.cli_commands.specs.declared.lines.UsageError.TheVariants.{Usage, Json, Id, Line}
use Rattle.cli_commands.specs.declared.lines.UsageError.TheVariants as words
use Rattle.cli_commands.specs.declared.word_texts.TextError.TheVariants.{Unreadable}

-- the value of an Extended JSON text
abbrev pub IsIdText : List ℕ → Value → Type 0
IsIdText text id = (j : Data) × (data_of_text text ≡ Some j) × (value_of j ≡ Ok id)

-- the form that the words after an id ask for: canonical, if there are none
abbrev pub mode_of : List (List ℕ) → Mode
mode_of [] = Canonical
mode_of (form ∷ forms) = Relaxed

-- the key that the words after an id begin with
abbrev pub first_key : List (List ℕ) → List ℕ
first_key [] = []
first_key (key ∷ more) = key

-- the call of a document, which the only text stands for
abbrev pub IsOfTree : (Reading → model.Call) → List ℕ → List (List ℕ) → model.Command → Type 0
IsOfTree call n texts c = (text : List ℕ) × (j : Data) × (a : Reading) × (texts ≡ text ∷ []) × (data_of_text text ≡ Some j) × ReadsTree j a × (c ≡ model.on n (call a))

-- the call of an id, which the first text stands for
abbrev pub IsOfId : (Value → List (List ℕ) → model.Call) → List ℕ → List (List ℕ) → model.Command → Type 0
IsOfId call n texts c = (text : List ℕ) × (more : List (List ℕ)) × (id : Value) × (texts ≡ text ∷ more) × IsIdText text id × (c ≡ model.on n (call id more))

-- the call of an id, a key and a value, which the texts stand for
abbrev pub IsOfSet : List ℕ → List (List ℕ) → model.Command → Type 0
IsOfSet n texts c = (text : List ℕ) × (key : List ℕ) × (value : List ℕ) × (id : Value) × (j : Data) × (texts ≡ text ∷ key ∷ value ∷ []) × IsIdText text id × (data_of_text value ≡ Some j)
    × (c ≡ model.on n (model.set id key (read_value j)))

-- what the bytes of the input read as, taken to its end; under a bad name nothing is read
abbrev pub IsOfStream : List ℕ → Feed → Feed → model.Command → Type 0
IsOfStream n old new c = (bytes : List ℕ) × (ds : Documents) × (stop : Option ErrorKind) × model.When (model.IsName n) (TookAll old new bytes) (new ≡ old) × ReadsStream bytes ds stop × (c ≡ model.on n (model.import ds stop))

-- what the trees of the lines of the input read as; the input is taken to its end
abbrev pub IsOfLines : List ℕ → Feed → Feed → model.Command → Type 0
IsOfLines n old new c =
    (bytes : List ℕ) × (js : List Data) × (ds : Documents) × (stop : Option ErrorKind) × TookAll old new bytes × HaveTrees (lines_in bytes) js × ReadsTrees js ds stop
    × (c ≡ model.on n (model.import ds stop))

-- the call of a filter, which the only text stands for
abbrev pub IsOfFilter : (Filter → model.Call) → List ℕ → List (List ℕ) → model.Command → Type 0
IsOfFilter call n texts c = (text : List ℕ) × (f : Filter) × (texts ≡ text ∷ []) × IsFilterText text f × (c ≡ model.on n (call f))

-- the command is one of the call on the collection n, with what the texts stand for
abbrev pub IsCommandOf : Call → List ℕ → List (List ℕ) → model.Command → Type 0
IsCommandOf Insert n texts c = IsOfTree (model.insert model.in_json) n texts c
IsCommandOf Replace n texts c = IsOfTree (model.replace model.in_json) n texts c
IsCommandOf Get n texts c = IsOfId (λ id more. model.get_json (mode_of more) id) n texts c
IsCommandOf Set n texts c = IsOfSet n texts c
IsCommandOf Unset n texts c = IsOfId (λ id more. model.unset id (first_key more)) n texts c
IsCommandOf Remove n texts c = IsOfId (λ id more. model.remove id) n texts c
IsCommandOf Find n texts c = IsOfFilter model.find n texts c
IsCommandOf Count n texts c = IsOfFilter model.count n texts c
IsCommandOf Export n texts c = c ≡ model.on n model.export
IsCommandOf Dump n texts c = c ≡ model.on n model.dump
IsCommandOf Collections n texts c = c ≡ model.collections
IsCommandOf _ n texts c = ⊥

-- the same; a call that reads the input takes what that gave
abbrev pub IsOfCall : Call → List ℕ → List (List ℕ) → Feed → Feed → model.Command → Type 0
IsOfCall Import n texts old new = IsOfStream n old new
IsOfCall Load n texts old new = IsOfLines n old new
IsOfCall call n texts old new = IsCommandOf call n texts

-- the words are a line of the table, which asks for the command
abbrev pub AsksFor : Call → List ℕ → List (List ℕ) → Feed → Feed → model.Command → Type 0
AsksFor call n texts old new c = Takes call texts × IsOfCall call n texts old new c

-- a call that doesn't read the input leaves it as it was
abbrev pub Spares : {A : Type 0} → Call → A → A → Type 0
Spares Import old new = Unit {0}
Spares Load old new = Unit {0}
Spares _ old new = new ≡ old

-- ---- what can't be read

-- the first text is that of no id
abbrev pub IsNoId : List (List ℕ) → Type 0
IsNoId texts = (text : List ℕ) × (more : List (List ℕ)) × (texts ≡ text ∷ more) × AnswersId text (Err Unreadable)

-- the last one is no JSON text
abbrev pub IsNoJson : List (List ℕ) → Type 0
IsNoJson texts = (front : List (List ℕ)) × (text : List ℕ) × (texts ≡ front ++ text ∷ []) × AnswersText text (Err Unreadable)

-- the first text is that of an id
abbrev pub HasId : List (List ℕ) → Type 0
HasId texts = (text : List ℕ) × (more : List (List ℕ)) × (id : Value) × (texts ≡ text ∷ more) × IsIdText text id

-- the only text stands for no filter
abbrev pub IsNoFilter : List (List ℕ) → Type 0
IsNoFilter texts = (text : List ℕ) × (texts ≡ text ∷ []) × AnswersFilter text (Err Unreadable)

-- the first of the texts of a call that can't be read is this
abbrev pub IsUnreadText : Call → List (List ℕ) → UsageError → Type 0
IsUnreadText Insert texts Json = IsNoJson texts
IsUnreadText Replace texts Json = IsNoJson texts
IsUnreadText Set texts Json = HasId texts × IsNoJson texts
IsUnreadText Get texts Id = IsNoId texts
IsUnreadText Set texts Id = IsNoId texts
IsUnreadText Unset texts Id = IsNoId texts
IsUnreadText Remove texts Id = IsNoId texts
IsUnreadText Find texts words.Filter = IsNoFilter texts
IsUnreadText Count texts words.Filter = IsNoFilter texts
IsUnreadText _ texts _ = ⊥

-- why the texts of a call are refused: they are no line of the table, or they are one, but this text can't be read
abbrev pub IsUnread : Call → List (List ℕ) → UsageError → Type 0
IsUnread call texts Usage = Takes call texts → ⊥
IsUnread call texts w = Takes call texts × IsUnreadText call texts w

-- the input was taken to its end, and this line of it is the first that can't be read
abbrev pub HasBadLine : Feed → Feed → ℕ → Type 0
HasBadLine old new i = (bytes : List ℕ) × TookAll old new bytes × IsFirstBadLine (lines_in bytes) i

-- the same, and nothing of the input is read; or, by `load`, all of it
abbrev pub Complains : Call → List (List ℕ) → Feed → Feed → UsageError → Type 0
Complains Load texts old new (Line i) = Takes Load texts × HasBadLine old new i
Complains call texts old new w = IsUnread call texts w × (new ≡ old)

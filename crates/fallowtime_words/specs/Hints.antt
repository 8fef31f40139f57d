-- What is said of words that are no line of the table.
use Rattle.std.specs.Prelude.{◌≡◌, ◌≢◌, ◌⊎◌, ◌==◌, ◌&&◌, ◌||◌, ℕ, List, [], ◌∷◌, ◌++◌, leb, codes, take, Bool, true, false, if◌then◌else◌, Option, Some, None}
use Rattle.std.specs.List.{after_first, before_first, filter, list_any}
use Rattle.std.specs.Str.{bytes_eq, str_to_ascii_lowercase}
use Rattle.fallowtime_words.specs.Commands.{allowed, command_name, command_of, BeginsWith}
use Rattle.fallowtime_words.specs.declared.command.Command.{Command}
use Rattle.fallowtime_words.specs.declared.command.Command.TheVariants.{Insert, Put, Update, ReplaceOne, Delete, FindAndUpdate, FindAndReplace, FindAndDelete, Remove, Find, Count, Import, Export, Rename, Copy, Collections, Index, ImportAll, ExportAll}
use Rattle.fallowtime_words.specs.Nearest.{IsAmong, IsNearest, IsNearestName}
use Rattle.fallowtime_words.specs.Usage.{line_text}
use Rattle.fallowtime_words.specs.declared.hint.TheConstants.{JOINED, MANY, OPTIONS}
use Rattle.fallowtime_words.specs.declared.hint.OtherName.{OtherName}

-- how commands are called elsewhere, and words that are called like one that isn't meant
abbrev pub other_names : List (List ℕ × Option Command)
other_names = (codes "rm", Some Remove) ∷ (codes "upsert", Some Put) ∷ (codes "save", Some Put) ∷ (codes "add", Some Insert) ∷ (codes "select", Some Find) ∷ (codes "query", Some Find) ∷ (codes "show", Some Collections)
    ∷ (codes "ls", Some Collections) ∷ (codes "list", Some Collections) ∷ (codes "load", Some Import) ∷ (codes "dump", Some Export) ∷ (codes "mv", Some Rename) ∷ (codes "cp", Some Copy) ∷ (codes "renamecollection", Some Rename)
    ∷ (codes "insertone", Some Insert) ∷ (codes "insert_one", Some Insert) ∷ (codes "insertmany", Some Import) ∷ (codes "insert_many", Some Import) ∷ (codes "updateone", Some Update) ∷ (codes "update_one", Some Update)
    ∷ (codes "updatemany", Some Update) ∷ (codes "update_many", Some Update) ∷ (codes "deleteone", Some Delete) ∷ (codes "delete_one", Some Delete) ∷ (codes "deletemany", Some Delete) ∷ (codes "delete_many", Some Delete)
    ∷ (codes "replaceone", Some ReplaceOne) ∷ (codes "findone", Some Find) ∷ (codes "find_one", Some Find) ∷ (codes "countdocuments", Some Count) ∷ (codes "count_documents", Some Count)
    ∷ (codes "findoneandupdate", Some FindAndUpdate) ∷ (codes "find_one_and_update", Some FindAndUpdate) ∷ (codes "findandmodify", Some FindAndUpdate) ∷ (codes "findoneandreplace", Some FindAndReplace)
    ∷ (codes "find_one_and_replace", Some FindAndReplace) ∷ (codes "findoneanddelete", Some FindAndDelete) ∷ (codes "find_one_and_delete", Some FindAndDelete) ∷ (codes "createindex", Some Index)
    ∷ (codes "create_index", Some Index) ∷ (codes "mongoimport", Some Import) ∷ (codes "mongoexport", Some Find) ∷ (codes "mongorestore", Some ImportAll) ∷ (codes "mongodump", Some ExportAll) ∷ (codes "use", None)
    ∷ (codes "exit", None) ∷ (codes "quit", None) ∷ []

-- the command of the first that is a word, if there is one for it
abbrev pub named_in : List (List ℕ × Option Command) → List ℕ → Option (Option Command)
named_in [] word = None
named_in (other ∷ others) word = if bytes_eq other.0 word then Some other.1 else named_in others word

abbrev pub called_in : List OtherName → List ℕ → Option (Option Command)
called_in [] word = None
called_in (other ∷ others) word = if bytes_eq other.name.now word then Some other.command else called_in others word

-- the command that is meant by a word: the one that is called so elsewhere, else the nearest of the table
abbrev pub IsMeant : List ℕ → Option Command → Type 0
IsMeant word meant = (named_in other_names word ≡ Some meant) ⊎ ((named_in other_names word ≡ None) × IsNearest 2 word meant)

-- a letter, a digit, or one of _ . -
abbrev pub is_shown : ℕ → Bool
is_shown b = (leb 48 b && leb b 57) || (leb 65 b && leb b 90) || (leb 97 b && leb b 122) || (b == 95) || (b == 46) || (b == 45)

-- the name of a call, or the word if there is none
abbrev pub name_or : List ℕ → List ℕ → List ℕ
name_or word [] = word
name_or word (b ∷ call) = before_first (λ c. c == 40) (b ∷ call)

-- what is called, behind the second dot: `find` of `db.orders.find({})`
abbrev pub called_name : List ℕ → List ℕ
called_name word = name_or word (after_first (λ b. b == 46) (after_first (λ b. b == 46) word))

-- of a command that changes the first document that is selected, or all
abbrev pub many_text : Command → List ℕ
many_text c = if (allowed c).many then MANY.now else []

abbrev pub meant_text : Option Command → List ℕ
meant_text None = []
meant_text (Some c) = codes ", but there is " ++ command_name c ++ many_text c

-- there is no such command, but the one that is meant; of the word only what a terminal may show
abbrev pub unknown_text : List ℕ → Option Command → List ℕ
unknown_text word meant = codes "there is no command '" ++ filter is_shown (take 40 word) ++ codes "'" ++ meant_text meant ++ codes "; fallowtime help lists the commands"

-- the hint at a word in the place of a command, which it names or not
abbrev pub HintsAt : List ℕ → Option Command → List ℕ → Type 0
HintsAt word (Some c) text = text ≡ codes "the words are " ++ line_text c
HintsAt word None text = (BeginsWith (codes "-") word × (text ≡ OPTIONS.now))
    ⊎ (¬ BeginsWith (codes "-") word × ((meant : Option Command) × IsMeant (called_name (str_to_ascii_lowercase word)) meant × (text ≡ unknown_text word meant)))

-- an equals sign
abbrev pub is_equals : ℕ → Bool
is_equals b = b == 61

-- an option with an equals sign
abbrev pub is_joined : List ℕ → Bool
is_joined (a ∷ b ∷ rest) = (a == 45) && (b == 45) && list_any is_equals rest
is_joined _ = false

-- the hint at a word in the place of a command, with others behind it
abbrev pub HintsIf : Bool → List ℕ → List ℕ → Type 0
HintsIf true word text = text ≡ JOINED.now
HintsIf false word text = HintsAt word (command_of word) text

abbrev pub HintsBehind : List ℕ → List (List ℕ) → List ℕ → Type 0
HintsBehind word more text = HintsIf (list_any is_joined (word ∷ more)) word text

-- ---- names of collections

-- the one that is meant, of which only what a terminal may show, or where to find one
abbrev pub near_text : Option (List ℕ) → List ℕ
near_text None = codes "; fallowtime FILE collections lists them"
near_text (Some name) = codes ", but there is " ++ filter is_shown (take 40 name)

abbrev pub missing_text : List ℕ → Option (List ℕ) → List ℕ
missing_text name near = codes "there is no collection '" ++ filter is_shown (take 40 name) ++ codes "'" ++ near_text near

-- the hint at a name that isn't among some: the nearest of them; at one of them there is none
abbrev pub HintsAtName : List (List ℕ) → List ℕ → Option (List ℕ) → Type 0
HintsAtName names name None = IsAmong name names
HintsAtName names name (Some text) = (near : Option (List ℕ)) × IsNearestName names name near × (near ≢ Some name) × (text ≡ missing_text name near)

-- of the field's name only what a terminal may show
abbrev pub absent_text : List ℕ → List ℕ
absent_text field = codes "nothing is found, as no document has '" ++ filter is_shown (take 40 field) ++ codes "'"

-- The program's table: which words are a command.
use Rattle.std.specs.Prelude.{◌≡◌, ◌⊎◌, ◌++◌, ℕ, List, [], ◌∷◌, length, codes}
use Rattle.cli_commands.specs.declared.call.Call.{Call}
use Rattle.cli_commands.specs.declared.call.Call.TheVariants.{Insert, Replace, Get, Set, Unset, Remove, Find, Count, Import, Export, Dump, Load, Collections}

abbrev pub command_name : Call → List ℕ
command_name Insert = codes "insert"
command_name Replace = codes "replace"
command_name Get = codes "get"
command_name Set = codes "set"
command_name Unset = codes "unset"
command_name Remove = codes "remove"
command_name Find = codes "find"
command_name Count = codes "count"
command_name Import = codes "import"
command_name Export = codes "export"
command_name Dump = codes "dump"
command_name Load = codes "load"
command_name Collections = codes "collections"

abbrev pub relaxed_word : List ℕ
relaxed_word = codes "--relaxed"

-- the words that may follow the name of the collection
abbrev pub Takes : Call → List (List ℕ) → Type 0
Takes Get rest = (length rest ≡ 1) ⊎ ((id : List ℕ) × (rest ≡ id ∷ relaxed_word ∷ []))
Takes Set rest = length rest ≡ 3
Takes Unset rest = length rest ≡ 2
Takes Insert rest = length rest ≡ 1
Takes Replace rest = length rest ≡ 1
Takes Remove rest = length rest ≡ 1
Takes Find rest = length rest ≡ 1
Takes Count rest = length rest ≡ 1
Takes _ rest = rest ≡ []

-- the words after the command begin with the name of a collection, except those of `collections`
abbrev pub HasName : Call → List (List ℕ) → List ℕ → List (List ℕ) → Type 0
HasName Collections words coll rest = (coll ≡ []) × (rest ≡ words)
HasName call words coll rest = words ≡ coll ∷ rest

-- the file of a store: a word in front that begins with a hyphen is none, and is written ./-
abbrev pub IsFile : List ℕ → Type 0
IsFile word = ¬ ((rest : List ℕ) × (word ≡ codes "-" ++ rest))

-- the file, the command, the name and what may follow
abbrev pub IsLine : List (List ℕ) → List ℕ → Call → List ℕ → List (List ℕ) → Type 0
IsLine words file call coll rest = IsFile file × (behind : List (List ℕ)) × (words ≡ file ∷ command_name call ∷ behind) × HasName call behind coll rest × Takes call rest

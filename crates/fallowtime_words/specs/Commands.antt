-- The program's table of commands.
use Rattle.std.specs.Prelude.{◌≡◌, ◌⊎◌, ℕ, List, [], ◌∷◌, ◌++◌, length, codes, if◌then◌else◌, true, false, Option, Some, None}
use Rattle.std.specs.Str.{bytes_eq}
use Rattle.fallowtime_words.specs.declared.command.Command.{Command}
use Rattle.fallowtime_words.specs.declared.command.Command.TheVariants.{Insert, Put, Replace, Get, Set, Unset, Update, ReplaceOne, Delete, FindAndUpdate, FindAndReplace, FindAndDelete, Remove, Find, Count, Distinct, Aggregate, Import, Export, Drop, Rename, Copy, Collections, Check, Backup, Apply, Index, DropIndex, Version, ImportAll, ExportAll, Edit}
use Rattle.fallowtime_words.specs.declared.table.Allowed.{Allowed}
use Rattle.fallowtime_words.specs.declared.table.Argument.{Argument}
use Rattle.fallowtime_words.specs.declared.table.Argument.TheVariants.{Collection, Document, Id, Key, Value, Query, Selection, Update as Change, Options, Pipeline, Documents, IndexPath, NewName, File, Folder}
use Rattle.fallowtime_words.specs.declared.table.Effect.{Effect}
use Rattle.fallowtime_words.specs.declared.table.Effect.TheVariants.{Reads, Changes, Makes}
use Rattle.fallowtime_words.specs.declared.table.Place.{Place}
use Rattle.fallowtime_words.specs.declared.table.Place.TheVariants.{Both, CommandLine, Session, Alone, Script}

-- in the order of the help
abbrev pub commands : List Command
commands = Insert ∷ Put ∷ Replace ∷ Get ∷ Set ∷ Unset ∷ Update ∷ ReplaceOne ∷ Delete ∷ FindAndUpdate ∷ FindAndReplace ∷ FindAndDelete ∷ Remove ∷ Find ∷ Count ∷ Distinct ∷ Aggregate ∷ Import ∷ Export ∷ Drop ∷ Rename ∷ Copy ∷ Collections ∷ Check ∷ Backup ∷ Apply ∷ Index ∷ DropIndex ∷ Version ∷ ImportAll ∷ ExportAll ∷ Edit ∷ []

abbrev pub command_name : Command → List ℕ
command_name Insert = codes "insert"
command_name Put = codes "put"
command_name Replace = codes "replace"
command_name Get = codes "get"
command_name Set = codes "set"
command_name Unset = codes "unset"
command_name Update = codes "update"
command_name ReplaceOne = codes "replace-one"
command_name Delete = codes "delete"
command_name FindAndUpdate = codes "find-and-update"
command_name FindAndReplace = codes "find-and-replace"
command_name FindAndDelete = codes "find-and-delete"
command_name Remove = codes "remove"
command_name Find = codes "find"
command_name Count = codes "count"
command_name Distinct = codes "distinct"
command_name Aggregate = codes "aggregate"
command_name Import = codes "import"
command_name Export = codes "export"
command_name Drop = codes "drop"
command_name Rename = codes "rename"
command_name Copy = codes "copy"
command_name Collections = codes "collections"
command_name Check = codes "check"
command_name Backup = codes "backup"
command_name Apply = codes "apply"
command_name Index = codes "index"
command_name DropIndex = codes "drop_index"
command_name Version = codes "version"
command_name ImportAll = codes "import-all"
command_name ExportAll = codes "export-all"
command_name Edit = codes "edit"

-- the first of the commands that has this name
abbrev pub first_named : List Command → List ℕ → Option Command
first_named [] name = None
first_named (c ∷ cs) name = if bytes_eq (command_name c) name then Some c else first_named cs name

unfoldable pub command_of : List ℕ → Option Command
command_of name = first_named commands name

-- what follows the name
abbrev pub arguments : Command → List Argument
arguments Insert = Collection ∷ Document ∷ []
arguments Put = Collection ∷ Document ∷ []
arguments Replace = Collection ∷ Document ∷ []
arguments Get = Collection ∷ Id ∷ []
arguments Set = Collection ∷ Id ∷ Key ∷ Value ∷ []
arguments Unset = Collection ∷ Id ∷ Key ∷ []
arguments Update = Collection ∷ Selection ∷ Change ∷ Options ∷ []
arguments ReplaceOne = Collection ∷ Selection ∷ Document ∷ []
arguments Delete = Collection ∷ Selection ∷ Options ∷ []
arguments FindAndUpdate = Collection ∷ Selection ∷ Change ∷ []
arguments FindAndReplace = Collection ∷ Selection ∷ Document ∷ []
arguments FindAndDelete = Collection ∷ Selection ∷ []
arguments Remove = Collection ∷ Id ∷ []
arguments Find = Collection ∷ Query ∷ []
arguments Count = Collection ∷ Query ∷ []
arguments Distinct = Collection ∷ IndexPath ∷ Query ∷ []
arguments Aggregate = Collection ∷ Pipeline ∷ []
arguments Import = Collection ∷ Documents ∷ []
arguments Export = Collection ∷ []
arguments Drop = Collection ∷ []
arguments Rename = Collection ∷ NewName ∷ []
arguments Copy = Collection ∷ NewName ∷ []
arguments Collections = []
arguments Check = []
arguments Backup = File ∷ []
arguments Apply = []
arguments Index = Collection ∷ IndexPath ∷ []
arguments DropIndex = Collection ∷ IndexPath ∷ []
arguments Version = []
arguments ImportAll = Folder ∷ []
arguments ExportAll = Folder ∷ []
arguments Edit = Collection ∷ Id ∷ []

-- the options beside `--wait`
abbrev pub allowed : Command → Allowed
allowed Insert = record { canonical = true; bytes = false; lines = false; many = false; after = false; upsert = false; skip_existing = false; counts = false; literal = false; drops = false; arranged = false; part = false }
allowed Get = record { canonical = true; bytes = true; lines = false; many = false; after = false; upsert = false; skip_existing = false; counts = false; literal = false; drops = false; arranged = false; part = false }
allowed Find = record { canonical = true; bytes = true; lines = false; many = false; after = false; upsert = false; skip_existing = false; counts = false; literal = false; drops = false; arranged = true; part = true }
allowed Import = record { canonical = false; bytes = false; lines = true; many = false; after = false; upsert = true; skip_existing = true; counts = false; literal = false; drops = false; arranged = false; part = false }
allowed Update = record { canonical = false; bytes = false; lines = false; many = true; after = false; upsert = true; skip_existing = false; counts = false; literal = false; drops = false; arranged = false; part = false }
allowed ReplaceOne = record { canonical = false; bytes = false; lines = false; many = false; after = false; upsert = true; skip_existing = false; counts = false; literal = false; drops = false; arranged = false; part = false }
allowed FindAndUpdate = record { canonical = true; bytes = true; lines = false; many = false; after = true; upsert = false; skip_existing = false; counts = false; literal = false; drops = false; arranged = true; part = true }
allowed FindAndReplace = record { canonical = true; bytes = true; lines = false; many = false; after = true; upsert = false; skip_existing = false; counts = false; literal = false; drops = false; arranged = true; part = true }
allowed FindAndDelete = record { canonical = true; bytes = true; lines = false; many = false; after = false; upsert = false; skip_existing = false; counts = false; literal = false; drops = false; arranged = true; part = true }
allowed Delete = record { canonical = false; bytes = false; lines = false; many = true; after = false; upsert = false; skip_existing = false; counts = false; literal = false; drops = false; arranged = false; part = false }
allowed Distinct = record { canonical = true; bytes = false; lines = false; many = false; after = false; upsert = false; skip_existing = false; counts = true; literal = false; drops = false; arranged = false; part = false }
allowed Set = record { canonical = false; bytes = false; lines = false; many = false; after = false; upsert = false; skip_existing = false; counts = false; literal = true; drops = false; arranged = false; part = false }
allowed Unset = record { canonical = false; bytes = false; lines = false; many = false; after = false; upsert = false; skip_existing = false; counts = false; literal = true; drops = false; arranged = false; part = false }
allowed Count = record { canonical = false; bytes = false; lines = false; many = false; after = false; upsert = false; skip_existing = false; counts = false; literal = false; drops = false; arranged = false; part = true }
allowed Rename = record { canonical = false; bytes = false; lines = false; many = false; after = false; upsert = false; skip_existing = false; counts = false; literal = false; drops = true; arranged = false; part = false }
allowed _ = record { canonical = false; bytes = false; lines = false; many = false; after = false; upsert = false; skip_existing = false; counts = false; literal = false; drops = false; arranged = false; part = false }

-- what becomes of FILE
abbrev pub effect : Command → Effect
effect Insert = Makes
effect Put = Makes
effect Import = Makes
effect Apply = Makes
effect ImportAll = Makes
effect Replace = Changes
effect Set = Changes
effect Unset = Changes
effect Update = Changes
effect ReplaceOne = Changes
effect Delete = Changes
effect FindAndUpdate = Changes
effect FindAndReplace = Changes
effect FindAndDelete = Changes
effect Remove = Changes
effect Drop = Changes
effect Rename = Changes
effect Copy = Changes
effect Edit = Changes
effect _ = Reads

-- where it is a command
abbrev pub place : Command → Place
place Backup = CommandLine
place Apply = CommandLine
place Index = Session
place DropIndex = Session
place Version = Alone
place ImportAll = Script
place ExportAll = Script
place Edit = Script
place _ = Both

-- the word begins with these bytes
abbrev pub BeginsWith : List ℕ → List ℕ → Type 0
BeginsWith front word = (rest : List ℕ) × (word ≡ front ++ rest)

-- no word, or one that doesn't begin with two hyphens
abbrev pub IsQuery : List (List ℕ) → Type 0
IsQuery words = (words ≡ []) ⊎ ((query : List ℕ) × (words ≡ query ∷ []) × ¬ BeginsWith (codes "--") query)

-- the words for a last argument: a QUERY may be left out, and neither options nor the documents of `import` are among them
abbrev pub IsLast : Argument → List (List ℕ) → Type 0
IsLast Query words = IsQuery words
IsLast Options words = words ≡ []
IsLast Documents words = words ≡ []
IsLast _ words = length words ≡ 1

-- the words for arguments
abbrev pub AreWords : List Argument → List (List ℕ) → Type 0
AreWords [] words = words ≡ []
AreWords (a ∷ []) words = IsLast a words
AreWords (a ∷ b ∷ more) words = (word : List ℕ) × (rest : List (List ℕ)) × (words ≡ word ∷ rest) × AreWords (b ∷ more) rest

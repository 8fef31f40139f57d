-- The line of a command, as the table of commands has it.
use Rattle.std.specs.Prelude.{ℕ, List, [], ◌∷◌, ◌++◌, codes, if◌then◌else◌, ◌&&◌, ◌||◌}
use Rattle.fallowtime_words.specs.Commands.{allowed, arguments, command_name, place}
use Rattle.fallowtime_words.specs.declared.command.Command.{Command}
use Rattle.fallowtime_words.specs.declared.table.Allowed.{Allowed}
use Rattle.fallowtime_words.specs.declared.table.Argument.{Argument}
use Rattle.fallowtime_words.specs.declared.table.Argument.TheVariants.{Collection, Document, Id, Key, Value, Query, Selection, Update, Options, Pipeline, Documents, IndexPath, NewName, File, Folder}
use Rattle.fallowtime_words.specs.declared.table.Place.{Place}
use Rattle.fallowtime_words.specs.declared.table.Place.TheVariants.{Both, CommandLine, Session, Alone, Script}

abbrev pub argument_text : Argument → List ℕ
argument_text Collection = codes " COLL"
argument_text Document = codes " DOC"
argument_text Id = codes " ID"
argument_text Key = codes " PATH"
argument_text Value = codes " VALUE"
argument_text Query = codes " [QUERY]"
argument_text Selection = codes " QUERY"
argument_text Update = codes " UPDATE"
argument_text Pipeline = codes " PIPELINE"
argument_text Options = codes ""
argument_text Documents = codes " [INPUT]"
argument_text IndexPath = codes " PATH"
argument_text NewName = codes " NEW"
argument_text File = codes " PATH"
argument_text Folder = codes " DIR"

abbrev pub arguments_text : List Argument → List ℕ
arguments_text [] = []
arguments_text (a ∷ more) = argument_text a ++ arguments_text more

abbrev pub options_text : Allowed → List ℕ
options_text o =
    if o.lines then codes " [--json] [--upsert] [--skip-existing]"
    else if o.many && o.upsert then codes " [--many] [--upsert]"
    else if o.many then codes " [--many]"
    else if o.upsert then codes " [--upsert]"
    else if o.literal then codes " [--key]"
    else if o.drops then codes " [--drop]"
    else if o.arranged || o.part || o.counts then codes " [--OPTION ..]"
    else if o.canonical && o.bytes then codes " [--canonical | --bson]"
    else if o.canonical then codes " [--canonical]"
    else codes ""

-- the name of a command and its arguments, behind what stands in front
abbrev pub call_behind : List ℕ → Command → List ℕ
call_behind front c = front ++ command_name c ++ arguments_text (arguments c)

-- the words of a command over a file
abbrev pub usage_text : Command → List ℕ
usage_text c = call_behind (codes "fallowtime FILE ") c ++ options_text (allowed c) ++ codes " [--wait SECONDS]"

-- the words of a command that is one there
abbrev pub line_at : Place → Command → List ℕ
line_at Both c = usage_text c
line_at CommandLine c = usage_text c
line_at Session c = call_behind (codes "a line of fallowtime FILE: ") c
line_at Alone c = call_behind (codes "fallowtime ") c
line_at Script c = usage_text c

-- the words of a command
abbrev pub line_text : Command → List ℕ
line_text c = line_at (place c) c

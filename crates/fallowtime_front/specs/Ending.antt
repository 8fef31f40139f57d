-- How a command of `fallowtime` ends, and what is reported of it.
use Rattle.std.specs.Prelude.{◌≡◌, ◌⊎◌, ℕ, List, [], ◌++◌, codes, decimal, Option, Some, None, Result, Ok, Err}
use Rattle.std.specs.List.{slice_get}
use Rattle.bson_base.specs.Device.{Tally, TakesText}
use Rattle.cli_convert.specs.Reports.{Reports, memory_line}
use Rattle.cli_convert.specs.declared.stop.Stop.TheVariants as stop
use Rattle.cli_files.specs.Fault.{fault_line}
use Rattle.cli_commands.specs.Lines.{line}
use Rattle.fallowtime_commands.specs.Reports.{name_of, refusal_text}
use Rattle.fallowtime_commands.specs.declared.refusal.Refusal.{Refusal}
use Rattle.fallowtime_requests.specs.Reports.{unread_text}
use Rattle.fallowtime_requests.specs.declared.unread.Unread.TheVariants as unread
use Rattle.fallowtime_commands.specs.Places.{place_text}
use Rattle.fallowtime_commands.specs.declared.session.places.Place.{Place}
use Rattle.store_model.specs.declared.error.ErrorKind.{ErrorKind}
use Rattle.store_model.specs.declared.error.ErrorKind.TheVariants.{BadLength, TooLong}
use Rattle.fallowtime_front.specs.declared.ending.Ended.{Ended}
use Rattle.fallowtime_front.specs.declared.ending.Ended.TheVariants as ended

-- the name of its kind, as `--explain` takes it; none of a file that can't be had, which says itself what helps
abbrev pub name_of_kind : Ended → List ℕ
name_of_kind (ended.Words (unread.Document e)) = codes "JSON"
name_of_kind (ended.Words (unread.Value e)) = codes "JSON"
name_of_kind (ended.Words (unread.Id e)) = codes "id"
name_of_kind (ended.Words (unread.Query e)) = codes "query"
name_of_kind (ended.Words (unread.Equalities e)) = codes "query"
name_of_kind (ended.Words (unread.Update e)) = codes "update"
name_of_kind (ended.Words unread.Options) = codes "options"
name_of_kind (ended.Words unread.Fields) = codes "fields"
name_of_kind (ended.Words unread.Stages) = codes "stages"
name_of_kind (ended.Words _) = codes "usage"
name_of_kind (ended.Lines (stop.Line n fault)) = codes "line"
name_of_kind (ended.Lines _) = []
name_of_kind (ended.Line n place) = codes "line"
name_of_kind (ended.Refused r) = name_of r
name_of_kind (ended.File error) = []

-- the line that the document with this number came from, if there are lines
abbrev pub place_of : List ℕ → Option ℕ → Option ℕ
place_of lines None = None
place_of lines (Some document) = slice_get lines document

-- what is written from a line can only have a wrong length by being too long
abbrev pub kind_of_line : ErrorKind → ErrorKind
kind_of_line BadLength = TooLong
kind_of_line k = k

-- the refusal of a document from this line, if it is from one
abbrev pub placed : Option ℕ → Refusal → Refusal
placed None r = record r { line = None }
placed (Some n) r = record r { line = Some n; error = record (r.error) { kind = kind_of_line r.error.kind } }

-- how a result ends the command, if the documents came from these lines
abbrev pub ended_by : List ℕ → Result (Unit {0}) Refusal → Result (Unit {0}) Ended
ended_by lines (Ok x) = Ok x
ended_by lines (Err r) = Err (ended.Refused (placed (place_of lines r.error.document) r))

-- the line for one of the input that is no request
abbrev pub request_text : ℕ → Place → List ℕ
request_text n place = codes "words: line " ++ decimal n ++ codes " " ++ place_text place ++ codes "\n"

-- the line was written, or the one for out of memory, or a prefix of either
abbrev pub TellsLine : List ℕ → Tally → Tally → Type 0
TellsLine text before after = TakesText before after text ⊎ TakesText before after memory_line

-- the line of why it ended, and the program's status: 2 for words or a line that can't be read
abbrev pub TellsEnd : Ended → Tally → Tally → ℕ → Type 0
TellsEnd (ended.Words u) before after status = (status ≡ 2) × TellsLine (unread_text u) before after
TellsEnd (ended.Lines stop) before after status = Reports (Err stop) before after status
TellsEnd (ended.Line n place) before after status = (status ≡ 2) × TellsLine (request_text n place) before after
TellsEnd (ended.Refused r) before after status = (status ≡ 1) × TellsLine (refusal_text r) before after
TellsEnd (ended.File error) before after status = (status ≡ 1) × TakesText before after (line (fault_line error))

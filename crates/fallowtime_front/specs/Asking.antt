-- What a command of `fallowtime` asks for, by its words and the input.
use Rattle.std.specs.Prelude.{◌≡◌, ◌⊎◌, ℕ, List, [], ◌∷◌, map, string_bytes, Bool, true, false, Result, Ok, Err, Vec, Some, None}
use Rattle.std.specs.declared.alloc.Global.{Global}
use Rattle.bson_base.specs.Device.{Feed, StopsReading, TookAll}
use Rattle.bson_base.specs.declared.whole.ReadAllError.{ReadAllError}
use Rattle.bson_base.specs.declared.whole.ReadAllError.TheVariants as reading
use Rattle.bson_model.specs.declared.extjson.ser.Mode.TheVariants.{Canonical, Relaxed}
use Rattle.cli_convert.specs.declared.stop.Stop.{Stop as LineStop}
use Rattle.fallowtime_commands.specs.Reports.{plain}
use Rattle.fallowtime_commands.specs.declared.printing.Form.{Form}
use Rattle.fallowtime_commands.specs.declared.printing.Form.TheVariants.{Lines, Bytes}
use Rattle.fallowtime_requests.specs.Along.{AlongUnless, StopsUnless}
use Rattle.fallowtime_requests.specs.Arranging.{IsOfWords, StopsWanted, WantsByWords}
use Rattle.fallowtime_requests.specs.Inputs.{Given, texts}
use Rattle.fallowtime_requests.specs.Reading.{KeepsMaker, Reads}
use Rattle.fallowtime_requests.specs.Requests as requests
use Rattle.fallowtime_requests.specs.Upserts.{StopsByWords, UpsertsByWords}
use Rattle.fallowtime_requests.specs.declared.reading.Layout.{Layout}
use Rattle.fallowtime_requests.specs.declared.request.Existing.{Existing}
use Rattle.fallowtime_requests.specs.declared.request.Existing.TheVariants as existing
use Rattle.fallowtime_requests.specs.declared.request.Request.{Request}
use Rattle.fallowtime_requests.specs.declared.request.Request.TheVariants as request
use Rattle.fallowtime_requests.specs.declared.request.Wanted.{Wanted}
use Rattle.fallowtime_requests.specs.declared.stop.Stop.{Stop}
use Rattle.fallowtime_requests.specs.declared.stop.Stop.TheVariants as stop
use Rattle.cli_convert.specs.IdLines.{ReadsLines}
use Rattle.cli_convert.specs.declared.id_lines.Taken.{Taken}
use Rattle.cli_convert.specs.declared.made.IdMaker.{IdMaker}
use Rattle.fallowtime_words.specs.declared.command.Command.{Command}
use Rattle.fallowtime_words.specs.declared.command.Command.TheVariants as command
use Rattle.fallowtime_words.specs.declared.words.Words.{Words as Wording}
use Rattle.store_model.specs.Refusal.{refusal}
use Rattle.store_model.specs.State.{IsName, When}
use Rattle.store_model.specs.declared.error.ErrorKind.{ErrorKind}
use Rattle.store_model.specs.declared.error.ErrorKind.TheVariants.{BadName, Memory, Reader}
use Rattle.fallowtime_front.specs.declared.asking.Asked.{Asked}
use Rattle.fallowtime_front.specs.declared.ending.Ended.{Ended}
use Rattle.fallowtime_front.specs.declared.ending.Ended.TheVariants as ended

-- lines of relaxed Extended JSON, if neither BSON nor canonical form is asked for
abbrev pub form_by : Bool → Bool → Form
form_by true canonical = Bytes
form_by false true = Lines Canonical
form_by false false = Lines Relaxed

-- a refusal of this kind, without further details
abbrev pub refused : ErrorKind → Ended
refused k = ended.Refused (plain (refusal k))

abbrev pub ended_of_stop : Stop → Ended
ended_of_stop (stop.Words u) = ended.Words u
ended_of_stop stop.Memory = refused Memory

abbrev pub kind_of_read : ReadAllError → ErrorKind
kind_of_read reading.Reader = Reader
kind_of_read reading.Memory = Memory

-- the name of the collection, if the first word is one
abbrev pub first_word : List (List ℕ) → List ℕ
first_word [] = []
first_word (w ∷ ws) = w

abbrev pub name_of : Wording → List ℕ
name_of w = first_word (map string_bytes w.arguments.now)

-- the arguments of the command
abbrev pub given_of : Wording → List Given
given_of w = texts w.arguments.now

-- what the options say becomes of a document whose id is there
abbrev pub existing_by : Bool → Bool → Existing
existing_by true skip = existing.Replace
existing_by false true = existing.Skip
existing_by false false = existing.Refuse

abbrev pub existing_for : Wording → Existing
existing_for w = existing_by w.options.upsert w.options.skip_existing

-- the documents of the input as BSON, taken to its end
abbrev pub AsksForStream : List ℕ → Existing → Feed → Feed → Result Asked Ended → Type 0
AsksForStream name x old new (Ok a) = (stream : Vec ℕ Global) × (a.collection.now ≡ name) × (a.request ≡ Some (request.Import stream x)) × (a.lines.items ≡ []) × TookAll old new stream.items
AsksForStream name x old new (Err e) = (error : ReadAllError) × (e ≡ refused (kind_of_read error)) × StopsReading error old new

-- the documents of the lines of the input, each with its `_id`, and the line of each
abbrev pub AsksForLines : List ℕ → Existing → Feed → Feed → IdMaker → IdMaker → Result Asked Ended → Type 0
AsksForLines name x old new before after (Ok a) = (taken : Taken) × (a.collection.now ≡ name) × ReadsLines old new before after (Ok taken) × (a.request ≡ Some (request.Import taken.stream x)) × (a.lines ≡ taken.lines)
AsksForLines name x old new before after (Err e) = (line : LineStop) × ReadsLines old new before after (Err line) × (e ≡ ended.Lines line)

-- under a bad name nothing is read
abbrev pub AsksToImport : Wording → Feed → Feed → IdMaker → IdMaker → Result Asked Ended → Type 0
AsksToImport w old new before after result =
    When (IsName (name_of w))
    (When (w.options.lines ≡ true) (AsksForLines (name_of w) (existing_for w) old new before after result) (AsksForStream (name_of w) (existing_for w) old new result × (after ≡ before)))
    ((result ≡ Err (refused BadName)) × (new ≡ old) × (after ≡ before))

-- what the options want can't be read; or it can, and an argument can't; or a path in the place of a key isn't one; or a change by
-- query can be read, and not what it puts in if no document answers
abbrev pub StopsAsking : Wording → IdMaker → IdMaker → Stop → Type 0
StopsAsking w before after s =
    (StopsWanted w s × (after ≡ before))
    ⊎ ((((a : Wanted) × IsOfWords w a) × Reads before after w.command (given_of w) (Err s))
    ⊎ (((name : List ℕ) × (r : Request) × (l : Layout) × requests.Asks before after w.command (given_of w) name r l × StopsUnless w.options.literal r s)
    ⊎ ((mid : IdMaker) × (name : List ℕ) × (r p : Request) × (l : Layout) × requests.Asks before mid w.command (given_of w) name r l × AlongUnless w.options.literal r p × StopsByWords w p s)))

-- what the command with its words and its options asks for, by the ids of the maker, which is the one behind those that were
-- taken
abbrev pub AsksByWords : Wording → IdMaker → IdMaker → Result Asked Ended → Type 0
AsksByWords w before after (Ok a) =
    (mid : IdMaker) × (r p u q : Request) × (l : Layout) × (a.request ≡ Some (requests.with_drops w.options.drops (requests.with_counts w.options.counts (requests.with_many w.options.many q)))) × (a.lines.items ≡ [])
    × requests.Asks before mid w.command (given_of w) a.collection.now r l × AlongUnless w.options.literal r p × UpsertsByWords mid after w p u × WantsByWords w u q
AsksByWords w before after (Err e) =
    (e ≡ refused Memory) ⊎ ((s : Stop) × StopsAsking w before after s × (e ≡ ended_of_stop s) × KeepsMaker before after s)

-- Only `import` reads the input, and only `export` asks for no request.
abbrev pub Asks : Command → Wording → Feed → Feed → IdMaker → IdMaker → Result Asked Ended → Type 0
Asks command.Import w old new before after result = AsksToImport w old new before after result
Asks command.Export w old new before after result =
    ((a : Asked) × (result ≡ Ok a) × (a.collection.now ≡ name_of w) × (a.request ≡ None) × (a.lines.items ≡ [])) × (new ≡ old) × (after ≡ before)
Asks _ w old new before after result = AsksByWords w before after result × (new ≡ old)

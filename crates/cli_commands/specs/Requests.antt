-- What the words ask for, as it is read from their texts.
use Rattle.std.specs.Prelude.{◌≡◌, ◌≢◌, ℕ, List, [], Some, map, drop, slice_index_or, string_bytes}
use Rattle.serde_json.specs.Read.{read as data_of_text}
use Rattle.serde_json.specs.View.{view as data_of}
use Rattle.serde_json.specs.declared.value.Value.{Value as Json}
use Rattle.bson_model.specs.View.{view}
use Rattle.store_model.specs.declared.error.ErrorKind.TheVariants.{Memory}
use Rattle.store_model.specs.Refusal.{refusal}
use Rattle.store_question.specs.Filters.{filter_of}
use Rattle.cli_commands.specs.Filters.{IsFilterText}
use Rattle.cli_commands.specs.Words.{Takes}
use Rattle.cli_commands.specs.declared.call.Call.{Call}
use Rattle.cli_commands.specs.declared.call.Call.TheVariants.{Insert, Replace, Get, Set, Unset, Remove, Find, Count, Import, Export, Dump, Load, Collections}
use Rattle.cli_commands.specs.declared.words.Words.{Words as Wording}
use Rattle.cli_commands.specs.Commands.{IsIdText, IsUnread, mode_of}
use Rattle.cli_commands.specs.declared.request.Request.{Request}
use Rattle.cli_commands.specs.declared.request.Request.TheVariants as requests
use Rattle.cli_commands.specs.declared.stop.Failure.{Failure}
use Rattle.cli_commands.specs.declared.stop.Failure.TheVariants.{Words, Refused}

-- the call that is requested
abbrev pub call_of : Request → Call
call_of (requests.Insert json) = Insert
call_of (requests.Replace json) = Replace
call_of (requests.Get id mode) = Get
call_of (requests.Set id key json) = Set
call_of (requests.Unset id key) = Unset
call_of (requests.Remove id) = Remove
call_of (requests.Find filter) = Find
call_of (requests.Count filter) = Count
call_of requests.Import = Import
call_of requests.Export = Export
call_of requests.Dump = Dump
call_of requests.Load = Load
call_of requests.Collections = Collections

-- the text at a place; empty if there is none
abbrev pub text_at : List (List ℕ) → ℕ → List ℕ
text_at texts i = slice_index_or texts i []

abbrev pub IsTreeText : List ℕ → Json → Type 0
IsTreeText text json = data_of_text text ≡ Some (data_of json)

-- what is requested is what the texts stand for
abbrev pub IsRead : List (List ℕ) → Request → Type 0
IsRead texts (requests.Insert json) = IsTreeText (text_at texts 0) json
IsRead texts (requests.Replace json) = IsTreeText (text_at texts 0) json
IsRead texts (requests.Get id mode) = IsIdText (text_at texts 0) (view id) × (mode ≡ mode_of (drop 1 texts))
IsRead texts (requests.Set id key json) = IsIdText (text_at texts 0) (view id) × (key.now ≡ text_at texts 1) × IsTreeText (text_at texts 2) json
IsRead texts (requests.Unset id key) = IsIdText (text_at texts 0) (view id) × (key.now ≡ text_at texts 1)
IsRead texts (requests.Remove id) = IsIdText (text_at texts 0) (view id)
IsRead texts (requests.Find filter) = IsFilterText (text_at texts 0) (filter_of filter)
IsRead texts (requests.Count filter) = IsFilterText (text_at texts 0) (filter_of filter)
IsRead texts _ = Unit {0}

-- the words are a line of the table, and this is what they ask for
abbrev pub IsRequest : Call → List (List ℕ) → Request → Type 0
IsRequest call texts r = (call ≡ call_of r) × Takes call texts × IsRead texts r

abbrev pub IsRequestOf : Wording → Request → Type 0
IsRequestOf w = IsRequest w.call (map string_bytes w.rest.now)

-- the words are no line of the table, or one of the texts can't be read; or out of memory for a text
abbrev pub Stops : Call → List (List ℕ) → Failure → Type 0
Stops call texts (Words w) = IsUnread call texts w
Stops call texts (Refused e) = (e ≡ refusal Memory) × Takes call texts × (texts ≢ [])

abbrev pub StopsRequest : Wording → Failure → Type 0
StopsRequest w = Stops w.call (map string_bytes w.rest.now)

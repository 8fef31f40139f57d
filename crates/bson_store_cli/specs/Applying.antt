-- What the program does with a list of requests, which are lines of its input.
use Rattle.std.specs.Prelude.{◌≡◌, ℕ, List, Option, Some, Result, Ok, Err, Vec, unwrap_or}
use Rattle.std.specs.List.{slice_get}
use Rattle.std.specs.declared.alloc.Global.{Global}
use Rattle.sqlite.specs.State.{State}
use Rattle.bson_base.specs.Device.{Tally}
use Rattle.fallowtime_commands.specs.Reports.{plain}
use Rattle.fallowtime_commands.specs.declared.answer.Answer.{Answer}
use Rattle.fallowtime_front.specs.Ending.{ended_by}
use Rattle.fallowtime_front.specs.declared.ending.Ended.{Ended}
use Rattle.fallowtime_front.specs.declared.ending.Ended.TheVariants as ended
use Rattle.fallowtime_commands.specs.declared.session.error.ListError.{ListError}
use Rattle.fallowtime_commands.specs.declared.session.error.Reason.{Reason}
use Rattle.fallowtime_commands.specs.declared.session.error.Reason.TheVariants as reason
use Rattle.fallowtime_requests.specs.declared.reading.Question.{Question}
use Rattle.fallowtime_requests.specs.declared.unread.Unread.TheVariants as unread
use Rattle.fallowtime_commands.specs.Acts.{Acted, list}
use Rattle.fallowtime_commands.specs.ListLines.{SendsAll}
use Rattle.fallowtime_commands.specs.declared.session.places.Place.TheVariants as place
use Rattle.store_model.specs.declared.error.ErrorKind.{ErrorKind}
use Rattle.store_model.specs.declared.error.ErrorKind.TheVariants.{BadKey}
use Rattle.store_model.specs.declared.error.StoreError.{StoreError}
use Rattle.bson_store_cli.specs.Serving.{session_end}

-- a refusal of the request at this position
abbrev pub at : Option ℕ → ErrorKind → StoreError
at position kind = record { kind = kind; document = position }

-- how it ends the program: by the line of the request; one that lists don't have is none
abbrev pub end_by : List ℕ → Option ℕ → Reason → Result (Unit {0}) Ended
end_by lines position (reason.Refused e) = ended_by lines (Err (plain (at position e.kind)))
end_by lines position (reason.NotUpdated i u) = ended_by lines (Err (record (plain (at position BadKey)) { update = Some u }))
end_by lines position (reason.NotUpserted u) = ended_by lines (Err (record (plain (at position BadKey)) { update = Some u }))
end_by lines position reason.NotInLists = Err (ended.Line (unwrap_or (slice_get lines (unwrap_or position 0)) 0) (place.Request unread.Command))

abbrev pub end_of_list : List ℕ → ListError → Result (Unit {0}) Ended
end_of_list lines e = end_by lines e.request e.reason

-- the answers were printed, or why they weren't
abbrev pub PrintsAll : List Answer → Tally → Tally → Result (Unit {0}) Ended → Type 0
PrintsAll answers before after result = (sent : Result (Unit {0}) ErrorKind) × SendsAll sent answers before after × (result ≡ session_end sent)

-- a list that was done is printed, and the refusal of one reported
abbrev pub Finishes : List ℕ → Result (Vec Answer Global) ListError → Tally → Tally → Result (Unit {0}) Ended → Type 0
Finishes lines (Ok answers) before after result = PrintsAll answers.items before after result
Finishes lines (Err e) before after result = (result ≡ end_of_list lines e) × (after ≡ before)

-- the questions were done as one list, and its end is that of the program
abbrev pub Applies : List Question → List ℕ → Tally → Tally → Result (Unit {0}) Ended → State → State → Type 0
Applies questions lines before after result old new = (outcome : Result (Vec Answer Global) ListError) × Acted (list questions outcome) old new × Finishes lines outcome before after result

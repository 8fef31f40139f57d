-- The line that answers a list of requests.
use Rattle.std.specs.Prelude.{◌≡◌, ℕ, suc, ◌-◌, List, [], ◌∷◌, ◌++◌, codes, decimal, length, take, Option, Some, None, Result, Ok, Err, Vec}
use Rattle.std.specs.declared.alloc.AllocError.{AllocError}
use Rattle.std.specs.declared.alloc.Global.{Global}
use Rattle.json.specs.Json.{Json, Members, no_members, member}
use Rattle.json.specs.Print.{print}
use Rattle.json.specs.Token.{key}
use Rattle.store_model.specs.Refusal.{kind_name}
use Rattle.fallowtime_commands.specs.Reports.{update_name}
use Rattle.fallowtime_commands.specs.declared.answer.Answer.{Answer}
use Rattle.fallowtime_commands.specs.declared.session.error.ListError.{ListError}
use Rattle.fallowtime_commands.specs.declared.session.error.Reason.{Reason}
use Rattle.fallowtime_commands.specs.declared.session.error.Reason.TheVariants.{Refused, NotUpdated, NotUpserted, NotInLists}
use Rattle.fallowtime_requests.specs.Reports.{at_text}
use Rattle.fallowtime_requests.specs.declared.reading.Layout.TheVariants.{Each}
use Rattle.fallowtime_commands.specs.Answers.{Shows, line_of, refusal, with_number, words}
use Rattle.fallowtime_commands.specs.Objects.{MakesLine, begun, comma_before}
use Rattle.fallowtime_commands.specs.declared.session.lists.ListStop.{ListStop}
use Rattle.fallowtime_commands.specs.declared.session.lists.ListStop.TheVariants.{Request, Memory}

-- ---- answers

-- a line without its last byte, the line feed
abbrev pub without_feed : List ℕ → List ℕ
without_feed line = take (length line - 1) line

-- each text is the line that the request's own answer would be, with each document by itself, without the line feed
abbrev pub AreTold : List Answer → List (List ℕ) → Type 0
AreTold [] texts = texts ≡ []
AreTold (a ∷ more) texts = (line : List ℕ) × (rest : List (List ℕ)) × Shows Each None (Ok a) line × AreTold more rest × (texts ≡ without_feed line ∷ rest)

-- the texts with commas between them, after i others
abbrev pub separated : ℕ → List (List ℕ) → List ℕ
separated i [] = []
separated i (t ∷ ts) = comma_before i ++ (t ++ separated (suc i) ts)

-- the line of an object with the id, if there is one, and the array of the answers under `all`
abbrev pub all_line : Option Json → List (List ℕ) → List ℕ
all_line id texts = print (begun id ++ key (codes "all") ∷ []) ++ (91 ∷ (separated 0 texts ++ codes "]}\n"))

-- ---- refusals

-- the members of a refusal, with the position of the request, if there is one, behind the first of them
abbrev pub at_request : Option ℕ → Members → Members
at_request i no_members = no_members
at_request i (member k j js) = member k j (with_number (codes "request") i js)

-- the members of the answer that the request's own refusal would be; a request that lists don't have is none of a list
abbrev pub own_refusal : Reason → Members
own_refusal (Refused e) = refusal (kind_name e.kind) e.document None
own_refusal (NotUpdated i e) = refusal (update_name e) (Some i) None
own_refusal (NotUpserted e) = refusal (update_name e) None None
own_refusal NotInLists = words (codes "command")

abbrev pub list_refusal : ListError → Members
list_refusal e = at_request e.request (own_refusal e.reason)

-- a request that asks for nothing, as is seen at this place
abbrev pub words_at : ℕ → List ℕ → Members
words_at i place = at_request (Some i) (words place)

-- ---- lines

-- the line for a list of which a request can't be read; none if memory ran out
abbrev pub MakesStop : Option Json → ListStop → Result (Vec ℕ Global) AllocError → Type 0
MakesStop id (Request i u) r = MakesLine id (words_at i (at_text u)) r
MakesStop id Memory r = (e : AllocError) × (r ≡ Err e)

-- the line of the answers to all requests
abbrev pub TellsAll : Option Json → List Answer → List ℕ → Type 0
TellsAll id answers line = (texts : List (List ℕ)) × AreTold answers texts × (line ≡ all_line id texts)

-- it, or the line of the refusal
abbrev pub ShowsAll : Option Json → Result (Vec Answer Global) ListError → List ℕ → Type 0
ShowsAll id (Ok answers) line = TellsAll id answers.items line
ShowsAll id (Err e) line = line ≡ line_of id (list_refusal e)

-- ---- its parts

-- the text of one more answer is behind those of i others
abbrev pub PutsAnswer : ℕ → Answer → List ℕ → List ℕ → Type 0
PutsAnswer i a old new = (line : List ℕ) × Shows Each None (Ok a) line × (new ≡ old ++ (comma_before i ++ without_feed line))

-- the texts of all answers are behind what was there
abbrev pub PutsAnswers : List Answer → List ℕ → List ℕ → Type 0
PutsAnswers answers old new = (texts : List (List ℕ)) × AreTold answers texts × (new ≡ old ++ separated 0 texts)

-- What comes of a line.
use Rattle.std.specs.Prelude.{◌≡◌, ◌≢◌, ◌⊎◌, ◌<◌, ◌≤◌, ℕ, List, [], ◌∷◌, length, Option, None, Some, Result, Ok, Err, IfOk, IsSomeAnd, IsUtf8, MatchOption, codes, Vec}
use Rattle.std.specs.Str.{IsValidUpTo}
use Rattle.std.specs.declared.alloc.AllocError.{AllocError}
use Rattle.std.specs.declared.alloc.Global.{Global}
use Rattle.json.specs.Json.{Json, Items, document as tree_of}
use Rattle.json.specs.Strict.{HasUniqueKeys}
use Rattle.sqlite.specs.State.{State}
use Rattle.store_model.specs.declared.error.StoreError.{StoreError}
use Rattle.cli_convert.specs.declared.line.TheConstants.{MOST}
use Rattle.fallowtime_commands.specs.Performing.{IsAnswerTo}
use Rattle.fallowtime_commands.specs.declared.answer.Answer.{Answer}
use Rattle.fallowtime_requests.specs.Reports.{at_text}
use Rattle.fallowtime_requests.specs.declared.reading.Layout.{Layout}
use Rattle.fallowtime_requests.specs.declared.reading.Question.{Question}
use Rattle.fallowtime_requests.specs.declared.stop.Stop.TheVariants.{Words as BadWords}
use Rattle.fallowtime_requests.specs.declared.unread.Unread.{Unread}
use Rattle.cli_convert.specs.declared.made.IdMaker.{IdMaker}
use Rattle.fallowtime_commands.specs.Listing.{AreAnswersTo}
use Rattle.fallowtime_commands.specs.declared.session.error.ListError.{ListError}
use Rattle.fallowtime_commands.specs.Acts.{Act, Acted, list, single}
use Rattle.fallowtime_commands.specs.Answers.{Shows, line_of, memory, words}
use Rattle.fallowtime_commands.specs.Deeds.{Deed}
use Rattle.fallowtime_commands.specs.ListAnswers.{ShowsAll, words_at}
use Rattle.fallowtime_commands.specs.Lists.{AskAll, IsFirstUnread, IsList, behind_all, requests_in}
use Rattle.fallowtime_commands.specs.Places.{byte_place}
use Rattle.fallowtime_commands.specs.Questions.{Asks, Stops, command_in, id_of}

-- what comes of a line: it is empty; it is too long; it has no tree, or its tree is no question, as is seen at a place;
-- it is a list, and one of its requests is no question; what it asks for was done, of one request or of a list of them; or
-- memory ran out before that. With the id of the question, if that was read.
pub data Outcome : Type 0 where
  empty : Outcome
  too_long : Outcome
  no_tree : (id : Option Json) (place : List ℕ) → Outcome
  no_question : (id : Option Json) (place : List ℕ) → Outcome
  no_list : (id : Option Json) (request : ℕ) (place : List ℕ) → Outcome
  done : (id : Option Json) (layout : Layout) (deed : Deed) → Outcome
  done_all : (id : Option Json) (questions : List Question) (outcome : Result (Vec Answer Global) ListError) → Outcome
  no_memory : (id : Option Json) → Outcome

-- the tree of a text in which no object has a key twice
abbrev pub HasTree : List ℕ → Json → Type 0
HasTree text j = IsUtf8 text × (tree_of text ≡ Some j) × HasUniqueKeys j

-- a text has none: it is UTF-8 up to this byte; it is no JSON, as is seen at some byte; or an object in it has a key twice,
-- and then it may have an id
abbrev pub HasNoTree : List ℕ → Option Json → List ℕ → Type 0
HasNoTree text id place =
    ((i : ℕ) × IsValidUpTo text i × (id ≡ None) × (place ≡ byte_place i))
    ⊎ (IsUtf8 text × (tree_of text ≡ None) × ((i : ℕ) × (id ≡ None) × (place ≡ byte_place i)))
    ⊎ (IsUtf8 text × IsSomeAnd (tree_of text) (λ j. (HasUniqueKeys j → ⊥) × (id ≡ id_of j)) × (place ≡ codes "repeated key"))

-- the line says that an object in the text has a key twice, with the id
abbrev pub RepeatsKey : List ℕ → List ℕ → Type 0
RepeatsKey text line = (id : Option Json) × HasNoTree text id (codes "repeated key") × (line ≡ line_of id (words (codes "repeated key")))

-- it is no list, and asks for nothing, as is seen at this place; or it is one without an array of requests
abbrev pub AsksNothing : IdMaker → Json → List ℕ → Type 0
AsksNothing m j place =
    MatchOption (behind_all j) ((u : Unread) × Stops m j (BadWords u) × (place ≡ at_text u)) (λ rest. (requests_in rest ≡ None) × (place ≡ codes "arguments"))

-- it is a list, and the first of its requests that asks for nothing is the one at this position, as is seen at this place of it
abbrev pub ListsNothing : IdMaker → Json → ℕ → List ℕ → Type 0
ListsNothing m j i place = (js : Items) × (u : Unread) × IsList j js × IsFirstUnread m js i u × (place ≡ at_text u)

-- of a question with this id, and of what states its command; the ids that it takes come of the maker
abbrev pub IsOfTree : IdMaker → IdMaker → Option Json → Json → Outcome → Type 0
IsOfTree m n id command (no_question i place) = (i ≡ id) × AsksNothing m command place × (n ≡ m)
IsOfTree m n id command (no_list i request place) = (i ≡ id) × ListsNothing m command request place × (n ≡ m)
IsOfTree m n id command (done i l d) = (i ≡ id) × Asks m n command d.name d.request l × IfOk d.outcome (IsAnswerTo d.request)
IsOfTree m n id command (done_all i qs o) = (i ≡ id) × ((js : Items) × IsList command js × AskAll m n js qs) × IfOk o (λ (answers : Vec Answer Global). AreAnswersTo qs answers.items)
IsOfTree m n id command (no_memory i) = ((i ≡ None) ⊎ (i ≡ id)) × (n ≡ m)
IsOfTree m n id command _ = ⊥

-- of a text
abbrev pub IsOfText : IdMaker → IdMaker → List ℕ → Outcome → Type 0
IsOfText m n text (no_tree id place) = HasNoTree text id place × (n ≡ m)
IsOfText m n text (no_memory None) = n ≡ m
IsOfText m n text o = (j : Json) × HasTree text j × IsOfTree m n (id_of j) (command_in j) o

-- of bytes, of which there may be over 64 MiB
abbrev pub IsOfBytes : IdMaker → IdMaker → List ℕ → Outcome → Type 0
IsOfBytes m n text too_long = (MOST < length text) × (n ≡ m)
IsOfBytes m n text (no_memory None) = n ≡ m
IsOfBytes m n text o = (length text ≤ MOST) × IsOfText m n text o

-- it has no byte except for a carriage return
abbrev pub IsEmptyLine : List ℕ → Type 0
IsEmptyLine text = (text ≡ []) ⊎ (text ≡ 13 ∷ [])

-- of a line; there may be no memory for a carriage return, but for no byte there always is
abbrev pub IsOf : IdMaker → IdMaker → List ℕ → Outcome → Type 0
IsOf m n text empty = IsEmptyLine text × (n ≡ m)
IsOf m n text (no_memory None) = (text ≢ []) × IsOfBytes m n text (no_memory None)
IsOf m n text o = ¬ IsEmptyLine text × IsOfBytes m n text o

abbrev pub act_of : Outcome → Act
act_of (done id l d) = single (Some d)
act_of (done_all id qs o) = list qs o
act_of _ = single None

-- the line of the answer; if memory runs out once something was done, it says so
abbrev pub Writes : Outcome → List ℕ → Type 0
Writes empty line = line ≡ []
Writes too_long line = line ≡ line_of None (words (codes "64 MiB"))
Writes (no_tree id place) line = line ≡ line_of id (words place)
Writes (no_question id place) line = line ≡ line_of id (words place)
Writes (no_list id request place) line = line ≡ line_of id (words_at request place)
Writes (done id l d) line = Shows l id d.outcome line ⊎ (line ≡ line_of id memory)
Writes (done_all id qs o) line = ShowsAll id o line ⊎ (line ≡ line_of id memory)
Writes (no_memory id) line = line ≡ line_of id memory

-- some such outcome, which is answered by the line, and did this
abbrev pub Comes : (Outcome → Type 0) → List ℕ → Act → Type 0
Comes Is line act = (o : Outcome) × Is o × Writes o line × (act ≡ act_of o)

abbrev pub AnswersLine : IdMaker → IdMaker → List ℕ → List ℕ → Act → Type 0
AnswersLine m n text = Comes (IsOf m n text)

-- ---- its parts

abbrev pub deed_by : Question → Result Answer StoreError → Deed
deed_by q r = record { name = q.collection.now; request = q.request; outcome = r }

-- a question was done, with this outcome, and its answer made; there is none if memory ran out
abbrev pub Carries : Option Json → Question → Result (Vec ℕ Global) AllocError → State → State → Type 0
Carries id q made old new =
    (r : Result Answer StoreError) × Acted (single (Some (deed_by q r))) old new × IfOk r (IsAnswerTo q.request) × IfOk made (λ line. Shows q.layout id r line.items)

-- so were the questions of a list
abbrev pub CarriesAll : Option Json → List Question → Result (Vec ℕ Global) AllocError → State → State → Type 0
CarriesAll id qs made old new =
    (r : Result (Vec Answer Global) ListError) × Acted (list qs r) old new × IfOk r (λ (answers : Vec Answer Global). AreAnswersTo qs answers.items) × IfOk made (λ line. ShowsAll id r line.items)

-- the line that is made, or the one for out of memory
abbrev pub made_line : Option Json → Result (Vec ℕ Global) AllocError → List ℕ
made_line id (Ok line) = line.items
made_line id (Err e) = line_of id memory

-- What a change by query puts in if no document answers: what it makes of the query's equality fields.
use Rattle.std.specs.Prelude.{◌≡◌, ◌≢◌, ℕ, Bool, true, false, ◌&&◌, List, ◌∷◌, codes, if◌then◌else◌, IsSomeAnd, MatchOption, is_some, Option, Some, None, option_and_then, option_map, Result, Ok, Err}
use Rattle.std.specs.Str.{bytes_eq}
use Rattle.json.specs.Find.{get}
use Rattle.json.specs.Json.{Json, Members as Pairs, no_members as no_pairs, member as pair, document as tree_of}
use Rattle.json.specs.Json as json
use Rattle.json.specs.Strict.{HasUniqueKeys}
use Rattle.bson_base.specs.Value.{Value, Members, has_key, look_up, member, no_members}
use Rattle.bson_meaning.specs.Meaning.{Same}
use Rattle.bson_model.specs.View.{content, view}
use Rattle.cli_convert.specs.Made.{identified, maker_after}
use Rattle.cli_convert.specs.declared.made.IdMaker.{IdMaker}
use Rattle.fallowtime_words.specs.declared.words.Words.{Words as Wording}
use Rattle.store_model.specs.State.{id_key}
use Rattle.store_update.specs.Number.{onward}
use Rattle.store_update.specs.Plan.{Plan}
use Rattle.store_update.specs.Update.{updated}
use Rattle.store_update.specs.declared.error.UpdateError.{UpdateError}
use Rattle.store_update.specs.declared.error.UpdateError.TheVariants.{Id}
use Rattle.store_question_read.specs.UpdateOutcome.{Fails, plans_of}
use Rattle.store_question_read.specs.Seed.{Fixed, fixed, fixed_by}
use Rattle.store_question_read.specs.declared.update_error.ReadError.{ReadError}
use Rattle.store_question_read.specs.declared.update_error.ReadError.TheVariants as reading
use Rattle.store_question_read.specs.declared.seed.Seed.{Seed}
use Rattle.fallowtime_requests.specs.Inputs.{Given, word, tree, HasQuery, boolean_of, texts}
use Rattle.fallowtime_requests.specs.declared.request.Otherwise.{Otherwise}
use Rattle.fallowtime_requests.specs.declared.request.Otherwise.TheVariants.{Insert, Refuse}
use Rattle.fallowtime_requests.specs.declared.request.Request.{Request}
use Rattle.fallowtime_requests.specs.declared.request.Request.TheVariants as request
use Rattle.fallowtime_requests.specs.declared.request.Work.{Work}
use Rattle.fallowtime_requests.specs.declared.request.Work.TheVariants as work
use Rattle.fallowtime_requests.specs.declared.stop.Stop.{Stop}
use Rattle.fallowtime_requests.specs.declared.stop.Stop.TheVariants.{Words, Memory}
use Rattle.fallowtime_requests.specs.declared.unread.Unread.TheVariants as unread
use Rattle.fallowtime_requests.specs.declared.choosing.Choice.{Choice}

-- ---- the document

-- a document with the `_id` alone, if there is one
abbrev pub base : Option Value → Members
base None = no_members
base (Some id) = member id_key id no_members

-- the equality fields are set, and then the update is made, as of a document that is inserted
abbrev pub made_by : Fixed → List Plan → Result Members UpdateError
made_by f plans = onward (updated true f.plans (base f.id)) (updated true plans)

-- it has an `_id` of another meaning
abbrev pub HasOtherId : Value → Members → Type 0
HasOtherId id e = IsSomeAnd (look_up id_key e) (λ own. Same own id → ⊥)

-- the document with its own `_id`, or with this one in front
abbrev pub fronted : Value → Members → Members
fronted id e = if has_key id_key e then e else member id_key id e

-- the replacement, with the `_id` of the query, if there is one; it has no other one
abbrev pub Takes : Option Value → Members → Result Members UpdateError → Type 0
Takes None e r = r ≡ Ok e
Takes (Some id) e (Ok m) = (HasOtherId id e → ⊥) × (m ≡ fronted id e)
Takes (Some id) e (Err why) = HasOtherId id e × (why ≡ Id)

-- what is made of the fields that a query fixes; a removal makes nothing
abbrev pub Makes : Fixed → Work → Result Members UpdateError → Type 0
Makes f (work.Update steps) r = made_by f (plans_of steps) ≡ r
Makes f (work.Replace e) r = Takes f.id (content e) r
Makes f work.Remove r = r ≡ Err Id

-- It is put in, with an `_id` of the maker if it has none; or nothing is made, and that is refused.
abbrev pub IsOtherwise : IdMaker → IdMaker → Fixed → Work → Otherwise → Type 0
IsOtherwise m n f w (Insert id d) =
    (e : Members) × Makes f w (Ok e) × (content d ≡ identified m e) × (n ≡ maker_after m e) × (look_up id_key (content d) ≡ Some (view id))
IsOtherwise m n f w (Refuse why) = Makes f w (Err why) × (n ≡ m)

-- ---- the request

-- what the query fixes
abbrev pub IsFixed : Given → Fixed → Type 0
IsFixed g f = (j : Json) × HasQuery g j × (fixed j ≡ Ok f)

-- a change by query with what is put in if no document answers; any other request stays
abbrev pub Upserting : IdMaker → IdMaker → Given → Request → Request → Type 0
Upserting m n g (request.Change q w many) r = (f : Fixed) × (o : Otherwise) × IsFixed g f × IsOtherwise m n f w o × (r ≡ request.Upsert q w many o)
Upserting m n g was r = (r ≡ was) × (n ≡ m)

-- if that is asked for
abbrev pub UpsertingIf : Bool → IdMaker → IdMaker → Given → Request → Request → Type 0
UpsertingIf true m n g was r = Upserting m n g was r
UpsertingIf false m n g was r = (r ≡ was) × (n ≡ m)

-- what a text fixes as a query
abbrev pub IsFixedText : List ℕ → Result Seed ReadError → Type 0
IsFixedText t (Ok s) = (j : Json) × (tree_of t ≡ Some j) × HasUniqueKeys j × (fixed j ≡ Ok (fixed_by s))
IsFixedText t (Err reading.Memory) = Unit {0}
IsFixedText t (Err (reading.Json n)) = tree_of t ≡ None
IsFixedText t (Err reading.RepeatedKey) = IsSomeAnd (tree_of t) (λ j. ¬ HasUniqueKeys j)
IsFixedText t (Err e) = (j : Json) × (tree_of t ≡ Some j) × HasUniqueKeys j × Fails e (fixed j)

-- its equality fields can't be set beside each other, and that is reported; or it is out of memory
abbrev pub StopsFixed : Given → Stop → Type 0
StopsFixed g Memory = Unit {0}
StopsFixed (word w) (Words u) = (e : ReadError) × (u ≡ unread.Equalities e) × IsFixedText w (Err e)
StopsFixed (tree j) (Words u) = (e : ReadError) × (u ≡ unread.Equalities e) × (e ≢ reading.Memory) × Fails e (fixed j)

-- ---- words

-- a change by query
abbrev pub IsByQuery : Request → Type 0
IsByQuery (request.Change q w many) = Unit {0}
IsByQuery _ = ⊥

-- the second argument
abbrev pub query_in : List Given → Option Given
query_in (c ∷ g ∷ gs) = Some g
query_in _ = None

-- the query of a line with `--upsert`
abbrev pub upserted_query : Wording → Option Given
upserted_query w = if w.options.upsert then query_in (texts w.arguments.now) else None

-- the request of a line, and with that option what is put in if no document answers
abbrev pub UpsertsByWords : IdMaker → IdMaker → Wording → Request → Request → Type 0
UpsertsByWords m n w was r = MatchOption (upserted_query w) ((r ≡ was) × (n ≡ m)) (λ g. Upserting m n g was r)

abbrev pub StopsByWords : Wording → Request → Stop → Type 0
StopsByWords w was s = IsByQuery was × IsSomeAnd (upserted_query w) (λ g. StopsFixed g s)

-- ---- options of a line

abbrev pub no_choice : Choice
no_choice = record { many = false; upsert = false }

-- one more option; `many` is one if several documents can be meant
abbrev pub chosen : Bool → Choice → List ℕ → Json → Option Choice
chosen several c key j =
    if bytes_eq key (codes "upsert") then option_map (λ is. record { many = c.many; upsert = is }) (boolean_of j)
    else if several && bytes_eq key (codes "many") then option_map (λ is. record { many = is; upsert = c.upsert }) (boolean_of j)
    else None

-- one or two of them; a line has no key of an object twice
abbrev pub choice_among : Bool → Pairs → Option Choice
choice_among several (pair key j no_pairs) = chosen several no_choice key j
choice_among several (pair key j (pair name k no_pairs)) = option_and_then (λ c. chosen several c name k) (chosen several no_choice key j)
choice_among several _ = None

abbrev pub choice_of : Bool → Json → Option Choice
choice_of several (json.object js) = choice_among several js
choice_of several _ = None

-- the options say whether a document is put in
abbrev pub names_upsert : Json → Bool
names_upsert j = is_some (get (codes "upsert") j)

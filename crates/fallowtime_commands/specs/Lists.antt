-- What a list of requests asks for: `["all",[REQUEST,..]]`. None of its requests is a list.
use Rattle.std.specs.Prelude.{◌≡◌, ℕ, zero, suc, Bool, false, List, [], ◌∷◌, ◌++◌, codes, if◌then◌else◌, Option, Some, None, Result, Ok, Err, Vec}
use Rattle.std.specs.Str.{bytes_eq}
use Rattle.std.specs.declared.alloc.Global.{Global}
use Rattle.json.specs.Find.{as_array}
use Rattle.json.specs.Json as json
use Rattle.json.specs.Json.{Json, Items, no_items, item}
use Rattle.fallowtime_requests.specs.declared.reading.Question.{Question}
use Rattle.fallowtime_requests.specs.declared.stop.Stop.{Stop}
use Rattle.fallowtime_requests.specs.declared.stop.Stop.TheVariants.{Words, Memory as NoMemory}
use Rattle.fallowtime_requests.specs.declared.unread.Unread.{Unread}
use Rattle.cli_convert.specs.declared.made.IdMaker.{IdMaker}
use Rattle.fallowtime_commands.specs.Questions.{Asks, Stops}
use Rattle.fallowtime_commands.specs.declared.session.lists.ListStop.{ListStop}
use Rattle.fallowtime_commands.specs.declared.session.lists.ListStop.TheVariants.{Request, Memory}

-- ---- the array

abbrev pub names_all : Json → Bool
names_all (json.string name) = bytes_eq name (codes "all")
names_all _ = false

-- what is after `all`, if an array begins with that
abbrev pub behind_all : Json → Option Items
behind_all (json.array (item j js)) = if names_all j then Some js else None
behind_all _ = None

-- the requests, if that is an array of them alone
abbrev pub requests_in : Items → Option Items
requests_in (item j no_items) = as_array j
requests_in _ = None

-- the array is the list of these requests
abbrev pub IsList : Json → Items → Type 0
IsList j js = (rest : Items) × (behind_all j ≡ Some rest) × (requests_in rest ≡ Some js)

-- ---- what is asked

-- each request asks for one of the questions, in their order; each takes the ids of the maker behind those of the one before it
abbrev pub AskAll : IdMaker → IdMaker → Items → List Question → Type 0
AskAll m n no_items qs = (qs ≡ []) × (n ≡ m)
AskAll m n (item j js) qs =
    (q : Question) × (rest : List Question) × (mid : IdMaker) × Asks m mid j q.collection.now q.request q.layout × AskAll mid n js rest × (qs ≡ q ∷ rest)

-- the first i requests ask for something, and the next one for nothing, for this reason
abbrev pub IsFirstUnread : IdMaker → Items → ℕ → Unread → Type 0
IsFirstUnread m no_items i u = ⊥
IsFirstUnread m (item j js) zero u = Stops m j (Words u)
IsFirstUnread m (item j js) (suc i) u = (q : Question) × (mid : IdMaker) × Asks m mid j q.collection.now q.request q.layout × IsFirstUnread mid js i u

-- the questions of all; or the first request that asks for nothing, and why; or out of memory
abbrev pub ReadsAll : IdMaker → IdMaker → Items → Result (Vec Question Global) ListStop → Type 0
ReadsAll m n js (Ok qs) = AskAll m n js qs.items
ReadsAll m n js (Err (Request i u)) = IsFirstUnread m js i u
ReadsAll m n js (Err Memory) = Unit {0}

-- ---- its parts

-- why a list isn't read of which the request at this position can't be
abbrev pub stop_at : ℕ → Stop → ListStop
stop_at i (Words u) = Request i u
stop_at i NoMemory = Memory

-- the question of one more request is behind the others; or it asks for nothing
abbrev pub ReadsOne : IdMaker → IdMaker → Json → List Question → List Question → Result (Unit {0}) Stop → Type 0
ReadsOne m n j old new (Ok x) = (q : Question) × Asks m n j q.collection.now q.request q.layout × (new ≡ old ++ q ∷ [])
ReadsOne m n j old new (Err s) = Stops m j s

-- the same of the questions of several
abbrev pub ReadsMore : IdMaker → IdMaker → Items → List Question → List Question → Result (Unit {0}) ListStop → Type 0
ReadsMore m n js old new (Ok x) = (qs : List Question) × AskAll m n js qs × (new ≡ old ++ qs)
ReadsMore m n js old new (Err (Request i u)) = IsFirstUnread m js i u
ReadsMore m n js old new (Err Memory) = Unit {0}

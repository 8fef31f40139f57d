-- Which line of a session (`fallowtime FILE`) asks for what a command of MongoDB asks for. So its request is the one of that line
-- (`AsksLine` of fallowtime_requests), and there is one reader of queries, orders, projections and updates. A line that finds is relaxed
-- Extended JSON, in which options are plain numbers; one that changes is canonical, which says the kind of each value. In both a query
-- compares numbers by their value.
use Rattle.std.specs.Prelude.{◌≡◌, ℤ, pos, ℕ, nat_eq, if◌then◌else◌, ◌^◌, ◌-◌, ◌++◌, Bool, false, List, codes, Option, Some, None, string_bytes, unsigned_abs}
use Rattle.json.specs.Find.{as_array}
use Rattle.json.specs.Json.{Json, Items as JsonItems, document as tree_of}
use Rattle.bson_base.specs.Value.{Value, Items, Members, array, boolean, document, int32, int64, item, look_up, member, no_items, no_members, scalar, string}
use Rattle.bson_json.specs.Prints.{IsTextOf}
use Rattle.bson_meaning.specs.JsonReserved.{has_reserved}
use Rattle.bson_model.specs.declared.extjson.ser.Mode.{Mode}
use Rattle.bson_model.specs.declared.extjson.ser.Mode.TheVariants.{Canonical, Relaxed}
use Rattle.cli_convert.specs.declared.made.IdMaker.{IdMaker}
use Rattle.fallowtime_words.specs.declared.command.Command.{Command}
use Rattle.fallowtime_words.specs.declared.command.Command.TheVariants as command
use Rattle.fallowtime_requests.specs.Arranging.{AsksLine}
use Rattle.fallowtime_requests.specs.declared.reading.Layout.{Layout}
use Rattle.fallowtime_statements.specs.declared.statement.Statement.{Statement}

-- ---- the parts of a command

-- the document under a key, which has no reserved key below its top; if there is none, one without members
abbrev pub IsGiven : Option Value → Members → Type 0
IsGiven None ms = ms ≡ no_members
IsGiven (Some (document d)) ms = (has_reserved d ≡ false) × (ms ≡ d)
IsGiven (Some v) ms = ⊥

-- the same of one that is there
abbrev pub IsThere : Option Value → Members → Type 0
IsThere None ms = ⊥
IsThere (Some v) ms = IsGiven (Some v) ms

-- a whole number; none is 0
abbrev pub IsWhole : Option Value → ℤ → Type 0
IsWhole None n = n ≡ pos 0
IsWhole (Some (scalar (int32 z))) n = n ≡ z
IsWhole (Some (scalar (int64 z))) n = n ≡ z
IsWhole (Some v) n = ⊥

-- how many there are at most, where a limit is 0 for none, of which no collection has more, and a negative one is of one batch
abbrev pub most_of : ℤ → ℕ
most_of z = if nat_eq (unsigned_abs z) 0 then 2 ^ 63 - 1 else unsigned_abs z

-- how many are passed over, and how many there are at most
abbrev pub IsPart : Members → ℕ → ℕ → Type 0
IsPart ms skip most = IsWhole (look_up (codes "skip") ms) (pos skip) × ((z : ℤ) × IsWhole (look_up (codes "limit") ms) z × (most ≡ most_of z))

-- a truth value; none is one that is given
abbrev pub IsTruth : Bool → Option Value → Bool → Type 0
IsTruth other None b = b ≡ other
IsTruth other (Some (scalar (boolean c))) b = b ≡ c
IsTruth other (Some v) b = ⊥

-- ---- lines

-- the statement is what the line of a command with these values asks for
abbrev pub StandsFor : Command → JsonItems → Statement → Type 0
StandsFor c js s = (m n : IdMaker) × (l : Layout) × AsksLine m n c js (string_bytes s.name) s.request l

abbrev pub StandsForLine : Command → Json → Statement → Type 0
StandsForLine c j s = (js : JsonItems) × (as_array j ≡ Some js) × StandsFor c js s

-- what a text reads as
abbrev pub IsRead : Command → List ℕ → Statement → Type 0
IsRead c t s = (j : Json) × (tree_of t ≡ Some j) × StandsForLine c j s

-- the line is a text of the Extended JSON of these values, in a mode
abbrev pub IsLine : Mode → Command → Items → Statement → Type 0
IsLine mode c vs s = (t : List ℕ) × IsTextOf mode (array vs) t × IsRead c t s

-- the values of a line on a collection
abbrev pub line_of_one : List ℕ → Items
line_of_one name = item (scalar (string name)) no_items

abbrev pub line_of_two : List ℕ → Members → Items
line_of_two name d = item (scalar (string name)) (item (document d) no_items)

abbrev pub line_of_three : List ℕ → Members → Members → Items
line_of_three name d e = item (scalar (string name)) (item (document d) (item (document e) no_items))

abbrev pub line_of_four : List ℕ → Members → Members → Members → Items
line_of_four name d e f = item (scalar (string name)) (item (document d) (item (document e) (item (document f) no_items)))

abbrev pub line_of_texts : List ℕ → List ℕ → List ℕ → List ℕ → List ℕ
line_of_texts a q w o = codes "[" ++ a ++ codes "," ++ q ++ codes "," ++ w ++ codes "," ++ o ++ codes "]"

-- the line of a command with a collection, a query, what becomes of documents, and options, of which what becomes of them alone is
-- canonical
abbrev pub IsMixed : Command → List ℕ → Members → Members → Members → Statement → Type 0
IsMixed c name query work options s =
    (a q w o : List ℕ) × IsTextOf Relaxed (scalar (string name)) a × IsTextOf Relaxed (document query) q × IsTextOf Canonical (document work) w × IsTextOf Relaxed (document options) o
    × IsRead c (line_of_texts a q w o) s

-- options of `find`
abbrev pub options : Members → ℤ → ℤ → Members → Members
options sort skip most fields =
    member (codes "sort") (document sort) (member (codes "skip") (scalar (int64 skip)) (member (codes "limit") (scalar (int64 most)) (member (codes "fields") (document fields) no_members)))

abbrev pub AreOptions : Members → Members → Type 0
AreOptions ms o = (sort fields : Members) × (skip most : ℕ) × IsGiven (look_up (codes "sort") ms) sort × IsGiven (look_up (codes "projection") ms) fields
    × IsPart ms skip most × (o ≡ options sort (pos skip) (pos most) fields)

-- `{find: NAME, filter: F, sort: S, skip: N, limit: M, projection: P}` is `["find", NAME, F, {"sort": S, "skip": N, "limit": M, "fields": P}]`
abbrev pub IsFind : Members → List ℕ → Statement → Type 0
IsFind ms name s = (query o : Members) × IsGiven (look_up (codes "filter") ms) query × AreOptions ms o × IsLine Relaxed command.Find (line_of_three name query o) s

-- with a query F it is `["count", NAME, F]`
abbrev pub IsCount : Option Value → List ℕ → Statement → Type 0
IsCount query name s = (d : Members) × IsGiven query d × IsLine Relaxed command.Count (line_of_two name d) s

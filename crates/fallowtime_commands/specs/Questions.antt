-- What the JSON of a line asks for.
use Rattle.std.specs.Prelude.{◌≡◌, ◌⊎◌, ℕ, ◌&&◌, if◌then◌else◌, List, codes, is_some, Option, Some, None, Err}
use Rattle.std.specs.Str.{bytes_eq}
use Rattle.json.specs.Find.{as_array}
use Rattle.json.specs.Json as json
use Rattle.json.specs.Json.{Json, Items, item, Members, no_members, member}
use Rattle.fallowtime_requests.specs.Arranging.{AsksLine, ReadsLine}
use Rattle.fallowtime_requests.specs.declared.reading.Layout.{Layout}
use Rattle.fallowtime_requests.specs.declared.request.Request.{Request}
use Rattle.fallowtime_requests.specs.declared.stop.Stop.{Stop}
use Rattle.fallowtime_requests.specs.declared.stop.Stop.TheVariants.{Words, Memory}
use Rattle.fallowtime_requests.specs.declared.unread.Unread.TheVariants as unread
use Rattle.cli_convert.specs.declared.made.IdMaker.{IdMaker}
use Rattle.fallowtime_words.specs.Commands.{command_of}
use Rattle.fallowtime_words.specs.declared.command.Command.{Command}

-- ---- the id and the command

-- the value under `id`, if that key is there once; one that was found before is the first
abbrev pub id_after : Option Json → Members → Option Json
id_after found no_members = found
id_after found (member k j js) =
    if bytes_eq k (codes "id") then (if is_some found then None else id_after (Some j) js)
    else id_after found js

-- the id of a question, if it has one
abbrev pub id_of : Json → Option Json
id_of (json.object js) = id_after None js
id_of _ = None

-- the value under `do`, if an object has the keys `id` and `do` alone
abbrev pub do_beside_id : Members → Option Json
do_beside_id (member k i (member l j no_members)) =
    if bytes_eq k (codes "id") && bytes_eq l (codes "do") then Some j
    else if bytes_eq k (codes "do") && bytes_eq l (codes "id") then Some i
    else None
do_beside_id _ = None

abbrev pub command_or : Json → Option Json → Json
command_or j None = j
command_or j (Some d) = d

-- what states its command: with an id the value under `do`, and without one all of it
abbrev pub command_in : Json → Json
command_in (json.object js) = command_or (json.object js) (do_beside_id js)
command_in j = j

-- ---- what is asked

-- the array has the name of this command, and this after it
abbrev pub HasCommand : Json → Command → Items → Type 0
HasCommand j c js = (name : List ℕ) × (as_array j ≡ Some (item (json.string name) js)) × (command_of name ≡ Some c)

-- It asks for this request, of this collection: a command with its arguments asks for it.
abbrev pub Asks : IdMaker → IdMaker → Json → List ℕ → Request → Layout → Type 0
Asks m n j name q l = (c : Command) × (js : Items) × HasCommand j c js × AsksLine m n c js name q l

-- It asks for nothing: it has no command, or one with these arguments asks for nothing.
abbrev pub Stops : IdMaker → Json → Stop → Type 0
Stops m j Memory = Unit {0}
Stops m j (Words u) =
    (((c : Command) (js : Items) → HasCommand j c js → ⊥) × (u ≡ unread.Command))
    ⊎ ((n : IdMaker) × (c : Command) × (js : Items) × HasCommand j c js × ReadsLine m n c js (Err (Words u)))

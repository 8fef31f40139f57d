-- What JSON says of an order, and of a number of documents.
use Rattle.std.specs.Prelude.{ℕ, List, [], ◌∷◌, ◌++◌, codes, Bool, true, false, if◌then◌else◌, Option, Some, None, option_map, option_and_then}
use Rattle.std.specs.Str.{bytes_eq}
use Rattle.json.specs.Json.{Json, Members, no_members, member}
use Rattle.json.specs.Json as json
use Rattle.fallowtime_words.specs.Options.{IsNumber}
use Rattle.store_pipeline.specs.Order.{Key}
use Rattle.store_pipeline.specs.Texts.{key_by}

-- whether the greatest comes first: 1 says that the least does, -1 that the greatest does
abbrev pub turn_in : Json → Option Bool
turn_in (json.number t) = if bytes_eq t (codes "1") then Some false else if bytes_eq t (codes "-1") then Some true else None
turn_in j = None

abbrev pub key_in : List ℕ → Json → Option Key
key_in path j = option_map (key_by path) (turn_in j)

-- these keys, and behind them one for each member, in their order
abbrev pub keys_behind : List Key → Members → Option (List Key)
keys_behind ks no_members = Some ks
keys_behind ks (member path j ms) = option_and_then (λ k. keys_behind (ks ++ k ∷ []) ms) (key_in path j)

abbrev pub keys_under : Json → Option (List Key)
keys_under (json.object ms) = keys_behind [] ms
keys_under j = None

-- decimal digits alone, and the number that they write
abbrev pub IsCount : Json → ℕ → Type 0
IsCount (json.number t) n = IsNumber t n
IsCount j n = ⊥

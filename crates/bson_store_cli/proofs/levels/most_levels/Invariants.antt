use Rattle.std.proofs.Common.{◌≡◌, drop, map, string_bytes}
use Rattle.bson_store_cli.specs.Levels.{deepest_from}
use Rattle.bson_store_cli.proofs.levels.most_levels.Given as goal

-- what is left goes on from here
abbrev pub invariant-loop-text : goal.invariant-loop-text
invariant-loop-text l = deepest_from l.most (map string_bytes (drop l.text-index l.texts)) ≡ deepest_from 0 (map string_bytes l.texts)

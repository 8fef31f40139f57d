use Rattle.std.proofs.Common.{◌≡◌, ◌≤◌, drop}
use Rattle.bson_store_cli.specs.Levels.{deepest, levels_in}
use Rattle.bson_store_cli.proofs.levels.levels_in.Given as goal

-- no more are open than bytes were read, and what is left goes on from here
abbrev pub invariant-loop-byte : goal.invariant-loop-byte
invariant-loop-byte l = (l.depth ≤ l.byte-index) × (deepest l.part l.depth l.deepest (drop l.byte-index l.text) ≡ levels_in l.text)

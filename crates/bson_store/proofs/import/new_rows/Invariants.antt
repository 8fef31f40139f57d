use Rattle.std.proofs.Common.{take}
use Rattle.std.specs.List.{AllZip}
use Rattle.bson_store.specs.Many.{Lends}
use Rattle.bson_store.proofs.import.new_rows.Given as goal

abbrev pub invariant-loop-row : goal.invariant-loop-row
invariant-loop-row l = AllZip Lends l.new.items (take l.row-index l.rows)

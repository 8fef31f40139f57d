use Rattle.std.proofs.Common.{length-drop, arith}
use Rattle.sqlite_record.proofs.StrictLemmas.{IsRecord-written}
use Rattle.store_table.proofs.pages.records.record_of.Goals as goal

pub returns-in-Ok-clause-strict : goal.returns-in-Ok-clause-strict
returns-in-Ok-clause-strict c =
    let left = length-drop 0 c.args.row.now in
    IsRecord-written _ _ c.in-Ok.ensures.layout (omega arith) (omega arith)

use Rattle.std.proofs.Common.{◌≡◌, w64, to_z, of_z}
use Rattle.std.proofs.lemmas.Int.{to_z-of_z}
use Rattle.store_table.proofs.statements.add_committed.Goals as goal

pub returns-clause-crash : goal.returns-clause-crash
returns-clause-crash g c =
    let same : to_z w64 (of_z w64 c.args.place) ≡ c.args.place = to_z-of_z w64 c.args.place c.ranges.place in
    rw same at c.insert_row.ensures.crash

use Rattle.bson_store.proofs.RenewalLemmas.{old_told, none_told}
use Rattle.bson_store.proofs.row_test.RowTestRowCheck.renewed.Goals as goal

pub returns-in-Before : goal.returns-in-Before
returns-in-Before c =
    let told = rw c.in-Before.is at c.in_ok-key_of_row.ensures in
    old_told c.args.coll.now c.args.idkey.now c.args.body.now c.in-Before.now.items told.0

pub returns-in-Neither : goal.returns-in-Neither
returns-in-Neither c = none_told c.args.coll.now c.args.idkey.now c.args.body.now (rw c.in-Neither.is at c.in_ok-key_of_row.ensures)

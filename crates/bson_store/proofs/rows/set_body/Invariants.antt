use Rattle.bson_store.proofs.RowsLemmas.{Renewing}
use Rattle.bson_store.proofs.rows.set_body.Given as goal

abbrev pub invariant-loop-row : goal.invariant-loop-row
invariant-loop-row l = Renewing l.place l.body l.fn.rows.items l.row-items l.row-index

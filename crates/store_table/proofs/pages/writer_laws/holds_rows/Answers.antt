use Rattle.store_table.proofs.PoolLemmas.{rows_held}
use Rattle.store_table.proofs.pages.writer_laws.holds_rows.Goals as goal

pub returns : goal.returns
returns c first size image docs h = rows_held first size image docs h

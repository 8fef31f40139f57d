use Rattle.store_model.proofs.RowLemmas.{list_of-state_of, rows_last, row_there, row_changed, row_gone}
use Rattle.store_model.proofs.laws.tables_stand_for_lists.Goals as goal

pub returns : goal.returns
returns c = record { lists = list_of-state_of; last = rows_last; there = row_there; changed = row_changed; gone = row_gone }

use Rattle.store_model.proofs.KeyLemmas.{rows_are_a_state, a_state_has_rows}
use Rattle.store_model.proofs.laws.rows_are_a_state.Goals as goal

pub returns : goal.returns
returns c rows = (rows_are_a_state rows, a_state_has_rows rows)

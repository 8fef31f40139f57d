use Rattle.store_model.proofs.TableLemmas.{run_of_states, run_spares}
use Rattle.store_model.proofs.laws.tables_run_as_states.Goals as goal

pub returns : goal.returns
returns c = record { run = λ w a b cs rs h. run_of_states w 0 a b cs rs h; spared = λ w a b cs rs h. run_spares w 0 a b cs rs h }

use Rattle.store_model.proofs.IdLemmas.{has_written, written_has}
use Rattle.store_model.proofs.laws.ids_go_by_keys.Goals as goal

pub returns : goal.returns
returns c = record {
  plain = λ d id k s h. (has_written d id k s h).plain;
  short = λ d id k s h. (has_written d id k s h).short;
  keys = λ d id k s h. (has_written d id k s h).keys;
  back = written_has;
}

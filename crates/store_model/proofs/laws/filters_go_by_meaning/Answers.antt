use Rattle.store_model.proofs.SelectLemmas.{selects_same, same_filter}
use Rattle.store_model.proofs.laws.filters_go_by_meaning.Goals as goal

pub returns : goal.returns
returns c = record {
  one = λ f v w a s t h. selects_same f f v w (same_filter f a) h s.distinct t.distinct;
  two = λ f g v w a s t h. selects_same f g v w a h s.distinct t.distinct;
}

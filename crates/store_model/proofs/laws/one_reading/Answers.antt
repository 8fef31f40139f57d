use Rattle.store_model.proofs.ReadingLemmas.{one_document, not_both, one_refusal, one_tree}
use Rattle.store_model.proofs.laws.one_reading.Goals as goal

pub returns : goal.returns
returns c = record { document = one_document; either = not_both; refusal = one_refusal; tree = one_tree }

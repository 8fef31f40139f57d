use Rattle.std.proofs.Common.{◌∙◌, eq-eqb, eqb-true}
use Rattle.store_pipeline.proofs.SortedLedLemmas.{no_items}
use Rattle.store_pipeline.proofs.sorted.values.has_no_items.Goals as goal

pub returns : goal.returns
returns c = λ ms is back low. no_items c.as_bytes.result.now ms _ (c.as_bytes.ensures ∙ is) (λ t. eqb-true _ 5 t, λ e. eq-eqb _ 5 e)

use Rattle.bson_base.specs.Value.{document}
use Rattle.store_pipeline.proofs.WalkLemmas.{first_added}
use Rattle.store_pipeline.proofs.sorted.distinct_values.values_of.Goals as goal
use Rattle.store_pipeline.proofs.BodyLemmas.{document_found}

pub returns : goal.returns
returns c = λ d is. first_added c.new-values.result.items c.led_to.new.values.items _ c.new-values.ensures.items (c.in_ok-led_to.ensures (document d) (document_found c.args.document d is))

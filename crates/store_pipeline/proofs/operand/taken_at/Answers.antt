use Rattle.bson_base.specs.Value.{document}
use Rattle.store_pipeline.proofs.operand.taken_at.Goals as goal
use Rattle.store_pipeline.proofs.BodyLemmas.{document_found, viewed}

pub returns : goal.returns
returns c = λ d is. c.led_to.ensures (document d) (document_found c.in-Ok.document d (viewed c.in-Ok.document c.args.body.now d c.in-Ok.ensures is))

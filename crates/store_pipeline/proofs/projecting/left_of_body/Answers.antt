use Rattle.store_pipeline.proofs.BodyLemmas.{body_envelope, viewed}
use Rattle.store_pipeline.proofs.projecting.left_of_body.Goals as goal

pub returns-in_default : goal.returns-in_default
returns-in_default c = λ d is. absurd (c.in_default.ensures.0 (body_envelope c.args.body.now d is))

pub returns : goal.returns
returns c = λ d is. c.project.ensures.left d (viewed c.in-Ok.document c.args.body.now d c.in-Ok.ensures is)

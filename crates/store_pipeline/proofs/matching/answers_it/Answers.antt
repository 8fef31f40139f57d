use Rattle.store_pipeline.proofs.BodyLemmas.{body_envelope, viewed}
use Rattle.store_pipeline.proofs.matching.answers_it.Goals as goal

pub returns-in_default : goal.returns-in_default
returns-in_default c = λ q reads d is. absurd (c.in_default.ensures.0 (body_envelope c.args.body.now d is))

pub returns : goal.returns
returns c = λ q reads d is. let b = viewed c.in-Ok.document c.args.body.now d c.in-Ok.ensures is in c.answers.ensures q reads d b.back.clean b.back.sound b.written b.low

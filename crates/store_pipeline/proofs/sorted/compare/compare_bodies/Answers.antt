use Rattle.store_pipeline.proofs.BodyLemmas.{body_envelope, viewed}
use Rattle.store_pipeline.proofs.sorted.compare.compare_bodies.Goals as goal

pub returns-in_default : goal.returns-in_default
returns-in_default c = λ d is e is2. absurd (c.in_default.ensures.0 (body_envelope c.args.body.now d is))

pub returns-in_default-from_bytes : goal.returns-in_default-from_bytes
returns-in_default-from_bytes c = λ d is e is2. absurd (c.in_default-from_bytes.ensures.0 (body_envelope c.args.other.now e is2))

pub returns : goal.returns
returns c = λ d is e is2. c.compare_documents.ensures d (viewed c.in-Ok.document c.args.body.now d c.in-Ok.ensures is) e (viewed c.in-Ok-from_bytes.second c.args.other.now e c.in-Ok-from_bytes.ensures is2)

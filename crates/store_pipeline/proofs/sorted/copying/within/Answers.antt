use Rattle.std.proofs.Common.{length, ap, arith}
use Rattle.bson_bytes.proofs.LengthLemmas.{framed_length}
use Rattle.store_question.proofs.ProjectionLemmas.{body_inside}
use Rattle.store_pipeline.proofs.sorted.copying.within.Goals as goal
use Rattle.store_pipeline.proofs.sorted.copying.within.Goals.{then-payload-lt5-via-then-payload-lt5, then-payload-lt5-via-else-payload-lt5+then-payload-gt-LENGTH_LIMIT}

pub returns-then-payload-lt5-clause-told : goal.returns-then-payload-lt5-clause-told
returns-then-payload-lt5-clause-told c = λ elements is fits.
    let whole = ap length is in
    elim c.then-payload-lt5.branch [
      | then-payload-lt5-via-then-payload-lt5 w ↦ let few = w.if-payload-lt5.true in omega (arith, whole, framed_length elements, few)
      | then-payload-lt5-via-else-payload-lt5+then-payload-gt-LENGTH_LIMIT w ↦ let many = w.if-payload-gt-LENGTH_LIMIT.true in omega (arith, whole, framed_length elements, many, fits)
    ]

pub returns-clause-told : goal.returns-clause-told
returns-clause-told c = λ elements is fits. body_inside c.args.payload.now elements is

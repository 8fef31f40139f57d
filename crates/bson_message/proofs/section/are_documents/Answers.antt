use Rattle.std.proofs.Common.{◌≡◌, rules, arith, refl, true, false}
use Rattle.bson_raw.specs.View.{bytes_of}
use Rattle.bson_message.proofs.DocumentLemmas.{document_passed, documents_cut, documents_end}
use Rattle.bson_message.proofs.section.are_documents.Goals as goal

pub returns-in_default : goal.returns-in_default
returns-in_default c = (
  λ yes. absurd (let f : false ≡ true = yes in cc f),
  λ h. absurd (documents_cut c.args.bytes.now c.loop-rest.rest.now c.loop-rest.invariant.met c.in_default.ensures (search (rules, arith, c.is_empty.ensures, c.loop-rest-test.ensures)) h),
)

pub loop-rest-preserved : goal.loop-rest-preserved
loop-rest-preserved c = record {
  met = document_passed c.args.bytes.now c.loop-rest.rest.now (bytes_of c.in-Some.field-0-0) c.in-Some.behind.now c.loop-rest.invariant.met c.in-Some.ensures.0;
}

pub returns : goal.returns
returns c = (
  λ yes. documents_end c.args.bytes.now c.loop-rest.rest.now c.loop-rest.invariant.met (search (rules, arith, c.is_empty.ensures, c.loop-rest-test.ensures)),
  λ h. refl,
)

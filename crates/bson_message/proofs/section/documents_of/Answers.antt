use Rattle.std.proofs.Common.{rules, arith, sym, subst, map}
use Rattle.bson_raw.specs.View.{bytes_of}
use Rattle.bson_message.specs.Parts.{IsDocument}
use Rattle.bson_message.proofs.RunLemmas.{Way}
use Rattle.bson_message.proofs.DocumentLemmas.{document_kept, documents_cut, documents_kept}
use Rattle.bson_message.proofs.section.documents_of.Goals as goal

pub returns-in_default : goal.returns-in_default
returns-in_default c = documents_cut c.args.bytes.now c.loop-rest.rest.now (map bytes_of c.loop-rest.documents.items, c.loop-rest.invariant.met) c.in_default.ensures (search (rules, arith, c.is_empty.ensures, c.loop-rest-test.ensures))

pub loop-rest-preserved : goal.loop-rest-preserved
loop-rest-preserved c = record {
  met = subst (λ l. Way IsDocument c.args.bytes.now c.in-Some.behind.now (map bytes_of l)) (sym c.in_ok-push.ensures.items) (document_kept c.args.bytes.now c.loop-rest.rest.now c.loop-rest.documents.items c.in-Some.document c.in-Some.behind.now c.loop-rest.invariant.met c.in-Some.ensures.0);
}

pub returns : goal.returns
returns c = documents_kept c.args.bytes.now c.loop-rest.rest.now c.loop-rest.documents.items c.loop-rest.invariant.met (search (rules, arith, c.is_empty.ensures, c.loop-rest-test.ensures))

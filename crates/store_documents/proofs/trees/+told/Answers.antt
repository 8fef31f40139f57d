use Rattle.std.proofs.Common.{subst}
use Rattle.bson_frame.specs.View.{element_of}
use Rattle.store_documents.specs.Trees.{AreTold}
use Rattle.store_documents.proofs.TreeLemmas.{all_behind, array_told, document_told, end_told, scalar_told, told_more}
use Rattle.store_documents.proofs.trees.+told.Goals as goal

pub are_told-loop-rest-preserved : goal.are_told-loop-rest-preserved
are_told-loop-rest-preserved t c rest =
    c.loop-rest.invariant (told_more c.args.keys c.loop-rest.rest.now c.in-Some.frame.rest.now (element_of c.in-Some.frame) c.in-Some.ensures.0
    (c.may_stand.ensures c.if-not-may_stand.false) (c.is_told.ensures c.if-not-is_told.false) rest)

pub are_told-returns : goal.are_told-returns
are_told-returns t c u = c.loop-rest.invariant (end_told c.args.keys c.loop-rest.rest.now (c.is_end.ensures.0 c.loop-rest-test.false))

pub is_told-returns-in-EmbeddedDocument : goal.is_told-returns-in-EmbeddedDocument
is_told-returns-in-EmbeddedDocument t c u = document_told c.args.payload.now c.args.tag c.in-EmbeddedDocument.is (c.holds_told.ensures u)

pub is_told-returns-in-Array : goal.is_told-returns-in-Array
is_told-returns-in-Array t c u = array_told c.args.payload.now c.args.tag c.in-Array.is (c.holds_told-in-Array.ensures u)

pub is_told-returns-in_default : goal.is_told-returns-in_default
is_told-returns-in_default t c u = scalar_told c.args.payload.now c.args.tag (c.has_no_double.ensures u)

pub holds_told-returns-then-inner-gt0 : goal.holds_told-returns-then-inner-gt0
holds_told-returns-then-inner-gt0 t c u = subst (AreTold c.args.keys) (all_behind c.args.bytes.now) (c.are_told.ensures u)

use Rattle.std.proofs.Common.{rules, subst, arith, drop, ◌-◌}
use Rattle.bson_frame.specs.Payload.{IsFaultless}
use Rattle.bson_frame.specs.View.{element_of}
use Rattle.bson_meaning.specs.Gate.{ReadsElements}
use Rattle.bson_meaning.proofs.ProgressLemmas.{progress_no_frame, progress_more}
use Rattle.bson_meaning.proofs.PayloadLemmas.{element_fault, scalar_read, nests_zero, held_reads}
use Rattle.bson_meaning.proofs.gating.+elements.Goals as goal
use Rattle.bson_raw.proofs.ProgressLemmas.{untrue}

pub test_elements-returns-in_default : goal.test_elements-returns-in_default
test_elements-returns-in_default t c =
    progress_no_frame c.args.elements.now c.loop-rest.rest.now c.args.inner c.loop-rest.invariant (λ is. untrue c.is_end.result c.loop-rest-test.true (c.is_end.ensures.1 is)) c.in_default.ensures

pub test_elements-returns-in-Err : goal.test_elements-returns-in-Err
test_elements-returns-in-Err t c =
    element_fault c.args.elements.now c.loop-rest.rest.now c.in-Some.frame.rest.now c.args.inner (element_of c.in-Some.frame) c.in-Err.error c.loop-rest.invariant c.in-Some.ensures.0 c.in-Err.ensures

pub test_elements-loop-rest-preserved : goal.test_elements-loop-rest-preserved
test_elements-loop-rest-preserved t c =
    let v = c.in_default-test_payload.ensures in
    progress_more c.args.elements.now c.loop-rest.rest.now c.in-Some.frame.rest.now c.args.inner (element_of c.in-Some.frame) v.0 c.loop-rest.invariant c.in-Some.ensures.0 v.1 v.2 v.3

pub test_payload-returns-in_default : goal.test_payload-returns-in_default
test_payload-returns-in_default t c =
    let faultless : IsFaultless c.args.frame.now.tag c.args.frame.now.payload.now = search rules in
    let v = scalar_read c.args.frame.now.tag c.args.frame.now.payload.now c.requires faultless c.in_default.ensures in
    (v.0, v.1, v.2, omega (arith, v.3))

pub test_payload-returns-then-inner-eq0 : goal.test_payload-returns-then-inner-eq0
test_payload-returns-then-inner-eq0 t c = (c.in-Some.document.now, c.in-Some.ensures.0, nests_zero c.args.inner (drop 4 c.in-Some.document.now) c.if-inner-eq0.true)

pub test_payload-returns : goal.test_payload-returns
test_payload-returns t c =
    let here = subst (λ b. ReadsElements b (c.args.inner - 1) c.test_elements.result) c.split_at.ensures.back c.test_elements.ensures in
    held_reads c.args.frame.now.tag c.args.frame.now.payload.now c.in-Some.document.now c.args.inner c.test_elements.result c.in-Some.ensures.0 (omega (arith, c.if-inner-eq0.false)) here

use Rattle.std.proofs.Common.{[], ◌∷◌, ◌++◌, ◌-◌, refl, sym, ◌∙◌, subst, arith}
use Rattle.bson_frame.specs.View.{element_of}
use Rattle.bson_bytes.specs.Met.{HasMet}
use Rattle.bson_bytes.specs.Written.{AreItemsSpelled, AreItemsWritten, AreSpelled, AreWritten}
use Rattle.bson_bytes.proofs.TurnLemmas.{absent_all_more, absent_front, end_absent_all, end_items_spelled, end_items_written, end_spelled, end_written, items_spelled_more, items_written_more, spelled_more, written_more}
use Rattle.bson_bytes.proofs.ValueLemmas.{all_behind, array_spelled, array_written, deeper, document_spelled, document_written}
use Rattle.bson_bytes.proofs.elements.+written.Goals as goal
use Rattle.bson_bytes.proofs.MeaningLemmas.{are_bytes}

pub are_items_written-loop-place-init : goal.are_items_written-loop-place-init
are_items_written-loop-place-init t c = (λ rest. rest, λ rest. rest, refl)

pub are_items_written-returns-then-is_end : goal.are_items_written-returns-then-is_end
are_items_written-returns-then-is_end t c u =
    let last = c.is_end.ensures.0 c.if-is_end.true in
    let so_far = c.loop-place.invariant in
    let bytes = c.loop-place.rest.now in
    (so_far.0 (end_items_written c.loop-place.place bytes last), so_far.1 (end_items_spelled bytes c.args.inner last), so_far.2)

pub are_items_written-loop-place-preserved : goal.are_items_written-loop-place-preserved
are_items_written-loop-place-preserved t c =
    let so_far = c.loop-place.invariant in
    let bytes = c.loop-place.rest.now in
    let next = c.in-Some.frame.rest.now in
    let e = element_of c.in-Some.frame in
    let first = c.in-Some.ensures.0 in
    let it = c.is_written.ensures c.if-not-is_written.false in (
      λ rest. so_far.0 (items_written_more c.loop-place.place bytes next e first it.0 (c.is_place.ensures c.if-not-is_place.false) rest),
      λ rest. so_far.1 (items_spelled_more bytes next c.args.inner e first it.1 rest),
      it.2 ∙ so_far.2,
    )

pub are_written-loop-rest-init : goal.are_written-loop-rest-init
are_written-loop-rest-init t c = ([], c.new-keys.ensures, λ absent rest. rest, λ rest. rest)

pub are_written-loop-rest-preserved : goal.are_written-loop-rest-preserved
are_written-loop-rest-preserved t c =
    let so_far = c.loop-rest.invariant in
    let bytes = c.loop-rest.rest.now in
    let next = c.in-Some.frame.rest.now in
    let e = element_of c.in-Some.frame in
    let first = c.in-Some.ensures.0 in
    let all = so_far.0 in
    let it = c.is_written.ensures c.if-not-is_written.false in
    let met = c.meet.ensures c.args.kept.now.items all (subst (λ ks. HasMet c.loop-rest.keys c.args.kept.now.items ks all) (sym it.2) so_far.1) c.if-not-meet.false in (
      all ++ c.in-Some.frame.key ∷ [],
      met.1,
      λ absent rest.
          let front = absent_front all c.in-Some.frame.key next absent in
          so_far.2 (absent_all_more all bytes next e first met.0 front.0) (written_more bytes next e first it.0 front.1 rest),
      λ rest. so_far.3 (spelled_more bytes next c.args.inner e first it.1 rest),
    )

pub are_written-returns : goal.are_written-returns
are_written-returns t c u =
    let last = c.is_end.ensures.0 c.loop-rest-test.false in
    let so_far = c.loop-rest.invariant in
    let bytes = c.loop-rest.rest.now in (
      so_far.2 (end_absent_all so_far.0 bytes last) (end_written bytes last),
      so_far.3 (end_spelled bytes c.args.inner last),
      c.end.ensures c.args.kept.now.items so_far.0 so_far.1,
    )

pub holds_written-returns-in-EmbeddedDocument : goal.holds_written-returns-in-EmbeddedDocument
holds_written-returns-in-EmbeddedDocument t c u =
    let p = c.args.payload.now in
    let it = c.are_written.ensures u in (
      document_written p c.args.tag c.in-EmbeddedDocument.is (are_bytes p c.type_inv.payload) c.requires (subst AreWritten (all_behind p) it.0),
      document_spelled p c.args.tag c.args.inner c.in-EmbeddedDocument.is (omega (arith, c.if-inner-eq0.false)) (subst (λ b. AreSpelled b (c.args.inner - 1)) (all_behind p) it.1),
      it.2,
    )

pub holds_written-returns-in-Array : goal.holds_written-returns-in-Array
holds_written-returns-in-Array t c u =
    let p = c.args.payload.now in
    let it = c.are_items_written.ensures u in (
      array_written p c.args.tag c.in-Array.is (are_bytes p c.type_inv.payload) c.requires (subst (AreItemsWritten 0) (all_behind p) it.0),
      array_spelled p c.args.tag c.args.inner c.in-Array.is (omega (arith, c.if-inner-eq0.false)) (subst (λ b. AreItemsSpelled b (c.args.inner - 1)) (all_behind p) it.1),
      it.2,
    )

pub is_written-returns-in_default : goal.is_written-returns-in_default
is_written-returns-in_default t c u =
    let it = c.is_scalar_written.ensures.spelled u (c.has_fault.ensures c.if-has_fault.false) in
    (c.is_scalar_written.ensures.written u, deeper c.args.frame.now.tag c.args.frame.now.payload.now c.args.inner it, refl)

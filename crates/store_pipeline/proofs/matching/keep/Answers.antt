use Rattle.std.proofs.Common.{◌≡◌, [], subst, arith}
use Rattle.std.proofs.lemmas.List.{nil_from_length}
use Rattle.std.specs.Vec.Iter.{into_iter_items}
use Rattle.store_pipeline.proofs.MatchLemmas.{TellsOf, all_kept, none_kept, one_more}
use Rattle.store_pipeline.proofs.matching.keep.Goals as goal

pub loop-body-init : goal.loop-body-init
loop-body-init c =
    let it = c.into_iter-body-iterator.result in (
      (λ ds are. none_kept c.args.question.now ds c.new-left.result.items (into_iter_items it) c.args.bodies.items c.new-left.ensures.items c.into_iter-body-iterator.ensures.into_iter_gives.0 are),
      omega (arith, it.rest.ok.0),
      tt,
      tt,
    )

pub loop-body-preserved : goal.loop-body-preserved
loop-body-preserved c =
    let it = c.next.new.self in
    let body = c.in-Some.body in
    let told = subst (λ l. TellsOf c.args.question.now l c.in_ok-held.held) c.as_slice.ensures.value c.in_ok-held.ensures in (
      (λ ds are. one_more c.args.question.now ds c.loop-body.left.items (into_iter_items c.loop-body.body-iterator) body (into_iter_items it) c.in-Some.ensures.steps.0
          c.in_ok-held.held c.put_if.new.left.items c.in_ok-put_if.ensures told (c.loop-body.invariant.0 ds are)),
      omega (arith, it.rest.ok.0),
      tt,
      tt,
    )

pub returns : goal.returns
returns c = λ ds are.
    let it = c.loop-body.body-iterator in
    let none : into_iter_items it ≡ [] = nil_from_length (into_iter_items it) (omega (arith, c.in-None.ensures.steps.0, it.rest.ok.0)) in
    all_kept c.args.question.now ds c.loop-body.left (into_iter_items it) none (c.loop-body.invariant.0 ds are)

use Rattle.std.proofs.Common.{◌==◌, ◌∙◌, ap, sym, subst}
use Rattle.store_pipeline.proofs.SortLemmas.{no_keys}
use Rattle.store_pipeline.specs.Bodies.{AreBodies, keys_of}
use Rattle.store_pipeline.specs.Order.{Sorts, cut}
use Rattle.store_asked.proofs.GatherLemmas.{sorted_part, whole_arranged}
use Rattle.store_asked.proofs.gathering.part_of.Goals as goal

pub returns-then-is_empty : goal.returns-then-is_empty
returns-then-is_empty c ds are =
    let a = c.args.arrangement.now in
    whole_arranged a ds c.args.bodies c.into_window.result (no_keys a.keys.items c.is_empty.result (c.is_empty.ensures ∙ ap (λ n. n == 0) a.keys.ok.0) c.if-is_empty.true) are c.into_window.ensures

pub returns : goal.returns
returns c ds are =
    let a = c.args.arrangement.now in
    let h = c.in_ok-sorted.ensures ds (subst (λ l. AreBodies l ds) (sym c.as_slice.ensures.value) are) in
    sorted_part a ds h.0 c.in_ok-sorted.sorted.items c.window-part.result.now c.copies_of.result (subst (λ ks. Sorts (keys_of ks) ds h.0) c.as_slice-2.ensures.value h.1) h.2
    (c.window-part.ensures ∙ ap (cut a.skip a.limit) c.as_slice-3.ensures.value) c.copies_of.ensures

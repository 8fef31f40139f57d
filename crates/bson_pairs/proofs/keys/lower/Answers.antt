use Rattle.std.proofs.Common.{◌<◌, set, get_or, subst, sym, ap, ◌∙◌}
use Rattle.std.proofs.lemmas.List.{get_or_default}
use Rattle.std.proofs.lemmas.List.Edits.{map_over_more}
use Rattle.bson_pairs.specs.Index.{place_without}
use Rattle.bson_pairs.proofs.keys.lower.Goals as goal

pub loop-i-preserved : goal.loop-i-preserved
loop-i-preserved c =
    let i = c.loop-i.i in
    let ys = c.loop-i.order in
    let x = get_or ys i 0 in
    ap (set ys i) c.place_without.ensures
    ∙ map_over_more (place_without c.args.taken) c.args.order.now ys i x c.loop-i-test.true c.loop-i.invariant (get_or_default ys i 0 x (subst (λ n. i < n) (sym c.loop-i.auto.order) c.loop-i-test.true))

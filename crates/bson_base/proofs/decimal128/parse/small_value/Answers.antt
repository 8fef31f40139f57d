use Rattle.std.proofs.Common.{◌∙◌, ◌+◌, min, get_or, drop, ap, sym, refl, arith}
use Rattle.bson_base.specs.Decimal.{value, value_after}
use Rattle.bson_base.proofs.DecimalLemmas.{small_step, one_more}
use Rattle.bson_base.proofs.decimal128.parse.small_value.Goals as goal

pub loop-c-preserved : goal.loop-c-preserved
loop-c-preserved c =
    let ds = c.args.digits.now in
    let i = c.loop-c.c-index in
    let kept = c.loop-c.invariant in
    record {
      kept = small_step (value ds) c.loop-c.n i (get_or ds i 0) ds kept.kept c.loop-c-test.true kept.rest refl ∙ ap (λ m. min (value_after m (drop (i + 1) ds)) 100000) (sym c.min-n.ensures);
      small = omega (arith, c.min-n.ensures);
      rest = (one_more c.loop-c.n i ds c.loop-c-test.true kept.rest).1;
    }

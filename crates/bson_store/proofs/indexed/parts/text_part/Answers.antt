use Rattle.std.proofs.Common.{arith, pos, ap, ◌∙◌, w64, ◌*◌, ◌+◌, ◌<◌, ◌^◌}
use Rattle.std.proofs.lemmas.Int.{to_z_pos}
use Rattle.bson_store.proofs.CodeLemmas.{text_end, text_fits, text_room, text_turn, text_whole}
use Rattle.bson_store.proofs.indexed.parts.text_part.Goals as goal

pub overflow_mul-part : goal.overflow_mul-part
overflow_mul-part c =
    let h : c.loop-i.part * 256 + 256 < 2 ^ 63 = text_fits c.loop-i.part c.loop-i.i c.loop-i-test.true c.loop-i.invariant.1 in
    record { fits = omega (arith, h) }

pub overflow_add-part : goal.overflow_add-part
overflow_add-part c =
    let h : c.loop-i.part * 256 + 256 < 2 ^ 63 = text_fits c.loop-i.part c.loop-i.i c.loop-i-test.true c.loop-i.invariant.1 in
    record { fits = omega (arith, h, c.byte_at.ensures.small) }

pub loop-i-preserved : goal.loop-i-preserved
loop-i-preserved c = (
  text_turn c.loop-i.part c.byte_at.result _ c.loop-i.i _ _ c.loop-i-test.true c.loop-i.invariant.0 c.byte_at.ensures.step,
  text_room c.loop-i.part c.byte_at.result c.loop-i.i c.loop-i.invariant.1 c.byte_at.ensures.small,
)

pub overflow_cast-result : goal.overflow_cast-result
overflow_cast-result c = record { sfits = text_end c.loop-i.part c.loop-i.i c.args.text.now (omega arith) (omega arith) c.loop-i.invariant.1 }

pub returns : goal.returns
returns c =
    to_z_pos w64 c.loop-i.part (text_end c.loop-i.part c.loop-i.i c.args.text.now (omega arith) (omega arith) c.loop-i.invariant.1)
    ∙ ap pos (text_whole c.loop-i.part c.loop-i.i c.args.text.now (omega arith) (omega arith) c.loop-i.invariant.0)

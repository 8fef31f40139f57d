use Rattle.std.proofs.Common.{◌≤◌, ◌+◌, get_or, arith}
use Rattle.bson_store_cli.specs.Levels.{depth_behind, levels_in}
use Rattle.bson_store_cli.proofs.LevelLemmas.{last_byte, next_byte, one_more}
use Rattle.bson_store_cli.proofs.levels.levels_in.Goals as goal

pub loop-byte-preserved : goal.loop-byte-preserved
loop-byte-preserved c =
    let l = c.loop-byte in
    let text = c.args.text.now in
    let few : depth_behind l.part l.depth (get_or text l.byte-index 0) ≤ l.depth + 1 = one_more l.part l.depth (get_or text l.byte-index 0) in (
      omega (arith, few, l.invariant.0, c.depth_behind-depth.ensures),
      next_byte l.part _ l.depth _ l.deepest _ l.byte-index text (levels_in text) c.loop-byte-test.true c.part_behind-part.ensures c.depth_behind-depth.ensures c.greater-deepest.ensures l.invariant.1,
    )

pub returns : goal.returns
returns c = last_byte c.loop-byte.part c.loop-byte.depth c.loop-byte.deepest c.loop-byte.byte-index c.args.text.now _ c.loop-byte-test.false c.loop-byte.invariant.1

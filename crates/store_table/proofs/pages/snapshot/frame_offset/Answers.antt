use Rattle.std.proofs.Common.{◌+◌, ◌≤◌, arith, mul-le-mul_right}
use Rattle.sqlite_wal.specs.Recovery.{frames_len}
use Rattle.store_table.proofs.pages.snapshot.frame_offset.Goals as goal

pub returns-clause-value : goal.returns-clause-value
unfolding frames_len
returns-clause-value c = omega arith

pub returns-clause-small : goal.returns-clause-small
returns-clause-small c =
    let few : c.args.at ≤ 0xffff_fffe = omega arith in
    omega (arith, mul-le-mul_right (24 + c.args.size) few)

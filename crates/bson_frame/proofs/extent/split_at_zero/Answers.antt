use Rattle.std.proofs.Common.{length, subst, arith}
use Rattle.std.proofs.lemmas.List.{take_all, take_rest}
use Rattle.bson_base.specs.Kinds.{HasNo00}
use Rattle.bson_frame.proofs.RunLemmas.{none_passed, splits_at}
use Rattle.bson_frame.proofs.extent.split_at_zero.Goals as goal

pub returns-in-Some : goal.returns-in-Some
returns-in-Some c =
    let bytes = c.args.bytes.now in
    let found = c.in-Some.ensures in
    rw take_rest (none_passed bytes c.in-Some.i (omega (arith, found.0.high)) found.0.before, splits_at bytes c.in-Some.i found.0.high found.1)

pub returns-in-None : goal.returns-in-None
returns-in-None c =
    let bytes = c.args.bytes.now in
    subst HasNo00 (take_all (length bytes) bytes (omega arith)) (none_passed bytes (length bytes) (omega arith) c.in-None.ensures)

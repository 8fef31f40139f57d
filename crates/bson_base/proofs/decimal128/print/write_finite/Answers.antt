use Rattle.std.proofs.Common.{◌<◌, ◌^◌, refl, arith}
use Rattle.std.proofs.lemmas.Grind.{put_two}
use Rattle.bson_base.proofs.PrintedDecimalLemmas.{digits-decimal}
use Rattle.bson_base.proofs.decimal128.print.write_finite.Goals as goal

pub write_number-requires-clause-some : goal.write_number-requires-clause-some
write_number-requires-clause-some g c =
    let wide : c.args.coefficient < 10 ^ 64 = omega arith in
    let some = (digits-decimal c.args.coefficient wide).some in
    rw c.format-digits.ensures.text some

pub returns : goal.returns
returns g c = λ plain ok.
    let first = c.in_ok-write_str.ensures.writes plain refl in
    let second = c.write_number.ensures first.plain ok in
    put_two g.W.Write.write_str_gives _ _ _ _ _ _ first second (rw (c.minus_if.ensures, c.format-digits.ensures.text) refl)

use Rattle.std.proofs.Common.{◌+◌, ◌<◌, ◌++◌, take, drop, length, get_or, sym, ap, ◌∙◌, arith}
use Rattle.std.proofs.lemmas.Grind.{common_steps}
use Rattle.bson_base.proofs.DeviceLemmas.{take_one, take_next, drop_next}
use Rattle.bson_base.proofs.faulty.FaultySourceSource.read.Goals as goal

pub returns-clause-bytes : goal.returns-clause-bytes
returns-clause-bytes c =
    let s = c.args.self.now in
    let xs = s.bytes.now in
    let room : 0 < length c.args.buf.now = grind (arith, common_steps) in
    let one = take_one c.args.buf.now (get_or xs s.at 0) room in (
      take_next s.at xs (omega arith) ∙ ap (λ l. take s.at xs ++ l) (sym one),
      drop_next s.at xs (omega arith) ∙ ap (λ l. l ++ drop (s.at + 1) xs) (sym one),
    )

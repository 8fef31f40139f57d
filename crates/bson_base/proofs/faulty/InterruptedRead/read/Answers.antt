use Rattle.std.proofs.Common.{◌<◌, ◌++◌, drop, length, get_or, sym, ap, ◌∙◌, arith}
use Rattle.std.proofs.lemmas.Grind.{common_steps}
use Rattle.std.proofs.lemmas.List.{take_rest}
use Rattle.bson_base.proofs.DeviceLemmas.{take_one, drop_next}
use Rattle.bson_base.proofs.faulty.InterruptedRead.read.Goals as goal

pub returns-clause-bytes : goal.returns-clause-bytes
returns-clause-bytes c =
    let xs = c.interrupts.new.self.bytes.now in
    let room : 0 < length c.args.buf.now = grind (arith, common_steps) in
    let some : 0 < length xs = grind (arith, common_steps) in
    let next = drop_next 0 xs some in
    let one = take_one c.args.buf.now (get_or xs 0 0) room in
    rw take_rest (sym c.interrupts.ensures.bytes ∙ next ∙ ap (λ l. l ++ drop 1 xs) (sym one), λ none. absurd (omega (arith, none)))

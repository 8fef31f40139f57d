use Rattle.std.proofs.Common.{arith}
use Rattle.store_question.proofs.StandLemmas.{no_short_key}
use Rattle.store_question.proofs.lacking.lacks_key.Goals as goal

pub returns-then-is_ascii_digit : goal.returns-then-is_ascii_digit
returns-then-is_ascii_digit c = λ ms is yes.
    let some = c.in-len1.len_at_least in
    let few = c.in-len1.len_below in
    no_short_key c.as_bytes.result.now c.args.key.now c.args.bytes.now _ ms c.as_bytes.ensures.value (omega (arith, some)) (omega (arith, few)) is (c.lacks_name.ensures yes)

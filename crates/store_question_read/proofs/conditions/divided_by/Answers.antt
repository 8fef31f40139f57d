use Rattle.std.proofs.Common.{map, arith}
use Rattle.store_question_read.proofs.QueryLemmas.{not_two}
use Rattle.store_question_read.proofs.conditions.divided_by.Goals.{in_default-via-then-items-lt2, in_default-via-else-items-lt2+else-items-lt3}
use Rattle.store_question_read.proofs.conditions.divided_by.Goals as goal

pub returns-in_default : goal.returns-in_default
returns-in_default c =
    not_two (map (λ x. x.now) c.args.path.now) c.args.key.now c.args.items.now c.operand.result c.operand.ensures
    (λ e. elim c.in_default.branch [ in_default-via-then-items-lt2 w ↦ grind arith | in_default-via-else-items-lt2+else-items-lt3 w ↦ grind arith ])

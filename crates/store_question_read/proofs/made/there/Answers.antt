use Rattle.std.proofs.Common.{map, sym, subst}
use Rattle.std.specs.Prelude.{IfOk}
use Rattle.store_question.specs.Asked.{at, exists}
use Rattle.store_question_read.specs.Outcome.{Asks}
use Rattle.store_question_read.specs.Query.{there}
use Rattle.store_question_read.proofs.MadeLemmas.{exists_asks}
use Rattle.store_question_read.proofs.made.there.Goals as goal

pub returns-else-wanted : goal.returns-else-wanted
returns-else-wanted c =
    let path = map (λ x. x.now) c.args.path.now in
    subst (λ b. IfOk c.not.result (λ q. Asks q (there path b))) (sym c.if-wanted.false) (c.not.ensures (at path exists) (c.in_ok-something.ensures exists exists_asks))

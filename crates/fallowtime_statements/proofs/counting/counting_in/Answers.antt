use Rattle.std.proofs.Common.{subst, IfOk}
use Rattle.bson_model.specs.View.{content, view}
use Rattle.fallowtime_statements.specs.Counting.{CountsIn}
use Rattle.fallowtime_statements.specs.declared.counting.Counting.{Counting}
use Rattle.fallowtime_statements.proofs.counting.counting_in.Goals as goal

pub returns-in-Some : goal.returns-in-Some
returns-in-Some c =
    subst (λ o. IfOk c.counting_in_value.result (λ (x : Counting). CountsIn o (content x.query) x.skip x.most (view x.id))) (rw c.in-Some.is at c.value_in.ensures) c.counting_in_value.ensures

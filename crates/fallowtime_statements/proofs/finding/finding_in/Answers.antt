use Rattle.std.proofs.Common.{subst, IfOk}
use Rattle.bson_model.specs.View.{content}
use Rattle.bson_model.specs.declared.document.Document.{Document}
use Rattle.fallowtime_statements.specs.Finding.{FindsIn}
use Rattle.fallowtime_statements.proofs.finding.finding_in.Goals as goal

pub returns-in-Some : goal.returns-in-Some
returns-in-Some c =
    subst (λ o. IfOk c.finding_in_value.result (λ (d : Document). FindsIn o (content d))) (rw c.in-Some.is at c.value_in.ensures) c.finding_in_value.ensures

use Rattle.std.proofs.Common.{◌∙◌, Option, is_some, ap, subst, sym}
use Rattle.bson_base.specs.Value.{Value}
use Rattle.store_pipeline.proofs.LedLemmas.{inside_document, inside_none}
use Rattle.store_pipeline.proofs.operand.inside.Goals as goal
use Rattle.store_question.proofs.AskLemmas.{is_document, no_document}
use Rattle.store_question.specs.Reads.{FindsMember}

pub returns-then-is_some : goal.returns-then-is_some
returns-then-is_some c = λ v f.
    let d = is_document c.args.value v c.is_some.result (c.is_some.ensures ∙ ap is_some c.as_document.ensures) c.if-is_some.true f.encodes in
    subst (λ (o : Option Value). FindsMember c.look_in.result o) (inside_document c.args.key.now v d.0 d.1) (c.look_in.ensures v f)

pub returns-else-is_some : goal.returns-else-is_some
returns-else-is_some c = λ v f. sym (inside_none c.args.key.now v (no_document c.args.value v c.is_some.result (c.is_some.ensures ∙ ap is_some c.as_document.ensures) c.if-is_some.false f.encodes))

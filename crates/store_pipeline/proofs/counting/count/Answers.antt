use Rattle.std.proofs.Common.{sym, ap, ◌∙◌, map, subst}
use Rattle.bson_model.specs.View.{content}
use Rattle.store_pipeline.specs.Faithful.{AnswersMade, AreFaithful}
use Rattle.store_pipeline.specs.Stages.{count_of}
use Rattle.store_pipeline.proofs.CountLemmas.{bodies_long}
use Rattle.store_pipeline.proofs.counting.count.Goals as goal

pub returns : goal.returns
returns c = λ ds are.
    let lent = ap (map content) c.as_slice.ensures.value in
    let is = lent ∙ c.in_ok-documents.ensures.is ∙ ap (count_of c.args.name.now) (bodies_long c.args.bodies.now ds are) in
    subst (λ es. AnswersMade es c.write_each.result) is (c.write_each.ensures (subst AreFaithful (sym lent) c.in_ok-documents.ensures.faithful))

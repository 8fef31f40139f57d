use Rattle.std.proofs.Common.{◌∙◌, map, ap, sym, subst}
use Rattle.bson_model.specs.View.{content}
use Rattle.store_pipeline.specs.Faithful.{AnswersMade, AreFaithful}
use Rattle.store_pipeline.specs.Unwound.{unwound}
use Rattle.store_pipeline.proofs.FaithfulLemmas.{of_body}
use Rattle.store_pipeline.proofs.UnwoundLemmas.{unwound_faithful}
use Rattle.store_pipeline.proofs.unwinding.unwind_body.Goals as goal

pub returns : goal.returns
returns c = λ d is.
    let u = c.args.unwinding.now in
    let e = ap (map content) c.as_slice.ensures.value ∙ c.in_ok-documents.ensures ∙ ap (unwound u) (c.in_ok-document.ensures d is) in
    subst (λ es. AnswersMade es c.write_each.result) e (c.write_each.ensures (subst AreFaithful (sym e) (unwound_faithful u d (of_body c.args.body.now d is))))

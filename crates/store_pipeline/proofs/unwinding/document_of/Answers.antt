use Rattle.std.proofs.Common.{ℕ, List, subst}
use Rattle.bson_bytes.specs.Spells.{Means}
use Rattle.bson_model.specs.View.{content}
use Rattle.store_pipeline.proofs.UnwindLemmas.{meant}
use Rattle.store_pipeline.proofs.unwinding.document_of.Goals as goal

pub returns-in-Ok-to_document : goal.returns-in-Ok-to_document
returns-in-Ok-to_document c = λ d is.
    let e = content c.in-Ok-to_document.document in
    meant c.args.body.now d e is (subst (λ (x : List ℕ). Means x e) c.in-Ok.ensures c.in-Ok-to_document.ensures.tree)

use Rattle.std.proofs.Common.{sym, ◌∙◌}
use Rattle.bson_model.proofs.EqualLemmas.{said_of_documents}
use Rattle.bson_model.proofs.laws.equality_of_members.Goals as goal

pub returns : goal.returns
returns c =
    let told = said_of_documents c.args.a.now c.args.b.now c.distinct_keys_of_document.ensures c.distinct_keys_of_document-2.ensures in
    (λ h. told.0 (sym c.eq.ensures ∙ h), λ e. c.eq.ensures ∙ told.1 e)

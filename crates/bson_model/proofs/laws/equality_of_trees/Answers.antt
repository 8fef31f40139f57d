use Rattle.std.proofs.Common.{sym, ◌∙◌}
use Rattle.bson_model.proofs.EqualLemmas.{said}
use Rattle.bson_model.proofs.laws.equality_of_trees.Goals as goal

pub returns : goal.returns
returns c =
    let told = said c.args.a.now c.args.b.now c.distinct_keys.ensures c.distinct_keys-2.ensures in
    (λ h. told.0 (sym c.eq.ensures ∙ h), λ e. c.eq.ensures ∙ told.1 e)

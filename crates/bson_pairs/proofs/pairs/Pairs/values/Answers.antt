use Rattle.std.proofs.Common.{sym, ap, ◌∙◌}
use Rattle.std.specs.Map.{values_of}
use Rattle.bson_pairs.proofs.KeyedLemmas.{values_of-keyed}
use Rattle.bson_pairs.proofs.pairs.Pairs.values.Goals as goal

pub returns : goal.returns
returns g c =
    let i = c.self.inside in
    c.as_slice.ensures.value ∙ sym (values_of-keyed i.keys i.values.items c.self.invariant) ∙ ap values_of c.self.view_is

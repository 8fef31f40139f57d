use Rattle.std.proofs.Common.{◌∙◌}
use Rattle.std.proofs.lemmas.List.Elements.{same_from_all_zip}
use Rattle.bson_pairs.proofs.IndexLemmas.{copied}
use Rattle.bson_pairs.proofs.KeyedLemmas.{key_bytes-clones}
use Rattle.bson_pairs.proofs.keys.Keys.try_clone.Goals as goal

pub invariant_of-result : goal.invariant_of-result
invariant_of-result c =
    let i = c.self.inside in
    let same = same_from_all_zip _ i.order.items c.in_ok-order.order.items c.in_ok-order.ensures.cases.0 (λ x y h. h) in
    copied i.texts.items c.in_ok-texts.texts.items c.in_ok-order.order.items (same ∙ c.self.invariant.0) c.self.invariant.1 (key_bytes-clones i.texts.items c.in_ok-texts.texts.items c.in_ok-texts.ensures.cases.0)

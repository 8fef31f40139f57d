use Rattle.std.proofs.Common.{◌^◌, ◌<◌, position, bytes_eq, sym, ap, ◌∙◌, subst}
use Rattle.bson_pairs.specs.Index.{place_of}
use Rattle.bson_pairs.proofs.IndexLemmas.{position-key_bytes}
use Rattle.bson_pairs.proofs.KeyedLemmas.{keys_of-keyed, length-pairs}
use Rattle.bson_pairs.proofs.pairs.Pairs.find_index.Goals as goal

pub returns-clause-index : goal.returns-clause-index
returns-clause-index g c =
    let i = c.self.inside in
    let k = c.args.key.now in
    c.find.ensures.index ∙ sym (position-key_bytes k i.keys) ∙ ap (position (bytes_eq k)) (sym (keys_of-keyed i.keys i.values.items c.self.invariant)) ∙ ap (place_of k) c.self.view_is

pub returns-clause-compared : goal.returns-clause-compared
returns-clause-compared g c =
    let i = c.self.inside in
    let long = length-pairs i.keys i.values.items c.args.self.now c.self.invariant c.self.view_is ∙ c.self.invariant in
    λ d h. c.find.ensures.compared d (subst (λ n. n < 2 ^ d) long h)

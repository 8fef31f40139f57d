use Rattle.std.proofs.Common.{◌<◌, length, All, sym, ap, ◌∙◌, subst}
use Rattle.bson_pairs.specs.Index.{pick}
use Rattle.bson_pairs.specs.Keyed.{entries_of}
use Rattle.bson_pairs.proofs.PickLemmas.{pick-index, texts_within}
use Rattle.bson_pairs.proofs.ascending.Ascending.new.Goals as goal

pub invariant_of-result : goal.invariant_of-result
invariant_of-result g c =
    let ks = c.args.keys.now in
    (subst (All (λ i. i < length ks)) (sym (c.iter.ensures.rest ∙ c.requires.places)) (texts_within ks), c.requires.lengths)

pub returns : goal.returns
returns g c =
    let ks = c.args.keys.now in
    let vs = c.args.values.now in
    ap (pick (entries_of ks vs)) (c.iter.ensures.rest ∙ c.requires.places) ∙ pick-index ks vs c.requires.lengths

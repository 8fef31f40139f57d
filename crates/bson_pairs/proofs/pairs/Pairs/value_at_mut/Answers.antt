use Rattle.std.proofs.Common.{◌<◌, slice_get, refl, sym, ap, ◌∙◌, subst}
use Rattle.std.proofs.lemmas.Option.{slice_get_read}
use Rattle.std.specs.Map.{values_of}
use Rattle.bson_pairs.specs.Keyed.{set_at}
use Rattle.bson_pairs.proofs.KeyedLemmas.{length-pairs, set_at-keyed, values_of-keyed}
use Rattle.bson_pairs.proofs.pairs.Pairs.value_at_mut.Goals as goal

pub index_mut-requires : goal.index_mut-requires
index_mut-requires g c =
    let i = c.self.inside in
    subst (λ n. c.args.index < n) (length-pairs i.keys i.values.items c.args.self.now c.self.invariant c.self.view_is ∙ sym i.values.ok.0) c.requires

pub returns : goal.returns
returns g c =
    let i = c.self.inside in
    let at = c.args.index in
    let same = sym (values_of-keyed i.keys i.values.items c.self.invariant) ∙ ap values_of c.self.view_is in (
      (refl, λ w. sym (set_at-keyed i.keys i.values.items at w) ∙ ap (λ ps. set_at ps at w) c.self.view_is),
      record {
        writes_back = tt;
        value = ap (λ xs. slice_get xs at) (sym same) ∙ slice_get_read i.values.items i.values.len at c.index_mut.result.now i.values.ok.0 (subst (λ n. at < n) (length-pairs i.keys i.values.items c.args.self.now c.self.invariant c.self.view_is ∙ sym i.values.ok.0) c.requires) c.index_mut.ensures.value;
      },
    )

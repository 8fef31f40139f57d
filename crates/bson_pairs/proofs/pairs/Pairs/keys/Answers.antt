use Rattle.std.proofs.Common.{sym, ap, ◌∙◌, subst, bytes_eq}
use Rattle.std.specs.List.{IsDistinct}
use Rattle.std.specs.Map.{keys_of}
use Rattle.bson_pairs.specs.Keyed.{key_bytes}
use Rattle.bson_pairs.proofs.KeyedLemmas.{keys_of-keyed}
use Rattle.bson_pairs.proofs.pairs.Pairs.keys.Goals as goal

pub returns-clause-keys : goal.returns-clause-keys
returns-clause-keys g c =
    let i = c.self.inside in
    ap key_bytes c.as_slice.ensures.keys ∙ sym (keys_of-keyed i.keys i.values.items c.self.invariant) ∙ ap keys_of c.self.view_is

pub returns-clause-distinct : goal.returns-clause-distinct
returns-clause-distinct g c =
    let i = c.self.inside in
    subst (IsDistinct bytes_eq) (sym (keys_of-keyed i.keys i.values.items c.self.invariant) ∙ ap keys_of c.self.view_is) c.as_slice.ensures.distinct

use Rattle.std.proofs.Common.{sym, ap, ◌∙◌, length}
use Rattle.bson_pairs.proofs.KeyedLemmas.{length-keyed}
use Rattle.bson_pairs.proofs.pairs.Pairs.len.Goals as goal

pub returns : goal.returns
returns g c =
    let v = c.self.inside.values in
    c.len.ensures ∙ v.ok.0 ∙ sym (length-keyed c.self.inside.keys v.items c.self.invariant) ∙ ap length c.self.view_is

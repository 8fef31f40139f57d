use Rattle.std.proofs.Common.{Some, sym, ap, ◌∙◌}
use Rattle.bson_pairs.specs.Keyed.{get}
use Rattle.bson_pairs.specs.Index.{is_key}
use Rattle.bson_pairs.proofs.KeyedLemmas.{found_at, absent_if, get-found_value, get-absent}
use Rattle.bson_pairs.proofs.pairs.Pairs.get.Goals as goal

pub returns-in-Some : goal.returns-in-Some
returns-in-Some g c =
    let i = c.self.inside in
    let k = c.args.key.now in
    let f = found_at (is_key k) i.keys c.in-Some.at c.in-Some.ensures.index in
    ap Some c.index.ensures ∙ sym (get-found_value k i.keys i.values.items c.in-Some.at _ f c.self.invariant) ∙ ap (get k) c.self.view_is

pub returns-in-None : goal.returns-in-None
returns-in-None g c =
    let i = c.self.inside in
    let k = c.args.key.now in
    sym (get-absent k i.keys i.values.items (absent_if (is_key k) i.keys c.in-None.ensures.index)) ∙ ap (get k) c.self.view_is

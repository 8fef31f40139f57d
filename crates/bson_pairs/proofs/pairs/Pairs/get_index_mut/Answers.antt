use Rattle.std.proofs.Common.{◌≡◌, set, slice_get, sym, ap, ◌∙◌}
use borrow.Follows.Closed.{read_of}
use Rattle.std.specs.Option.{ghost_name_of}
use Rattle.std.specs.Map.{values_of}
use Rattle.bson_pairs.specs.Keyed.{entries_of, set_at}
use Rattle.bson_pairs.proofs.KeyedLemmas.{as_item, set_at-keyed, values_of-keyed}
use Rattle.bson_pairs.proofs.pairs.Pairs.get_index_mut.Goals as goal

pub returns : goal.returns
returns g c =
    let i = c.self.inside in
    let at = c.args.index in
    let written : (w : g.row.V.Denot) → entries_of i.keys (set i.values.items at w) ≡ set_at c.args.self.now at w = λ w. sym (set_at-keyed i.keys i.values.items at w) ∙ ap (λ ps. set_at ps at w) c.self.view_is in (
      (λ j. read_of (ghost_name_of c.get_mut.result) (λ w. written w j) (c.self.view_is j)),
      record {
        writes_back = tt;
        value = as_item c.get_mut.result i.values.items at i.values.len c.get_mut.ensures.variant c.get_mut.ensures.value i.values.ok.0
            ∙ ap (λ xs. slice_get xs at) (sym (values_of-keyed i.keys i.values.items c.self.invariant) ∙ ap values_of c.self.view_is);
      },
    )

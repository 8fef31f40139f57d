use Rattle.std.proofs.Common.{◌≡◌, slice_get, refl, sym, ap, ◌∙◌, subst}
use Rattle.std.specs.Map.{values_of}
use Rattle.bson_pairs.specs.Keyed.{get, put, set_at}
use Rattle.bson_pairs.specs.Index.{is_key}
use Rattle.bson_pairs.proofs.KeyedLemmas.{found_at, absent_if, on_some, get-found, get-absent, set_at-found, values_of-keyed}
use Rattle.bson_pairs.proofs.pairs.Pairs.get_mut.Goals as goal

pub returns-in-Some : goal.returns-in-Some
returns-in-Some g c =
    let i = c.self.inside in
    let k = c.args.key.now in
    let at = c.in-Some.at in
    let f = found_at (is_key k) i.keys at c.in-Some.ensures.index in (
      (refl, λ w. on_some c.get_index_mut.result (subst (λ ps. set_at ps at w ≡ put k w ps) c.self.view_is (set_at-found k i.keys i.values.items at w f c.self.invariant)), refl),
      c.get_index_mut.ensures.value ∙ ap (λ xs. slice_get xs at) (sym (ap values_of c.self.view_is) ∙ values_of-keyed i.keys i.values.items c.self.invariant)
          ∙ sym (get-found k i.keys i.values.items at f c.self.invariant) ∙ ap (get k) c.self.view_is,
    )

pub returns-in-None : goal.returns-in-None
returns-in-None g c =
    let i = c.self.inside in
    let k = c.args.key.now in
    ((refl, λ w. tt, refl), sym (get-absent k i.keys i.values.items (absent_if (is_key k) i.keys c.in-None.ensures.index)) ∙ ap (get k) c.self.view_is)

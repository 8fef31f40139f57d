use Rattle.std.proofs.Common.{◌≡◌, of_calls, rules, ap, sym}
use Rattle.std.proofs.lemmas.Fn.{always_returns_same}
use Rattle.std.proofs.lemmas.List.Sorted.{ranks_by}
use Rattle.std.specs.Ordering.{is_lt}
use Rattle.store_pipeline.proofs.KeyLemmas.{order_total}
use Rattle.store_pipeline.proofs.PlaceLemmas.{zip_long}
use Rattle.store_pipeline.proofs.SortLemmas.{places_sorted}
use Rattle.store_pipeline.proofs.sorted.sorting.sorted_places.Goals as goal
use Rattle.store_pipeline.specs.Bodies.{document_at, IsBody, keys_of}
use Rattle.store_pipeline.specs.Order.{goes_before, order_by}

pub returns : goal.returns
returns c = λ ds are.
    let ks = keys_of c.args.keys.now in
    let weakly = ranks_by (order_total ks) (document_at ds) in
    let told = always_returns_same _ (λ a r. is_lt r ≡ goes_before ks (document_at ds a.0.now) (document_at ds a.1.0.now)) _ (λ a r f k.
    let fact : r ≡ order_by ks (document_at ds a.0.now) (document_at ds a.1.0.now) = search (rules, of_calls, are) in
    (ap is_lt fact, search (rules, of_calls))) in
    places_sorted ks ds c.in_ok-places.places.items c.sort_by.new.self.items (c.in_ok-places.ensures ds (sym (zip_long (λ b d. IsBody b.items d) c.args.bodies.now ds are))) c.sort_by.ensures.permutation (c.in_ok-sort_by.ensures.sorted _ weakly told) (c.sort_by.ensures.stable _ weakly told)

use Rattle.std.proofs.Common.{◌<◌, inl, inr, ap, ◌∙◌, length, arith, map}
use Rattle.bson_base.specs.Value.{document}
use Rattle.store_question.specs.Filters.{filter_of, tests_of}
use Rattle.store_model.specs.Filter.{all_of, any_of}
use Rattle.bson_store.specs.Lists.{is_among}
use Rattle.bson_store.specs.Serving.{IsSelected}
use Rattle.bson_store.proofs.AmongLemmas.{over_there, under_there}
use Rattle.bson_store.proofs.ServingLemmas.{by_all, by_either, by_part, head_all, head_any, none_left}
use Rattle.bson_store.proofs.indexed.serving.+gathering.Goals as goal

pub places_of_least-loop-filter-preserved : goal.places_of_least-loop-filter-preserved
places_of_least-loop-filter-preserved t c =
    let i = c.loop-filter.filter-index in
    let fs = c.args.filters.now in
    let low : i < length fs = omega (arith, c.loop-filter-test.true, c.loop-filter.auto.filter-index-end) in
    let whole = all_of (tests_of (map filter_of fs)) in
    let part = by_part c.args.index.now (IsSelected (filter_of c.filter-item.result)) (IsSelected whole) c.in_ok-places.places (λ d all. (head_all fs i c.filter-item.result (document d) low c.filter-item.is (c.loop-filter.invariant.narrow (document d) all)).0) c.in_ok-places.ensures in
    record {
      served = by_either c.args.index.now (IsSelected whole) c.loop-filter.least c.in_ok-places.places c.fewer-least.result c.fewer-least.ensures c.loop-filter.invariant.served part;
      narrow = λ d all. (head_all fs i c.filter-item.result d low c.filter-item.is (c.loop-filter.invariant.narrow d all)).1;
    }

pub places_of_each-loop-filter-preserved : goal.places_of_each-loop-filter-preserved
places_of_each-loop-filter-preserved t c =
    let i = c.loop-filter.filter-index in
    let fs = c.args.filters.now in
    let low : i < length fs = omega (arith, c.loop-filter-test.true, c.loop-filter.auto.filter-index-end) in
    let put = rw c.as_slice.ensures.value at c.in_ok-extend_from_slice.ensures.items in
    let part = (rw c.in-Some.is at c.in_ok-places.ensures).1 in
    record {
      so_far = λ place body d found kept is any.
          elim (c.loop-filter.invariant.so_far place body d found kept is any) [
            | inl there ↦ inl (ap (is_among place) put ∙ over_there place c.loop-filter.all.items c.in-Some.places.items there)
            | inr left ↦ elim (head_any fs i c.filter-item.result (document d) low c.filter-item.is left) [
              | inl one ↦ inl (ap (is_among place) put ∙ under_there place c.loop-filter.all.items c.in-Some.places.items (part place body d found kept is one))
              | inr rest ↦ inr rest
            ]
          ];
    }

pub places_of_each-returns : goal.places_of_each-returns
places_of_each-returns t c =
    let fs = c.args.filters.now in
    by_all c.args.index.now (IsSelected (any_of (tests_of (map filter_of fs)))) c.loop-filter.all.items c.in_order.result
    (λ place body d found kept is any. elim (c.loop-filter.invariant.so_far place body d found kept is any) [
      | inl there ↦ there
      | inr left ↦ absurd (none_left fs c.loop-filter.filter-index (document d) (omega (arith, c.loop-filter-test.false)) left)
    ])
    c.in_order.ensures.ascending c.in_order.ensures.all

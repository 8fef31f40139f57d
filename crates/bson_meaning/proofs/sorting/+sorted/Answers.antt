use Rattle.std.proofs.Common.{map, [], ap, sym, ◌∙◌, string_bytes, subst}
use Rattle.std.proofs.lemmas.Result.{IfOk-weaker}
use Rattle.std.specs.Vec.Iter.{into_iter_items}
use Rattle.bson_base.specs.Value.{scoped_code}
use Rattle.bson_model.specs.View.{view, pairs_of, items_of, members_of}
use Rattle.bson_model.proofs.ViewLemmas.{view-WithScope}
use Rattle.bson_meaning.specs.Meaning.{asc}
use Rattle.bson_meaning.proofs.PutLemmas.{KeysOnce, keys_once, once_changed, put_all_once, sorted_items, finished}
use Rattle.bson_meaning.proofs.SortedPairLemmas.{sorted_once, keys_stay, sorted_members}
use Rattle.bson_meaning.proofs.sorting.+sorted.Goals as goal
use Rattle.std.proofs.lemmas.List.{nil_from_length}

pub sorted-returns : goal.sorted-returns
sorted-returns t c =
    let ps = pairs_of c.args.document in
    let xs = c.in_ok-pairs.pairs.items in
    let ys = c.sort_by_keys.new.pairs.items in
    let once = subst KeysOnce (sym c.in_ok-pairs.ensures) (once_changed asc ps (keys_once ps c.distinct_keys_of_level.ensures)) in
    let up = sorted_once xs ys c.sort_by_keys.ensures.permutation c.sort_by_keys.ensures.sorted once in
    IfOk-weaker c.from_pairs.result _ _ (λ d e. ap members_of (e ∙ put_all_once ys [] (keys_stay ys up)) ∙ sorted_members ps xs ys c.sort_by_keys.ensures.permutation c.in_ok-pairs.ensures c.distinct_keys_of_level.ensures up) c.from_pairs.ensures

pub sorted_items-returns : goal.sorted_items-returns
sorted_items-returns t c =
    let all = c.args.items.items in
    ap items_of (finished (λ b. asc (view b)) (map view c.loop-item.sorted.items) (into_iter_items c.loop-item.item-iterator) all c.loop-item.invariant.0 (nil_from_length (into_iter_items c.loop-item.item-iterator) (c.loop-item.invariant.1 ∙ c.in-None.ensures.steps.0))) ∙ sorted_items all

pub sort_keys-returns-in_ok-scope-in-JavaScriptCodeWithScope : goal.sort_keys-returns-in_ok-scope-in-JavaScriptCodeWithScope
sort_keys-returns-in_ok-scope-in-JavaScriptCodeWithScope t c =
    let old = c.in-JavaScriptCodeWithScope.code in
    let scope = c.in_ok-scope-in-JavaScriptCodeWithScope in
    view-WithScope (record { code = old.code; scope = scope.scope }) ∙ ap (scoped_code (string_bytes old.code)) scope.ensures
    ∙ ap asc (sym (view-WithScope old)) ∙ ap (λ v. asc (view v)) (sym c.in-JavaScriptCodeWithScope.is)

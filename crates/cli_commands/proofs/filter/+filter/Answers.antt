use Rattle.std.proofs.Common.{◌≡◌, ◌++◌, ◌∷◌, [], List, ap, sym, ◌∙◌, subst, arith}
use Rattle.std.proofs.lemmas.Grind.{common_steps}
use Rattle.std.proofs.lemmas.List.{append-nil, nil_from_length}
use Rattle.std.proofs.lemmas.Result.{err_from_is_err_and}
use Rattle.serde_json.specs.Data.{array}
use Rattle.serde_json.specs.View.{view as data_of, items_view}
use Rattle.serde_json.specs.declared.value.Value.{Value}
use Rattle.cli_commands.specs.Filters.{AreFilters}
use Rattle.cli_commands.proofs.FilterLemmas.{no_filters_of, one_filter}
use Rattle.cli_commands.proofs.filter.+filter.Goals as goal

pub filters_of-returns-in_err-filter_of_json : goal.filters_of-returns-in_err-filter_of_json
filters_of-returns-in_err-filter_of_json t c =
    let l = c.loop-item in
    let p = err_from_is_err_and c.from_residual.result c.from_residual.ensures.1 in
    let whole = ap (λ (left : List Value). array (items_view (l.yielded ++ left))) (sym c.in-Some.ensures.steps.0) in
    rw (p.1, p.2) (no_filters_of (data_of c.args.tree) l.yielded c.in-Some.item c.next.new.self.rest.items c.in_err-filter_of_json.field-0.0 (grind (arith, whole, l.invariant.whole)) c.in_err-filter_of_json.ensures)

pub filters_of-loop-item-preserved : goal.filters_of-loop-item-preserved
filters_of-loop-item-preserved t c = record {
  so_far = grind (arith, common_steps, one_filter c.loop-item.yielded c.in-Some.item c.loop-item.filters.items c.in_ok-filter_of_json.field-0 c.loop-item.invariant.so_far c.in_ok-filter_of_json.ensures);
  whole = grind (arith, common_steps, c.loop-item.invariant.whole);
}

pub filters_of-returns : goal.filters_of-returns
filters_of-returns t c =
    let l = c.loop-item in
    let left = l.item-iterator.rest in
    let none = nil_from_length left.items (sym left.ok.0 ∙ c.in-None.ensures.steps.0) in
    (items_view l.yielded, l.invariant.whole ∙ ap (λ (rest : List Value). array (items_view (l.yielded ++ rest))) none ∙ ap (λ (all : List Value). array (items_view all)) (append-nil l.yielded), l.invariant.so_far)

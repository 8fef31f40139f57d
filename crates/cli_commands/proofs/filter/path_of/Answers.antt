use Rattle.std.proofs.Common.{sym, ap, ◌++◌, List, arith}
use Rattle.std.proofs.lemmas.Grind.{common_steps}
use Rattle.serde_json.specs.Data.{array}
use Rattle.serde_json.specs.View.{items_view}
use Rattle.serde_json.specs.declared.value.Value.{Value}
use Rattle.store_question.specs.Filters.{path_of}
use Rattle.cli_commands.proofs.FilterLemmas.{no_key_among, one_more}
use Rattle.cli_commands.proofs.filter.path_of.Goals as goal

pub returns-in_default-text_of : goal.returns-in_default-text_of
returns-in_default-text_of c = λ path is.
    let l = c.loop-item in
    let whole = ap (λ (left : List Value). array (items_view (l.yielded ++ left))) (sym c.in-Some.ensures.steps.0) in
    no_key_among l.yielded c.in-Some.item c.next.new.self.rest.items path c.in_default-text_of.ensures (grind (arith, whole, l.invariant.whole, is))

pub loop-item-preserved : goal.loop-item-preserved
loop-item-preserved c = record {
  so_far = grind (arith, common_steps, one_more c.loop-item.yielded c.in-Some.item (path_of c.loop-item.path.items) _ c.loop-item.invariant.so_far c.in-Some-text_of.ensures);
  whole = grind (arith, common_steps, c.loop-item.invariant.whole);
}

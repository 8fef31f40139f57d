use Rattle.std.proofs.Common.{Option, ap, sym, ◌∙◌}
use Rattle.std.specs.Prelude.{option_and_then}
use Rattle.bson_base.specs.Value.{Value}
use Rattle.store_question.specs.Asked.{begins_so, text_in}
use Rattle.store_question.proofs.ValueLemmas.{found_spells, shown_some}
use Rattle.store_question.proofs.leaf.begins.Goals as goal

pub returns-in-Some : goal.returns-in-Some
returns-in-Some c = λ o s.
    let f = shown_some c.args.value c.in-Some.found o c.in-Some.is s in
    c.begins_by.ensures
    ∙ ap (begins_so c.args.beginning.now) (c.text_of.ensures f.0 (found_spells c.in-Some.found f.0 f.2))
    ∙ ap (λ (x : Option Value). begins_so c.args.beginning.now (option_and_then text_in x)) (sym f.1)

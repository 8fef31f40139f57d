use Rattle.std.proofs.Common.{Ok, Err, sym, ◌∙◌}
use Rattle.json.specs.Value.{value_view}
use Rattle.store_question.specs.Asked.{all_of, no_asked}
use Rattle.store_question_read.proofs.MadeLemmas.{none_read}
use Rattle.store_question_read.proofs.OnwardLemmas.{when_true}
use Rattle.store_question_read.specs.Query.{is_text_of_options, no_operand}
use Rattle.store_question_read.proofs.conditions.with_options.Goals as goal

pub returns-then-is_text_of_options : goal.returns-then-is_text_of_options
returns-then-is_text_of_options c =
    when_true (is_text_of_options (value_view c.args.tree.now)) (Ok c.all.result) (Ok (all_of no_asked)) (Err (no_operand c.args.key.now)) (sym c.is_text_of_options.ensures ∙ c.if-is_text_of_options.true)
    (c.all.ensures no_asked (none_read c.new.result.items c.new.ensures.items))

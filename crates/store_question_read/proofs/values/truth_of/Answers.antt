use Rattle.std.proofs.Common.{ap, ◌∙◌}
use Rattle.std.specs.Prelude.{option_map}
use Rattle.store_question_read.specs.Values.{is_not_zero}
use Rattle.store_question_read.proofs.LeafLemmas.{truth_by_number}
use Rattle.store_question_read.proofs.values.truth_of.Goals as goal

pub returns-in_default : goal.returns-in_default
returns-in_default c = λ v s. c.truth_by.ensures ∙ ap (option_map is_not_zero) (c.whole_of.ensures v s) ∙ truth_by_number c.args.value v c.in_default.not-Boolean s

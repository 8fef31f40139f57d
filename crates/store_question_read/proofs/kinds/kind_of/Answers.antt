use Rattle.std.proofs.Common.{ap, ◌∙◌}
use Rattle.std.specs.Prelude.{option_and_then}
use Rattle.store_question_read.specs.Kinds.{kind_of_number}
use Rattle.store_question_read.proofs.LeafLemmas.{kind_by_number}
use Rattle.store_question_read.proofs.kinds.kind_of.Goals as goal

pub returns-in_default : goal.returns-in_default
returns-in_default c = λ v s. c.numbered.ensures ∙ ap (option_and_then kind_of_number) (c.whole_of.ensures v s) ∙ kind_by_number c.args.value v c.in_default.not-String s

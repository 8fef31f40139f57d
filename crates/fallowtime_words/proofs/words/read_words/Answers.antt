use Rattle.std.proofs.Common.{◌∷◌, ◌∙◌, ap, map, string_bytes, subst, sym}
use Rattle.std.specs.Prelude.{IfSome}
use Rattle.fallowtime_words.specs.Words.{IsTold}
use Rattle.fallowtime_words.proofs.NoTaskLemmas.{only_one, told_of_strings}
use Rattle.fallowtime_words.proofs.words.read_words.Goals as goal

pub returns-clause-task : goal.returns-clause-task
returns-clause-task c = told_of_strings c.args.words.now c.in_ok-file.file.now c.in_ok-file.behind.now c.as_str-2.result.now c.read_behind.result
    c.in_ok-file.ensures.cases.0 c.as_str-2.ensures.value c.read_behind.ensures.task

pub returns-clause-only : goal.returns-clause-only
returns-clause-only c = only_one _ c.read_behind.result (returns-clause-task c)

pub returns-clause-texts : goal.returns-clause-texts
returns-clause-texts c =
    subst (λ ws. IfSome c.read_behind.result (IsTold ws))
    (ap (λ f. f ∷ map string_bytes c.in_ok-file.behind.now) c.as_str-2.ensures.value ∙ sym (ap (map string_bytes) c.in_ok-file.ensures.cases.0)) c.read_behind.ensures.texts

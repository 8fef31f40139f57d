use Rattle.std.proofs.Common.{sym, subst}
use Rattle.regex.specs.Strings.{regex_pattern}
use Rattle.regex.specs.declared.string.regex.Regex.{Regex}
use Rattle.store_question.specs.Patterns.{IsReadFrom}
use Rattle.store_question_read.proofs.MadeLemmas.{search_asks}
use Rattle.store_question_read.proofs.made.searched.Goals as goal

pub returns : goal.returns
returns c = λ options source r. search_asks c.in_ok-inner.inner options source (subst (λ (x : Regex). IsReadFrom options source (regex_pattern x)) (sym c.in_ok-inner.ensures.ok) r)

use Rattle.std.proofs.Common.{◌≡◌, None, Option, subst}
use Rattle.std.specs.Prelude.{MatchOption}
use Rattle.regex.specs.Strings.{regex_pattern}
use Rattle.regex.specs.declared.string.regex.Regex.{Regex}
use Rattle.store_question.specs.Patterns.{IsReadFrom, pattern_in}
use Rattle.store_question_read.proofs.BuildLemmas.{asks_nothing, asks_searched}
use Rattle.store_question_read.proofs.patterns.searched.Goals as goal

pub returns-in_ok-searched-in-Some : goal.returns-in_ok-searched-in-Some
returns-in_ok-searched-in-Some c =
    let options = c.args.options.now in
    let source = c.args.pattern.now in
    let read = subst (λ (o : Option Regex). MatchOption o (pattern_in options source ≡ None) (λ r. IsReadFrom options source (regex_pattern r))) c.in-Some.is c.in_ok-compiled.ensures in
    asks_searched options source (regex_pattern c.in-Some.regex) c.in_ok-searched-in-Some.field-0 read (c.in_ok-searched-in-Some.ensures options source read)

pub returns-in-None : goal.returns-in-None
returns-in-None c =
    let options = c.args.options.now in
    let source = c.args.pattern.now in
    asks_nothing options source (subst (λ (o : Option Regex). MatchOption o (pattern_in options source ≡ None) (λ r. IsReadFrom options source (regex_pattern r))) c.in-None.is c.in_ok-compiled.ensures)

use Rattle.std.proofs.Common.{refl}
use Rattle.fallowtime_words.proofs.OptionLemmas.{none_is, too_few, no_options, not_taken, read_so}
use Rattle.fallowtime_words.proofs.arguments.read_rest.Goals as goal

pub returns-in_err-taken : goal.returns-in_err-taken
returns-in_err-taken c = none_is _ _ _ c.from_residual.ensures (too_few c.args.command c.args.words.now _ c.argument_count.ensures.only c.in_err-taken.ensures.cases)

pub returns-in_err-options : goal.returns-in_err-options
returns-in_err-options c = none_is _ _ _ c.from_residual-in_err-options.ensures
    (no_options c.args.command c.args.words.now c.in_ok-taken.taken.now c.in_ok-taken.given.now _ c.argument_count.ensures.only c.in_ok-taken.ensures.cases c.in_err-options.ensures)

pub returns-then-not-takes : goal.returns-then-not-takes
returns-then-not-takes c = not_taken c.args.command c.args.words.now c.in_ok-taken.taken.now c.in_ok-taken.given.now _ c.in_ok-options.options
    c.argument_count.ensures.only c.in_ok-taken.ensures.cases c.in_ok-options.ensures (λ h. let on = c.if-not-takes.ensures.1 h in cc)

pub returns : goal.returns
returns c = read_so c.args.command c.args.words.now c.in_ok-taken.taken.now c.in_ok-taken.given.now _ c.in_ok-options.options
    c.in_ok-taken.ensures.cases c.argument_count.ensures.taken c.in_ok-options.ensures (c.if-not-takes.ensures.0 refl)

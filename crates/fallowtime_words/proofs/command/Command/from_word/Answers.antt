use Rattle.fallowtime_words.specs.Commands.{command_of}
use Rattle.fallowtime_words.proofs.NameLemmas.{names}
use Rattle.fallowtime_words.proofs.command.Command.from_word.Goals as goal

pub returns-clause-is : goal.returns-clause-is
unfolding command_of
returns-clause-is c = c.command_in.ensures

pub returns-clause-named : goal.returns-clause-named
returns-clause-named c = names c.args.word.now c.command_in.result (returns-clause-is c)

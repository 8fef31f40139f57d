use Rattle.std.proofs.Common.{rules}
use Rattle.fallowtime_words.proofs.help.command_help.Goals as goal

pub returns : goal.returns
returns c = (c.text_of.result.now, c.behind.result.now, search rules)

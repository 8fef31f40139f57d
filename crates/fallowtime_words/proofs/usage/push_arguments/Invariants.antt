use Rattle.std.proofs.Common.{◌≡◌, ◌++◌, drop, string_bytes}
use Rattle.fallowtime_words.specs.Usage.{arguments_text}
use Rattle.fallowtime_words.proofs.usage.push_arguments.Given as goal

abbrev pub invariant-loop-argument : goal.invariant-loop-argument
invariant-loop-argument l = string_bytes l.text ++ arguments_text (drop l.argument-index l.arguments) ≡ string_bytes l.initial.text ++ arguments_text l.arguments

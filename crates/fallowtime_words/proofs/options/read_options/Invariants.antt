use Rattle.std.proofs.Common.{◌↔◌, length, map, string_bytes}
use Rattle.fallowtime_words.specs.Options.{AreOptions}
use Rattle.fallowtime_words.specs.declared.options.Options.{Options}
use Rattle.fallowtime_words.proofs.GatherLemmas.{Left}
use Rattle.fallowtime_words.proofs.options.read_options.Given as goal

abbrev pub invariant-loop-rest : goal.invariant-loop-rest
invariant-loop-rest l = (all : Options) → AreOptions (map string_bytes l.words) all ↔ Left l.options (map string_bytes l.rest) all

abbrev pub decreases-loop-rest : goal.decreases-loop-rest
decreases-loop-rest l = length l.rest

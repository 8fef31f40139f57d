use Rattle.std.proofs.Common.{arith}
use Rattle.std.proofs.lemmas.Bool.Decides.{nat_tests}
use Rattle.bson_store.proofs.CodeLemmas.{behind_end}
use Rattle.bson_store.proofs.indexed.parts.byte_at.Goals as goal

pub returns-in-None-clause-step : goal.returns-in-None-clause-step
returns-in-None-clause-step c n = let e = c.in-None.ensures.lookup.0 in behind_end n c.args.i c.args.text.now (grind (arith, nat_tests))

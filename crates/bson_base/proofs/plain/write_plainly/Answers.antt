use Rattle.std.proofs.Common.{rules}
use Rattle.bson_base.proofs.PlainLemmas.{written_styled, plain_from_styled}
use Rattle.bson_base.proofs.plain.write_plainly.Goals as goal

pub returns-clause-styled : goal.returns-clause-styled
returns-clause-styled g c = written_styled g.W.Write.write_str_gives _ c.write.new.self _ c.write.result (g.D.Display.output c.args.value) (λ same. search rules) c.write.ensures.writes

pub returns-clause-plain : goal.returns-clause-plain
returns-clause-plain g c = plain_from_styled g.W.Write.write_str_gives _ _ _ _ (returns-clause-styled g c)

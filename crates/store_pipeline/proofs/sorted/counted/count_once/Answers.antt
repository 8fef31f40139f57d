use Rattle.std.proofs.Common.{eq-eqb, refl, rules}
use Rattle.store_pipeline.proofs.TakeLemmas.{told_already, told_more, unlike}
use Rattle.store_pipeline.proofs.sorted.counted.count_once.Goals as goal

pub returns-then-counted-number : goal.returns-then-counted-number
returns-then-counted-number c = (refl, c.if-counted-number.true, told_already _ _ (eq-eqb c.args.counted.now.last c.args.number c.if-counted-number.true))

pub returns : goal.returns
returns c = (refl, refl, told_more _ _ _ (unlike c.args.counted.now.last c.args.number c.if-counted-number.false) (search rules))

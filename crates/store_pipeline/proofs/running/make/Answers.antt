use Rattle.store_pipeline.proofs.RunLemmas.{limited, skipped}
use Rattle.store_pipeline.proofs.running.make.Goals as goal

pub returns-in-Skip : goal.returns-in-Skip
returns-in-Skip c = λ ds are. skipped c.args.stage.now c.in-Skip.number ds c.args.bodies.items c.skip.result c.in-Skip.is c.skip.ensures are

pub returns-in-Limit : goal.returns-in-Limit
returns-in-Limit c = λ ds are. limited c.args.stage.now c.in-Limit.number ds c.args.bodies.items c.limit.result c.in-Limit.is c.limit.ensures are

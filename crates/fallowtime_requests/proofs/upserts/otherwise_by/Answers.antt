use Rattle.store_question_read.specs.Seed.{fixed_by}
use Rattle.fallowtime_requests.specs.Inputs.{seen}
use Rattle.fallowtime_requests.proofs.UpsertLemmas.{otherwise_keeps, otherwise_made}
use Rattle.fallowtime_requests.proofs.upserts.otherwise_by.Goals as goal

pub returns-clause-made : goal.returns-clause-made
returns-clause-made c = otherwise_made c.args.maker.now c.otherwise_of.new.maker (fixed_by c.in_ok-seed.seed) c.args.work.now (seen c.args.query) c.otherwise_of.result c.in_ok-seed.ensures c.otherwise_of.ensures

pub returns-clause-maker : goal.returns-clause-maker
returns-clause-maker c = otherwise_keeps c.args.maker.now c.otherwise_of.new.maker (fixed_by c.in_ok-seed.seed) c.args.work.now c.otherwise_of.result c.otherwise_of.ensures

use Rattle.store_question.specs.Filters.{filter_of}
use Rattle.bson_store.proofs.SelectLemmas.{gave_more, gave_fault}
use Rattle.bson_store.proofs.picking.FilterVisitorVisit.visit.Goals as goal

pub returns-in-Ok-clause-took : goal.returns-in-Ok-clause-took
returns-in-Ok-clause-took g c first bodies h =
    let took = g.T.Take.took first.taker in
    (h.0, gave_more (took c.args.self.now.taker) (took c.pick_row.new.taker) (filter_of c.args.self.now.filter.now) bodies c.args.body.now c.args.self.now.fault (c.in-Ok.ensures.picked first.taker) h.1)

pub returns-in-Err-clause-took : goal.returns-in-Err-clause-took
returns-in-Err-clause-took g c first bodies h = (h.0, gave_fault (g.T.Take.took first.taker c.pick_row.new.taker) (filter_of c.args.self.now.filter.now) bodies c.args.body.now c.in-Err.error c.in-Err.ensures.denied)

use Rattle.store_question.specs.Reads.{form_of}
use Rattle.fallowtime_commands.proofs.AggregateLemmas.{all_asked}
use Rattle.fallowtime_commands.proofs.aggregating.look_up_all.Goals as goal

pub returns-clause-reads : goal.returns-clause-reads
returns-clause-reads g c clean docs are =
    let all = c.all_as_they_come-arrangement in
    all_asked all.result all.ensures.keys all.ensures.skip all.ensures.limit c.args.name.now (form_of c.args.question.now) c.look_up_arranged.result docs docs (c.look_up_arranged.ensures.reads clean docs are)

use Rattle.std.proofs.lemmas.Result.{err_from_is_err_and}
use Rattle.store_question.specs.Filters.{filter_of}
use Rattle.store_asked.specs.declared.answering.Answering.{Answering}
use Rattle.store_question.specs.Reads.{form_of}
use Rattle.store_asked.proofs.AskLemmas.{all_taken, none_taken}
use Rattle.store_asked.proofs.FrontLemmas.{all_front}
use Rattle.store_asked.proofs.asking.look_up_answers.Goals as goal

pub returns-in_err-taken-clause-reads : goal.returns-in_err-taken-clause-reads
returns-in_err-taken-clause-reads g c clean docs are =
    let p = err_from_is_err_and c.from_residual.result c.from_residual.ensures.1 in
    let everything = filter_of c.select_all-everything.result in
    let first : Answering g.row.T.Denot = record { alloc = c.args.alloc; question = c.args.question; taker = c.args.taker } in
    rw (p.1, p.2) (none_taken g.T.Take.took first everything (all_front (form_of c.args.question.now) everything c.select_all-everything.ensures) c.args.name.now docs docs c.in_err-taken.field-0.0 (c.in_err-taken.ensures.reads clean docs are))

pub returns-clause-reads : goal.returns-clause-reads
returns-clause-reads g c clean docs are =
    let everything = filter_of c.select_all-everything.result in
    let first : Answering g.row.T.Denot = record { alloc = c.args.alloc; question = c.args.question; taker = c.args.taker } in
    all_taken g.T.Take.took first everything (all_front (form_of c.args.question.now) everything c.select_all-everything.ensures) c.args.name.now docs docs c.in_ok-taken.taken (c.in_ok-taken.ensures.reads clean docs are)

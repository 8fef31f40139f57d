use Rattle.std.proofs.Common.{refl, rules}
use Rattle.bson_raw.specs.View.{bytes_of}
use Rattle.store_asked.specs.declared.answering.Answering.{Answering}
use Rattle.store_asked.proofs.KeepLemmas.{handed_on, passed_over}
use Rattle.store_asked.proofs.answering.AnsweringTake.take.Goals as goal

pub returns-in_ok-take-clause-took : goal.returns-in_ok-take-clause-took
returns-in_ok-take-clause-took g c first out d kept is h =
    let old : Answering g.row.T.Denot = c.args.self.now in
    let new : Answering g.row.T.Denot = record { alloc = old.alloc; question = old.question; taker = c.take.new.self } in
    handed_on g.T.Take.took first old (bytes_of c.args.document) out d kept is c.in_ok-held.held c.in_ok-held.ensures new (search rules) refl (λ es took. c.in_ok-take.ensures.took first.taker es d kept is took) h

pub returns-else-held-clause-took : goal.returns-else-held-clause-took
returns-else-held-clause-took g c first out d kept is h = passed_over g.T.Take.took first c.args.self.now (bytes_of c.args.document) out d kept is c.in_ok-held.held c.in_ok-held.ensures (search rules) h

use Rattle.std.proofs.Common.{[], ◌∷◌, map, Some, sym, subst}
use Rattle.std.proofs.lemmas.List.{map-append}
use Rattle.store_question.specs.Filters.{filter_of}
use Rattle.store_table.specs.Documents.{Doc}
use Rattle.store_table.specs.PageRows.{doc_at}
use Rattle.bson_store.specs.Questions.{GivesPicked}
use Rattle.bson_store.proofs.SelectLemmas.{gave_fault, gave_more}
use Rattle.store_asked.proofs.selecting.SelectVisitorVisitRows.visit.Goals as goal

pub returns-in-Ok-clause-took : goal.returns-in-Ok-clause-took
returns-in-Ok-clause-took g c first docs h =
    let took = g.T.Take.took first.taker in
    let f = filter_of c.args.self.now.filter.now in (
      h.0,
      subst (λ l. GivesPicked (took c.hand_on.new.taker) f l c.args.self.now.fault) (sym (map-append (λ (d : Doc). d.body) docs (doc_at c.args._place c.args.row.now ∷ [])))
          (gave_more (took c.args.self.now.taker) (took c.hand_on.new.taker) f (map (λ (d : Doc). d.body) docs) c.args.row.now.body.now c.args.self.now.fault (c.in-Ok.ensures.picked first.taker) h.1),
    )

pub returns-in-Err-clause-took : goal.returns-in-Err-clause-took
returns-in-Err-clause-took g c first docs h =
    let took = g.T.Take.took first.taker c.hand_on.new.taker in
    let f = filter_of c.args.self.now.filter.now in (
      h.0,
      subst (λ l. GivesPicked took f l (Some c.in-Err.error)) (sym (map-append (λ (d : Doc). d.body) docs (doc_at c.args._place c.args.row.now ∷ [])))
          (gave_fault took f (map (λ (d : Doc). d.body) docs) c.args.row.now.body.now c.in-Err.error c.in-Err.ensures.denied),
    )

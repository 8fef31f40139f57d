use Rattle.std.proofs.Common.{◌≡◌, rules, Ok, Err, None, refl, subst}
use Rattle.store_question.specs.Filters.{filter_of}
use Rattle.store_documents.specs.Names.{name_bytes}
use Rattle.bson_store.specs.Questions.{Picked}
use Rattle.store_asked.specs.declared.selecting.SelectVisitor.{SelectVisitor}
use Rattle.store_asked.proofs.ReadLemmas.{all_selected, one_refused, untaken, visited}
use Rattle.store_asked.proofs.store.ReadOnlyStore.pick.Goals as goal

pub returns-in-Err-clause-reads : goal.returns-in-Err-clause-reads
returns-in-Err-clause-reads g c clean docs are = untaken (g.T.Take.took c.args.taker) docs (name_bytes c.args.name) (filter_of c.args.filter.now) c.refusal_of_error.result c.refusal_of_error.ensures

pub returns-in-None-clause-reads : goal.returns-in-None-clause-reads
returns-in-None-clause-reads g c clean docs are =
    let took = g.T.Take.took in
    let first : SelectVisitor g.row.T.Denot = record { filter = c.args.filter; taker = c.args.taker; alloc = c.args.self.now.alloc; fault = None } in
    let last = c.visit-visited.new.visitor in
    let coll = c.as_bytes.result.now in
    let same : coll ≡ name_bytes c.args.name = search rules in
    let h = visited took first last coll docs g.P.Pages c.args.self.now.pages c.visit-visited.new.pages c.args.self.now.roots.table c.args.self.now.roots.index c.in-Ok.field-0 clean are c.in-Ok.ensures.whole c.visit-visited.ensures.some in
    subst (λ n. Picked (took c.args.taker) n (filter_of c.args.filter.now) (Ok last.taker) docs docs) same (all_selected took first last coll docs c.requires refl c.in-Ok.field-0 c.in-None.is c.in-Ok.ensures.stopped h)

pub returns-in-Some-clause-reads : goal.returns-in-Some-clause-reads
returns-in-Some-clause-reads g c clean docs are =
    let took = g.T.Take.took in
    let first : SelectVisitor g.row.T.Denot = record { filter = c.args.filter; taker = c.args.taker; alloc = c.args.self.now.alloc; fault = None } in
    let last = c.visit-visited.new.visitor in
    let coll = c.as_bytes.result.now in
    let same : coll ≡ name_bytes c.args.name = search rules in
    let h = visited took first last coll docs g.P.Pages c.args.self.now.pages c.visit-visited.new.pages c.args.self.now.roots.table c.args.self.now.roots.index c.in-Ok.field-0 clean are c.in-Ok.ensures.whole c.visit-visited.ensures.some in
    subst (λ n. Picked (took c.args.taker) n (filter_of c.args.filter.now) (Err c.in-Some.error) docs docs) same (one_refused took first last coll docs c.requires refl c.in-Ok.field-0 c.in-Some.error c.in-Some.is h)

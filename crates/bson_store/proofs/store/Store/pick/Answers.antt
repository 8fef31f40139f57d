use Rattle.store_question.specs.Filters.{filter_of}
use Rattle.store_documents.specs.Names.{name_bytes}
use Rattle.bson_store.specs.Calls.{store_state}
use Rattle.bson_store.specs.Questions.{Picked}
use Rattle.bson_store.proofs.MoveLemmas.{moved}
use Rattle.bson_store.proofs.SelectLemmas.{picked_of}
use Rattle.bson_store.proofs.store.Store.pick.Goals as goal

pub returns-clause-moves : goal.returns-clause-moves
returns-clause-moves g c =
    let took = g.T.Take.took c.args.taker in
    let n = name_bytes c.args.name in
    let f = filter_of c.args.filter.now in
    moved (store_state g.S.Store c.args.self.now) (store_state g.S.Store c.pick_of.new.self) _ (Picked took n f c.pick_of.result) c.pick_of.ensures.moves
    (λ docs after h. picked_of took n _ f docs after c.pick_of.result (λ d selected. (selected, tt)) h)

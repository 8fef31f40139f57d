use Rattle.std.proofs.Common.{Err, inr, refl}
use Rattle.std.proofs.lemmas.Result.{err_from_is_err_and}
use Rattle.store_question.specs.Filters.{filter_of}
use Rattle.bson_store.specs.Fronts.{Passes}
use Rattle.store_documents.specs.Names.{name_bytes}
use Rattle.bson_store.specs.Calls.{store_state}
use Rattle.bson_store.specs.Questions.{PassedFrom}
use Rattle.store_model.specs.Refusal.{refusal}
use Rattle.store_model.specs.declared.error.ErrorKind.TheVariants.{BadName}
use Rattle.bson_store.proofs.MoveLemmas.{rests}
use Rattle.bson_store.proofs.SelectLemmas.{passed_from}
use Rattle.bson_store.proofs.store.Store.take_passing.Goals as goal

pub returns-in_err-name-clause-moves : goal.returns-in_err-name-clause-moves
returns-in_err-name-clause-moves g c =
    let p = err_from_is_err_and c.from_residual.result c.from_residual.ensures.1 in
    rw (p.1, p.2, c.in_err-name.ensures.0) (rests (store_state g.S.Store c.args.self.now) (PassedFrom (g.T.Take.took c.args.taker) c.args.name.now (Passes c.args.front.now) (Err (refusal BadName))) (λ docs. inr (c.in_err-name.ensures.1, refl, refl)))

pub returns-clause-moves : goal.returns-clause-moves
returns-clause-moves g c =
    passed_from (g.T.Take.took c.args.taker) (store_state g.S.Store c.args.self.now) (store_state g.S.Store c.pick_of.new.self) c.args.name.now (name_bytes c.in_ok-name.name) (Passes c.args.front.now) (filter_of c.select_all-everything.result) c.pick_of.result c.in_ok-name.ensures.0 c.in_ok-name.ensures.1 c.select_all-everything.ensures c.pick_of.ensures.moves

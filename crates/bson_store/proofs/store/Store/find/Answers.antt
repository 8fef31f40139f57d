use Rattle.std.proofs.Common.{ap, refl}
use Rattle.std.proofs.lemmas.Result.{err_from_is_err_and}
use Rattle.store_question.specs.Filters.{filter_of}
use Rattle.store_documents.specs.Names.{name_bytes}
use Rattle.store_model.specs.State as model
use Rattle.bson_store.specs.Calls.{store_state}
use Rattle.bson_store.specs.Questions.{as_list}
use Rattle.bson_store.proofs.ExitLemmas.{bad_moves}
use Rattle.bson_store.proofs.SelectLemmas.{HasCopies, picked_moves, unpicked_moves}
use Rattle.bson_store.proofs.store.Store.find.Goals as goal

pub returns-in_err-name-clause-moves : goal.returns-in_err-name-clause-moves
returns-in_err-name-clause-moves g c =
    let p = err_from_is_err_and c.from_residual.result c.from_residual.ensures.1 in
    rw (p.1, p.2, c.in_err-name.ensures.0) (bad_moves (store_state g.S.Store c.args.self.now) c.args.name.now (model.find (filter_of c.args.filter.now)) c.in_err-name.ensures.1)

pub returns-in_err-copies-clause-moves : goal.returns-in_err-copies-clause-moves
returns-in_err-copies-clause-moves g c =
    let p = err_from_is_err_and c.from_residual-in_err-copies.result c.from_residual-in_err-copies.ensures.1 in
    rw (p.1, p.2)
    (unpicked_moves (HasCopies) (store_state g.S.Store c.args.self.now) (store_state g.S.Store c.pick.new.self) c.args.name.now (name_bytes c.in_ok-name.name) (filter_of c.args.filter.now) c.in_err-copies.field-0.0 (model.find (filter_of c.args.filter.now))
    c.in_ok-name.ensures.0 c.in_ok-name.ensures.1 (λ d. d) c.in_err-copies.ensures.moves)

pub returns-clause-moves : goal.returns-clause-moves
returns-clause-moves g c =
    picked_moves (HasCopies) (store_state g.S.Store c.args.self.now) (store_state g.S.Store c.pick.new.self) c.args.name.now (name_bytes c.in_ok-name.name) (filter_of c.args.filter.now) c.in_ok-copies.copies (model.find (filter_of c.args.filter.now)) (as_list c.in_ok-copies.copies.bodies)
    c.in_ok-name.ensures.0 c.in_ok-name.ensures.1 (λ l out picks t. (out, picks, ap model.bytes_list t, refl)) c.in_ok-copies.ensures.moves

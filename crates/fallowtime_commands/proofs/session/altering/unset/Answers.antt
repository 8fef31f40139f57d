use Rattle.std.proofs.Common.{Ok, Err, rules, subst}
use Rattle.std.proofs.lemmas.Result.{err_from_is_err_and}
use Rattle.bson_model.specs.View.{view}
use Rattle.bson_store.specs.Calls.{store_state}
use Rattle.bson_store.proofs.MoveLemmas.{rests, moved, moved_twice}
use Rattle.bson_store.specs.Drafting.{GetsDrafted}
use Rattle.bson_store.specs.Whole.{EditsOne}
use Rattle.store_model.specs.State.{IsFreeKey}
use Rattle.fallowtime_commands.specs.Drafting.{IsUnsetting}
use Rattle.fallowtime_commands.proofs.UnsettingLemmas.{unset_bad, unset_done, unset_refused, unset_stays, unset_ungot, unset_unmade}
use Rattle.fallowtime_commands.proofs.session.altering.unset.Goals as goal

pub returns-in_err-body-clause-moves : goal.returns-in_err-body-clause-moves
returns-in_err-body-clause-moves g c =
    let free : IsFreeKey c.args.key.now = search rules in
    let p = err_from_is_err_and c.from_residual.result c.from_residual.ensures.1 in
    rw (p.1, p.2) (moved (store_state g.S.Store c.args.store.now) (store_state g.S.Store c.get_drafted.new.store) (GetsDrafted c.args.name.now (view c.args.id.now) c.args.edits.now.draft (Err c.in_err-body.field-0.0)) _ c.in_err-body.ensures.moves (λ docs after h. unset_ungot c.args.name.now c.args.id.now c.args.key free c.args.edits.now.draft docs after c.in_err-body.field-0.0 h))

pub returns-in_err-found-clause-moves : goal.returns-in_err-found-clause-moves
returns-in_err-found-clause-moves g c =
    let p = err_from_is_err_and c.from_residual-in_err-found.result c.from_residual-in_err-found.ensures.1 in
    rw (p.1, p.2) (moved (store_state g.S.Store c.args.store.now) (store_state g.S.Store c.get_drafted.new.store) (GetsDrafted c.args.name.now (view c.args.id.now) c.args.edits.now.draft (Ok c.in_ok-body.body)) _ c.in_ok-body.ensures.moves
    (λ docs after h. unset_unmade c.args.name.now c.args.id.now c.args.key c.in_ok-body.body c.args.edits.now.draft docs after c.in_err-found.field-0.0 (λ d kept is. c.in_err-found.ensures d kept (rw c.as_slice.ensures.value is)) h))

pub returns-in_default-clause-moves : goal.returns-in_default-clause-moves
returns-in_default-clause-moves g c =
    let free : IsFreeKey c.args.key.now = search rules in
    (moved (store_state g.S.Store c.args.store.now) (store_state g.S.Store c.get_drafted.new.store) (GetsDrafted c.args.name.now (view c.args.id.now) c.args.edits.now.draft (Ok c.in_ok-body.body)) _ c.in_ok-body.ensures.moves
    (λ docs after h. unset_stays c.args.name.now c.args.id.now c.args.key free c.in_ok-body.body c.args.edits.now.draft docs after (λ d kept is. subst (IsUnsetting c.args.name.now c.args.key.now d) c.in_default.is (c.in_ok-found.ensures d kept (rw c.as_slice.ensures.value is))) h))

pub returns-in_err-put_edit-clause-moves : goal.returns-in_err-put_edit-clause-moves
returns-in_err-put_edit-clause-moves g c =
    let free : IsFreeKey c.args.key.now = search rules in
    let p = err_from_is_err_and c.from_residual-in_err-put_edit.result c.from_residual-in_err-put_edit.ensures.1 in
    rw (p.1, p.2) (moved_twice (store_state g.S.Store c.args.store.now) (store_state g.S.Store c.get_drafted.new.store) (store_state g.S.Store c.put_edit.new.store) (GetsDrafted c.args.name.now (view c.args.id.now) c.args.edits.now.draft (Ok c.in_ok-body.body)) (EditsOne c.in-Some.edit (Err c.in_err-put_edit.field-0.0) c.args.edits.now.draft c.put_edit.new.edits.draft) _ c.in_ok-body.ensures.moves c.in_err-put_edit.ensures.moves
    (λ docs mid after h k. unset_refused c.args.name.now c.args.id.now c.args.key free c.in_ok-body.body c.in-Some.edit (λ d kept is. subst (IsUnsetting c.args.name.now c.args.key.now d) c.in-Some.is (c.in_ok-found.ensures d kept (rw c.as_slice.ensures.value is))) c.in_err-put_edit.field-0.0 c.args.edits.now.draft c.put_edit.new.edits.draft docs mid after h k))

pub returns-clause-moves : goal.returns-clause-moves
returns-clause-moves g c =
    let free : IsFreeKey c.args.key.now = search rules in
    moved_twice (store_state g.S.Store c.args.store.now) (store_state g.S.Store c.get_drafted.new.store) (store_state g.S.Store c.put_edit.new.store) (GetsDrafted c.args.name.now (view c.args.id.now) c.args.edits.now.draft (Ok c.in_ok-body.body)) (EditsOne c.in-Some.edit (Ok tt) c.args.edits.now.draft c.put_edit.new.edits.draft) _ c.in_ok-body.ensures.moves c.in_ok-put_edit.ensures.moves
    (λ docs mid after h k. unset_done c.args.name.now c.args.id.now c.args.key free c.in_ok-body.body c.in-Some.edit (λ d kept is. subst (IsUnsetting c.args.name.now c.args.key.now d) c.in-Some.is (c.in_ok-found.ensures d kept (rw c.as_slice.ensures.value is))) c.args.edits.now.draft c.put_edit.new.edits.draft docs mid after h k)

pub returns-then-not-can_be_set-clause-moves : goal.returns-then-not-can_be_set-clause-moves
returns-then-not-can_be_set-clause-moves g c =
    rests (store_state g.S.Store c.args.store.now) _ (λ docs. unset_bad c.args.name.now c.args.id.now c.args.key c.args.edits.now.draft docs c.unsettable.result (search rules) c.unsettable.ensures)

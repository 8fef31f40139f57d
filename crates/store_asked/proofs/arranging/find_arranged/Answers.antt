use Rattle.std.proofs.Common.{subst, Ok}
use Rattle.std.proofs.lemmas.Result.{err_from_is_err_and}
use Rattle.bson_store.proofs.MoveLemmas.{moved, moved_twice}
use Rattle.bson_store.specs.Calls.{Relates, store_state}
use Rattle.store_asked.specs.Arranged.{AreArranged}
use Rattle.store_asked.specs.Asking.{AskedFrom}
use Rattle.store_asked.specs.Near.{MayTell}
use Rattle.store_question.specs.Reads.{form_of}
use Rattle.store_asked.proofs.NearLemmas.{denied_so, then_all, told_so}
use Rattle.store_asked.proofs.arranging.find_arranged.Goals.{in-Some+in_ok-told+in_default-told, in_default}
use Rattle.store_asked.proofs.arranging.find_arranged.Goals as goal

pub returns-in_err-told-clause-moves : goal.returns-in_err-told-clause-moves
returns-in_err-told-clause-moves g c =
    let p = err_from_is_err_and c.from_residual.result c.from_residual.ensures.1 in
    rw (p.1, p.2) (moved (store_state g.S.Store c.args.store.now) (store_state g.S.Store c.find_near.new.store) _ _ c.in_err-told.ensures.moves (λ docs after h. denied_so c.args.arrangement.now c.args.name.now (form_of c.args.question.now) c.in_err-told.field-0.0 docs after h))

pub returns-in-Some-told-clause-moves : goal.returns-in-Some-told-clause-moves
returns-in-Some-told-clause-moves g c =
    moved (store_state g.S.Store c.args.store.now) (store_state g.S.Store c.find_near.new.store) _ _ c.in_ok-told.ensures.moves (λ docs after h. told_so c.args.arrangement.now c.args.name.now (form_of c.args.question.now) c.in-Some-told.bodies docs after (subst (λ o. MayTell (AreArranged c.args.arrangement.now) c.args.name.now (form_of c.args.question.now) (Ok o) docs after) c.in-Some-told.is h))

pub returns-clause-moves : goal.returns-clause-moves
returns-clause-moves g c = elim c.match-near_end.branch [
  | in-Some+in_ok-told+in_default-told w ↦
      moved_twice (store_state g.S.Store c.args.store.now) (store_state g.S.Store w.find_near.new.store) (store_state g.S.Store c.gather.new.store)
      (MayTell (AreArranged c.args.arrangement.now) c.args.name.now (form_of c.args.question.now) (Ok w.in_ok-told.told)) _ _
      w.in_ok-told.ensures.moves
      (subst (λ st. Relates g.S.Store st c.gather.new.store (AskedFrom (AreArranged c.args.arrangement.now) c.args.name.now (form_of c.args.question.now) c.gather.result)) w.store-is c.gather.ensures.moves)
      (λ docs mid after h k. then_all c.args.arrangement.now c.args.name.now (form_of c.args.question.now) c.gather.result docs mid after (subst (λ o. MayTell (AreArranged c.args.arrangement.now) c.args.name.now (form_of c.args.question.now) (Ok o) docs mid) w.in_default-told.is h) k)
  | in_default w ↦ subst (λ st. Relates g.S.Store st c.gather.new.store (AskedFrom (AreArranged c.args.arrangement.now) c.args.name.now (form_of c.args.question.now) c.gather.result)) w.store-is c.gather.ensures.moves
]

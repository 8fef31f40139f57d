use Rattle.std.proofs.Common.{◌∙◌, ap, sym, subst}
use Rattle.std.proofs.lemmas.Result.{err_from_is_err_and}
use Rattle.bson_store.proofs.MoveLemmas.{moved}
use Rattle.bson_store.specs.Calls.{store_state}
use Rattle.store_question.specs.Reads.{form_of}
use Rattle.store_pipeline.specs.Bodies.{keys_of}
use Rattle.store_pipeline.specs.Held.{top_bodies}
use Rattle.store_asked.specs.Near.{AreFirst}
use Rattle.store_asked.specs.declared.first.First.{First}
use Rattle.store_asked.proofs.NearLemmas.{near_denied, near_told, near_untold}
use Rattle.store_asked.proofs.nearing.find_near.Goals as goal

pub returns-in_err-taken-clause-moves : goal.returns-in_err-taken-clause-moves
returns-in_err-taken-clause-moves g c =
    let p = err_from_is_err_and c.from_residual.result c.from_residual.ensures.1 in
    let first : First = record { top = c.new.result; keys = c.new-2.result } in
    rw (p.1, p.2) (moved (store_state g.S.Store c.args.store.now) (store_state g.S.Store c.take_near.new.store) _ _ c.in_err-taken.ensures.moves
    (λ docs after h. near_denied c.args.arrangement.now c.args.name.now (form_of c.args.question.now) c.args.near.now.range c.args.near.now.key.now first docs after c.requires.ends c.in_err-taken.field-0.0 h))

pub returns-then-not-are_first-clause-moves : goal.returns-then-not-are_first-clause-moves
returns-then-not-are_first-clause-moves g c =
    let first : First = record { top = c.new.result; keys = c.new-2.result } in
    moved (store_state g.S.Store c.args.store.now) (store_state g.S.Store c.take_near.new.store) _ _ c.in_ok-taken.ensures.moves
    (λ docs after h. near_untold c.args.arrangement.now c.args.name.now (form_of c.args.question.now) c.args.near.now.range c.args.near.now.key.now first docs after c.requires.ends c.in_ok-taken.taken h)

pub returns-clause-moves : goal.returns-clause-moves
returns-clause-moves g c =
    let first : First = record { top = c.new.result; keys = c.new-2.result } in
    moved (store_state g.S.Store c.args.store.now) (store_state g.S.Store c.take_near.new.store) _ _ c.in_ok-taken.ensures.moves
    (λ docs after h. near_told c.args.arrangement.now c.args.name.now (form_of c.args.question.now) c.args.near.now.range c.args.near.now.key.now first docs after c.requires.ends c.in_ok-taken.taken c.into_bodies.result c.into_window.result c.requires.key (c.requires.wanted.0, c.requires.wanted.1, c.new.ensures.limit ∙ c.requires.wanted.2) (c.new.ensures.keys ∙ ap keys_of c.as_slice.ensures.value) (subst (λ m. AreFirst (top_bodies c.in_ok-taken.taken.top) m c.args.near.now.key.now c.args.near.now.range) (sym c.new.ensures.limit) (subst (λ bs. AreFirst bs c.args.near.now.wanted c.args.near.now.key.now c.args.near.now.range) c.bodies.ensures.bodies (c.are_first.ensures c.if-not-are_first.false))) c.into_bodies.ensures c.into_window.ensures h)

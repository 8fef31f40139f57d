use Rattle.std.proofs.Common.{◌∙◌, ap}
use Rattle.std.proofs.lemmas.Result.{err_from_is_err_and}
use Rattle.bson_store.proofs.MoveLemmas.{moved}
use Rattle.bson_store.specs.Calls.{store_state}
use Rattle.store_asked.proofs.AskLemmas.{answered_as, refused_as}
use Rattle.fallowtime_commands.specs.Asking.{HasPart, counted}
use Rattle.fallowtime_commands.proofs.asking.count_part.Goals as goal

pub returns-in_err-number-clause-moves : goal.returns-in_err-number-clause-moves
returns-in_err-number-clause-moves g c =
    let p = err_from_is_err_and c.from_residual.result c.from_residual.ensures.1 in
    rw (p.1, p.2) (moved (store_state g.S.Store c.args.store.now) (store_state g.S.Store c.count.new.store) _ _ c.in_err-number.ensures.moves (λ docs after h. refused_as _ (HasPart c.args.part.now) _ _ docs after c.in_err-number.field-0.0 h))

pub returns-clause-moves : goal.returns-clause-moves
returns-clause-moves g c = moved (store_state g.S.Store c.args.store.now) (store_state g.S.Store c.count.new.store) _ _ c.in_ok-number.ensures.moves (λ docs after h. answered_as _ (HasPart c.args.part.now) _ _ docs after c.in_ok-number.number c.counted.result (λ ds t. c.counted.ensures ∙ ap (counted c.args.part.now) t) h)

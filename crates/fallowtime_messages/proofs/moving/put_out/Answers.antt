use Rattle.std.proofs.Common.{sym, subst, string_bytes}
use Rattle.std.proofs.lemmas.Result.{err_from_is_err_and}
use Rattle.bson_store.specs.Calls.{store_state}
use Rattle.bson_store.specs.Export.{bytes_of_each}
use Rattle.fallowtime_messages.specs.Done.{DoesAll}
use Rattle.fallowtime_messages.specs.Outcomes.{PutsOr}
use Rattle.fallowtime_messages.proofs.MovingLemmas.{all_out, none_out}
use Rattle.fallowtime_messages.proofs.moving.put_out.Goals as goal

pub returns-in_err-all : goal.returns-in_err-all
returns-in_err-all g c =
    let p = err_from_is_err_and c.from_residual.result c.from_residual.ensures.1 in
    let s = store_state g.S.Store c.args.store.now in
    let target = string_bytes c.args.target.now in
    let space = string_bytes c.args.space.now in
    let bodies = bytes_of_each c.args.bodies.now in
    subst (λ r. DoesAll (PutsOr target space bodies r) s s) (sym p.1) (none_out target space bodies p.0 s)

pub returns : goal.returns
returns g c =
    let did = c.perform_statement-outcome in
    all_out (string_bytes c.args.target.now) (string_bytes c.args.space.now) (bytes_of_each c.args.bodies.now) c.in_ok-all.all did.result c.tell_out.result (store_state g.S.Store c.args.store.now) (store_state g.S.Store did.new.store)
    c.in_ok-all.ensures did.ensures.did did.ensures.shape c.tell_out.ensures

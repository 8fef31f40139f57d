use Rattle.std.proofs.Common.{rules, ◌≡◌, refl, sym, subst, Ok}
use Rattle.std.proofs.lemmas.Result.{err_from_is_err_and}
use Rattle.bson_message.specs.declared.message.Body.TheVariants.{Msg, Query}
use Rattle.bson_store.specs.Calls.{store_state}
use Rattle.fallowtime_messages.specs.Waiting.{waiting}
use Rattle.fallowtime_messages.specs.Done.{DoesAll}
use Rattle.fallowtime_messages.specs.Serving.{Serves}
use Rattle.fallowtime_messages.proofs.ServeLemmas.{fault_served, msg_served, no_message, nothing_served, query_served}
use Rattle.fallowtime_messages.proofs.serving.serve.Goals as goal

pub returns-in_default : goal.returns-in_default
returns-in_default g c = no_message c.args.database.now c.args.number c.args.bytes.now (waiting c.args.cursors.now) (waiting c.args.cursors.now) (store_state g.S.Store c.args.store.now) refl (search rules)

pub returns-in-Ok-Msg : goal.returns-in-Ok-Msg
returns-in-Ok-Msg g c =
    let is : c.in-Ok.said ≡ Ok (Msg c.in-Ok-Msg.message) = search rules in
    msg_served c.args.database.now c.args.number c.args.bytes.now (waiting c.args.cursors.now) (waiting c.serve_msg.new.cursors) c.in-Ok.header c.in-Ok.ensures.1 c.in-Ok.said c.in-Ok-Msg.message c.serve_msg.result (store_state g.S.Store c.args.store.now) (store_state g.S.Store c.serve_msg.new.store) is c.in-Ok.ensures.2 c.serve_msg.ensures

pub returns-in_ok-serve_query-in-Ok-Query : goal.returns-in_ok-serve_query-in-Ok-Query
returns-in_ok-serve_query-in-Ok-Query g c =
    let is : c.in-Ok.said ≡ Ok (Query c.in-Ok-Query.query) = search rules in
    query_served c.args.database.now c.args.number c.args.bytes.now (waiting c.args.cursors.now) (waiting c.args.cursors.now) c.in-Ok.header c.in-Ok.ensures.1 c.in-Ok.said c.in-Ok-Query.query c.in_ok-serve_query-in-Ok-Query.field-0 (store_state g.S.Store c.args.store.now) refl is c.in-Ok.ensures.2 c.in_ok-serve_query-in-Ok-Query.ensures

pub returns-in_ok-serve_damaged-in-Err : goal.returns-in_ok-serve_damaged-in-Err
returns-in_ok-serve_damaged-in-Err g c =
    fault_served c.args.database.now c.args.number c.args.bytes.now (waiting c.args.cursors.now) (waiting c.args.cursors.now) c.in-Ok.header c.in-Ok.ensures.1 c.in-Ok.said c.in-Err.field-0 c.in_ok-serve_damaged-in-Err.field-0 (store_state g.S.Store c.args.store.now) refl c.in-Err.is c.in-Ok.ensures.2 c.in_ok-serve_damaged-in-Err.ensures

pub returns-in_err-serve_query-in-Ok-Query : goal.returns-in_err-serve_query-in-Ok-Query
returns-in_err-serve_query-in-Ok-Query g c =
    let p = err_from_is_err_and c.from_residual.result c.from_residual.ensures.1 in
    let ws = waiting c.args.cursors.now in
    let s = store_state g.S.Store c.args.store.now in
    subst (λ r. DoesAll (Serves c.args.database.now c.args.number c.args.bytes.now ws ws r) s s) (sym p.1) (nothing_served c.args.database.now c.args.number c.args.bytes.now ws ws p.0 s refl)

pub returns-in_err-serve_damaged-in-Err : goal.returns-in_err-serve_damaged-in-Err
returns-in_err-serve_damaged-in-Err g c =
    let p = err_from_is_err_and c.from_residual-in_err-serve_damaged-in-Err.result c.from_residual-in_err-serve_damaged-in-Err.ensures.1 in
    let ws = waiting c.args.cursors.now in
    let s = store_state g.S.Store c.args.store.now in
    subst (λ r. DoesAll (Serves c.args.database.now c.args.number c.args.bytes.now ws ws r) s s) (sym p.1) (nothing_served c.args.database.now c.args.number c.args.bytes.now ws ws p.0 s refl)

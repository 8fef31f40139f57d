use Rattle.std.proofs.Common.{sym, subst, string_bytes, ℕ, Vec}
use Rattle.std.proofs.lemmas.Result.{err_from_is_err_and}
use Rattle.bson_store.specs.Calls.{store_state}
use Rattle.bson_store.specs.Export.{bytes_of_each}
use Rattle.std.specs.declared.alloc.Global.{Global}
use Rattle.fallowtime_messages.specs.Done.{DoesAll}
use Rattle.fallowtime_messages.specs.Outcomes.{IsImport, InsertsOrStarts}
use Rattle.fallowtime_statements.proofs.ListLemmas.{zip_seen_left}
use Rattle.fallowtime_messages.proofs.OutcomeLemmas.{all_put, each_put, none_left, none_put, some_put}
use Rattle.fallowtime_messages.proofs.carrying.carry_inserts.Goals as goal

pub returns-in_err-all : goal.returns-in_err-all
returns-in_err-all g c =
    let p = err_from_is_err_and c.from_residual.result c.from_residual.ensures.1 in
    let s = store_state g.S.Store c.args.store.now in
    let name = string_bytes c.args.name.now in
    let documents = bytes_of_each c.args.documents.now in
    subst (λ r. DoesAll (InsertsOrStarts name documents c.args.stops r) s s) (sym p.1) (none_put name documents c.args.stops p.0 s)

pub returns-in-Some : goal.returns-in-Some
returns-in-Some g c =
    all_put (string_bytes c.args.name.now) (bytes_of_each c.args.documents.now) c.args.stops c.in_ok-all.all (store_state g.S.Store c.args.store.now) (store_state g.S.Store c.put_all.new.store) c.in_ok-all.ensures
    c.in-Some.number c.put_all.result c.tell_inserted.result c.in-Some.is c.put_all.ensures c.tell_inserted.ensures

pub returns-in_err-each-in-None : goal.returns-in_err-each-in-None
returns-in_err-each-in-None g c =
    let p = err_from_is_err_and c.from_residual-in_err-each-in-None.result c.from_residual-in_err-each-in-None.ensures.1 in
    let s = store_state g.S.Store c.args.store.now in
    let u = store_state g.S.Store c.put_all.new.store in
    let name = string_bytes c.args.name.now in
    let documents = bytes_of_each c.args.documents.now in
    subst (λ r. DoesAll (InsertsOrStarts name documents c.args.stops r) s u) (sym p.1) (none_left name documents c.args.stops c.in_ok-all.all s u c.in_ok-all.ensures c.put_all.result p.0 c.put_all.ensures)

pub returns-in_err-written-in-None : goal.returns-in_err-written-in-None
returns-in_err-written-in-None g c =
    let p = err_from_is_err_and c.from_residual-in_err-written-in-None.result c.from_residual-in_err-written-in-None.ensures.1 in
    let s = store_state g.S.Store c.args.store.now in
    let u = store_state g.S.Store c.put_all.new.store in
    let v = store_state g.S.Store c.write_all.new.store in
    let name = string_bytes c.args.name.now in
    let documents = bytes_of_each c.args.documents.now in
    let are = zip_seen_left (IsImport name) (λ (b : Vec ℕ Global). b.items) c.args.documents.now c.in_ok-each-in-None.each.items c.in_ok-each-in-None.ensures in
    subst (λ r. DoesAll (InsertsOrStarts name documents c.args.stops r) s v) (sym p.1)
    (some_put name documents c.args.stops c.in_ok-all.all s u c.in_ok-all.ensures c.put_all.result c.in-None.is c.in_ok-each-in-None.each.items are v c.in_err-written-in-None.field-0.0 p.0 c.put_all.ensures c.in_err-written-in-None.ensures)

pub returns-in_ok-written-in-None : goal.returns-in_ok-written-in-None
returns-in_ok-written-in-None g c =
    let s = store_state g.S.Store c.args.store.now in
    let u = store_state g.S.Store c.put_all.new.store in
    let v = store_state g.S.Store c.write_all.new.store in
    let name = string_bytes c.args.name.now in
    let documents = bytes_of_each c.args.documents.now in
    let are = zip_seen_left (IsImport name) (λ (b : Vec ℕ Global). b.items) c.args.documents.now c.in_ok-each-in-None.each.items c.in_ok-each-in-None.ensures in
    each_put name documents c.args.stops c.in_ok-all.all s u c.in_ok-all.ensures c.put_all.result c.in-None.is c.in_ok-each-in-None.each.items are v c.in_ok-written-in-None.written c.tell_written.result c.put_all.ensures c.in_ok-written-in-None.ensures c.tell_written.ensures

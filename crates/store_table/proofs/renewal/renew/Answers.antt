use Rattle.std.proofs.Common.{List, false, subst, arith}
use Rattle.sqlite.specs.State.{HasCleanDisk, Shows as Sees}
use Rattle.sqlite.specs.Held.{state}
use Rattle.sqlite.proofs.StateLemmas.{survives_then}
use Rattle.store_table.specs.declared.row.NewKey.{NewKey}
use Rattle.store_table.specs.Rows.{HoldsRows, with_keys_at}
use Rattle.store_table.specs.Keys.{PutsKeys}
use Rattle.store_table.specs.Renewal.{IsOwn, MayPut, MayRenew}
use Rattle.store_table.proofs.RenewalLemmas.{none_of}
use Rattle.store_table.proofs.RenewLemmas.{found, rekeyed_so, renewed_so, may_renew}
use Rattle.store_table.proofs.renewal.renew.Goals as goal

pub returns-in-Ok-clause-renewed : goal.returns-in-Ok-clause-renewed
returns-in-Ok-clause-renewed g c clean live =
    let accepts = IsOwn (g.C.RowCheck.renews c.args.check.now) in
    let renews = g.C.RowCheck.renews c.args.check.now in
    let old = state g.S.Store c.args.conn.now in
    let mid = state g.S.Store c.survey_old.new.conn in
    let new = state g.S.Store c.write_keys.new.conn in
    let early : HasCleanDisk mid = omega (arith, clean, c.write_keys.ensures.crash.clean) in
    let r = c.in_ok-renewals.renewals in
    let f = found accepts renews old mid r (c.in_ok-renewals.ensures.read early) in
    renewed_so accepts renews old mid r f (none_of r.twin c.in_default.not-Some) new live
    (λ ds shows. subst (λ (ks : List NewKey). HoldsRows new (with_keys_at ks ds)) c.as_slice.ensures.value (c.in-Ok.ensures.done clean ds shows))
    (λ ds shows. c.in-Ok.ensures.spared clean ds shows)

pub returns-in-Ok-clause-read : goal.returns-in-Ok-clause-read
returns-in-Ok-clause-read g c clean =
    let accepts = IsOwn (g.C.RowCheck.renews c.args.check.now) in
    let renews = g.C.RowCheck.renews c.args.check.now in
    let old = state g.S.Store c.args.conn.now in
    let mid = state g.S.Store c.survey_old.new.conn in
    let early : HasCleanDisk mid = omega (arith, clean, c.write_keys.ensures.crash.clean) in
    let r = c.in_ok-renewals.renewals in
    let new = state g.S.Store c.write_keys.new.conn in
    rekeyed_so accepts renews old mid r (found accepts renews old mid r (c.in_ok-renewals.ensures.read early)) (none_of r.twin c.in_default.not-Some) new c.survey_old.ensures.crash.limit
    (subst (λ (ks : List NewKey). Sees mid new new.now new.now false × PutsKeys mid.step_limit ks mid.now new.now) c.as_slice.ensures.value (c.in-Ok.ensures.puts clean))

pub returns-in-Ok-clause-crash : goal.returns-in-Ok-clause-crash
returns-in-Ok-clause-crash g c =
    let accepts = IsOwn (g.C.RowCheck.renews c.args.check.now) in
    let renews = g.C.RowCheck.renews c.args.check.now in
    let old = state g.S.Store c.args.conn.now in
    let mid = state g.S.Store c.survey_old.new.conn in
    let new = state g.S.Store c.write_keys.new.conn in
    let r = c.in_ok-renewals.renewals in
    survives_then old mid new _ _ (MayRenew accepts renews old) (λ _ db none. absurd none)
    (λ clean db made.
    let early : HasCleanDisk mid = omega (arith, clean, c.write_keys.ensures.crash.clean) in
    let f = found accepts renews old mid r (c.in_ok-renewals.ensures.read early) in
    may_renew accepts renews old mid r f (none_of r.twin c.in_default.not-Some) new c.survey_old.ensures.crash.limit db (subst (λ (ks : List NewKey). MayPut ks mid db) c.as_slice.ensures.value made))
    c.survey_old.ensures.crash c.write_keys.ensures.crash

pub returns-clause-crash : goal.returns-clause-crash
returns-clause-crash g c =
    let accepts = IsOwn (g.C.RowCheck.renews c.args.check.now) in
    let renews = g.C.RowCheck.renews c.args.check.now in
    let old = state g.S.Store c.args.conn.now in
    let mid = state g.S.Store c.survey_old.new.conn in
    let new = state g.S.Store c.write_keys.new.conn in
    let r = c.in_ok-renewals.renewals in
    survives_then old mid new _ _ (MayRenew accepts renews old) (λ _ db none. absurd none)
    (λ clean db made.
    let early : HasCleanDisk mid = omega (arith, clean, c.write_keys.ensures.crash.clean) in
    let f = found accepts renews old mid r (c.in_ok-renewals.ensures.read early) in
    may_renew accepts renews old mid r f (none_of r.twin c.in_default.not-Some) new c.survey_old.ensures.crash.limit db (subst (λ (ks : List NewKey). MayPut ks mid db) c.as_slice.ensures.value made))
    c.survey_old.ensures.crash c.write_keys.ensures.crash

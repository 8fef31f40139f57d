use Rattle.std.proofs.Common.{inl, IfErr, arith}
use Rattle.std.proofs.lemmas.Result.{on_ok_weaker}
use Rattle.sqlite.specs.State.{HasCleanDisk}
use Rattle.sqlite.specs.Held.{state}
use Rattle.store_table.specs.Open.{RefusesOpening}
use Rattle.store_table.specs.Renewal.{IsOwn, RenewsOld}
use Rattle.sqlite.proofs.StateLemmas.{survives_then}
use Rattle.store_table.proofs.RenewLemmas.{passed_renewed, passed_once, renews_old, back_unrenewed, if_err_on}
use Rattle.store_table.proofs.renewal.settle_keys.Goals as goal

pub returns-in_default-2-clause-settled : goal.returns-in_default-2-clause-settled
returns-in_default-2-clause-settled g c clean live =
    let old = state g.S.Store c.args.conn.now in
    let new = state g.S.Store c.survey.new.conn in
    on_ok_weaker c.survey.result (passed_renewed (g.C.RowCheck.renews c.args.check.now) old old new live) (c.survey.ensures.read clean)

pub returns-in-Err-BadRow-clause-refused : goal.returns-in-Err-BadRow-clause-refused
returns-in-Err-BadRow-clause-refused g c clean =
    let renews = g.C.RowCheck.renews c.args.check.now in
    let old = state g.S.Store c.args.conn.now in
    let mid = state g.S.Store c.survey.new.conn in
    let new = state g.S.Store c.renew.new.conn in
    let early : HasCleanDisk mid = omega (arith, clean, c.renew.ensures.crash.clean) in
    let why : IfErr c.survey.result (RefusesOpening (IsOwn renews) old mid) = c.survey.ensures.refused early in
    let bad = rw (c.in-Err-BadRow.is, c.in-Err-BadRow.field-0-is) at why in
    if_err_on c.renew.result _ _ (back_unrenewed renews old mid new bad.1.unchanged) (c.renew.ensures.refused clean)

pub returns-in_default-2-clause-read : goal.returns-in_default-2-clause-read
returns-in_default-2-clause-read g c clean = on_ok_weaker c.survey.result (λ passed. inl passed) (c.survey.ensures.read clean)

pub returns-in-Err-BadRow-clause-read : goal.returns-in-Err-BadRow-clause-read
returns-in-Err-BadRow-clause-read g c clean =
    let renews = g.C.RowCheck.renews c.args.check.now in
    let old = state g.S.Store c.args.conn.now in
    let mid = state g.S.Store c.survey.new.conn in
    let new = state g.S.Store c.renew.new.conn in
    let early : HasCleanDisk mid = omega (arith, clean, c.renew.ensures.crash.clean) in
    let why : IfErr c.survey.result (RefusesOpening (IsOwn renews) old mid) = c.survey.ensures.refused early in
    let bad = rw (c.in-Err-BadRow.is, c.in-Err-BadRow.field-0-is) at why in
    on_ok_weaker c.renew.result (passed_once renews old mid new bad.1.unchanged c.survey.ensures.crash.limit _ bad) (c.renew.ensures.read clean)

pub returns-in-Err-BadRow-clause-crash : goal.returns-in-Err-BadRow-clause-crash
returns-in-Err-BadRow-clause-crash g c =
    let renews = g.C.RowCheck.renews c.args.check.now in
    let old = state g.S.Store c.args.conn.now in
    let mid = state g.S.Store c.survey.new.conn in
    let new = state g.S.Store c.renew.new.conn in
    survives_then old mid new _ _ (RenewsOld renews old) (λ _ db none. absurd none)
    (λ clean db may.
    let early : HasCleanDisk mid = omega (arith, clean, c.renew.ensures.crash.clean) in
    let why : IfErr c.survey.result (RefusesOpening (IsOwn renews) old mid) = c.survey.ensures.refused early in
    let bad = rw (c.in-Err-BadRow.is, c.in-Err-BadRow.field-0-is) at why in
    renews_old renews old mid new bad.1.unchanged c.survey.ensures.crash.limit _ bad db may)
    c.survey.ensures.crash c.renew.ensures.crash

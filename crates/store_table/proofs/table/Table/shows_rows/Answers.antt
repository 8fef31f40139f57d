use Rattle.std.proofs.Common.{◌≡◌, true, false, ℕ, List, refl, arith, rules}
use Rattle.sqlite.specs.Held.{state}
use Rattle.sqlite.specs.State.{HasCleanDisk}
use Rattle.sqlite.specs.declared.error.Error.TheVariants.{SqliteFailure}
use Rattle.sqlite.specs.declared.error.ErrorCode.TheVariants.{OutOfMemory, TooBig}
use Rattle.store_table.specs.Open.{IsSettled}
use Rattle.store_table.proofs.ListedLemmas.{listed_shows}
use Rattle.store_table.proofs.OthersLemmas.{keeps_others, others_after}
use Rattle.store_table.proofs.TableLemmas.{not_places, stands_still, stands_kept}
use Rattle.store_table.proofs.table.Table.shows_rows.Goals as goal

pub returns-in-Ok-clause-shows : goal.returns-in-Ok-clause-shows
returns-in-Ok-clause-shows g c clean t =
    let mid = state g.S.Store c.greatest_if_any.new.conn in
    let new = state g.S.Store c.survey.new.conn in
    let p = c.in-Ok.ensures.read clean in
    let yes : c.is_autocommit.result ≡ true = (let f = c.if-not-is_autocommit.false in search rules) in
    let auto : mid.in_transaction ≡ false = (let v = c.is_autocommit.ensures.value in search rules) in
    let own : c.in_ok-is_own.field-0 ≡ true = (let f = c.if-not-branch.false in search rules) in
    let has = rw c.schema.ensures.value at (c.in_ok-is_own.ensures own) in
    let was = p.1.unchanged.0.was_open in
    (p.0, listed_shows (λ (_ : List ℕ) (_ : List ℕ) (_ : List ℕ). Unit {0}) mid new p.0 has (c.schema.ensures.live was).0 auto (c.is_autocommit.ensures.settled yes was) p.1 p.2)

pub returns-in-Err-Memory-clause-moves : goal.returns-in-Err-Memory-clause-moves
returns-in-Err-Memory-clause-moves g c clean =
    let old = state g.S.Store c.args.self.now.conn in
    let mid = state g.S.Store c.greatest_if_any.new.conn in
    let new = state g.S.Store c.survey.new.conn in
    let early : HasCleanDisk mid = omega (arith, clean, c.survey.ensures.crash.clean) in
    let u = (c.in_ok-greatest_if_any.ensures.read early).unchanged in
    let yes : c.is_autocommit.result ≡ true = (let f = c.if-not-is_autocommit.false in search rules) in
    let auto : mid.in_transaction ≡ false = (let v = c.is_autocommit.ensures.value in search rules) in
    let settled : IsSettled mid = record { autocommit = auto; committed = c.is_autocommit.ensures.settled yes } in
    let keeps = c.in-Err-Memory.ensures.kept clean in (
      omega (arith, clean, c.survey.ensures.crash.clean, c.greatest_if_any.ensures.crash.clean),
      λ docs stands. (docs, stands_kept mid new docs settled keeps (stands_still old mid docs u stands), record { same = refl; faults = not_places (SqliteFailure OutOfMemory) }, others_after old mid new u (keeps_others mid new (keeps settled))),
    )

pub returns-in-Err-clause-moves : goal.returns-in-Err-clause-moves
returns-in-Err-clause-moves g c clean =
    let old = state g.S.Store c.args.self.now.conn in
    let mid = state g.S.Store c.greatest_if_any.new.conn in
    let new = state g.S.Store c.survey.new.conn in
    let early : HasCleanDisk mid = omega (arith, clean, c.survey.ensures.crash.clean) in
    let u = (c.in_ok-greatest_if_any.ensures.read early).unchanged in
    let yes : c.is_autocommit.result ≡ true = (let f = c.if-not-is_autocommit.false in search rules) in
    let auto : mid.in_transaction ≡ false = (let v = c.is_autocommit.ensures.value in search rules) in
    let settled : IsSettled mid = record { autocommit = auto; committed = c.is_autocommit.ensures.settled yes } in
    let keeps = c.in-Err.ensures.kept clean in (
      omega (arith, clean, c.survey.ensures.crash.clean, c.greatest_if_any.ensures.crash.clean),
      λ docs stands. (docs, stands_kept mid new docs settled keeps (stands_still old mid docs u stands), record { same = refl; faults = not_places (SqliteFailure TooBig) }, others_after old mid new u (keeps_others mid new (keeps settled))),
    )

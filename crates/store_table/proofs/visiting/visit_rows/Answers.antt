use Rattle.std.proofs.Common.{◌≡◌, [], ◌∷◌, ◌++◌, Bool, Err, IfErr, refl, subst, rules, arith}
use Rattle.sqlite.proofs.StateLemmas.{survives_then}
use Rattle.sqlite.proofs.Callers.{unchanged_then}
use Rattle.sqlite.specs.Values.{bound}
use Rattle.sqlite.specs.State.{HasCleanDisk, IsUnchanged, Survives, CommitsShowing, FailsToQuery}
use Rattle.sqlite.specs.Held.{state}
use Rattle.sqlite.specs.Given.{HasGiven}
use Rattle.sqlite.specs.declared.error.Error.TheVariants.{SqliteFailure}
use Rattle.sqlite.specs.declared.error.ErrorCode.TheVariants.{TooBig}
use Rattle.store_table.specs.Visit.{ReadsRows, TookRows}
use Rattle.store_table.proofs.AnyLemmas.{leaves_nothing, begun_any, read_err, read_stopped, read_left}
use Rattle.store_table.proofs.VisitLemmas.{took_some, shown_before}
use Rattle.store_table.proofs.visiting.visit_rows.Goals as goal

pub returns-in_err-rows-clause-read : goal.returns-in_err-rows-clause-read
returns-in_err-rows-clause-read g c clean =
    let old = state g.S.Store c.args.conn.now in
    let new = state g.S.Store c.query.follows.lender-at-none in
    let held = c.query.follows.holds-at-none in
    let why : IfErr c.query.result (FailsToQuery c.args.sql.now (bound c.args.params.now) old new) = search rules in
    let it : FailsToQuery c.args.sql.now (bound c.args.params.now) old new c.in_err-rows.field-0.0 = rw c.in_err-rows.was at why in
    read_err c.args.sql.now c.requires (bound c.args.params.now) old new c.in_err-rows.field-0.0 c.from_residual.result c.from_residual.ensures.0 it

pub returns-in_err-rows-clause-crash : goal.returns-in_err-rows-clause-crash
returns-in_err-rows-clause-crash g c =
    let old = state g.S.Store c.args.conn.now in
    let new = state g.S.Store c.query.follows.lender-at-none in
    let held = c.query.follows.holds-at-none in
    let kept : Survives old new (CommitsShowing c.args.sql.now (bound c.args.params.now) old) = search rules in
    leaves_nothing c.args.sql.now c.requires (bound c.args.params.now) old new kept

pub rows-init : goal.rows-init
rows-init g c =
    let made = c.in_ok-rows.ensures in
    record {
      same = refl;
      stopped = λ e. absurd (cc);
      taken = λ t. ([], t);
      survives = leaves_nothing c.args.sql.now c.requires (bound c.args.params.now) _ _ made.survives;
      given = λ clean. let b = begun_any c.args.sql.now c.requires g.S.Store (bound c.args.params.now) c.args.conn.now _ (made.begun clean) in ([], b.0, b.1, λ t. t);
    }

pub returns-in_err-row-clause-some : goal.returns-in_err-row-clause-some
returns-in_err-row-clause-some g c clean none =
    let moved = c.next.follows.holds-at-none in
    let now = c.next.follows.lender-at-none.conn.now in
    let late : HasCleanDisk (state g.S.Store now) = search rules in
    let was = c.rows.invariant.given (omega (arith, late, moved.survives.clean)) in
    took_some g.S.Store (g.T.TakeRow.took c.args.visitor.now) c.rows.visitor c.args.sql.now (bound c.args.params.now) (state g.S.Store c.args.conn.now) c.rows.rows.conn.now was.0 was.1 was.2 (was.3 none)

pub returns-in_err-row-clause-read : goal.returns-in_err-row-clause-read
returns-in_err-row-clause-read g c clean =
    let old = state g.S.Store c.args.conn.now in
    let mid = state g.S.Store c.rows.rows.conn.now in
    let moved = c.next.follows.holds-at-none in
    let now = c.next.follows.lender-at-none.conn.now in
    let late : HasCleanDisk (state g.S.Store now) = search rules in
    let was = c.rows.invariant.given (omega (arith, late, moved.survives.clean)) in
    let it : ReadsRows old (state g.S.Store now) c.from_residual-in_err-row.result =
    read_stopped old mid (state g.S.Store now) c.in_err-row.field-0.0 c.from_residual-in_err-row.result c.from_residual-in_err-row.ensures.0 was.2 (rw c.in_err-row.was at (moved.kept late)) in
    let end : now ≡ c.conn-in_err-row-1.given.0 = search rules in
    subst (λ k. ReadsRows old (state g.S.Store k) c.from_residual-in_err-row.result) end it

pub returns-in_default-clause-whole : goal.returns-in_default-clause-whole
returns-in_default-clause-whole g c clean none =
    let moved = c.next.follows.holds-at-none in
    let now = c.next.follows.lender-at-none.conn.now in
    let late : HasCleanDisk (state g.S.Store now) = search rules in
    let was = c.rows.invariant.given (omega (arith, late, moved.survives.clean)) in
    let shown = (rw (c.in_ok-row.was, c.in_default.is) at (moved.ok late)) c.args.sql.now (bound c.args.params.now) was.0 was.1 in
    let all = shown_before c.args.sql.now (bound c.args.params.now) (state g.S.Store c.args.conn.now) (state g.S.Store c.rows.rows.conn.now) (state g.S.Store now) was.0 c.requires was.2 shown in
    let took : TookRows (g.T.TakeRow.took c.args.visitor.now) c.rows.visitor c.args.sql.now (bound c.args.params.now) (state g.S.Store c.args.conn.now) (state g.S.Store now) = (was.0, all, was.3 none) in
    search rules

pub returns-in_default-clause-some : goal.returns-in_default-clause-some
returns-in_default-clause-some g c clean none =
    let moved = c.next.follows.holds-at-none in
    let now = c.next.follows.lender-at-none.conn.now in
    let late : HasCleanDisk (state g.S.Store now) = search rules in
    let was = c.rows.invariant.given (omega (arith, late, moved.survives.clean)) in
    took_some g.S.Store (g.T.TakeRow.took c.args.visitor.now) c.rows.visitor c.args.sql.now (bound c.args.params.now) (state g.S.Store c.args.conn.now) c.rows.rows.conn.now was.0 was.1 was.2 (was.3 none)

pub returns-then-not-wants-clause-some : goal.returns-then-not-wants-clause-some
returns-then-not-wants-clause-some g c clean none =
    let late : HasCleanDisk (state g.S.Store c.rows.rows.conn.now) = search rules in
    let was = c.rows.invariant.given late in
    took_some g.S.Store (g.T.TakeRow.took c.args.visitor.now) c.rows.visitor c.args.sql.now (bound c.args.params.now) (state g.S.Store c.args.conn.now) c.rows.rows.conn.now was.0 was.1 was.2 (was.3 none)

pub returns-clause-some : goal.returns-clause-some
returns-clause-some g c clean none =
    let late : HasCleanDisk (state g.S.Store c.rows.rows.conn.now) = search rules in
    let was = c.rows.invariant.given late in
    took_some g.S.Store (g.T.TakeRow.took c.args.visitor.now) c.rows.visitor c.args.sql.now (bound c.args.params.now) (state g.S.Store c.args.conn.now) c.rows.rows.conn.now was.0 was.1 was.2 (was.3 none)

pub returns-clause-read : goal.returns-clause-read
returns-clause-read g c clean =
    let old = state g.S.Store c.args.conn.now in
    let late : HasCleanDisk (state g.S.Store c.rows.rows.conn.now) = search rules in
    let was = c.rows.invariant.given late in
    let it = read_left {A = Bool} old (state g.S.Store c.rows.rows.conn.now) (Err (SqliteFailure TooBig)) refl was.2 in
    let end : c.rows.rows.conn.now ≡ c.conn-2-1.given.0 = search rules in
    subst (λ k. ReadsRows {A = Bool} old (state g.S.Store k) (Err (SqliteFailure TooBig))) end it

pub rows-preserved : goal.rows-preserved
rows-preserved g c =
    let old = state g.S.Store c.args.conn.now in
    let mid = state g.S.Store c.rows.rows.conn.now in
    let moved = c.next.follows.holds-at-none in
    let now = c.next.follows.lender-at-none.conn.now in
    let row = c.in-Some.row.now in
    let sql = c.args.sql.now in
    let params = bound c.args.params.now in
    record {
      same = search rules;
      stopped = search rules;
      taken = λ none. let was = c.rows.invariant.taken none in (was.0 ++ c.in-Some.row.now ∷ [], c.take-wants.ensures.took c.args.visitor.now was.0 was.1);
      survives = survives_then old mid (state g.S.Store now) _ _ (λ _. ⊥) (λ _ db none. none) (λ _ db none. none) c.rows.invariant.survives moved.survives;
      given = λ late.
          let was = c.rows.invariant.given (omega (arith, late, moved.survives.clean)) in
          let on : HasGiven g.S.Store sql params now (was.0 ++ row ∷ []) = (rw (c.in_ok-row.was, c.in-Some.is) at (moved.ok late)) sql params was.0 was.1 in
          let still : IsUnchanged mid (state g.S.Store now) = rw c.in_ok-row.was at (moved.same late) in
          (was.0 ++ row ∷ [], on, unchanged_then old mid (state g.S.Store now) was.2 still, λ none. c.take-wants.ensures.took c.args.visitor.now was.0 (was.3 none));
    }

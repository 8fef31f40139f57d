use Rattle.std.proofs.Common.{◌≡◌, ◌∙◌, inl, ℤ, List, [], ◌∷◌, ◌++◌, map, IfErr, IsOk, OnOk, refl, sym, subst, w64, to_z, of_z, rules, arith}
use Rattle.sqlite.proofs.StateLemmas.{survives_then}
use Rattle.sqlite.proofs.Callers.{unchanged_then}
use Rattle.sqlite.specs.Order.{column}
use Rattle.sqlite.specs.State.{HasCleanDisk, IsUnchanged, Survives, Shown, CommitsShowing, FailsToQuery}
use Rattle.sqlite.specs.Held.{state}
use Rattle.sqlite.specs.Given.{HasGiven}
use Rattle.store_table.specs.Cells.{int_in, doc_of}
use Rattle.store_table.specs.Check.{AreGood, IsGoodAfter}
use Rattle.store_table.specs.Open.{all_text, Reads, RefusesOpening}
use Rattle.store_table.specs.Rows.{TableRow}
use Rattle.store_table.specs.Judged.{ArePassed, JudgesRow}
use Rattle.store_table.proofs.PlainLemmas.{all_asks, listing_leaves, not_understood, unread_keeps}
use Rattle.store_table.proofs.AnyLemmas.{begun_any}
use Rattle.store_table.proofs.LastPlaceLemmas.{map_end}
use Rattle.store_table.proofs.RenewalLemmas.{ok_of, good_last, passed_good}
use Rattle.store_table.proofs.SurveyLemmas.{refuses_other}
use Rattle.store_table.proofs.ToldLemmas.{told_made, told_refuses}
use Rattle.store_table.proofs.check.survey_into.Goals as goal

pub returns-in-Err-SqlInputError-clause-refused : goal.returns-in-Err-SqlInputError-clause-refused
returns-in-Err-SqlInputError-clause-refused g c clean =
    let old = state g.S.Store c.args.conn.now in
    let new = state g.S.Store c.query.follows.lender-at-none in
    let held = c.query.follows.holds-at-none in
    let why : IfErr c.query.result (FailsToQuery all_text [] old new) = search rules in
    let it = not_understood old new c.in-Err-SqlInputError.field-0-0 (rw (c.in-Err-SqlInputError.is, c.in-Err-SqlInputError.field-0-is) at why) in
    (inl (c.in-Err-SqlInputError.field-0-0, it.0), it.1)

pub returns-in-Err-SqlInputError-clause-kept : goal.returns-in-Err-SqlInputError-clause-kept
returns-in-Err-SqlInputError-clause-kept g c clean settled =
    let old = state g.S.Store c.args.conn.now in
    let new = state g.S.Store c.query.follows.lender-at-none in
    let held = c.query.follows.holds-at-none in
    let why : IfErr c.query.result (FailsToQuery all_text [] old new) = search rules in
    unread_keeps old new _ (rw c.in-Err-SqlInputError.is at why) settled

pub returns-in-Err-SqlInputError-clause-crash : goal.returns-in-Err-SqlInputError-clause-crash
returns-in-Err-SqlInputError-clause-crash g c =
    let old = state g.S.Store c.args.conn.now in
    let new = state g.S.Store c.query.follows.lender-at-none in
    let held = c.query.follows.holds-at-none in
    let kept : Survives old new (CommitsShowing all_text [] old) = search rules in
    listing_leaves old new kept

pub returns-in-Err-clause-refused : goal.returns-in-Err-clause-refused
returns-in-Err-clause-refused g c clean =
    refuses_other (g.J.TestsRows.accepts c.args.check.now) (state g.S.Store c.args.conn.now) (state g.S.Store c.query.follows.lender-at-none) c.refusal.result c.refusal.ensures.other

pub returns-in-Err-clause-kept : goal.returns-in-Err-clause-kept
returns-in-Err-clause-kept g c clean settled =
    let old = state g.S.Store c.args.conn.now in
    let new = state g.S.Store c.query.follows.lender-at-none in
    let held = c.query.follows.holds-at-none in
    let why : IfErr c.query.result (FailsToQuery all_text [] old new) = search rules in
    unread_keeps old new _ (rw c.in-Err.is at why) settled

pub returns-in-Err-clause-crash : goal.returns-in-Err-clause-crash
returns-in-Err-clause-crash g c =
    let old = state g.S.Store c.args.conn.now in
    let new = state g.S.Store c.query.follows.lender-at-none in
    let held = c.query.follows.holds-at-none in
    let kept : Survives old new (CommitsShowing all_text [] old) = search rules in
    listing_leaves old new kept

pub rows-init : goal.rows-init
rows-init g c =
    let made = c.in-Ok.ensures in
    let first : ArePassed (g.J.TestsRows.accepts c.args.check.now) c.new-seen.result.keys _ [] = record { typed = refl; good = tt; seen = search rules; place = search rules } in
    record {
      same = refl;
      survives = listing_leaves _ _ made.survives;
      given = λ clean. let b = begun_any all_text all_asks g.S.Store [] c.args.conn.now _ (made.begun clean) in ([], b.0, b.1, first, λ none _. none);
    }

pub returns-in-Ok-None-clause-read : goal.returns-in-Ok-None-clause-read
returns-in-Ok-None-clause-read g c clean none =
    let accepts = g.J.TestsRows.accepts c.args.check.now in
    let old = state g.S.Store c.args.conn.now in
    let mid = state g.S.Store c.rows.rows.conn.now in
    let moved = c.next.follows.holds-at-none in
    let now = c.next.follows.lender-at-none.conn.now in
    let late : HasCleanDisk (state g.S.Store now) = search rules in
    let was = c.rows.invariant.given (omega (arith, late, moved.survives.clean)) in
    let shown : Shown all_text [] mid (state g.S.Store now) was.0 = (rw (c.in-Ok-None.is, c.in-Ok-None.field-0-is) at (moved.ok late)) all_text [] was.0 was.1 in
    let is_made = λ (docs : List TableRow). g.G.GathersRows.is_made_of c.args.check.now docs c.rows.gathered in
    let told : OnOk c.rows.verdict ((docs : List TableRow) × Reads old (state g.S.Store now) docs × AreGood accepts docs × is_made docs) =
    told_made accepts old mid (state g.S.Store now) was.0 was.2 shown is_made c.rows.seen.keys _ c.rows.verdict was.3 (was.4 none) in
    search rules

pub returns-in-Ok-None-clause-refused : goal.returns-in-Ok-None-clause-refused
returns-in-Ok-None-clause-refused g c clean =
    let accepts = g.J.TestsRows.accepts c.args.check.now in
    let old = state g.S.Store c.args.conn.now in
    let mid = state g.S.Store c.rows.rows.conn.now in
    let moved = c.next.follows.holds-at-none in
    let now = c.next.follows.lender-at-none.conn.now in
    let late : HasCleanDisk (state g.S.Store now) = search rules in
    let was = c.rows.invariant.given (omega (arith, late, moved.survives.clean)) in
    let shown : Shown all_text [] mid (state g.S.Store now) was.0 = (rw (c.in-Ok-None.is, c.in-Ok-None.field-0-is) at (moved.ok late)) all_text [] was.0 was.1 in
    let told : IfErr c.rows.verdict (RefusesOpening accepts old (state g.S.Store now)) = told_refuses accepts old mid (state g.S.Store now) was.0 was.2 shown c.rows.seen.keys _ c.rows.verdict was.3 in
    search rules

pub rows-preserved : goal.rows-preserved
rows-preserved g c =
    let accepts = g.J.TestsRows.accepts c.args.check.now in
    let old = state g.S.Store c.args.conn.now in
    let mid = state g.S.Store c.rows.rows.conn.now in
    let moved = c.next.follows.holds-at-none in
    let now = c.next.follows.lender-at-none.conn.now in
    let row = c.in-Ok-Some.row.now in
    record {
      same = search rules;
      survives = survives_then old mid (state g.S.Store now) _ _ (λ _. ⊥) (λ _ db none. none) (λ _ db none. none) c.rows.invariant.survives moved.survives;
      given = λ late.
          let was = c.rows.invariant.given (omega (arith, late, moved.survives.clean)) in
          let on : HasGiven g.S.Store all_text [] now (was.0 ++ row ∷ []) = (rw (c.in-Ok-Some.is, c.in-Ok-Some.field-0-is) at (moved.ok late)) all_text [] was.0 was.1 in
          let still : IsUnchanged mid (state g.S.Store now) = rw c.in-Ok-Some.is at (moved.same late) in
          let read = c.place_in-last.ensures in
          let place : to_z w64 (of_z w64 c.place_in-last.result) ≡ int_in (column row 0) = search rules in
          let judged = c.in-Ok-judge.ensures.judged was.0 was.3 in
          let good : IsOk c.in-Ok-judge.now → IsGoodAfter accepts (map doc_of was.0) (doc_of row) = λ ok. good_last accepts (map doc_of was.0) (doc_of row) (subst (AreGood accepts) (map_end row was.0) (passed_good accepts c.judge.new.seen.keys _ (was.0 ++ row ∷ []) c.in-Ok-judge.now judged ok)) in (
            was.0 ++ row ∷ [],
            on,
            unchanged_then old mid (state g.S.Store now) was.2 still,
            subst (λ (z : ℤ). JudgesRow accepts c.judge.new.seen.keys z (was.0 ++ row ∷ []) c.in-Ok-judge.now) (sym place) judged,
            λ none ok. subst (λ (ds : List TableRow). g.G.GathersRows.is_made_of c.args.check.now ds c.go_on.new.gathered) (sym (map_end row was.0))
                (ok_of c.go_on.result (sym c.is_err.ensures.value ∙ c.if-is_err.false) (c.go_on.ensures (map doc_of was.0) good (λ before. was.4 none (c.in-Ok-judge.ensures.passed before))) ok),
          );
    }

pub returns-then-is_err-clause-crash : goal.returns-then-is_err-clause-crash
returns-then-is_err-clause-crash g c =
    let old = state g.S.Store c.args.conn.now in
    let mid = state g.S.Store c.rows.rows.conn.now in
    let moved = c.next.follows.holds-at-none in
    let now = c.next.follows.lender-at-none.conn.now in
    let kept : Survives old (state g.S.Store now) (λ _. ⊥) = survives_then old mid (state g.S.Store now) _ _ (λ _. ⊥) (λ _ db none. none) (λ _ db none. none) c.rows.invariant.survives moved.survives in
    search rules

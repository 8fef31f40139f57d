use Rattle.std.proofs.Common.{List, map, sym, ◌∙◌, IsTrue, w64, rules}
use Rattle.std.proofs.lemmas.Int.{to_z-of_z}
use Rattle.store_table.specs.Rows.{TableRow}
use Rattle.store_table.specs.Cells.{doc_of}
use Rattle.store_table.specs.Check.{IsGoodAfter}
use Rattle.store_table.proofs.JudgeLemmas.{wrong_on, passed_if, passed_on, bad_at}
use Rattle.store_table.proofs.check.judge.Goals as goal

pub returns-then-is_err-clause-judged : goal.returns-then-is_err-clause-judged
returns-then-is_err-clause-judged g c rows h =
    wrong_on (g.J.TestsRows.accepts c.args.check.now) c.args.seen.now.keys c.args.seen.now.keys c.args.last _ rows c.args.row.now c.args.verdict c.unless_mistyped-now.result
    (sym c.is_err.ensures.value ∙ c.if-is_err.true) c.unless_mistyped-now.ensures.kept c.unless_mistyped-now.ensures.mistyped h

pub returns-then-branch-clause-judged : goal.returns-then-branch-clause-judged
returns-then-branch-clause-judged g c rows h =
    let accepts = g.J.TestsRows.accepts c.args.check.now in
    let row = c.args.row.now in
    let docs : List TableRow = map doc_of rows in
    let it = passed_if accepts c.args.seen.now.keys c.args.last rows row c.args.verdict c.unless_mistyped-now.result (sym c.is_err.ensures.value ∙ c.if-is_err.false) c.unless_mistyped-now.ensures.kept c.unless_mistyped-now.ensures.mistyped h in
    let good : IsGoodAfter accepts docs (doc_of row) = rw c.if-branch.true at (c.in_ok-is_good_after.ensures.good docs it.0.seen (to_z-of_z w64 c.args.last c.ranges.last ∙ it.0.place)) in
    let is_true : IsTrue c.in_ok-is_good_after.field-0 = c.if-branch.true in
    passed_on accepts c.args.seen.now.keys c.is_good_after.new.seen.keys c.args.last rows row it.1 it.0 good (c.in_ok-is_good_after.ensures.seen docs it.0.seen is_true)

pub returns-else-branch-clause-judged : goal.returns-else-branch-clause-judged
returns-else-branch-clause-judged g c rows h =
    let accepts = g.J.TestsRows.accepts c.args.check.now in
    let row = c.args.row.now in
    let docs : List TableRow = map doc_of rows in
    let it = passed_if accepts c.args.seen.now.keys c.args.last rows row c.args.verdict c.unless_mistyped-now.result (sym c.is_err.ensures.value ∙ c.if-is_err.false) c.unless_mistyped-now.ensures.kept c.unless_mistyped-now.ensures.mistyped h in
    let bad : IsGoodAfter accepts docs (doc_of row) → ⊥ = rw c.if-branch.false at (c.in_ok-is_good_after.ensures.good docs it.0.seen (to_z-of_z w64 c.args.last c.ranges.last ∙ it.0.place)) in
    let read = c.place_in.ensures in
    bad_at accepts c.args.seen.now.keys c.args.last _ rows row it.1 it.0 bad (search rules)

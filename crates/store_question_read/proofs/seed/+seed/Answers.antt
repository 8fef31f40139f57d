use Rattle.std.proofs.Common.{sym, subst}
use Rattle.std.proofs.lemmas.Result.{err_from_is_err_and}
use Rattle.json.specs.Value.{members_view}
use Rattle.store_question_read.proofs.ReadLemmas.{array_seen, failed_entry, next_entry, object_seen}
use Rattle.store_question_read.proofs.seed.+seed.Goals as goal
use Rattle.store_question_read.specs.UpdateOutcome.{Gives}
use Rattle.store_question_read.specs.Seed.{fixed_by, with_each, with_entries, with_query}

pub with_query-returns-in-Object : goal.with_query-returns-in-Object
with_query-returns-in-Object t c =
    let seen = object_seen c.args.tree.now c.in-Object.members c.as_slice.result.now c.in-Object.is c.as_slice.ensures.value in
    subst (λ j. Gives fixed_by c.with_entries.result (with_query (fixed_by c.args.seed) j)) (sym seen) c.with_entries.ensures

pub with_each-returns-in-Array : goal.with_each-returns-in-Array
with_each-returns-in-Array t c =
    let seen = array_seen c.args.body.now c.in-Array.items c.as_slice.result.now c.in-Array.is c.as_slice.ensures.value in
    subst (λ j. Gives fixed_by c.with_queries.result (with_each (fixed_by c.args.seed) j)) (sym seen) c.with_queries.ensures

pub with_entries-returns-in_err-seed : goal.with_entries-returns-in_err-seed
with_entries-returns-in_err-seed t c =
    let p = err_from_is_err_and c.from_residual.result c.from_residual.ensures.1 in
    rw (p.1, p.2)
    (failed_entry c.args.members.now c.loop-key.key-index c.loop-key-item.result c.loop-key-test.true c.loop-key-item.is (with_entries (fixed_by c.args.seed) (members_view c.args.members.now)) (fixed_by c.loop-key.seed) c.loop-key.invariant c.in_err-seed.field-0.0 c.in_err-seed.ensures)

pub with_entries-loop-key-preserved : goal.with_entries-loop-key-preserved
with_entries-loop-key-preserved t c =
    next_entry c.args.members.now c.loop-key.key-index c.loop-key-item.result c.loop-key-test.true c.loop-key-item.is (with_entries (fixed_by c.args.seed) (members_view c.args.members.now)) (fixed_by c.loop-key.seed) c.loop-key.invariant (fixed_by c.in_ok-seed.seed) c.in_ok-seed.ensures

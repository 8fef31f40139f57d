use Rattle.std.proofs.Common.{◌≡◌, ◌<◌, ◌+◌, ◌+ℤ◌, pos, ℤ, List, take, take_all, get_or, length, subst, sym, ap, ◌∙◌, w64, to_z, of_z, arith}
use Rattle.std.proofs.lemmas.Int.{to_z-of_z, ints}
use Rattle.bson_store.specs.Find.{Finds}
use Rattle.store_table.specs.Rows.{docs_from}
use Rattle.store_table.specs.declared.row.NewRow.{NewRow}
use Rattle.store_table.proofs.ManyLemmas.{next_rows, doc_at}
use Rattle.bson_store.specs.Gathering.{HasNoneAt}
use Rattle.bson_store.specs.Kept.{FindsRows}
use Rattle.bson_store.proofs.KeepLemmas.{noted_more, none_before, none_find, finds_none, misses_none, stay_then, told}
use Rattle.bson_store.proofs.indexed.changing.note_rows.Goals as goal

pub loop-row-preserved : goal.loop-row-preserved
loop-row-preserved c =
    let h = c.loop-row.invariant in
    let P : ℤ = to_z w64 (of_z w64 c.args.last) +ℤ pos 1 in
    let coll = c.args.coll.now in
    let rows = c.args.rows.now in
    let i = c.loop-row.row-index in
    let ixs = c.loop-row.indexes in
    let jxs = c.note.new.self in
    let low : i < length rows = omega (arith, c.loop-row-test.true, c.loop-row.auto.row-index-end) in
    let sum = rw c.in-Some.is at c.checked_add.ensures in
    let Q : ℤ = to_z w64 (of_z w64 c.in-Some.next) in
    let at : Q ≡ (P +ℤ pos i) = omega (arith, ints, sum.0, sum.1, h.at) in
    let made = docs_from P coll (take i rows) in
    let on = λ (d : NewRow) (one : Finds jxs coll Q (get_or rows i d).body.now).
    noted_more ixs jxs made (docs_from P coll (take (i + 1) rows)) (doc_at (P +ℤ pos i) coll (get_or rows i d)) (next_rows P coll rows i d low) c.note.ensures.kept (subst (λ (p : ℤ). Finds jxs coll p (get_or rows i d).body.now) at one) h.noted in
    record {
      at = omega (arith, ints, sum.0, sum.1, h.at);
      noted = on _ (rw c.as_bytes.ensures.value at c.note.ensures.noted);
      kept = λ k p b f. c.note.ensures.kept k p b (h.kept k p b f);
      others = λ p b far missed.
          let parts = none_before P coll rows i p low far in
          c.note.ensures.others p b (λ e. parts.1 (sym (e ∙ at))) (h.others p b parts.0 missed);
      same = stay_then c.args.indexes.now ixs jxs h.same (told ixs jxs c.note.result c.note.ensures.same c.note.ensures.dropped);
      none = λ e. c.note.ensures.none (h.none e);
    }

pub returns-clause-noted : goal.returns-clause-noted
returns-clause-noted c =
    let rows = c.args.rows.now in
    let same : (to_z w64 (of_z w64 c.args.last) +ℤ pos 1) ≡ (c.args.last +ℤ pos 1) = ap (λ q. q +ℤ pos 1) (to_z-of_z w64 c.args.last c.ranges.last) in
    let all : take c.loop-row.row-index rows ≡ rows = take_all c.loop-row.row-index rows (omega (arith, c.loop-row-test.false, c.loop-row.auto.row-index-end)) in
    subst (λ (p : ℤ). FindsRows c.loop-row.indexes (docs_from p c.args.coll.now rows)) same (subst (λ (rs : List NewRow). FindsRows c.loop-row.indexes (docs_from (to_z w64 (of_z w64 c.args.last) +ℤ pos 1) c.args.coll.now rs)) all c.loop-row.invariant.noted)

pub returns-in_default-clause-noted : goal.returns-in_default-clause-noted
returns-in_default-clause-noted c = none_find c.clear.new.self (docs_from (c.args.last +ℤ pos 1) c.args.coll.now c.args.rows.now) c.clear.ensures

pub returns-in_default-clause-kept : goal.returns-in_default-clause-kept
returns-in_default-clause-kept c k p b h = finds_none c.clear.new.self k p b c.clear.ensures

pub returns-clause-others : goal.returns-clause-others
returns-clause-others c p b far missed =
    let rows = c.args.rows.now in
    let same : (to_z w64 (of_z w64 c.args.last) +ℤ pos 1) ≡ (c.args.last +ℤ pos 1) = ap (λ q. q +ℤ pos 1) (to_z-of_z w64 c.args.last c.ranges.last) in
    let all : take c.loop-row.row-index rows ≡ rows = take_all c.loop-row.row-index rows (omega (arith, c.loop-row-test.false, c.loop-row.auto.row-index-end)) in
    c.loop-row.invariant.others p b (subst (λ (rs : List NewRow). HasNoneAt p (docs_from (to_z w64 (of_z w64 c.args.last) +ℤ pos 1) c.args.coll.now rs)) (sym all) (subst (λ (q : ℤ). HasNoneAt p (docs_from q c.args.coll.now rows)) (sym same) far)) missed

pub returns-in_default-clause-others : goal.returns-in_default-clause-others
returns-in_default-clause-others c p b far missed = misses_none c.clear.new.self p b c.clear.ensures

use Rattle.std.proofs.Common.{IsTrue, rules}
use Rattle.store_table.specs.Cells.{doc_of}
use Rattle.store_table.proofs.SeenLemmas.{seen_more, ok_const}
use Rattle.store_table.proofs.check.is_good_after.Goals as goal

pub returns-clause-seen : goal.returns-clause-seen
returns-clause-seen g c docs seen =
    let fresh : IsTrue c.in_ok-meet.field-0 = (let now = c.if-not-branch.false in search rules) in
    ok_const c.accepts_row.result
    (seen_more c.args.seen.now.keys c.meet.new.seen.keys docs (doc_of c.args.row.now) seen (rw (c.bytes_at-coll.ensures, c.bytes_at-idkey.ensures) at (c.in_ok-meet.ensures.added fresh)))

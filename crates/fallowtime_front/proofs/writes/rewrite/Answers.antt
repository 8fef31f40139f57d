use Rattle.std.proofs.Common.{◌≡◌, ℤ, w64, to_z, of_z, subst, rules}
use Rattle.sqlite_wal.proofs.StateLemmas.{StaysOrFails-trans}
use Rattle.sqlite_btree.specs.Cut.{IsIn}
use Rattle.store_table.specs.Rows.{with_body_at}
use Rattle.store_table.specs.Store.{row_at}
use Rattle.store_table.specs.Writer.{Serves}
use Rattle.fallowtime_front.proofs.WriteLemmas.{committed}
use Rattle.fallowtime_front.proofs.writes.rewrite.Goals as goal

pub returns-in-Ok-clause-commits : goal.returns-in-Ok-clause-commits
returns-in-Ok-clause-commits g c clean first docs was serves there =
    let place : to_z w64 (of_z w64 c.args.place) ≡ c.args.place = search rules in
    let made = subst (λ (p : ℤ). IsIn (row_at p c.args.coll.now c.args.key.now was) docs → Serves first c.rewrite.new.self (with_body_at p c.args.body.now docs)) place (c.in-Ok.ensures.done (c.settle.ensures.stays.clean clean) first docs was serves) there in
    committed first c.args.writer.now c.rewrite.new.self c.settle.new.writer c.settle.result docs _ c.rewrite.ensures.keeps (c.settle.ensures.done clean first _ made) (λ all. c.settle.ensures.crash first docs _ all made) c.settle.ensures.faults

pub returns-in-Ok-clause-stays : goal.returns-in-Ok-clause-stays
returns-in-Ok-clause-stays g c = StaysOrFails-trans _ _ _ c.rewrite.ensures.keeps.stays c.settle.ensures.stays

use Rattle.std.proofs.Common.{◌≡◌, ℤ, w64, to_z, of_z, subst, rules}
use Rattle.sqlite_btree.specs.Cut.{IsIn}
use Rattle.sqlite_pool.specs.Pool.{state, usable}
use Rattle.store_table.specs.Rows.{without_place}
use Rattle.store_table.proofs.CleanLemmas.{clean_zero}
use Rattle.store_table.specs.Store.{HasStore, row_at}
use Rattle.store_table.proofs.WriterLemmas.{moved}
use Rattle.store_table.proofs.pages.writer.Writer.remove.Goals as goal

pub returns-in-Ok-clause-done : goal.returns-in-Ok-clause-done
returns-in-Ok-clause-done g c clean first docs body serves has =
    let it = c.args.self.now in
    let place : to_z w64 (of_z w64 c.args.place) ≡ c.args.place = search rules in
    let late = state c.remove.new.pages in
    moved first (state it.pool) late (usable it.pool) (usable c.remove.new.pages) it.roots.table it.roots.index docs (without_place c.args.place docs) c.remove.ensures.kept.in_order.keeps
    (λ version s. subst (λ (p : ℤ). IsIn (row_at p c.args.coll.now c.args.idkey.now body) docs → HasStore first (state it.pool).page_size (usable c.remove.new.pages) version it.roots.table it.roots.index (without_place p docs)) place
    (λ there. c.in-Ok.ensures.done (clean_zero late.is_clean clean) first version docs body s there) has) serves

use Rattle.std.proofs.Common.{◌≡◌, ℤ, w64, to_z, of_z, subst, rules}
use Rattle.sqlite_btree.specs.Cut.{IsIn}
use Rattle.sqlite_pool.specs.Pool.{state, usable}
use Rattle.store_table.specs.Rows.{with_body_at}
use Rattle.store_table.proofs.CleanLemmas.{clean_zero}
use Rattle.store_table.specs.Store.{HasStore, row_at}
use Rattle.store_table.proofs.WriterLemmas.{moved}
use Rattle.store_table.proofs.pages.writer.Writer.rewrite.Goals as goal

pub returns-in-Ok-clause-done : goal.returns-in-Ok-clause-done
returns-in-Ok-clause-done g c clean first docs old serves has =
    let it = c.args.self.now in
    let place : to_z w64 (of_z w64 c.args.place) ≡ c.args.place = search rules in
    let late = state c.rewrite.new.pages in
    moved first (state it.pool) late (usable it.pool) (usable c.rewrite.new.pages) it.roots.table it.roots.index docs (with_body_at c.args.place c.args.body.now docs) c.rewrite.ensures.kept.in_order.keeps
    (λ version s. subst (λ (p : ℤ). IsIn (row_at p c.args.coll.now c.args.idkey.now old) docs → HasStore first (state it.pool).page_size (usable c.rewrite.new.pages) version it.roots.table it.roots.index (with_body_at p c.args.body.now docs)) place
    (λ there. c.in-Ok.ensures.done (clean_zero late.is_clean clean) first version docs old s there) has) serves

use Rattle.std.proofs.Common.{◌≡◌, sym, subst, arith}
use Rattle.sqlite_pages.specs.PageMap.{PageMap}
use Rattle.sqlite_pages.specs.Outcome.{doubt}
use Rattle.sqlite_wal.specs.Files.{seen_image}
use Rattle.sqlite_pool.specs.File.{version_in}
use Rattle.sqlite_pool.specs.Pool.{state, usable}
use Rattle.sqlite_pool.proofs.StateLemmas.{settled}
use Rattle.store_table.proofs.CleanLemmas.{clean_zero, zero_clean}
use Rattle.store_table.specs.Roots.{ListsTwo}
use Rattle.store_table.specs.Store.{HasStore}
use Rattle.store_table.proofs.GivenBackLemmas.{passed_back}
use Rattle.store_table.proofs.PoolLemmas.{found_rows, found_store}
use Rattle.store_table.proofs.WriterLemmas.{kept, all_kept}
use Rattle.store_table.proofs.pages.writer.Writer.open.Goals as goal

pub returns-in-Some-clause-serves : goal.returns-in-Some-clause-serves
returns-in-Some-clause-serves g c clean first trees docs held shows =
    let pool = c.in-Ok.pool in
    let early = state pool in
    let late = state c.own_roots.new.pages in
    let zero = clean_zero late.is_clean clean in
    let before : doubt early.is_clean ≡ 0 = omega (arith, zero, c.own_roots.ensures.kept.clean) in
    let it = c.in-Ok.ensures.open (zero_clean early.is_clean before) in
    let two = subst (λ (p : PageMap). ListsTwo early.page_size p c.in-Some.roots.table c.in-Some.roots.index) it.clean.fresh (c.in-Some.ensures.found zero) in
    let image = seen_image g.D.Disk c.args.files.log c.args.files.db in
    let has = found_store image trees held early.page_size it.sized it.named early.committed it.found it.clean.sound first docs shows c.in-Some.roots.table c.in-Some.roots.index two in
    kept first early late (usable pool) (usable c.own_roots.new.pages) c.in-Some.roots.table c.in-Some.roots.index docs c.own_roots.ensures.kept.in_order.keeps c.own_roots.ensures.pages
    (λ _. subst (λ (p : PageMap). HasStore first early.page_size p (version_in early.committed) c.in-Some.roots.table c.in-Some.roots.index docs) (sym it.clean.fresh) has)

pub returns-in-Some-clause-leaves : goal.returns-in-Some-clause-leaves
returns-in-Some-clause-leaves g c clean first trees docs held shows =
    let pool = c.in-Ok.pool in
    let early = state pool in
    let late = state c.own_roots.new.pages in
    let zero = clean_zero late.is_clean clean in
    let before : doubt early.is_clean ≡ 0 = omega (arith, zero, c.own_roots.ensures.kept.clean) in
    let it = c.in-Ok.ensures.open (zero_clean early.is_clean before) in
    let image = seen_image g.D.Disk c.args.files.log c.args.files.db in
    let durable = (settled pool g.met.D.Disk.seen_may_stay it.clean.is_open).durable in
    all_kept first early late docs c.own_roots.ensures.kept.in_order.keeps
    (λ left may. ∣ found_rows image trees held early.page_size it.sized it.named early.committed it.found it.clean.sound first docs shows left (durable left may) ∣₁)

pub returns-in-Some-clause-something : goal.returns-in-Some-clause-something
returns-in-Some-clause-something g c clean =
    let zero = clean_zero (state c.own_roots.new.pages).is_clean clean in
    let before : doubt (state c.in-Ok.pool).is_clean ≡ 0 = omega (arith, zero, c.own_roots.ensures.kept.clean) in
    c.in-Ok.ensures.something (zero_clean (state c.in-Ok.pool).is_clean before)

pub returns-in-None-clause-back : goal.returns-in-None-clause-back
returns-in-None-clause-back g c clean =
    passed_back c.args.files c.in-Ok.pool c.own_roots.new.pages c.own_roots.ensures.kept.in_order.keeps c.in-Ok.ensures.something (λ still. (c.in-Ok.ensures.open still).named) c.in-Ok.ensures.alike
    c.close.result c.close.ensures clean

use Rattle.std.proofs.Common.{◌≡◌, ◌∙◌, ◌+ℤ◌, pos, IsTrue, w64, to_z, of_z, sym, ap, arith, rules}
use Rattle.sqlite_wal.proofs.StateLemmas.{open_from}
use Rattle.sqlite_pages.specs.Outcome.{doubt}
use Rattle.sqlite_pool.specs.File.{version_in}
use Rattle.sqlite_pool.specs.Pool.{state, usable}
use Rattle.store_table.specs.Rows.{last_place}
use Rattle.store_table.proofs.CleanLemmas.{clean_zero, zero_clean}
use Rattle.store_table.proofs.WriterLemmas.{kept, room_is, no_room}
use Rattle.store_table.proofs.pages.writer.Writer.next_place.Goals as goal

pub returns-in-Some-clause-found : goal.returns-in-Some-clause-found
returns-in-Some-clause-found g c clean first docs serves =
    let it = c.args.self.now in
    let old = state it.pool in
    let late = state c.last_row.new.pages in
    let zero = clean_zero late.is_clean clean in
    let before : doubt old.is_clean ≡ 0 = omega (arith, zero, c.last_row.ensures.kept.clean) in
    let ready : IsTrue old.is_ready = sym c.is_open.ensures ∙ c.if-not-is_open.false in
    let s = serves (open_from old ready (zero_clean old.is_clean before)) in
    let last : to_z w64 (of_z w64 c.in-Ok.last) ≡ c.in-Ok.last = search rules in
    let found : c.in-Ok.last ≡ last_place docs = c.in-Ok.ensures.found zero first (version_in old.committed) docs s in
    let next : c.in-Some.place ≡ (last_place docs +ℤ pos 1) = c.in-Some.ensures.1 ∙ ap (λ n. n +ℤ pos 1) (last ∙ found) in
    let placed : to_z w64 (of_z w64 c.in-Some.place) ≡ c.in-Some.place = search rules in
    (placed ∙ next, room_is docs _ (last ∙ found) c.in-Some.ensures.0)

pub returns-in-None-clause-full : goal.returns-in-None-clause-full
returns-in-None-clause-full g c clean first docs serves is =
    let it = c.args.self.now in
    let old = state it.pool in
    let late = state c.last_row.new.pages in
    let zero = clean_zero late.is_clean clean in
    let before : doubt old.is_clean ≡ 0 = omega (arith, zero, c.last_row.ensures.kept.clean) in
    let ready : IsTrue old.is_ready = sym c.is_open.ensures ∙ c.if-not-is_open.false in
    let s = serves (open_from old ready (zero_clean old.is_clean before)) in
    let last : to_z w64 (of_z w64 c.in-Ok.last) ≡ c.in-Ok.last = search rules in
    let found : c.in-Ok.last ≡ last_place docs = c.in-Ok.ensures.found zero first (version_in old.committed) docs s in
    no_room docs _ (last ∙ found) (search rules) c.in-None.ensures

pub returns-in-Some-clause-same : goal.returns-in-Some-clause-same
returns-in-Some-clause-same g c clean first docs serves =
    let it = c.args.self.now in
    kept first (state it.pool) (state c.last_row.new.pages) (usable it.pool) (usable c.last_row.new.pages) it.roots.table it.roots.index docs c.last_row.ensures.kept.in_order.keeps c.last_row.ensures.pages serves

pub returns-in-None-clause-same : goal.returns-in-None-clause-same
returns-in-None-clause-same g c clean first docs serves =
    let it = c.args.self.now in
    kept first (state it.pool) (state c.last_row.new.pages) (usable it.pool) (usable c.last_row.new.pages) it.roots.table it.roots.index docs c.last_row.ensures.kept.in_order.keeps c.last_row.ensures.pages serves

pub returns-in-Err-clause-same : goal.returns-in-Err-clause-same
returns-in-Err-clause-same g c clean first docs serves =
    let it = c.args.self.now in
    kept first (state it.pool) (state c.last_row.new.pages) (usable it.pool) (usable c.last_row.new.pages) it.roots.table it.roots.index docs c.last_row.ensures.kept.in_order.keeps c.last_row.ensures.pages serves

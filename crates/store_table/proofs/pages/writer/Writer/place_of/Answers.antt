use Rattle.std.proofs.Common.{◌≡◌, IsTrue, map, sym, ◌∙◌, arith}
use Rattle.sqlite_wal.proofs.StateLemmas.{open_from}
use Rattle.sqlite_pages.specs.Outcome.{doubt}
use Rattle.sqlite_pool.specs.File.{version_in}
use Rattle.sqlite_pool.specs.Pool.{state, usable}
use Rattle.store_table.specs.Bridge.{as_doc}
use Rattle.store_table.proofs.CleanLemmas.{clean_zero, zero_clean}
use Rattle.store_table.proofs.DocLemmas.{are_documents, places_alike}
use Rattle.store_table.proofs.WriterLemmas.{kept}
use Rattle.store_table.proofs.pages.writer.Writer.place_of.Goals as goal

pub returns-in-Ok-clause-found : goal.returns-in-Ok-clause-found
returns-in-Ok-clause-found g c clean first docs has =
    let it = c.args.self.now in
    let old = state it.pool in
    let late = state c.place_named.new.pages in
    let zero = clean_zero late.is_clean clean in
    let before : doubt old.is_clean ≡ 0 = omega (arith, zero, c.place_named.ensures.kept.clean) in
    let ready : IsTrue old.is_ready = sym c.is_open.ensures ∙ c.if-not-is_open.false in
    let s = has (open_from old ready (zero_clean old.is_clean before)) in
    c.in-Ok.ensures.found zero (map as_doc docs) (are_documents first old.page_size (usable it.pool) (version_in old.committed) it.roots.table it.roots.index docs s)
    ∙ places_alike c.args.coll.now c.args.idkey.now docs

pub returns-in-Ok-clause-same : goal.returns-in-Ok-clause-same
returns-in-Ok-clause-same g c clean first docs has =
    let it = c.args.self.now in
    kept first (state it.pool) (state c.place_named.new.pages) (usable it.pool) (usable c.place_named.new.pages) it.roots.table it.roots.index docs c.place_named.ensures.kept.in_order.keeps c.place_named.ensures.pages has

pub returns-in-Err-clause-same : goal.returns-in-Err-clause-same
returns-in-Err-clause-same g c clean first docs has =
    let it = c.args.self.now in
    kept first (state it.pool) (state c.place_named.new.pages) (usable it.pool) (usable c.place_named.new.pages) it.roots.table it.roots.index docs c.place_named.ensures.kept.in_order.keeps c.place_named.ensures.pages has

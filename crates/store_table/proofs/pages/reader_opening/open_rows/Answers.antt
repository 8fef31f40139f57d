use Rattle.std.proofs.Common.{◌≡◌, ℕ, map, sym, subst₂, arith}
use Rattle.sqlite_pages.specs.PageMap.{PageMap}
use Rattle.sqlite_pages.specs.Outcome.{doubt}
use Rattle.sqlite_wal.specs.Files.{seen_image}
use Rattle.store_table.specs.Documents.{AreDocuments}
use Rattle.store_table.specs.Snapshot.{is_clean_of, pages_of, size_of}
use Rattle.store_table.proofs.RootLemmas.{some_then}
use Rattle.store_table.specs.Bridge.{as_doc}
use Rattle.store_table.proofs.BridgeLemmas.{all_shown}
use Rattle.store_table.proofs.CleanLemmas.{clean_zero, zero_clean}
use Rattle.store_table.proofs.pages.reader_opening.open_rows.Goals as goal

pub returns-in-Some : goal.returns-in-Some
returns-in-Some g c clean trees first docs held shows =
    let zero = clean_zero (is_clean_of c.find_roots.new.pages) clean in
    let before : doubt (is_clean_of c.in_ok-snapshot.snapshot) ≡ 0 = omega (arith, zero, c.find_roots.ensures.kept.clean) in
    let opened = zero_clean (is_clean_of c.in_ok-snapshot.snapshot) before in
    let two = some_then _ _ _ c.in-Some.is c.in_ok-roots.ensures.found zero in
    let plain = some_then _ _ _ c.in-Some.is c.in_ok-roots.ensures.plain zero in
    let are = all_shown (seen_image g.D.Disk c.args.files.log c.args.files.db) trees first docs (size_of c.in_ok-snapshot.snapshot) (pages_of c.in_ok-snapshot.snapshot)
    c.in-Some.roots.table c.in-Some.roots.index held shows (c.in_ok-snapshot.ensures.named opened) (c.in_ok-snapshot.ensures.found opened) plain two in
    subst₂ (λ (n : ℕ) (p : PageMap). AreDocuments n p c.in-Some.roots.table c.in-Some.roots.index (map as_doc docs)) (sym c.find_roots.ensures.kept.same_size) (sym c.find_roots.ensures.pages) are

use Rattle.std.proofs.Common.{◌≡◌, ◌∙◌, length, arith}
use Rattle.std.proofs.lemmas.Result.{on_ok_weaker}
use Rattle.sqlite_wal.specs.Reads.{AreClean}
use Rattle.sqlite_wal.specs.Recovery.{page_after}
use Rattle.sqlite_wal.proofs.CleanLemmas.{halves}
use Rattle.store_table.proofs.FrameLemmas.{page_from_log, page_from_file}
use Rattle.store_table.proofs.pages.snapshot.read_page.Goals as goal

pub returns-in-Some-clause-ok : goal.returns-in-Some-clause-ok
returns-in-Some-clause-ok g c =
    on_ok_weaker {Q = AreClean g.D.Disk c.read_at.new.self c.args.files.now.db → page_after c.args.size (g.D.Disk.seen c.args.files.now.log) (g.D.Disk.seen c.args.files.now.db) c.args.page (length c.args.frames.now) ≡ c.read_at.new.buf} _ (λ read clean.
    let now = halves g.D.Disk _ _ clean in
    let held = rw c.frame_offset.ensures.value at (read now.0 (omega (arith, c.requires.sized))) in
    page_from_log c.args.size _ _ c.read_at.new.buf c.args.frames.now c.args.page c.in-Some.at c.in-Some.ensures (c.requires.numbered (c.read_at.ensures.clean now.0)) (c.read_at.auto.buf ∙ c.requires.sized) held)
    c.read_at.ensures.read

pub returns-in-None-clause-ok : goal.returns-in-None-clause-ok
returns-in-None-clause-ok g c =
    on_ok_weaker {Q = AreClean g.D.Disk c.args.files.now.log c.read_at-in-None.new.self → page_after c.args.size (g.D.Disk.seen c.args.files.now.log) (g.D.Disk.seen c.args.files.now.db) c.args.page (length c.args.frames.now) ≡ c.read_at-in-None.new.buf} _ (λ read clean.
    let now = halves g.D.Disk _ _ clean in
    page_from_file c.args.size _ _ c.read_at-in-None.new.buf c.args.frames.now c.args.page c.in-None.ensures (c.requires.numbered now.0) (c.read_at-in-None.auto.buf ∙ c.requires.sized) (read now.1 (omega (arith, c.requires.sized))))
    c.read_at-in-None.ensures.read

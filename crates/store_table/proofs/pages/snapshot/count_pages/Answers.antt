use Rattle.std.proofs.Common.{◌∙◌, ◌<◌, length, arith, rules}
use Rattle.sqlite_wal.proofs.CleanLemmas.{halves}
use Rattle.store_table.proofs.FrameLemmas.{count_read}
use Rattle.store_table.proofs.pages.snapshot.count_pages.Goals as goal

pub returns-in-Ok-read_at-clause-ok : goal.returns-in-Ok-read_at-clause-ok
returns-in-Ok-read_at-clause-ok g c clean =
    let now = halves g.D.Disk _ _ clean in
    let held = rw c.frame_offset.ensures.value at (c.in-Ok-read_at.ensures.read now.0 (omega arith)) in
    let some : 0 < length c.args.frames.now = search rules in
    c.number_of.ensures ∙ count_read c.args.size (length c.args.frames.now) (g.D.Disk.seen c.args.files.now.log) (g.D.Disk.seen c.args.files.now.db) c.read_at.new.buf some c.read_at.auto.buf held

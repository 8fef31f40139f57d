use Rattle.std.proofs.Common.{◌≡◌, ℕ, IsTrue, ◌+◌, ◌≤◌, length, subst}
use Rattle.sqlite_disk.specs.Disk.{CountsFaultIf}
use Rattle.cli_files.specs.Parts.{faults_of, is_clean_of, seen_of}
use Rattle.cli_files.proofs.PartLemmas.{counts_if}
use Rattle.cli_files.proofs.parts.FilePartsDisk.read_at.Goals as goal

pub returns-clause-faults : goal.returns-clause-faults
returns-clause-faults g c =
    subst (λ n. CountsFaultIf (IsTrue (is_clean_of g.S.Start c.args.self.now) → c.args.at + length c.args.buf.now ≤ length (seen_of g.S.Start c.args.self.now)) c.count.result n c.count.new.faults)
    c.read_part-read.ensures.faults (counts_if _ c.count.result _ _ c.count.ensures.faults)

use Rattle.std.proofs.Common.{◌≡◌, ◌∙◌, ℕ, Some, sym, ap, subst, subst₂, rules}
use Rattle.sqlite_disk.specs.Disk.{Holds}
use Rattle.cli_files.proofs.PartLemmas.{agree_at}
use Rattle.cli_files.proofs.parts.recall.Goals as goal

pub returns : goal.returns
returns c met file all =
    let at : c.in-Some.part.now.at ≡ c.args.at = search rules in
    let bytes : c.copy_from_slice.new.self ≡ c.in-Some.part.now.bytes.items = search rules in
    subst₂ (Holds file) at (sym bytes) (agree_at file c.args.parts.now c.place_of.result c.in-Some.part.now c.in-Some.ensures.lookup.3.0 c.in-Some.ensures.lookup.1 all)

use Rattle.std.proofs.Common.{rules, ◌≡◌}
use Rattle.cli_files.proofs.copying.whole.Goals as goal

pub returns-in-Ok : goal.returns-in-Ok
returns-in-Ok c =
    let same : c.into_bytes.result.items ≡ c.in-Ok.files.db.bytes.items = search rules in
    let copied = c.in-Ok.ensures.copied (search rules) in
    rw same copied.seen.alone

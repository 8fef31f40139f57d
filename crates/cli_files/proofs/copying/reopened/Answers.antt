use Rattle.std.proofs.Common.{rules, ◌≡◌, []}
use Rattle.std.proofs.Math.Logic.{∥∥₁_map}
use Rattle.cli_files.proofs.copying.reopened.Goals as goal

pub returns-in-Ok-clause-opened : goal.returns-in-Ok-clause-opened
returns-in-Ok-clause-opened c = c.in-Ok.ensures.opened c.in-Ok.ensures.clean

pub returns-in-Ok-clause-found : goal.returns-in-Ok-clause-found
returns-in-Ok-clause-found c =
    let log : c.new-2.result.bytes.items ≡ [] = search rules in
    let same : c.new-3.result.bytes.items ≡ c.in_ok-bytes.bytes.items = search rules in
    let found = c.in-Ok.ensures.found c.in-Ok.ensures.clean in
    ∥∥₁_map c.in_ok-bytes.ensures (λ held. found.holds _ (rw (log, same) held))

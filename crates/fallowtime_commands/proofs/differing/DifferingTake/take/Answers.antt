use Rattle.std.proofs.Common.{◌∙◌}
use Rattle.bson_raw.specs.View.{bytes_of}
use Rattle.fallowtime_commands.proofs.FindingLemmas.{kept_body}
use Rattle.fallowtime_commands.proofs.differing.DifferingTake.take.Goals as goal

pub returns-clause-took : goal.returns-clause-took
returns-clause-took c first out d kept is h =
    (c.in_ok-take.ensures.path ∙ h.0, c.in_ok-take.ensures.holds out h.1 d (kept_body (bytes_of c.args.document) d is kept))

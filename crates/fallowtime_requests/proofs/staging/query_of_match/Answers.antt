use Rattle.std.proofs.Common.{ap, sym, ◌∙◌}
use Rattle.fallowtime_requests.specs.Staging.{match_of}
use Rattle.fallowtime_requests.proofs.OptionLemmas.{object_seen}
use Rattle.fallowtime_requests.proofs.staging.query_of_match.Goals as goal

pub returns-in-Object : goal.returns-in-Object
returns-in-Object c =
    let seen = object_seen c.args.stage.now c.in-Object.members c.as_slice.result.now c.in-Object.is c.as_slice.ensures.value in
    c.query_among.ensures ∙ ap match_of (sym seen)

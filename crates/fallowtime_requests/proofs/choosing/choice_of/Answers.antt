use Rattle.std.proofs.Common.{◌≡◌, sym, subst}
use Rattle.fallowtime_requests.specs.Upserts.{choice_of}
use Rattle.fallowtime_requests.proofs.OptionLemmas.{object_seen}
use Rattle.fallowtime_requests.proofs.choosing.choice_of.Goals as goal

pub returns-in-Object : goal.returns-in-Object
returns-in-Object c =
    let seen = object_seen c.args.options.now c.in-Object.members c.as_slice.result.now c.in-Object.is c.as_slice.ensures.value in
    subst (λ j. c.choice_among.result ≡ choice_of c.args.several j) (sym seen) c.choice_among.ensures

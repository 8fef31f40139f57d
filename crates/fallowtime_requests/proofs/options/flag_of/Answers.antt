use Rattle.fallowtime_requests.proofs.OptionLemmas.{of_object}
use Rattle.fallowtime_requests.proofs.options.flag_of.Goals as goal

pub returns-in-Object : goal.returns-in-Object
returns-in-Object c =
    of_object c.args.name.now c.args.options.now c.in-Object.members c.as_slice.result.now c.flag_among.result c.in-Object.is c.as_slice.ensures.value c.flag_among.ensures

use Rattle.std.proofs.Common.{refl}
use Rattle.fallowtime_requests.proofs.reading.export.Goals as goal

pub returns : goal.returns
returns c = λ m. (c.in_ok-collection.ensures m, c.ask_for_all.ensures, c.all_of.ensures, refl, refl)

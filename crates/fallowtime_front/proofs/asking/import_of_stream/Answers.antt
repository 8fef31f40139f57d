use Rattle.std.proofs.Common.{Bor, List, ℕ, ap}
use Rattle.fallowtime_front.proofs.asking.import_of_stream.Goals as goal

pub returns-in-Ok : goal.returns-in-Ok
returns-in-Ok g c =
    (c.in-Ok.stream, ap (λ (b : Bor (List ℕ)). b.now) c.without_lines.ensures.collection, c.without_lines.ensures.request, c.without_lines.ensures.lines, c.in-Ok.ensures.ok)

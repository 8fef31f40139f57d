use Rattle.std.proofs.Common.{◌∙◌, Bor, List, ℕ, ap, refl}
use Rattle.fallowtime_front.proofs.asking.asked_of.Goals as goal

pub returns-in-Export : goal.returns-in-Export
returns-in-Export g c =
    let named = ap (λ (b : Bor (List ℕ)). b.now) c.without_lines.ensures.collection ∙ c.collection_of.ensures in
    rw c.in-Export.is ((c.without_lines.result, refl, named, c.without_lines.ensures.request, c.without_lines.ensures.lines), refl, refl)

use Rattle.std.proofs.Common.{◌≡◌}
use Rattle.store_model.specs.Left.{Is}
use Rattle.store_model.proofs.LeftLemmas.{left_goes_on}
use Rattle.store_model.proofs.laws.crashes_go_on.Goals as goal

pub returns : goal.returns
returns c w s t u cs rs d r run o turn = let g = left_goes_on Is (λ y. y ≡ s) w s cs rs t u d r run o turn in (g.0, g.1.0, g.1.1)

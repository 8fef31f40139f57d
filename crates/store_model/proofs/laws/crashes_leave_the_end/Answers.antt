use Rattle.std.proofs.Common.{◌≡◌, subst, sym}
use Rattle.store_model.specs.Left.{Is, IsEndOrOneMore}
use Rattle.store_model.proofs.LeftLemmas.{left_in_the_end}
use Rattle.store_model.proofs.laws.crashes_leave_the_end.Goals as goal

pub returns : goal.returns
returns c w s t cs rs run good x h = let e = left_in_the_end Is (λ y. y ≡ s) w s t cs rs run good.nonempty (λ y b. b) x h in subst (IsEndOrOneMore cs t) (sym e.1) e.2

use Rattle.std.proofs.Common.{[], ◌∷◌, refl, sym, ◌∙◌, true≢false}
use Rattle.fallowtime_commands.proofs.MeantLemmas.{one_more, settled}
use Rattle.fallowtime_commands.proofs.meant.MeantTake.take.Goals as goal

pub returns-then-is_enough-clause-took : goal.returns-then-is_enough-clause-took
returns-then-is_enough-clause-took c first out d kept is means =
    settled first c.args.self.now out (d ∷ []) (rw c.as_slice.ensures.value at c.is_enough.ensures.enough c.if-is_enough.true) means

pub returns-clause-took : goal.returns-clause-took
returns-clause-took c first out d kept is means =
    one_more first c.args.self.now record { copies = c.take.new.self; many = c.args.self.now.many } c.take.result out d (rw c.as_slice.ensures.value at c.is_enough.ensures.wanted (λ yes. true≢false (sym yes ∙ c.if-is_enough.false))) refl means (λ es are. c.take.ensures.took c.args.self.now.copies es d kept is are)

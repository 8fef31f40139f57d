use Rattle.std.proofs.Common.{◌++◌, sym, subst}
use Rattle.store_asked.specs.Arranged.{Holding, arrangement_of}
use Rattle.store_asked.proofs.GatherLemmas.{first_settled}
use Rattle.store_asked.proofs.gathering.GatheringTake.is_done.Goals as goal

pub returns-in-First : goal.returns-in-First
returns-in-First c done first out more kept h =
    let a = arrangement_of c.args.self.now in (
      h.0,
      subst (λ k. Holding a k (out ++ more)) (sym c.in-First.is) (first_settled a c.in-First.first (c.is_done.ensures done) out more kept (subst (λ k. Holding a k out) c.in-First.is h.1)),
    )

use Rattle.std.proofs.Common.{subst}
use Rattle.store_asked.specs.Arranged.{AreArranged, Holding}
use Rattle.store_asked.proofs.GatherLemmas.{first_arranged}
use Rattle.store_asked.proofs.gathering.Gathering.into_bodies.Goals as goal

pub returns-in-First : goal.returns-in-First
returns-in-First c first ds h =
    let a = c.args.self.arrangement.now in
    subst (λ x. AreArranged x c.into_window.result ds) h.0
    (first_arranged a c.in-First.first ds c.into_bodies.result c.into_window.result (subst (λ k. Holding a k ds) c.in-First.is h.1) c.into_bodies.ensures c.into_window.ensures)

use Rattle.std.proofs.Common.{sym, subst, w64}
use Rattle.std.proofs.lemmas.Int.{to_z-of_z}
use Rattle.fallowtime_messages.specs.Waiting.{IsOf, wait_of}
use Rattle.fallowtime_messages.proofs.WaitLemmas.{taken_out}
use Rattle.fallowtime_messages.proofs.taking.take_out.Goals as goal

pub returns-in-Some : goal.returns-in-Some
returns-in-Some c =
    let at = rw c.as_slice.ensures.value at c.in-Some.ensures in
    let of = rw (sym c.remove.ensures.value) at (at.1 c.remove.result) in
    taken_out c.args.cursors.now.items c.remove.new.self.items c.in-Some.place c.remove.result c.args.id c.args.space.now at.0 c.remove.ensures.value c.remove.ensures.by_index.2
    (subst (λ z. IsOf z c.args.space.now (wait_of c.remove.result)) (to_z-of_z w64 c.args.id c.ranges.id) of)

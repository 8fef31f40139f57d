use Rattle.std.proofs.Common.{ℕ, ◌<◌, ◌-◌, Vec, sym, subst, arith, rules}
use Rattle.std.specs.declared.alloc.Global.{Global}
use Rattle.store_pipeline.proofs.PlaceLemmas.{zip_at}
use Rattle.store_pipeline.specs.Bodies.{IsBody}
use Rattle.std.specs.Prelude.{slice_index_or}
use Rattle.store_asked.proofs.nearing.are_first.Goals as goal

pub returns : goal.returns
returns c inside =
    let some : 0 < c.args.wanted = search rules in (
      c.if-bodies-wanted.false,
      some,
      (λ es are e.
          let here = zip_at (λ (b : Vec ℕ Global) d. IsBody b.items d) (c.args.wanted - 1) c.args.bodies.now es c.index-bodies-wanted.result e are (omega (arith, some, c.if-bodies-wanted.false)) in
          let told = subst (λ (b : Vec ℕ Global). IsBody b.items (slice_index_or es (c.args.wanted - 1) e)) (sym c.index-bodies-wanted.is) here in
          c.is_inside.ensures (slice_index_or es (c.args.wanted - 1) e) (subst (λ bs. IsBody bs (slice_index_or es (c.args.wanted - 1) e)) (sym c.as_slice.ensures.value) told) inside),
    )

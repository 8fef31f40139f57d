use Rattle.std.proofs.Common.{◌≡◌, ◌∙◌, subst, sym, arith}
use Rattle.store_documents.proofs.PlaceLemmas.{Left, at_end, behind, first, met_before, one_down, within}
use Rattle.store_documents.proofs.key_order.place_of.Goals as goal

pub loop-at-init : goal.loop-at-init
loop-at-init g c = at_end c.args.key.now c.args.pairs.now

pub offset_bounds-pairs-at : goal.offset_bounds-pairs-at
offset_bounds-pairs-at g c = let low = within c.args.key.now c.loop-at.at c.args.pairs.now c.loop-at.invariant in omega (arith, c.loop-at-test.true)

pub bounds-pairs-at : goal.bounds-pairs-at
bounds-pairs-at g c = let low = within c.args.key.now c.loop-at.at c.args.pairs.now c.loop-at.invariant in omega (arith, c.loop-at-test.true)

pub bounds-pairs-at-in-loop-at : goal.bounds-pairs-at-in-loop-at
bounds-pairs-at-in-loop-at g c = let low = within c.args.key.now c.loop-at.at c.args.pairs.now c.loop-at.invariant in omega (arith, c.loop-at-test.true)

pub loop-at-preserved : goal.loop-at-preserved
loop-at-preserved g c = one_down c.args.key.now c.loop-at.at c.args.pairs.now c.index-pairs-at.result c.loop-at-test.true c.loop-at.invariant (sym c.cmp.ensures ∙ c.in-Less.is)

pub returns-in-Greater-clause-goes : goal.returns-in-Greater-clause-goes
returns-in-Greater-clause-goes g c = behind c.args.key.now c.loop-at.at c.args.pairs.now c.index-pairs-at.result c.loop-at-test.true c.requires c.loop-at.invariant (sym c.cmp.ensures ∙ c.in-Greater.is)

pub returns-in-Greater-clause-within : goal.returns-in-Greater-clause-within
returns-in-Greater-clause-within g c = within c.args.key.now c.loop-at.at c.args.pairs.now c.loop-at.invariant

pub returns-clause-goes : goal.returns-clause-goes
returns-clause-goes g c =
    let none : c.loop-at.at ≡ 0 = omega (arith, c.loop-at-test.false) in
    first c.args.key.now c.args.pairs.now (subst (λ n. Left c.args.key.now n c.args.pairs.now) none c.loop-at.invariant)

pub returns-in-Equal-clause-here : goal.returns-in-Equal-clause-here
returns-in-Equal-clause-here g c = met_before c.args.key.now c.loop-at.at c.args.pairs.now c.index-pairs-at.result c.loop-at-test.true c.loop-at.invariant (sym c.cmp.ensures ∙ c.in-Equal.is)

use Rattle.std.proofs.Common.{◌∙◌, arith}
use Rattle.bson_decimal.proofs.SumLemmas.{add_first, add_second}
use Rattle.bson_decimal.proofs.sums.add.Goals as goal

pub returns-then-f-e-clause-equal : goal.returns-then-f-e-clause-equal
returns-then-f-e-clause-equal c =
    let a = c.in-Finite in
    let b = c.in-Finite-b-2 in
    c.align.ensures.equal ∙ add_first c.args.a c.args.b a.s b.t a.c a.e b.d b.f a.is b.is c.if-f-e.true

pub returns-else-f-e-clause-equal : goal.returns-else-f-e-clause-equal
returns-else-f-e-clause-equal c =
    let a = c.in-Finite in
    let b = c.in-Finite-b-2 in
    c.align-else-f-e.ensures.equal ∙ add_second c.args.a c.args.b a.s b.t a.c a.e b.d b.f a.is b.is (omega arith)

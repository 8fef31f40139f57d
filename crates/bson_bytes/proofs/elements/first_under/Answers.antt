use Rattle.std.proofs.Common.{sym, ◌∙◌}
use Rattle.std.proofs.lemmas.Slice.Eq.{bytes_eq-Decides}
use mathlib.Core.Bool.{true≢false}
use Rattle.bson_frame.specs.View.{element_of}
use Rattle.bson_bytes.proofs.TurnLemmas.{first_behind, first_here}
use Rattle.bson_bytes.proofs.elements.first_under.Goals as goal

pub returns-then-eq : goal.returns-then-eq
returns-then-eq c =
    let k = c.args.key.now in
    let e = element_of c.in_ok-frame.frame in
    let same = (bytes_eq-Decides c.in_ok-frame.frame.key.now k).0 (sym c.eq.ensures ∙ c.if-eq.true) in
    (c.loop.invariant e (first_here k c.loop.rest.now c.in_ok-frame.frame.rest.now e c.in_ok-frame.ensures.0 same), c.in_ok-frame.ensures.1)

pub loop-preserved : goal.loop-preserved
loop-preserved c f rest =
    let k = c.args.key.now in
    let found = c.in_ok-frame.frame.key.now in
    let differ = c.if-eq.false in
    c.loop.invariant f (first_behind k c.loop.rest.now c.in_ok-frame.frame.rest.now (element_of c.in_ok-frame.frame) f c.in_ok-frame.ensures.0
    (λ is. true≢false (sym ((bytes_eq-Decides found k).1 is) ∙ sym c.eq.ensures ∙ differ)) rest)

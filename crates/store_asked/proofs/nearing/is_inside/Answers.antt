use Rattle.std.proofs.Common.{rules, arith, ◌≡◌, sym, ap, subst, ◌∙◌, true}
use Rattle.std.proofs.lemmas.Int.{ints, to_z-of_z}
use Rattle.std.specs.Prelude.{◌≤ℤ◌}
use lib.Signed.{le_z}
use mir.Syntax.{w64}
use mir.Val.{SFits, to_z, of_z}
use Rattle.bson_order.proofs.TurnLemmas.{kind_spelled}
use Rattle.bson_order.specs.Order.{rank}
use Rattle.bson_store.specs.Parts.{part}
use Rattle.store_pipeline.specs.Bodies.{IsBody}
use Rattle.store_pipeline.specs.Order.{sorted_by}
use Rattle.store_question.proofs.ViewLemmas.{shows}
use Rattle.store_question.specs.Filters.{path_of}
use Rattle.store_question.specs.Reads.{Found}
use Rattle.store_asked.specs.Near.{value_by}
use Rattle.store_asked.proofs.nearing.is_inside.Goals as goal

pub returns-then-range-part : goal.returns-then-range-part
returns-then-range-part c d is top =
    let here : SFits w64 c.part_of-part.result = search rules in
    let low : SFits w64 c.args.range.now.low = search rules in
    let high : SFits w64 c.args.range.now.high = search rules in
    let above : le_z c.args.range.now.low c.part_of-part.result ≡ true = subst (λ x. le_z x c.part_of-part.result ≡ true) (to_z-of_z w64 c.args.range.now.low low) (subst (λ x. le_z (to_z w64 (of_z w64 c.args.range.now.low)) x ≡ true) (to_z-of_z w64 c.part_of-part.result here) c.if-range-part.true) in
    let below : le_z c.part_of-part.result c.args.range.now.high ≡ true = subst (λ x. le_z x c.args.range.now.high ≡ true) (to_z-of_z w64 c.part_of-part.result here) (subst (λ x. le_z (to_z w64 (of_z w64 c.part_of-part.result)) x ≡ true) (to_z-of_z w64 c.args.range.now.high high) top) in
    let v = value_by c.args.key.now d in
    let found : Found c.sort_value-value.result v = subst (λ p. Found c.sort_value-value.result (sorted_by (path_of p) c.args.key.now.descending d)) c.as_slice.ensures.value (c.sort_value-value.ensures d (subst (λ bs. IsBody bs d) (sym c.in-Ok.ensures) is)) in
    let spelled = shows c.sort_value-value.result v found.encodes found.back in
    let told : c.part_of-part.result ≡ part v = c.part_of-part.ensures v spelled in (
      sym (ap rank (kind_spelled c.sort_value-value.result v spelled)) ∙ sym c.rank_of.ensures ∙ c.if-rank_of-range.false,
      subst (λ x. c.args.range.now.low ≤ℤ x) told (omega (arith, ints, above)),
      subst (λ x. x ≤ℤ c.args.range.now.high) told (omega (arith, ints, below)),
    )

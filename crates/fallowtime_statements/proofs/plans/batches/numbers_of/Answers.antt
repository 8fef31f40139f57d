use Rattle.std.specs.Prelude.{FitsSigned}
use Rattle.std.proofs.Common.{ℤ, Some, ◌∙◌, ◌++◌, ◌∷◌, [], ap, rules, w64}
use Rattle.std.proofs.lemmas.Int.{to_z-of_z}
use Rattle.bson_model.specs.View.{view}
use Rattle.bson_model.specs.declared.bson.Bson.{Bson}
use Rattle.fallowtime_statements.specs.Lines.{IsWhole}
use Rattle.fallowtime_statements.proofs.ListLemmas.{zip_more, zip_whole}
use Rattle.fallowtime_statements.proofs.plans.batches.numbers_of.Goals as goal

pub loop-item-preserved : goal.loop-item-preserved
loop-item-preserved c =
    let l = c.loop-item in
    let id = c.in_ok-id.id in
    let fits : FitsSigned w64 id = search rules in
    zip_more (λ (v : Bson) (z : ℤ). IsWhole (Some (view v)) z) c.args.items.now l.ids.items c.push.new.self.items l.item-index c.item-item.result id c.loop-item-test.true c.item-item.is (c.in_ok-push.ensures.items ∙ ap (λ z. l.ids.items ++ z ∷ []) (to_z-of_z w64 id fits)) l.invariant c.in_ok-id.ensures

pub returns : goal.returns
returns c =
    let l = c.loop-item in
    zip_whole (λ (v : Bson) (z : ℤ). IsWhole (Some (view v)) z) c.args.items.now l.ids.items l.item-index c.loop-item-test.false l.invariant

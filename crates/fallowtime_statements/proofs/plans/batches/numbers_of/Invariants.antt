use Rattle.std.proofs.Common.{ℤ, Some, take}
use Rattle.std.specs.List.{AllZip}
use Rattle.bson_model.specs.View.{view}
use Rattle.bson_model.specs.declared.bson.Bson.{Bson}
use Rattle.fallowtime_statements.specs.Lines.{IsWhole}
use Rattle.fallowtime_statements.proofs.plans.batches.numbers_of.Given as goal

abbrev pub invariant-loop-item : goal.invariant-loop-item
invariant-loop-item l = AllZip (λ (v : Bson) (z : ℤ). IsWhole (Some (view v)) z) (take l.item-index l.items) l.ids.items

use Rattle.std.proofs.Common.{ℕ, Vec, take}
use Rattle.std.specs.List.{AllZip}
use Rattle.std.specs.declared.alloc.Global.{Global}
use Rattle.bson_model.specs.View.{view}
use Rattle.bson_model.specs.declared.bson.Bson.{Bson}
use Rattle.fallowtime_statements.specs.Plans.{IsWritten}
use Rattle.fallowtime_statements.proofs.plans.lists.written_items.Given as goal

abbrev pub invariant-loop-item : goal.invariant-loop-item
invariant-loop-item l = AllZip (λ (v : Bson) (b : Vec ℕ Global). IsWritten (view v) b.items) (take l.item-index l.items) l.list.items

use Rattle.std.proofs.Common.{ℕ, Vec, take}
use Rattle.std.specs.List.{AllZip}
use Rattle.std.specs.declared.alloc.Global.{Global}
use Rattle.bson_model.specs.View.{view}
use Rattle.bson_model.specs.declared.bson.Bson.{Bson}
use Rattle.fallowtime_messages.specs.Outcomes.{IsMeant}
use Rattle.fallowtime_messages.proofs.telling.items_of_each.Given as goal

abbrev pub invariant-loop-body : goal.invariant-loop-body
invariant-loop-body l = AllZip (λ (b : Vec ℕ Global) (v : Bson). IsMeant b.items (view v)) (take l.body-index l.bodies) l.items.items

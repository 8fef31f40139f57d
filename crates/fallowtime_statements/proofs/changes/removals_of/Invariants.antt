use Rattle.std.proofs.Common.{ℕ, Vec, take}
use Rattle.std.specs.List.{AllZip}
use Rattle.std.specs.declared.alloc.Global.{Global}
use Rattle.fallowtime_statements.specs.Changes.{IsRemovalOf}
use Rattle.fallowtime_statements.specs.declared.statement.Statement.{Statement}
use Rattle.fallowtime_statements.proofs.changes.removals_of.Given as goal

abbrev pub invariant-loop-item : goal.invariant-loop-item
invariant-loop-item l = AllZip (λ (b : Vec ℕ Global) (s : Statement). IsRemovalOf l.name b.items s) (take l.item-index l.items) l.list.items

use Rattle.std.proofs.Common.{ℕ, Vec}
use Rattle.std.specs.declared.alloc.Global.{Global}
use Rattle.fallowtime_statements.specs.Changes.{IsChangeOf}
use Rattle.fallowtime_statements.specs.declared.statement.Statement.{Statement}
use Rattle.fallowtime_statements.proofs.ListLemmas.{zip_more, zip_whole}
use Rattle.fallowtime_statements.proofs.changes.changes_of.Goals as goal

pub loop-item-preserved : goal.loop-item-preserved
loop-item-preserved c =
    let l = c.loop-item in
    zip_more (λ (b : Vec ℕ Global) (s : Statement). IsChangeOf c.args.name.now b.items s) c.args.items.now l.list.items c.push.new.self.items l.item-index c.item-item.result c.in_ok-statement.statement c.loop-item-test.true c.item-item.is c.in_ok-push.ensures.items l.invariant (rw c.as_slice.ensures.value at c.in_ok-statement.ensures)

pub returns : goal.returns
returns c =
    let l = c.loop-item in
    zip_whole (λ (b : Vec ℕ Global) (s : Statement). IsChangeOf c.args.name.now b.items s) c.args.items.now l.list.items l.item-index c.loop-item-test.false l.invariant

use Rattle.std.proofs.Common.{ℕ, Vec}
use Rattle.std.specs.declared.alloc.Global.{Global}
use Rattle.bson_model.specs.View.{view}
use Rattle.bson_model.specs.declared.bson.Bson.{Bson}
use Rattle.fallowtime_statements.specs.Plans.{IsWritten}
use Rattle.fallowtime_statements.proofs.ListLemmas.{zip_more, zip_whole}
use Rattle.fallowtime_statements.proofs.plans.lists.written_items.Goals as goal

pub loop-item-preserved : goal.loop-item-preserved
loop-item-preserved c =
    let l = c.loop-item in
    zip_more (λ (v : Bson) (b : Vec ℕ Global). IsWritten (view v) b.items) c.args.items.now l.list.items c.push.new.self.items l.item-index c.item-item.result c.in_ok-bytes.bytes c.loop-item-test.true c.item-item.is c.in_ok-push.ensures.items l.invariant c.in_ok-bytes.ensures

pub returns : goal.returns
returns c =
    let l = c.loop-item in
    zip_whole (λ (v : Bson) (b : Vec ℕ Global). IsWritten (view v) b.items) c.args.items.now l.list.items l.item-index c.loop-item-test.false l.invariant

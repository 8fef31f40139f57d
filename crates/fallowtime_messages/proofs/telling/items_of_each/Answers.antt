use Rattle.std.proofs.Common.{ℕ, Vec}
use Rattle.std.specs.declared.alloc.Global.{Global}
use Rattle.bson_model.specs.View.{view}
use Rattle.bson_model.specs.declared.bson.Bson.{Bson}
use Rattle.fallowtime_messages.specs.Outcomes.{IsMeant}
use Rattle.fallowtime_statements.proofs.ListLemmas.{zip_more, zip_whole}
use Rattle.fallowtime_messages.proofs.telling.items_of_each.Goals as goal

pub loop-body-preserved : goal.loop-body-preserved
loop-body-preserved c =
    let l = c.loop-body in
    zip_more (λ (b : Vec ℕ Global) (v : Bson). IsMeant b.items (view v)) c.args.bodies.now l.items.items c.push.new.self.items l.body-index c.body-item.result c.in_ok-item.item c.loop-body-test.true c.body-item.is c.in_ok-push.ensures.items l.invariant (rw c.as_slice.ensures.value at c.in_ok-item.ensures)

pub returns : goal.returns
returns c =
    let l = c.loop-body in
    zip_whole (λ (b : Vec ℕ Global) (v : Bson). IsMeant b.items (view v)) c.args.bodies.now l.items.items l.body-index c.loop-body-test.false l.invariant

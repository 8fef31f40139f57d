use Rattle.bson_model.specs.View.{view}
use Rattle.bson_model.specs.declared.bson.Bson.{Bson}
use Rattle.fallowtime_statements.specs.Staging.{IsStage}
use Rattle.fallowtime_statements.proofs.ListLemmas.{zip_more, zip_whole}
use Rattle.fallowtime_statements.proofs.staging.stages_of.Goals as goal

pub loop-stage-preserved : goal.loop-stage-preserved
loop-stage-preserved c =
    let l = c.loop-stage in
    zip_more (λ (v w : Bson). IsStage (view v) (view w)) c.args.stages.now l.list.items c.push.new.self.items l.stage-index c.stage-item.result c.in_ok-copy.copy c.loop-stage-test.true c.stage-item.is c.in_ok-push.ensures.items l.invariant c.in_ok-copy.ensures

pub returns : goal.returns
returns c =
    let l = c.loop-stage in
    zip_whole (λ (v w : Bson). IsStage (view v) (view w)) c.args.stages.now l.list.items l.stage-index c.loop-stage-test.false l.invariant

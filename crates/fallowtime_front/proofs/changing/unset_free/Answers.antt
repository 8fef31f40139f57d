use Rattle.bson_model.specs.View.{view}
use Rattle.store_model.specs.State.{IsFreeKey, on}
use Rattle.store_model.specs.State as model
use Rattle.bson_store.specs.Calls.{Does}
use Rattle.bson_store.specs.Refusals.{as_flag, reply_by}
use Rattle.fallowtime_front.specs.Changes.{LeavesCall, Turns}
use Rattle.fallowtime_front.proofs.WayLemmas.{given}
use Rattle.fallowtime_front.proofs.changing.unset_free.Goals as goal

pub returns-clause-turns : goal.returns-clause-turns
returns-clause-turns g c =
    given c.unset.result (IsFreeKey c.args.key.now) (λ r. Turns c.args.writer.now c.unset.new.writer r (Does (on c.args.name.now (model.unset (view c.args.id.now) c.args.key.now)) (reply_by as_flag r)))
    (c.can_be_set.ensures.0 c.if-not-can_be_set.false) c.unset.ensures.turns

pub returns-clause-crash : goal.returns-clause-crash
returns-clause-crash g c =
    given c.unset.result (IsFreeKey c.args.key.now) (λ r. LeavesCall c.args.writer.now c.unset.new.writer c.args.name.now (model.unset (view c.args.id.now) c.args.key.now) (reply_by as_flag r))
    (c.can_be_set.ensures.0 c.if-not-can_be_set.false) c.unset.ensures.crash

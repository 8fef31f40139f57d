use Rattle.std.proofs.Common.{subst}
use Rattle.bson_bytes.specs.Writing.{RefusesWriting}
use Rattle.bson_model.specs.View.{view}
use Rattle.bson_raw.specs.Trees.{CanBeRaw}
use Rattle.store_question_read.proofs.HeldLemmas.{held_given, unheld_named}
use Rattle.store_question_read.proofs.values.held.Goals as goal

pub returns-in-Ok : goal.returns-in-Ok
returns-in-Ok c = λ r. held_given c.args.key.now (view c.args.value) c.in-Ok.held r c.soundness.ensures c.in-Ok.ensures.fits c.in-Ok.ensures.ok

pub returns-in-MalformedValue : goal.returns-in-MalformedValue
returns-in-MalformedValue c = λ r.
    unheld_named c.args.key.now (view c.args.value) c.operand.result (subst (λ k. RefusesWriting (CanBeRaw (view c.args.value) → ⊥) k) c.in-MalformedValue.is c.in-Err.ensures.refused.0) c.operand.ensures

use Rattle.std.proofs.Common.{sym, subst}
use Rattle.bson_base.specs.Scalars.{millis_of}
use Rattle.store_question_read.specs.UpdateOutcome.{Gives, plans_of}
use Rattle.store_question_read.specs.Read.{update}
use Rattle.store_question_read.proofs.ReadLemmas.{object_seen}
use Rattle.store_question_read.proofs.update.update_of.Goals as goal

pub returns-in-Object : goal.returns-in-Object
returns-in-Object c =
    let seen = object_seen c.args.tree.now c.in-Object.members c.as_slice.result.now c.in-Object.is c.as_slice.ensures.value in
    subst (λ j. Gives plans_of c.entries.result (update (millis_of c.args.now) j)) (sym seen) c.entries.ensures

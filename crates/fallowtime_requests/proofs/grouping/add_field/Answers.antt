use Rattle.std.proofs.Common.{inr}
use Rattle.store_model.specs.State.{id_key}
use Rattle.fallowtime_requests.proofs.OperandLemmas.{differs}
use Rattle.fallowtime_requests.proofs.grouping.add_field.Goals as goal

pub returns-clause-added : goal.returns-clause-added
returns-clause-added c = inr (differs c.args.name.now id_key c.eq.result c.eq.ensures c.if-eq.false, (c.in_ok-field.field, c.in_ok-field.ensures, c.in_ok-push.ensures.items))

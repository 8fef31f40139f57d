use Rattle.std.proofs.Common.{subst, arith}
use Rattle.bson_bytes.specs.Written.{AreSpelled, AreWritten}
use Rattle.bson_bytes.proofs.ValueLemmas.{all_behind, form}
use Rattle.bson_bytes.proofs.form.is_written_form.Goals as goal
use Rattle.bson_bytes.proofs.MeaningLemmas.{are_bytes}

pub returns-clause-form : goal.returns-clause-form
returns-clause-form c t d means =
    let bytes = c.args.bytes.now in
    form bytes d (are_bytes bytes c.type_inv.bytes) (subst AreWritten (all_behind bytes) (c.are_written.ensures t).0) means

pub returns-clause-settled : goal.returns-clause-settled
returns-clause-settled c t ms spelled = (subst AreWritten (all_behind c.args.bytes.now) (c.are_written.ensures t).0 ms spelled).0

pub returns-clause-spelled : goal.returns-clause-spelled
returns-clause-spelled c t =
    let it = subst (λ b. AreSpelled b 99) (all_behind c.args.bytes.now) (c.are_written.ensures t).1 in
    (it.0, it.1, omega (arith, it.2))

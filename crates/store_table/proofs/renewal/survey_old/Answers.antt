use Rattle.store_table.proofs.RenewalLemmas.{none_yet}
use Rattle.store_table.specs.Renewal.{IsOwn}
use Rattle.store_table.proofs.renewal.survey_old.Goals as goal

pub returns-clause-read : goal.returns-clause-read
returns-clause-read g c clean =
    let renews = g.C.RowCheck.renews c.args.check.now in
    c.in_ok-survey_into.ensures.read clean (none_yet (IsOwn renews) renews c.new-renewals.result c.new-renewals.ensures.twin c.new-renewals.ensures.keys c.new-renewals.ensures.places)

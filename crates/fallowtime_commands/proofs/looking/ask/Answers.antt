use Rattle.std.proofs.Common.{refl}
use Rattle.store_asked.specs.Reads.{Reads}
use Rattle.fallowtime_commands.specs.Performing.{Performs}
use Rattle.fallowtime_commands.proofs.AskLemmas.{differing}
use Rattle.fallowtime_commands.proofs.LookLemmas.{if_told}
use Rattle.store_question.specs.Reads.{form_of}
use Rattle.fallowtime_commands.proofs.looking.ask.Goals as goal

pub returns-in-Get-clause-reads : goal.returns-in-Get-clause-reads
returns-in-Get-clause-reads g c =
    if_told c.told.result c.document.result (λ o. Reads g.P.Pages c.args.store.now c.get_raw.new.self (Performs c.args.name.now c.args.request.now o)) c.told.ensures (rw (c.in-Get.is, c.document.ensures.reply) c.get_raw.ensures.reads)

pub returns-in-Find-clause-reads : goal.returns-in-Find-clause-reads
returns-in-Find-clause-reads g c =
    if_told c.told-in-Find.result c.documents.result (λ o. Reads g.P.Pages c.args.store.now c.look_up_wanted.new.store (Performs c.args.name.now c.args.request.now o)) c.told-in-Find.ensures (rw (c.in-Find.is, c.documents.ensures.reply) (λ clean docs are. (c.look_up_wanted.result, refl, c.look_up_wanted.ensures.reads clean docs are)))

pub returns-in-Count-clause-reads : goal.returns-in-Count-clause-reads
returns-in-Count-clause-reads g c =
    if_told c.told-in-Count.result c.number.result (λ o. Reads g.P.Pages c.args.store.now c.count_in_pages.new.store (Performs c.args.name.now c.args.request.now o)) c.told-in-Count.ensures (rw (c.in-Count.is, c.number.ensures.reply) (λ clean docs are. (c.count_in_pages.result, refl, c.count_in_pages.ensures.reads clean docs are)))

pub returns-in-Collections-clause-reads : goal.returns-in-Collections-clause-reads
returns-in-Collections-clause-reads g c =
    if_told c.told-in-Collections.result c.names.result (λ o. Reads g.P.Pages c.args.store.now c.collections.new.self (Performs c.args.name.now c.args.request.now o)) c.told-in-Collections.ensures (rw (c.in-Collections.is, c.names.ensures.reply) c.collections.ensures.reads)

pub returns-in-Distinct-clause-reads : goal.returns-in-Distinct-clause-reads
returns-in-Distinct-clause-reads g c =
    if_told c.told-in-Distinct.result c.values.result (λ o. Reads g.P.Pages c.args.store.now c.distinct_in_pages-outcome.new.store (Performs c.args.name.now c.args.request.now o)) c.told-in-Distinct.ensures
    (rw (c.in-Distinct.is, c.values.ensures.reply) (λ clean docs are. differing c.args.name.now (form_of c.in-Distinct.question) c.in-Distinct.path.items c.in-Distinct.counts _ c.as_slice.ensures.value docs docs c.distinct_in_pages-outcome.result (c.distinct_in_pages-outcome.ensures.reads clean docs are)))

pub returns-in-Aggregate-clause-reads : goal.returns-in-Aggregate-clause-reads
returns-in-Aggregate-clause-reads g c =
    if_told c.told-in-Aggregate.result c.aggregate_in_pages.result (λ o. Reads g.P.Pages c.args.store.now c.aggregate_in_pages.new.store (Performs c.args.name.now c.args.request.now o)) c.told-in-Aggregate.ensures
    (rw c.in-Aggregate.is (rw c.as_slice-in-Aggregate.ensures.value at c.aggregate_in_pages.ensures.reads))

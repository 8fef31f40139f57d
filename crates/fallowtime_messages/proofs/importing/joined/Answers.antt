use Rattle.std.proofs.Common.{ap, ◌∙◌}
use Rattle.std.proofs.lemmas.List.{take_all}
use Rattle.bson_store.specs.Export.{bytes_of_each}
use Rattle.fallowtime_messages.specs.Outcomes.{joined}
use Rattle.fallowtime_messages.proofs.importing.joined.Goals as goal

pub returns : goal.returns
returns c = c.loop-document.invariant ∙ ap (λ bs. joined (bytes_of_each bs)) (take_all c.loop-document.document-index c.args.documents.now c.loop-document-test.false)

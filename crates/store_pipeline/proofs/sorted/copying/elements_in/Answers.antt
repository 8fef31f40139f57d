use Rattle.store_pipeline.proofs.InsideLemmas.{lent_inside}
use Rattle.bson_frame.specs.View.{element_of}
use Rattle.store_pipeline.proofs.sorted.copying.elements_in.Goals as goal

pub returns-in-EmbeddedDocument-clause-told : goal.returns-in-EmbeddedDocument-clause-told
returns-in-EmbeddedDocument-clause-told c = λ v w b. lent_inside c.within.result (element_of c.args.value) v c.in-EmbeddedDocument.is w b c.within.ensures.told

use Rattle.bson_base.specs.declared.spec.ElementType.TheVariants.{Array, EmbeddedDocument}
use Rattle.store_question.specs.Asked.{all_of, is_of}
use Rattle.store_question_read.specs.Query.{either}
use Rattle.store_question_read.proofs.made.holds.Goals as goal

pub returns : goal.returns
returns c = λ ts r.
    let kinds = c.in_ok-kinds.ensures (is_of EmbeddedDocument) (is_of Array) c.of.ensures c.of-2.ensures in
    c.both.ensures (either (is_of EmbeddedDocument) (is_of Array)) (all_of ts) kinds (c.all.ensures ts r)

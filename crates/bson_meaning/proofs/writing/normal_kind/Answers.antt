use Rattle.std.proofs.Common.{sym, ◌∙◌}
use Rattle.bson_model.specs.View.{view}
use Rattle.bson_meaning.proofs.OrderedBytesLemmas.{kind_of_in_order}
use Rattle.bson_meaning.proofs.writing.normal_kind.Goals as goal

pub returns : goal.returns
returns c = λ zeros. c.element_type.ensures ∙ sym (kind_of_in_order zeros (view c.args.value.now))

use Rattle.std.proofs.Common.{map, sym, ap, ◌∙◌}
use Rattle.bson_pairs.proofs.KeyedLemmas.{values_of-over}
use Rattle.bson_model.specs.View.{view}
use Rattle.bson_model.proofs.document.Document.values.Goals as goal

pub returns : goal.returns
returns c = ap (map view) (c.iter.ensures.rest ∙ c.values.ensures) ∙ sym (values_of-over view c.args.self.now.pairs)

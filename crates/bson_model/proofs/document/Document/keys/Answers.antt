use Rattle.std.proofs.Common.{map, string_bytes, sym, ap, ◌∙◌}
use Rattle.bson_pairs.specs.Over.{keys_of-over}
use Rattle.bson_model.specs.View.{view}
use Rattle.bson_model.proofs.document.Document.keys.Goals as goal

pub returns : goal.returns
returns c = ap (map string_bytes) c.iter.ensures.rest ∙ c.keys.ensures.keys ∙ sym (keys_of-over view c.args.self.now.pairs)

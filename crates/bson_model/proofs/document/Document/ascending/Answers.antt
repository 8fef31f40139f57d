use Rattle.std.proofs.Common.{sym, ap, ◌∙◌}
use Rattle.bson_pairs.specs.Ascending.{ascending-over}
use Rattle.bson_pairs.specs.Over.{over}
use Rattle.bson_model.specs.View.{view}
use Rattle.bson_model.proofs.document.Document.ascending.Goals as goal

pub returns : goal.returns
returns c = ap (over view) c.ascending.ensures ∙ sym (ascending-over view c.args.self.now.pairs)

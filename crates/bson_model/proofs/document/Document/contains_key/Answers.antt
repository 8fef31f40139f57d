use Rattle.std.proofs.Common.{is_some, sym, ap, ◌∙◌}
use Rattle.bson_pairs.specs.Keyed.{get}
use Rattle.bson_model.specs.View.{view}
use Rattle.bson_model.proofs.ViewLemmas.{is_some-map}
use Rattle.bson_pairs.proofs.KeyedLemmas.{get-over}
use Rattle.bson_model.proofs.document.Document.contains_key.Goals as goal

pub returns : goal.returns
returns c = c.contains_key.ensures ∙ sym (is_some-map view (get c.args.key.now c.args.self.now.pairs)) ∙ ap is_some (sym (get-over view c.args.key.now c.args.self.now.pairs))

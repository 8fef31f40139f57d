use Rattle.std.proofs.Common.{◌<◌, ◌^◌, position, bytes_eq, sym, ap, ◌∙◌, subst}
use Rattle.std.proofs.Math.ListN.{length-map}
use Rattle.bson_pairs.specs.Over.{keys_of-over}
use Rattle.bson_model.specs.View.{view, pair_view}
use Rattle.bson_model.proofs.document.Document.find_index.Goals as goal

pub returns-clause-index : goal.returns-clause-index
returns-clause-index c = c.find_index.ensures.index ∙ ap (position (bytes_eq c.args.key.now)) (sym (keys_of-over view c.args.self.now.pairs))

pub returns-clause-compared : goal.returns-clause-compared
returns-clause-compared c = λ d h. c.find_index.ensures.compared d (subst (λ n. n < 2 ^ d) (length-map c.args.self.now.pairs pair_view) h)

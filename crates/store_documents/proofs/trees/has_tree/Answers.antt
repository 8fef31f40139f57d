use Rattle.store_documents.proofs.TreeLemmas.{told_tree}
use Rattle.store_documents.proofs.trees.has_tree.Goals as goal

pub returns : goal.returns
returns c told d kept is m = told_tree c.args.body.now d kept is (c.holds_told.ensures told) m

use Rattle.bson_json.proofs.SettlingLemmas.{leaf_settled}
use Rattle.bson_json.proofs.leaves.print_settled_leaf.Goals as goal

pub returns-in-Ok-clause-settled : goal.returns-in-Ok-clause-settled
returns-in-Ok-clause-settled c = λ told. leaf_settled c.args.value (c.is_no_regex.ensures told) c.requires.leaf

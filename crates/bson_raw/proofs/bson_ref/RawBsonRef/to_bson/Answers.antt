use Rattle.bson_raw.specs.Raw.{ref_value}
use Rattle.bson_raw.proofs.FaultLemmas.{no_tree}
use Rattle.bson_raw.proofs.bson_ref.RawBsonRef.to_bson.Goals as goal

pub returns-clause-none : goal.returns-clause-none
returns-clause-none c = no_tree c.one_first_frame.ensures (ref_value c.args.self) c.tree_of.result c.tree_of.ensures

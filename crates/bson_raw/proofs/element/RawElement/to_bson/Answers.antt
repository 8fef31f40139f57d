use Rattle.bson_raw.specs.View.{parts_of}
use Rattle.bson_raw.proofs.ConversionLemmas.{element_converted}
use Rattle.bson_raw.proofs.FaultLemmas.{no_value}
use Rattle.bson_raw.proofs.element.RawElement.to_bson.Goals as goal

pub returns-clause-tree : goal.returns-clause-tree
returns-clause-tree c = element_converted (parts_of c.args.self.now) c.in_ok-value.value c.tree_of.result c.in_ok-value.ensures c.tree_of.ensures

pub returns-clause-none : goal.returns-clause-none
returns-clause-none c =
    no_value c.one_first_frame.ensures (parts_of c.args.self.now) c.tree_of.result (element_converted (parts_of c.args.self.now) c.in_ok-value.value c.tree_of.result c.in_ok-value.ensures c.tree_of.ensures)

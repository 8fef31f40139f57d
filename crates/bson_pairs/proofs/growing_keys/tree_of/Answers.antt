use Rattle.std.proofs.Common.{ap}
use Rattle.bson_pairs.specs.Index.{seen_places}
use Rattle.bson_pairs.proofs.GrowthLemmas.{tree-next}
use Rattle.bson_pairs.proofs.growing_keys.tree_of.Goals as goal

pub loop-place-init : goal.loop-place-init
loop-place-init c = ap seen_places c.new-tree.ensures.empty

pub loop-place-preserved : goal.loop-place-preserved
loop-place-preserved c =
    tree-next c.args.texts.now c.index-texts-place.result c.in_ok-clone.field-0 c.loop-place.tree.entries c.insert.new.self.entries c.loop-place.place c.requires c.loop-place-test.true
    c.index-texts-place.is c.in_ok-clone.ensures.cases c.loop-place.invariant c.in_ok-insert.ensures.entries

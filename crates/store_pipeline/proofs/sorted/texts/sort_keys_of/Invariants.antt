use Rattle.std.proofs.Common.{map, take}
use Rattle.std.specs.List.{AllZip}
use Rattle.store_pipeline.proofs.sorted.texts.sort_keys_of.Given as goal
use Rattle.store_pipeline.specs.Bodies.{keys_of}
use Rattle.store_pipeline.specs.Texts.{ReadsKey}

abbrev pub invariant-loop-part : goal.invariant-loop-part
invariant-loop-part l = AllZip ReadsKey (map (λ x. x.now) (take l.part-index l.part-items)) (keys_of l.keys.items)

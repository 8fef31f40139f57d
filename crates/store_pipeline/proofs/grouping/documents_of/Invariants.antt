use Rattle.std.proofs.Common.{◌≡◌, ◌++◌, Ok, drop, map}
use Rattle.std.specs.List.{AllByRecursion}
use Rattle.store_model.specs.Reading.{Documents}
use Rattle.store_update.specs.Number.{onward}
use Rattle.store_pipeline.proofs.grouping.documents_of.Given as goal
use Rattle.store_pipeline.specs.Faithful.{AreFaithful}
use Rattle.store_pipeline.specs.Grouped.{IsGroup, contents, key_of}
use Rattle.store_pipeline.specs.Groups.{groups_of}

abbrev pub invariant-loop-group : goal.invariant-loop-group
invariant-loop-group l = (ds : Documents) → AllByRecursion (IsGroup l.grouping.key ds) l.groups
    → (groups_of l.grouping ds (map key_of l.groups) ≡ onward (groups_of l.grouping ds (map key_of (drop l.group-index l.groups))) (λ es. Ok (contents l.documents ++ es))) × AreFaithful (contents l.documents)

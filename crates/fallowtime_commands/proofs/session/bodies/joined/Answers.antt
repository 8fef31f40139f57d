use Rattle.std.proofs.Common.{ℕ, List, ap, ◌∙◌}
use Rattle.std.proofs.lemmas.List.{take_all}
use Rattle.std.specs.List.{flat_map}
use Rattle.bson_store.specs.Export.{bytes_of_each}
use Rattle.fallowtime_commands.proofs.session.bodies.joined.Goals as goal

pub returns : goal.returns
returns c =
    c.loop-body.invariant ∙ ap (λ bs. flat_map (λ (b : List ℕ). b) (bytes_of_each bs)) (take_all c.loop-body.body-index c.args.bodies.now c.loop-body-test.false)

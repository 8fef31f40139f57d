use Rattle.std.proofs.Common.{rules}
use Rattle.std.proofs.lemmas.Int.{to_z-of_z}
use mir.Syntax.{w64}
use mir.Val.{SFits}
use Rattle.bson_store.proofs.indexed.ranks.Ranks.part_behind.Goals as goal

pub returns : goal.returns
returns c =
    let low : SFits w64 c.args.low = search rules in
    let high : SFits w64 c.args.high = search rules in
    simp to_z-of_z at c.between_ends.ensures

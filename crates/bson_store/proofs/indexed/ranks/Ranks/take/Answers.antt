use Rattle.std.proofs.Common.{w64, false}
use Rattle.std.proofs.lemmas.Int.{to_z-of_z}
use Rattle.bson_store.proofs.RankedLemmas.{handed, take_gone, take_kept, take_only}
use Rattle.bson_store.proofs.indexed.ranks.Ranks.take.Goals as goal

pub returns-clause-gone : goal.returns-clause-gone
returns-clause-gone c =
    let told = handed c.args.self.now (record { keys = c.remove.new.self }) c.args.rank _ c.args.part _ c.args.place false (to_z-of_z w64 c.args.part c.ranges.part) (to_z-of_z w64 c.args.place c.ranges.place) c.remove.ensures.updates.0 in
    take_gone c.args.self.now (record { keys = c.remove.new.self }) c.args.rank c.args.part c.args.place told

pub returns-clause-kept : goal.returns-clause-kept
returns-clause-kept c =
    let told = handed c.args.self.now (record { keys = c.remove.new.self }) c.args.rank _ c.args.part _ c.args.place false (to_z-of_z w64 c.args.part c.ranges.part) (to_z-of_z w64 c.args.place c.ranges.place) c.remove.ensures.updates.0 in
    take_kept c.args.self.now (record { keys = c.remove.new.self }) c.args.rank c.args.part c.args.place told

pub returns-clause-only : goal.returns-clause-only
returns-clause-only c =
    let told = handed c.args.self.now (record { keys = c.remove.new.self }) c.args.rank _ c.args.part _ c.args.place false (to_z-of_z w64 c.args.part c.ranges.part) (to_z-of_z w64 c.args.place c.ranges.place) c.remove.ensures.updates.0 in
    take_only c.args.self.now (record { keys = c.remove.new.self }) c.args.rank c.args.part c.args.place told

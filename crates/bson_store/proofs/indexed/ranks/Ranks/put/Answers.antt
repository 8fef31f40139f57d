use Rattle.std.proofs.Common.{w64, true}
use Rattle.std.proofs.lemmas.Int.{to_z-of_z}
use Rattle.bson_store.proofs.RankedLemmas.{handed, put_elsewhere, put_kept, put_others, put_there}
use Rattle.bson_store.proofs.indexed.ranks.Ranks.put.Goals as goal

pub returns-clause-there : goal.returns-clause-there
returns-clause-there c =
    let told = handed c.args.self.now (record { keys = c.insert.new.self }) c.args.rank _ c.args.part _ c.args.place true (to_z-of_z w64 c.args.part c.ranges.part) (to_z-of_z w64 c.args.place c.ranges.place) c.in_ok-insert.ensures.updates.0 in
    put_there c.args.self.now (record { keys = c.insert.new.self }) c.args.rank c.args.part c.args.place c.ranges.place told

pub returns-clause-kept : goal.returns-clause-kept
returns-clause-kept c =
    let told = handed c.args.self.now (record { keys = c.insert.new.self }) c.args.rank _ c.args.part _ c.args.place true (to_z-of_z w64 c.args.part c.ranges.part) (to_z-of_z w64 c.args.place c.ranges.place) c.in_ok-insert.ensures.updates.0 in
    put_kept c.args.self.now (record { keys = c.insert.new.self }) c.args.rank c.args.part c.args.place told

pub returns-clause-others : goal.returns-clause-others
returns-clause-others c =
    let told = handed c.args.self.now (record { keys = c.insert.new.self }) c.args.rank _ c.args.part _ c.args.place true (to_z-of_z w64 c.args.part c.ranges.part) (to_z-of_z w64 c.args.place c.ranges.place) c.in_ok-insert.ensures.updates.0 in
    put_others c.args.self.now (record { keys = c.insert.new.self }) c.args.rank c.args.part c.args.place told

pub returns-clause-only : goal.returns-clause-only
returns-clause-only c =
    let told = handed c.args.self.now (record { keys = c.insert.new.self }) c.args.rank _ c.args.part _ c.args.place true (to_z-of_z w64 c.args.part c.ranges.part) (to_z-of_z w64 c.args.place c.ranges.place) c.in_ok-insert.ensures.updates.0 in
    put_elsewhere c.args.self.now (record { keys = c.insert.new.self }) c.args.rank c.args.part c.args.place told

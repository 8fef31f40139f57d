use Rattle.std.proofs.Common.{true}
use Rattle.fallowtime_commands.proofs.DraftLemmas.{copy_of, drop_of}
use Rattle.fallowtime_commands.proofs.transferring.push_changes.Goals as goal

pub returns-in-Drop : goal.returns-in-Drop
returns-in-Drop c = rw c.in-Drop.is (λ ds es kept same left there none. drop_of c.args.name.now ds es c.args.edits.now.items c.push_removals.new.edits.items c.push_removals.result none (c.push_removals.ensures ds kept same))

pub returns-in-Rename : goal.returns-in-Rename
returns-in-Rename c = rw c.in-Rename.is (λ ds es kept same left there none. c.push_renaming.ensures true ds es kept same left there none)

pub returns-in-Copy : goal.returns-in-Copy
returns-in-Copy c = rw c.in-Copy.is (λ ds es kept same left there none. copy_of c.in-Copy.new c.args.name.now ds es c.args.edits.now.items c.push_insertions.new.edits.items c.push_insertions.result none (c.push_insertions.ensures ds same))

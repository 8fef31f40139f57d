use Rattle.std.proofs.Common.{◌++◌, ◌∙◌, ap}
use Rattle.std.proofs.lemmas.Result.{err_from_is_err_and}
use Rattle.fallowtime_commands.proofs.DraftLemmas.{renaming_of}
use Rattle.fallowtime_commands.proofs.transferring.push_renaming.Goals as goal

pub returns : goal.returns
returns c drops ds es kept same left there none =
    renaming_of c.args.new drops c.args.name.now ds es c.args.edits.now.items c.push_removals.new.edits.items c.push_removals-2.new.edits.items c.push_insertions.new.edits.items c.push_insertions.result none
    (c.in_ok-push_removals.ensures ds kept same) (c.in_ok-push_removals-2.ensures es left there) (c.push_insertions.ensures ds same)

pub returns-in_err-push_removals : goal.returns-in_err-push_removals
returns-in_err-push_removals c =
    let p = err_from_is_err_and c.from_residual.result c.from_residual.ensures.1 in
    rw (p.1, p.2) (λ drops ds es kept same left there none. c.in_err-push_removals.ensures ds kept same)

pub returns-in_err-push_removals-2 : goal.returns-in_err-push_removals-2
returns-in_err-push_removals-2 c =
    let p = err_from_is_err_and c.from_residual-in_err-push_removals-2.result c.from_residual-in_err-push_removals-2.ensures.1 in
    rw (p.1, p.2) (λ drops ds es kept same left there none. c.in_err-push_removals-2.ensures es left there)

use Rattle.std.proofs.Common.{refl, []}
use Rattle.bson_base.specs.Device.{Feed}
use Rattle.bson_store.specs.Calls.{store_state}
use Rattle.store_model.specs.Reading.{ReadsTrees}
use Rattle.cli_commands.specs.declared.call.Call.TheVariants as words
use Rattle.cli_commands.specs.Commands.{AsksFor}
use Rattle.std.proofs.lemmas.Result.{err_from_is_err_and}
use Rattle.bson_store.proofs.CrashLemmas.{survives_itself}
use Rattle.cli_commands.specs.Answers as answers
use Rattle.cli_commands.proofs.DeviceLemmas.{lines_stop, lines_taken}
use Rattle.cli_commands.proofs.CrashLemmas.{answered_open, not_done, trees_leave}
use Rattle.cli_commands.proofs.TakeLemmas.{load_performs, unlined}
use Rattle.cli_commands.proofs.inputs.load.Goals as goal

pub returns-clause-moves : goal.returns-clause-moves
returns-clause-moves g c =
    let n = c.args.name.now in
    let fed : Feed = g.I.Source.feed c.args.input.now in
    let left : Feed = g.I.Source.feed c.judged_input.new.input in
    let taken = c.in_ok-loader.ensures in
    load_performs (store_state g.S.Store c.args.store.now) (store_state g.S.Store c.load.new.self) n fed left (ReadsTrees taken.1) c.load.result c.number.result
    (λ ds stop reads. (refl, (taken.0, taken.1, ds, stop, taken.2, taken.3, reads, refl))) c.number.ensures (c.load.ensures.moves taken.1 taken.4)

pub returns-in_err-loader-clause-moves : goal.returns-in_err-loader-clause-moves
returns-in_err-loader-clause-moves g c =
    let fed : Feed = g.I.Source.feed c.args.input.now in
    let left : Feed = g.I.Source.feed c.judged_input.new.input in
    let p = err_from_is_err_and c.from_residual.result c.from_residual.ensures.1 in
    rw (p.1, p.2) (unlined (store_state g.S.Store c.args.store.now) (store_state g.S.Store c.args.store.now) c.args.name.now fed left c.in_err-loader.field-0.0 c.in_err-loader.ensures)

pub returns-clause-crash : goal.returns-clause-crash
returns-clause-crash g c =
    let n = c.args.name.now in
    let fed : Feed = g.I.Source.feed c.args.input.now in
    let left : Feed = g.I.Source.feed c.judged_input.new.input in
    let taken = c.in_ok-loader.ensures in
    trees_leave (store_state g.S.Store c.args.store.now) (store_state g.S.Store c.load.new.self) (AsksFor words.Load n [] fed left) n taken.1 answers.number_answer c.load.result c.number.result c.number.ensures
    (λ ds stop reads. (refl, (taken.0, taken.1, ds, stop, taken.2, taken.3, reads, refl))) (c.load.ensures.moves taken.1 taken.4) c.load.ensures.open (c.load.ensures.crash taken.1 taken.4)

pub returns-in_err-loader-clause-crash : goal.returns-in_err-loader-clause-crash
returns-in_err-loader-clause-crash g c =
    let s = store_state g.S.Store c.args.store.now in
    let p = err_from_is_err_and c.from_residual.result c.from_residual.ensures.1 in
    not_done s s (AsksFor words.Load c.args.name.now [] (g.I.Source.feed c.args.input.now) (g.I.Source.feed c.judged_input.new.input)) (λ e. ⊥) c.from_residual.result (rw p.1 refl) (survives_itself s)

pub returns-clause-open : goal.returns-clause-open
returns-clause-open g c =
    answered_open (store_state g.S.Store c.args.store.now) (store_state g.S.Store c.load.new.self) answers.number_answer c.load.result c.number.result c.number.ensures c.load.ensures.open

pub returns-clause-device : goal.returns-clause-device
returns-clause-device g c = lines_taken (g.I.Source.feed c.args.input.now) (g.I.Source.feed c.judged_input.new.input) c.in_ok-loader.loader c.number.result c.in_ok-loader.ensures

pub returns-in_err-loader-clause-device : goal.returns-in_err-loader-clause-device
returns-in_err-loader-clause-device g c =
    let p = err_from_is_err_and c.from_residual.result c.from_residual.ensures.1 in
    rw (p.1, p.2) (lines_stop (g.I.Source.feed c.args.input.now) (g.I.Source.feed c.judged_input.new.input) c.in_err-loader.field-0.0 c.in_err-loader.ensures)

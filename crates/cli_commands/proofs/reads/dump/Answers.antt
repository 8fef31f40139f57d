use Rattle.std.proofs.Common.{rules, ℕ, refl, ap}
use Rattle.bson_base.specs.Device.{Tally}
use Rattle.sqlite.proofs.StateLemmas.{survives_then}
use Rattle.bson_store.specs.Calls.{store_state}
use Rattle.cli_commands.specs.declared.dumping.Printer.{Printer}
use Rattle.cli_commands.proofs.CrashLemmas.{open_twice}
use Rattle.cli_commands.proofs.DeviceLemmas.{dump_done, dump_stopped, store_refused}
use Rattle.cli_commands.proofs.PrintLemmas.{no_lines}
use Rattle.cli_commands.proofs.SendLemmas.{dumped, not_dumped, unchecked}
use Rattle.cli_commands.proofs.reads.dump.Goals as goal

pub returns-in-Err-clause-step : goal.returns-in-Err-clause-step
returns-in-Err-clause-step g c f =
    let old : Tally = g.O.Sink.tally c.args.output.now in
    unchecked c.args.name.now f old old (store_state g.S.Store c.args.store.now) (store_state g.S.Store c.check_json.new.self) c.in-Err.error refl c.in-Err.ensures.moves

pub returns-in-Ok-clause-step : goal.returns-in-Ok-clause-step
returns-in-Ok-clause-step g c f =
    let of_output : g.row.O.Denot → Tally = λ o. g.O.Sink.tally o in
    let tally : Printer g.row.O.Denot g.O.Sink → Tally = λ p. of_output p.output.now in
    dumped c.args.name.now f (of_output c.args.output.now) _ (store_state g.S.Store c.args.store.now) (store_state g.S.Store c.check_json.new.self) (store_state g.S.Store c.each_text.new.self) (λ p. p.output.ghost_name) (λ p. p.failed) tally _ c.in-Ok.printer
    c.in_default.ensures.moves (c.in-Ok.ensures.moves (refl, refl, no_lines (of_output c.args.output.now))) (λ e. ap of_output (search rules))

pub returns-in-Err-each_text-clause-step : goal.returns-in-Err-each_text-clause-step
returns-in-Err-each_text-clause-step g c f =
    let of_output : g.row.O.Denot → Tally = λ o. g.O.Sink.tally o in
    let tally : Printer g.row.O.Denot g.O.Sink → Tally = λ p. of_output p.output.now in
    not_dumped c.args.name.now f (of_output c.args.output.now) _ (store_state g.S.Store c.args.store.now) (store_state g.S.Store c.check_json.new.self) (store_state g.S.Store c.each_text.new.self) (λ p. p.output.ghost_name) (λ p. p.failed) tally _ c.in-Err-each_text.printer c.in-Err-each_text.error
    c.in_default.ensures.moves (c.in-Err-each_text.ensures.moves (refl, refl, no_lines (of_output c.args.output.now))) (λ e. ap of_output (search rules))

pub returns-in-Ok-clause-crash : goal.returns-in-Ok-clause-crash
returns-in-Ok-clause-crash g c = survives_then (store_state g.S.Store c.args.store.now) (store_state g.S.Store c.check_json.new.self) (store_state g.S.Store c.each_text.new.self) _ _ (λ _. ⊥) (λ _ db none. none) (λ _ db none. none) c.check_json.ensures.crash c.each_text.ensures.crash

pub returns-in-Err-each_text-clause-crash : goal.returns-in-Err-each_text-clause-crash
returns-in-Err-each_text-clause-crash g c = survives_then (store_state g.S.Store c.args.store.now) (store_state g.S.Store c.check_json.new.self) (store_state g.S.Store c.each_text.new.self) _ _ (λ _. ⊥) (λ _ db none. none) (λ _ db none. none) c.check_json.ensures.crash c.each_text.ensures.crash

pub returns-in-Ok-clause-open : goal.returns-in-Ok-clause-open
returns-in-Ok-clause-open g c =
    open_twice (store_state g.S.Store c.args.store.now) (store_state g.S.Store c.check_json.new.self) (store_state g.S.Store c.each_text.new.self) _ c.in_default.ensures.open c.in_default.ensures.moves c.each_text.ensures.crash c.in-Ok.ensures.open

pub returns-in-Err-clause-device : goal.returns-in-Err-clause-device
returns-in-Err-clause-device g c =
    let old = (g.O.Sink.tally c.args.output.now).failures in
    store_refused c.in-Err.error old old c.in-Err.ensures.kind refl

pub returns-in-Ok-clause-device : goal.returns-in-Ok-clause-device
returns-in-Ok-clause-device g c =
    let of_output : g.row.O.Denot → Tally = λ o. g.O.Sink.tally o in
    let count : Printer g.row.O.Denot g.O.Sink → ℕ = λ p. (of_output p.output.now).failures in
    dump_done (λ p. p.output.ghost_name) (λ p. p.failed) count _ (of_output c.args.output.now).failures _ c.in-Ok.printer (c.in-Ok.ensures.stands (refl, refl, refl)) (λ e. ap (λ o. (of_output o).failures) (search rules))

pub returns-in-Err-each_text-clause-device : goal.returns-in-Err-each_text-clause-device
returns-in-Err-each_text-clause-device g c =
    let of_output : g.row.O.Denot → Tally = λ o. g.O.Sink.tally o in
    let count : Printer g.row.O.Denot g.O.Sink → ℕ = λ p. (of_output p.output.now).failures in
    dump_stopped (λ p. p.output.ghost_name) (λ p. p.failed) count _ (of_output c.args.output.now).failures _ c.in-Err-each_text.printer c.in-Err-each_text.error (c.in-Err-each_text.ensures.stands (refl, refl, refl)) (λ e. ap (λ o. (of_output o).failures) (search rules))

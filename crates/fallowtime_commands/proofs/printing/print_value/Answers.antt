use Rattle.std.proofs.Common.{ℕ, List, sym, subst}
use Rattle.std.specs.Prelude.{string_bytes}
use Rattle.bson_json.specs.Prints.{IsTextOf}
use Rattle.bson_model.specs.View.{view}
use Rattle.fallowtime_commands.proofs.PrintLemmas.{told, told_counted, untold}
use Rattle.fallowtime_commands.proofs.printing.print_value.Goals as goal

pub returns-in-Err : goal.returns-in-Err
returns-in-Err g c = untold c.args.mode c.args.counts c.args.counted.now (string_bytes c.text_of_value.new.text) c.in-Err.fault (g.O.Sink.tally c.args.output.now) c.unprinted_value.result c.in-Err.ensures c.unprinted_value.ensures.error c.unprinted_value.ensures.key

pub returns-then-not-counts : goal.returns-then-not-counts
returns-then-not-counts g c =
    let tally = g.O.Sink.tally in
    let is : IsTextOf c.args.mode (view c.args.counted.now.value) c.as_str.result.now = subst (λ (t : List ℕ). IsTextOf c.args.mode (view c.args.counted.now.value) t) (sym c.as_str.ensures.value) c.in_default.ensures.1 in
    told c.args.mode c.args.counts c.args.counted.now c.as_str.result.now (tally c.args.output.now) (tally c.print_line.new.output) c.print_line.result c.if-not-counts.true is c.print_line.ensures

pub returns : goal.returns
returns g c =
    let tally = g.O.Sink.tally in
    let is : IsTextOf c.args.mode (view c.args.counted.now.value) c.as_str-2.result.now = subst (λ (t : List ℕ). IsTextOf c.args.mode (view c.args.counted.now.value) t) (sym c.as_str-2.ensures.value) c.in_default.ensures.1 in
    told_counted c.args.mode c.args.counts c.args.counted.now c.as_str-2.result.now c.format.result.now (tally c.args.output.now) (tally c.print_counted.new.output) c.print_counted.result c.if-not-counts.false is c.format.ensures.text c.print_counted.ensures

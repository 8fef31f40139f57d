use Rattle.std.proofs.Common.{ℕ, List, Ok, sym, subst}
use Rattle.bson_model.specs.View.{view}
use Rattle.bson_model.specs.declared.extjson.ser.Mode.TheVariants.{Canonical}
use Rattle.cli_convert.specs.Printed.{PrintsValue}
use Rattle.fallowtime_commands.proofs.ValueLemmas.{told}
use Rattle.fallowtime_commands.proofs.session.answers.push_told.Goals as goal

pub returns-in-Ok : goal.returns-in-Ok
returns-in-Ok c =
    told c.args.counts c.args.counted.now c.args.index c.as_str.result.now c.args.line.now.items c.push_value.new.line.items
    (subst (λ (t : List ℕ). PrintsValue Canonical (view c.args.counted.now.value) t (Ok tt)) (sym c.as_str.ensures.value) c.in_ok-text_of_value.ensures) c.in-Ok.ensures

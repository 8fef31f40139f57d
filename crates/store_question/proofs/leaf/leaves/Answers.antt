use Rattle.std.proofs.Common.{Option, ap, sym, ◌∙◌}
use Rattle.std.proofs.lemmas.Int.{to_z-of_z}
use Rattle.std.specs.Prelude.{option_and_then}
use Rattle.bson_base.specs.Value.{Value}
use Rattle.bson_order.specs.Wholes.{part_of}
use Rattle.store_question.specs.Asked.{leaves_so}
use Rattle.store_question.proofs.ValueLemmas.{found_spells, shown_some}
use Rattle.store_question.proofs.leaf.leaves.Goals as goal

pub returns-in-Some : goal.returns-in-Some
returns-in-Some c = λ o s.
    let f = shown_some c.args.value c.in-Some.found o c.in-Some.is s in
    let divisor = c.ranges.divisor in
    let remainder = c.ranges.remainder in
    let told = simp to_z-of_z at c.leaves_by.ensures in
    told
    ∙ ap (leaves_so c.args.divisor c.args.remainder) (c.whole_part_of.ensures f.0 (found_spells c.in-Some.found f.0 f.2))
    ∙ ap (λ (x : Option Value). leaves_so c.args.divisor c.args.remainder (option_and_then part_of x)) (sym f.1)

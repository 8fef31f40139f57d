use Rattle.std.proofs.Common.{◌≡◌, Some, subst, option_map}
use Rattle.bson_model.specs.JsonKeys.{of_double}
use Rattle.bson_model.specs.JsonWrite.{double_text, text_wrapper}
use Rattle.bson_json.specs.Prints.{AddsForm, tokens_of}
use Rattle.bson_json.proofs.stored.print_double.Goals as goal

pub returns-in_ok-wrap_text-in-Some-clause-form : goal.returns-in_ok-wrap_text-in-Some-clause-form
returns-in_ok-wrap_text-in-Some-clause-form c =
    let told : Some c.in-Some.text.now ≡ double_text c.args.double.0 = rw c.in-Some.is at c.double_text.ensures in
    subst (λ o. AddsForm tokens_of (option_map (text_wrapper of_double) o) c.args.out.now c.wrap_text.new.out) told c.in_ok-wrap_text-in-Some.ensures

use Rattle.std.proofs.Common.{◌≡◌, ◌∙◌, None, ap, is_some, option_map, sym}
use Rattle.std.specs.Prelude.{string_bytes}
use Rattle.bson_meaning.proofs.ReservedPathLemmas.{below}
use Rattle.bson_meaning.specs.JsonReserved.{reserved_path_below}
use Rattle.bson_model.specs.View.{view}
use Rattle.cli_convert.proofs.printed.text_of_value.Goals as goal
use Rattle.cli_convert.specs.Printed.{holding}

pub returns-in-Ok : goal.returns-in-Ok
returns-in-Ok c =
    let none : reserved_path_below (holding (view c.args.value.now)) ≡ None = sym c.in-Ok-None.ensures ∙ ap (option_map (λ t. string_bytes t)) c.in-Ok-None.field-0-is in
    (sym (below (holding (view c.args.value.now))) ∙ ap is_some none, c.in-Ok.ensures.text)

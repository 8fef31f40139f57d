use Rattle.std.proofs.Common.{◌≡◌, Some, IsUtf8, rules}
use Rattle.json.specs.Json.{document as tree_of}
use Rattle.json.specs.Value.{value_view}
use Rattle.fallowtime_commands.specs.Objects.{id_tree}
use Rattle.fallowtime_commands.proofs.AnswerLemmas.{repeats}
use Rattle.fallowtime_commands.proofs.session.turns.repeated_line.Goals as goal

pub returns-in-Ok : goal.returns-in-Ok
returns-in-Ok c =
    let utf8 : IsUtf8 c.args.text.now = search rules in
    let is : tree_of c.args.text.now ≡ Some (value_view c.in-Ok.tree) = search rules in
    repeats c.args.text.now (id_tree c.id_in.result) (value_view c.in-Ok.tree) c.words_line.result utf8 is c.requires c.id_in.ensures.id c.words_line.ensures

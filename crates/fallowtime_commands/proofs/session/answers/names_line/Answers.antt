use Rattle.std.proofs.Common.{◌≡◌, [], ◌∷◌, ◌++◌, take}
use Rattle.std.proofs.lemmas.List.{take_all}
use Rattle.json.specs.Token.{end_array}
use Rattle.fallowtime_commands.specs.Objects.{id_tree}
use Rattle.fallowtime_commands.proofs.WriteLemmas.{names_done}
use Rattle.fallowtime_commands.proofs.session.answers.names_line.Goals as goal

pub returns : goal.returns
returns c =
    let names = c.args.names.now in
    let taken = take c.loop-name.name-index names in
    let all : taken ≡ names = take_all c.loop-name.name-index names c.loop-name-test.false in
    let last : c.end_array.new.self.tokens ≡ c.loop-name.out.tokens ++ end_array ∷ [] = c.in_ok-end_array.ensures.ok in
    names_done (id_tree c.args.id) names taken c.loop-name.out.tokens c.end_array.new.self.tokens c.end.result all c.loop-name.invariant.tokens last c.end.ensures

use Rattle.std.proofs.Common.{rules, refl, IsSomeAnd, IsUtf8}
use Rattle.json.specs.Json.{document as tree_of}
use Rattle.json.specs.Strict.{HasUniqueKeys}
use Rattle.fallowtime_commands.proofs.JoinLemmas.{key_twice}
use Rattle.fallowtime_commands.proofs.session.joining.test_text.Goals as goal

pub returns-in-DuplicateKey : goal.returns-in-DuplicateKey
returns-in-DuplicateKey c =
    let utf8 : IsUtf8 c.args.text.now = search rules in
    let twice : IsSomeAnd (tree_of c.args.text.now) (λ j. HasUniqueKeys j → ⊥) = search rules in
    (key_twice c.args.text.now utf8 twice, refl)

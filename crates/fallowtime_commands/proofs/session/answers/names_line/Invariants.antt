use Rattle.std.proofs.Common.{◌≡◌, [], ◌∷◌, ◌++◌, codes, take}
use Rattle.json.specs.Token.{begin_array, key}
use Rattle.fallowtime_commands.specs.Objects.{begun, id_tree}
use Rattle.fallowtime_commands.proofs.WriteLemmas.{name_tokens}
use Rattle.fallowtime_commands.proofs.session.answers.names_line.Given as goal

abbrev pub invariant-loop-name : goal.invariant-loop-name
invariant-loop-name l = record {
  before : l.out.before ≡ [];
  tokens : l.out.tokens ≡ begun (id_tree l.fn.id) ++ (key (codes "names") ∷ begin_array ∷ name_tokens (take l.name-index l.names));
}

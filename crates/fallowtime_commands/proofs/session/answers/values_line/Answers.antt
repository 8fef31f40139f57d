use Rattle.std.proofs.Common.{◌≡◌, [], ◌∷◌, ◌++◌, codes, ◌∙◌, ap, rules}
use Rattle.json.specs.Print.{print}
use Rattle.json.specs.Token.{key}
use Rattle.fallowtime_commands.specs.Objects.{begun, id_tree}
use Rattle.fallowtime_commands.proofs.ValueLemmas.{untold_line}
use Rattle.fallowtime_commands.proofs.WriteLemmas.{values_made}
use Rattle.fallowtime_commands.proofs.session.answers.values_line.Goals as goal

pub returns-in_ok-extend_from_slice-in-Ok : goal.returns-in_ok-extend_from_slice-in-Ok
returns-in_ok-extend_from_slice-in-Ok c =
    let id = id_tree c.args.id in
    let written = c.key.new.self.tokens in
    let named : written ≡ begun id ++ key (codes "values") ∷ [] = c.in_ok-key.ensures.ok ∙ ap (λ ts. ts ++ key (codes "values") ∷ []) c.in_ok-out.ensures.tokens in
    let opened : c.push.new.self.items ≡ print written ++ 91 ∷ [] = search rules in
    values_made id c.args.counts c.args.values.now written c.push.new.self.items c.push_values.new.line.items c.extend_from_slice.new.self.items opened named c.in-Ok.ensures c.in_ok-extend_from_slice-in-Ok.ensures.items

pub returns-in-Err : goal.returns-in-Err
returns-in-Err c =
    untold_line (id_tree c.args.id) c.args.counts c.args.values.now c.push.new.self.items c.push_values.new.line.items c.in-Err.fault c.fault_line.result c.in-Err.ensures c.fault_line.ensures

use Rattle.std.proofs.Common.{◌≡◌, [], ◌∷◌, ◌++◌, codes, ◌∙◌, ap, rules}
use Rattle.json.specs.Print.{print}
use Rattle.json.specs.Token.{key}
use Rattle.bson_store.specs.Export.{bytes_of_each}
use Rattle.fallowtime_commands.specs.Objects.{begun, id_tree}
use Rattle.fallowtime_commands.proofs.WriteLemmas.{documents_made}
use Rattle.fallowtime_commands.proofs.session.answers.documents_line.Goals as goal

pub returns-in_ok-extend_from_slice-in-Ok : goal.returns-in_ok-extend_from_slice-in-Ok
returns-in_ok-extend_from_slice-in-Ok c =
    let id = id_tree c.args.id in
    let written = c.key.new.self.tokens in
    let named : written ≡ begun id ++ key (codes "documents") ∷ [] = c.in_ok-key.ensures.ok ∙ ap (λ ts. ts ++ key (codes "documents") ∷ []) c.in_ok-out.ensures.tokens in
    let opened : c.push.new.self.items ≡ print written ++ 91 ∷ [] = search rules in
    documents_made id (bytes_of_each c.args.bodies.now) written c.push.new.self.items c.push_bodies.new.line.items c.extend_from_slice.new.self.items opened named c.in-Ok.ensures c.in_ok-extend_from_slice-in-Ok.ensures.items

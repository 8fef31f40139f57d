use Rattle.std.proofs.Common.{◌≡◌, ℕ, List, [], ◌∷◌, ◌++◌, Ok, codes, ◌∙◌, ap, sym, subst}
use Rattle.json.specs.Token.{key}
use Rattle.bson_model.specs.declared.extjson.ser.Mode.TheVariants.{Canonical}
use Rattle.cli_convert.specs.Printed.{PrintsDocument}
use Rattle.fallowtime_commands.specs.Objects.{begun, id_tree}
use Rattle.fallowtime_commands.proofs.WriteLemmas.{document_made}
use Rattle.fallowtime_commands.proofs.session.answers.document_line.Goals as goal

pub returns-in-Ok : goal.returns-in-Ok
returns-in-Ok c =
    let id = id_tree c.args.id in
    let named : c.key.new.self.tokens ≡ begun id ++ key (codes "document") ∷ [] = c.in_ok-key-in-Ok.ensures.ok ∙ ap (λ ts. ts ++ key (codes "document") ∷ []) c.in_ok-out-in-Ok.ensures.tokens in
    document_made id c.args.body.now c.key.new.self.tokens c.as_str.result.now c.end_with.result c.end_with.ensures named
    (λ d kept is. subst (λ (t : List ℕ). PrintsDocument Canonical d t (Ok tt)) (sym c.as_str.ensures.value) (c.in-Ok.ensures d kept is))

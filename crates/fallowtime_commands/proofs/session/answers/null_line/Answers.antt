use Rattle.std.proofs.Common.{◌≡◌, [], ◌∷◌, ◌++◌, codes, ◌∙◌, ap, append_assoc, refl}
use Rattle.json.specs.Json.{null as nothing}
use Rattle.json.specs.Token.{key, null}
use Rattle.fallowtime_commands.specs.Answers.{one}
use Rattle.fallowtime_commands.specs.Objects.{begun, id_tree}
use Rattle.fallowtime_commands.proofs.WriteLemmas.{makes_line}
use Rattle.fallowtime_commands.proofs.session.answers.null_line.Goals as goal

pub returns : goal.returns
returns c =
    let id = id_tree c.args.id in
    let named : c.key.new.self.tokens ≡ begun id ++ key (codes "document") ∷ [] = c.in_ok-key.ensures.ok ∙ ap (λ ts. ts ++ key (codes "document") ∷ []) c.in_ok-out.ensures.tokens in
    let written : c.null.new.self.tokens ≡ begun id ++ (key (codes "document") ∷ null ∷ []) =
    c.in_ok-null.ensures.ok ∙ ap (λ ts. ts ++ null ∷ []) named ∙ append_assoc (begun id) (key (codes "document") ∷ []) (null ∷ []) in
    makes_line id (one (codes "document") nothing) c.null.new.self.tokens (key (codes "document") ∷ null ∷ []) c.end.result c.end.ensures written refl

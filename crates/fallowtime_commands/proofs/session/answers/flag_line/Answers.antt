use Rattle.std.proofs.Common.{◌≡◌, [], ◌∷◌, ◌++◌, codes, ◌∙◌, ap, append_assoc, refl}
use Rattle.json.specs.Json.{boolean as truth}
use Rattle.json.specs.Token.{boolean, key}
use Rattle.fallowtime_commands.specs.Answers.{one}
use Rattle.fallowtime_commands.specs.Objects.{begun, id_tree}
use Rattle.fallowtime_commands.proofs.WriteLemmas.{makes_line}
use Rattle.fallowtime_commands.proofs.session.answers.flag_line.Goals as goal

pub returns : goal.returns
returns c =
    let id = id_tree c.args.id in
    let b = c.args.flag in
    let named : c.key.new.self.tokens ≡ begun id ++ key (codes "was_there") ∷ [] = c.in_ok-key.ensures.ok ∙ ap (λ ts. ts ++ key (codes "was_there") ∷ []) c.in_ok-out.ensures.tokens in
    let written : c.boolean.new.self.tokens ≡ begun id ++ (key (codes "was_there") ∷ boolean b ∷ []) =
    c.in_ok-boolean.ensures.ok ∙ ap (λ ts. ts ++ boolean b ∷ []) named ∙ append_assoc (begun id) (key (codes "was_there") ∷ []) (boolean b ∷ []) in
    makes_line id (one (codes "was_there") (truth b)) c.boolean.new.self.tokens (key (codes "was_there") ∷ boolean b ∷ []) c.end.result c.end.ensures written refl

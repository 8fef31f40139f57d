use Rattle.std.proofs.Common.{◌≡◌, ℕ, List, [], ◌∷◌, ◌++◌, ◌∙◌, ap, sym, subst}
use Rattle.json.specs.Token.{key}
use Rattle.bson_json.specs.Prints.{IsTextOf}
use Rattle.bson_model.specs.View.{view}
use Rattle.bson_model.specs.declared.extjson.ser.Mode.TheVariants.{Canonical}
use Rattle.fallowtime_commands.specs.Objects.{begun, id_tree}
use Rattle.fallowtime_commands.proofs.WriteLemmas.{value_made}
use Rattle.fallowtime_commands.proofs.session.answers.value_line.Goals as goal

pub returns : goal.returns
returns c =
    let v = view c.args.value.now in
    let begins : c.key.new.self.tokens ≡ begun (id_tree c.args.id) ++ key c.args.key.now ∷ [] = c.in_ok-key.ensures.ok ∙ ap (λ ts. ts ++ key c.args.key.now ∷ []) c.in_ok-out.ensures.tokens in
    let text : IsTextOf Canonical v c.as_str.result.now = subst (λ (t : List ℕ). IsTextOf Canonical v t) (sym c.as_str.ensures.value) c.in_ok-write_value.ensures.text in
    value_made (id_tree c.args.id) c.args.key.now v c.key.new.self.tokens c.as_str.result.now c.end_with.result c.end_with.ensures begins text

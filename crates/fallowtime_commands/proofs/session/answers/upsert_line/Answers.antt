use Rattle.std.proofs.Common.{◌≡◌, ℕ, List, [], ◌∷◌, ◌++◌, codes, ◌∙◌, ap, append_assoc, decimal, sym, subst}
use Rattle.json.specs.Token.{key, number}
use Rattle.bson_json.specs.Prints.{IsTextOf}
use Rattle.bson_model.specs.View.{view}
use Rattle.bson_model.specs.declared.extjson.ser.Mode.TheVariants.{Canonical}
use Rattle.fallowtime_commands.specs.Objects.{begun, id_tree}
use Rattle.fallowtime_commands.proofs.WriteLemmas.{none_matched, upsert_made}
use Rattle.fallowtime_commands.proofs.session.answers.upsert_line.Goals as goal

pub returns : goal.returns
returns c =
    let v = view c.args.own.now in
    let id = id_tree c.args.id in
    let first = key (codes "matched") ∷ number (decimal 0) ∷ [] in
    let second = key (codes "changed") ∷ number (decimal 0) ∷ [] in
    let begins : c.put_number.new.out.tokens ≡ begun id ++ first = c.in_ok-put_number.ensures.0 ∙ ap (λ ts. ts ++ first) c.in_ok-out.ensures.tokens in
    let goes : c.put_number-2.new.out.tokens ≡ begun id ++ none_matched = c.in_ok-put_number-2.ensures.0 ∙ ap (λ ts. ts ++ second) begins ∙ append_assoc (begun id) first second in
    let named : c.key.new.self.tokens ≡ (begun id ++ none_matched) ++ key (codes "upserted") ∷ [] = c.in_ok-key.ensures.ok ∙ ap (λ ts. ts ++ key (codes "upserted") ∷ []) goes in
    let text : IsTextOf Canonical v c.as_str.result.now = subst (λ (t : List ℕ). IsTextOf Canonical v t) (sym c.as_str.ensures.value) c.in_ok-write_value.ensures.text in
    upsert_made id v c.key.new.self.tokens c.as_str.result.now c.end_with.result c.end_with.ensures named text

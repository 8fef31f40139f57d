use Rattle.std.proofs.Common.{◌≡◌, ◌∙◌, List, ℕ, [], ◌∷◌, OnOk, codes, subst}
use Rattle.json.specs.Token.{begin_object, end_object, key, string}
use Rattle.bson_base.specs.Options.{sorted_text}
use Rattle.bson_json.specs.Prints.{Adds}
use Rattle.bson_json.proofs.stored.print_regex.Goals as goal

pub returns : goal.returns
returns c =
    let P : List ℕ → Type 0
    = λ t. OnOk c.wrap_texts.result (Adds (begin_object ∷ key (codes "$regularExpression") ∷ begin_object ∷ key (codes "options") ∷ string t ∷ key (codes "pattern") ∷ string c.args.pattern.now ∷ end_object ∷ end_object ∷ []) c.args.out.now c.wrap_texts.new.out) in
    let text : c.as_str-text.result.now ≡ sorted_text c.args.options.now = c.as_str-text.ensures.value ∙ c.in_ok-in_order.ensures in
    subst P text c.wrap_texts.ensures

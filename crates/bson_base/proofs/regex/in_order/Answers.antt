use Rattle.std.proofs.Common.{◌≡◌, ℕ, List, IfOk, string_bytes, ap, ◌∙◌, subst}
use Rattle.std.specs.Prelude.{encode_utf8_all}
use Rattle.bson_base.specs.Options.{ascending_codes}
use Rattle.bson_base.proofs.OptionsLemmas.{ascending_from_sort}
use Rattle.bson_base.proofs.regex.in_order.Goals as goal

pub returns : goal.returns
returns c =
    let read = c.in_ok-characters.characters.items in
    let sorted = c.sort_unstable.new.self.items in
    let in_order = ascending_from_sort read sorted c.sort_unstable.ensures.permutation c.sort_unstable.ensures.sorted in
    subst (λ (cs : List ℕ). IfOk c.text_of.result (λ t. string_bytes t ≡ encode_utf8_all cs)) (in_order ∙ ap ascending_codes c.in_ok-characters.ensures) c.text_of.ensures

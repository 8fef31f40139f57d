use Rattle.std.proofs.Common.{[], ◌∷◌, sym, ap, ◌∙◌}
use Rattle.store_table.proofs.OwnLemmas.{only}
use Rattle.store_table.proofs.own.has_unique.Goals as goal

pub returns-in-len1 : goal.returns-in-len1
returns-in-len1 c t =
    let places = c.places-item.result in
    let one = sym c.as_slice.ensures ∙ only c.as_slice.result.now places c.in-len1.len_at_least c.in-len1.len_below c.places-item.is in
    one ∙ ap (λ z. z ∷ []) (sym c.as_slice-in-len1.ensures ∙ c.are_name_and_key.ensures t)

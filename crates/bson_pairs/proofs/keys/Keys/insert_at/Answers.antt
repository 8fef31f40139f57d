use Rattle.std.proofs.Common.{sym, ap, ◌∙◌, ◌++◌, ◌∷◌, [], insert, string_bytes, subst}
use Rattle.bson_pairs.specs.Index.{GoesAt}
use Rattle.bson_pairs.specs.Keyed.{key_bytes}
use Rattle.bson_pairs.proofs.IndexLemmas.{pushed}
use Rattle.bson_pairs.proofs.keys.Keys.insert_at.Goals as goal

pub invariant_of-self-2 : goal.invariant_of-self-2
invariant_of-self-2 c =
    let i = c.self.inside in
    let place = c.len-place.result in
    pushed i.texts.items c.push.new.self.items c.args.key i.order.items c.insert.new.self.items c.args.at place c.self.invariant.0 c.self.invariant.1 (subst (λ l. GoesAt (string_bytes c.args.key) c.args.at (key_bytes l)) (sym c.self.view_is) c.requires) (c.len-place.ensures ∙ i.texts.ok.0)
    (c.in_ok-push.ensures.items ∙ ap (λ l. l ++ c.args.key ∷ []) c.in_ok-reserve.ensures.items)
    (c.in_ok-insert.ensures.items ∙ ap (λ l. insert l c.args.at place) c.in_ok-reserve-2.ensures.items)

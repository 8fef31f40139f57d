use Rattle.std.proofs.Common.{◌∷◌, [], codes, inl, inr, sym, ◌∙◌, ap}
use Rattle.std.proofs.lemmas.Slice.Eq.{bytes_eq-Decides}
use Rattle.fallowtime_words.proofs.topic.topic_of_two.Goals as goal

pub returns-then-eq : goal.returns-then-eq
returns-then-eq c =
    inl (ap (λ w. w ∷ c.args.second.now ∷ []) ((bytes_eq-Decides c.args.first.now (codes "--explain")).0 (sym c.eq.ensures ∙ c.if-eq.true)))

pub returns-in-Some : goal.returns-in-Some
returns-in-Some c =
    let h = (c.helped.ensures c.in-Some.command).0 c.in-Some.is in
    (c.args.first.now, h.0, inl (ap (λ w. c.args.first.now ∷ w ∷ []) (sym h.1)))

pub returns : goal.returns
returns c =
    let h = (c.helped-2.ensures c.in_ok-helped.field-0).0 c.in_ok-helped.was in
    (c.args.second.now, h.0, inr (ap (λ w. w ∷ c.args.second.now ∷ []) (sym h.1)))

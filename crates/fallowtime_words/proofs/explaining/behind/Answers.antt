use Rattle.std.proofs.Common.{◌++◌, inl, inr, refl, sym, ◌∙◌, ap}
use Rattle.fallowtime_words.proofs.explaining.behind.Goals as goal

pub returns-in-Some : goal.returns-in-Some
returns-in-Some c =
    let h = c.in-Some.ensures.cases in
    let p = h.1 in
    inl (p.1 ∙ ap (λ t. c.args.front.now ++ t) (sym h.2))

pub returns-in-None : goal.returns-in-None
returns-in-None c = inr (c.in-None.ensures.cases, refl)

use Rattle.std.proofs.Common.{◌≡◌, ◌∙◌, ◌+◌, ◌-◌, ◌∷◌, [], List, ℕ, drop, length, ap, sym, subst, arith}
use Rattle.std.proofs.lemmas.List.{length-drop, take_all}
use Rattle.memchr.specs.Pairs.{first_index, second_index}
use Rattle.store_question.specs.Lacking.{NamedIn}
use Rattle.store_question.proofs.OnceLemmas.{named_on, unnamed, untagged}
use Rattle.store_question.proofs.lacking.lacks_name.Goals as goal

pub loop-place-preserved : goal.loop-place-preserved
loop-place-preserved c =
    let p = c.in-Some-find_prefilter.place in
    let rest = c.loop-place.rest.now in
    let pair = c.in-Some.ensures.pair in
    let found = c.in-Some-find_prefilter.ensures in
    let high = found.0.high in
    let some = c.if-place-eq0.false in
    let behind = drop (p + 1) rest in
    let whole = take_all (length rest - (p + 1)) behind (omega (arith, length-drop {A = ℕ})) in (
      λ named.
          subst (λ (l : List ℕ). NamedIn (c.args.byte ∷ 0 ∷ []) l) (sym whole)
          (named_on c.with_pair-pair.result c.args.byte c.with_pair-pair.ensures.value (ap first_index c.with_pair-pair.ensures.pair ∙ pair.0) (ap second_index c.with_pair-pair.ensures.pair ∙ pair.1) rest p _ _ found
          (untagged c.from.result _ c.from.ensures (sym c.is_some.ensures ∙ c.if-is_some.false)) (omega (arith, some)) (omega (arith, high)) (c.loop-place.invariant.0 named)),
      omega (arith, ap length whole, length-drop {A = ℕ}, c.loop-place.invariant.1),
    )

pub returns : goal.returns
returns c = λ yes named.
    unnamed c.with_pair-pair.result c.args.byte c.loop-place.rest.now c.with_pair-pair.ensures.value c.in_default-find_prefilter.ensures (c.loop-place.invariant.0 named)

use Rattle.std.proofs.Common.{ℕ, List, Bool, sym, ap, ◌∙◌, drop}
use Rattle.std.proofs.lemmas.Bool.{not-true}
use Rattle.std.specs.Borrow.{Bor}
use Rattle.std.specs.List.{list_any}
use Rattle.std.specs.Str.{bytes_eq}
use mathlib.Core.Bool.{true≢false}
use Rattle.bson_bytes.proofs.AscentLemmas.{met_greater, met_other}
use Rattle.bson_bytes.proofs.keys.MetKeys.meet.Goals as goal

pub returns-then-is_greater : goal.returns-then-is_greater
returns-then-is_greater c front all met told =
    met_greater _ front _ _ _ _ all met (record { outer = c.keep.ensures.outer; behind = c.keep.ensures.behind; all = c.keep.ensures.kept })
    (c.is_greater.ensures.0 c.if-is_greater.true) c.keep.ensures.greatest

pub returns : goal.returns
returns c front all met told =
    let is_met : List (Bor (List ℕ)) → Bool = list_any (λ (k : Bor (List ℕ)). bytes_eq k.now c.args.key.now) in
    let new = not-true (is_met c.in-Some.own.now) (sym c.is_new.ensures ∙ c.if-not-is_new.false) in
    met_other _ front _ _ _ _ all met (record { outer = c.keep-2.ensures.outer; behind = c.keep-2.ensures.behind; all = c.keep-2.ensures.kept })
    (λ less. true≢false (sym (c.is_greater.ensures.1 less) ∙ c.if-is_greater.false)) c.if-self.false c.in-Some.own.now
    (c.in-Some.ensures.cases.2 ∙ ap (drop c.args.self.now.outer) c.as_slice.ensures.value) new c.keep-2.ensures.greatest

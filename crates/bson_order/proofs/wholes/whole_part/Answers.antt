use Rattle.std.proofs.Common.{subst, sym, ◌≡◌, None, ◌∙◌}
use Rattle.bson_order.specs.Sizes.{IsNumber, place_of, size_of}
use Rattle.bson_order.specs.Wholes.{whole_part}
use Rattle.bson_order.specs.declared.numbers.Number.{Number}
use Rattle.bson_order.proofs.SizeLemmas.{no_more}
use Rattle.bson_order.proofs.WholeLemmas.{no_part, nowhere, sized_part}
use Rattle.bson_order.proofs.wholes.whole_part.Goals as goal

pub returns-in-NotANumber : goal.returns-in-NotANumber
returns-in-NotANumber c = subst (λ (n : Number). None ≡ whole_part (place_of n)) (sym c.in-NotANumber.is) nowhere

pub returns-in-Some : goal.returns-in-Some
returns-in-Some c =
    let parts = subst IsNumber c.in-Sized.is c.requires in
    subst (λ (n : Number). c.signed.result ≡ whole_part (place_of n)) (sym c.in-Sized.is)
    (c.signed.ensures ∙ sized_part c.in-Sized.negative (size_of c.in-Sized.size) c.in-Some.whole (no_more c.in-Sized.size parts) c.in-Some.ensures)

pub returns-in-None : goal.returns-in-None
returns-in-None c =
    let parts = subst IsNumber c.in-Sized.is c.requires in
    subst (λ (n : Number). None ≡ whole_part (place_of n)) (sym c.in-Sized.is)
    (no_part c.in-Sized.negative (size_of c.in-Sized.size) (no_more c.in-Sized.size parts) c.in-None.ensures)

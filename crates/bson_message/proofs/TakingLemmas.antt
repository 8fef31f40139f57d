-- The bytes of the next message, read in two steps.
use Rattle.std.proofs.Common.{◌≡◌, ℕ, ◌+◌, ◌<◌, List, ◌++◌, length, true, Ok, Err, inr, sym, ap, ◌∙◌, subst, arith}
use Rattle.std.proofs.lemmas.List.{length-append}
use Rattle.bson_base.proofs.DeviceLemmas.{Gives-trans}
use Rattle.bson_frame.proofs.PayloadLemmas.{number_front}
use Rattle.bson_frame.specs.Frame.{number}
use Rattle.bson_message.specs.declared.fault.ReadFault.{ReadFault}
use Rattle.bson_message.specs.declared.fault.ReadFault.TheVariants.{Reader, EndInside, BadLength, Memory}
use Rattle.bson_base.specs.Device.{Feed, Took}
use Rattle.bson_message.specs.Taking.{IsMessageLength, ReadsRest, TakesMessage}

took_both : (old mid new : Feed) (xs ys : List ℕ) → Took old mid xs → Took mid new ys → Took old new (xs ++ ys)
took_both old mid new xs ys first second = (second.0 ∙ first.0, Gives-trans old.supply mid.supply new.supply xs ys first.1 second.1)

pub rest_taken : (old mid new : Feed) (head : List ℕ) (n : ℕ) (all : List ℕ) → length head ≡ 4 → Took old mid head → n ≡ number head → IsMessageLength n → ReadsRest mid new head n all (Ok tt) → TakesMessage old new all (Ok true)
rest_taken old mid new head n all four first is fits (rest, second, whole, len) =
    let same : number all ≡ number head = ap number whole ∙ number_front head rest (omega (arith, four)) in
    (subst (Took old new) (sym whole) (took_both old mid new head rest first second), (subst IsMessageLength (is ∙ sym same) fits, len ∙ is ∙ sym same))

pub rest_refused : (old mid new : Feed) (head : List ℕ) (n : ℕ) (all : List ℕ) (e : ReadFault) → length head ≡ 4 → Took old mid head → n ≡ number head → IsMessageLength n → ReadsRest mid new head n all (Err e) → TakesMessage old new all (Err e)
rest_refused old mid new head n all Reader four first is fits h = h ∙ ap (λ k. k + 1) first.0
rest_refused old mid new head n all EndInside four first is fits (rest, second, short) =
    let same = number_front head rest (omega (arith, four)) in
    let long = length-append head rest in
    (head ++ rest, (took_both old mid new head rest first second.0, second.1), omega (arith, four, long), inr (omega (arith, four, long), subst IsMessageLength (is ∙ sym same) fits, subst (λ k. length (head ++ rest) < k) (is ∙ sym same) short))
rest_refused old mid new head n all Memory four first is fits h = (head, subst (λ f. Took old f head) (sym h) first, four, subst IsMessageLength is fits)
rest_refused old mid new head n all BadLength four first is fits h = absurd h

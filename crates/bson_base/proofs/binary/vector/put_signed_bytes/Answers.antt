use Rattle.std.proofs.Common.{◌≡◌, ◌<◌, ◌+◌, ℕ, List, [], ◌∷◌, ◌++◌, length, map, take, get_or, sym, ap, ◌∙◌, append_assoc, ℤ, pos, to_z, arith, rules}
use Rattle.std.proofs.lemmas.List.{map_push, take_more}
use Rattle.std.specs.Int.{w8, cast_unsigned}
use Rattle.bson_base.proofs.binary.vector.put_signed_bytes.Goals as goal

-- one more item
more : {A B : Type 0} (f : A → B) (old before new : List B) (xs : List A) (i : ℕ) (d : A) (y : B) → i < length xs → new ≡ before ++ y ∷ [] → y ≡ f (get_or xs i d) → before ≡ old ++ map f (take i xs)
    → new ≡ old ++ map f (take (i + 1) xs)
more f old before new xs i d y h push is so =
    push ∙ ap (λ l. l ++ y ∷ []) so ∙ append_assoc old (map f (take i xs)) (y ∷ [])
    ∙ ap (λ l. old ++ l) (ap (λ z. map f (take i xs) ++ z ∷ []) is ∙ sym (ap (map f) (take_more xs i d h) ∙ map_push f (take i xs) (get_or xs i d)))

pub loop-number-preserved : goal.loop-number-preserved
loop-number-preserved c =
    let xs = c.args.numbers.now in
    let i = c.loop-number.number-index in
    let within : i < length xs = omega arith in
    let x : ℤ = get_or xs i (pos 0) in
    let same : cast_unsigned w8 (to_z w8 (cast_unsigned w8 x)) ≡ cast_unsigned w8 x = search rules in
    more (cast_unsigned w8) c.args.bytes.now.items c.loop-number.bytes.items c.push.new.self.items xs i (pos 0) c.cast_unsigned.result within c.in_ok-push.ensures.items (c.cast_unsigned.ensures ∙ same) c.loop-number.invariant

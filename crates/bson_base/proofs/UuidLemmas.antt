-- The forms of a UUID.
use Rattle.std.proofs.Common.{◌≡◌, ◌≤◌, ℕ, List, [], ◌∷◌, ◌++◌, append-nil, refl, take-append-drop, length, take, drop, ap, ◌∙◌, arith}
use Rattle.std.specs.Prelude.{reverse}
use Rattle.std.proofs.lemmas.Grind.{common_steps}
use Rattle.std.proofs.lemmas.List.{length-reverse, reverse-reverse, length-drop, drop_all}
use lib.Seq.{take_at, drop_at, take_all}
use borrow.Rule.Slice.PartMut.{put_mid}
use Rattle.bson_base.specs.declared.uuid.UuidRepresentation.{UuidRepresentation}
use Rattle.bson_base.specs.declared.uuid.UuidRepresentation.TheVariants.{Standard, CSharpLegacy, JavaLegacy, PythonLegacy}
use Rattle.bson_base.specs.Uuids.{uuid_form}

-- the second half reversed after the first
pub halves : (bs r1 r2 : List ℕ) → length bs ≡ 16 → r1 ≡ reverse (take 8 bs) → r2 ≡ reverse (take 8 (drop 8 (r1 ++ drop 8 bs)))
    → put_mid 8 8 (r1 ++ drop 8 bs) r2 ≡ reverse (take 8 bs) ++ reverse (drop 8 bs)
halves bs r1 r2 long e f =
    let half : length r1 ≡ 8 = grind (arith, common_steps, e, length-reverse (take 8 bs)) in
    let rest : length (drop 8 bs) ≡ 8 = omega (arith, length-drop 8 bs) in
    let second : drop 8 (r1 ++ drop 8 bs) ≡ drop 8 bs = drop_at r1 (drop 8 bs) 8 half in
    let back : r2 ≡ reverse (drop 8 bs) = f ∙ ap (λ l. reverse (take 8 l)) second ∙ ap reverse (take_all 8 (drop 8 bs) (omega arith)) in
    let none : drop 8 (drop 8 (r1 ++ drop 8 bs)) ≡ [] = ap (drop 8) second ∙ drop_all 8 (drop 8 bs) (omega arith) in
    ap (λ l. l ++ (r2 ++ drop 8 (drop 8 (r1 ++ drop 8 bs)))) (take_at r1 (drop 8 bs) 8 half ∙ e)
    ∙ ap (λ l. reverse (take 8 bs) ++ (r2 ++ l)) none
    ∙ ap (λ l. reverse (take 8 bs) ++ l) (append-nil r2 ∙ back)

-- reversing two parts of a list twice gives the parts again
twice_halves : (bs : List ℕ) → 8 ≤ length bs → uuid_form JavaLegacy (uuid_form JavaLegacy bs) ≡ bs
twice_halves bs long =
    let front = reverse (take 8 bs) in
    let back = reverse (drop 8 bs) in
    let half : length front ≡ 8 = grind (arith, common_steps, length-reverse (take 8 bs)) in
    let first : reverse (take 8 (front ++ back)) ≡ take 8 bs = ap reverse (take_at front back 8 half) ∙ reverse-reverse (take 8 bs) in
    let second : reverse (drop 8 (front ++ back)) ≡ drop 8 bs = ap reverse (drop_at front back 8 half) ∙ reverse-reverse (drop 8 bs) in
    ap (λ l. l ++ reverse (drop 8 (front ++ back))) first ∙ ap (λ l. take 8 bs ++ l) second ∙ take-append-drop 8 bs

twice_groups : (bs : List ℕ) → 8 ≤ length bs → uuid_form CSharpLegacy (uuid_form CSharpLegacy bs) ≡ bs
twice_groups (a ∷ b ∷ c ∷ d ∷ e ∷ f ∷ g ∷ h ∷ bs) long = refl
twice_groups [] long = absurd (omega arith)
twice_groups (a ∷ []) long = absurd (omega arith)
twice_groups (a ∷ b ∷ []) long = absurd (omega arith)
twice_groups (a ∷ b ∷ c ∷ []) long = absurd (omega arith)
twice_groups (a ∷ b ∷ c ∷ d ∷ []) long = absurd (omega arith)
twice_groups (a ∷ b ∷ c ∷ d ∷ e ∷ []) long = absurd (omega arith)
twice_groups (a ∷ b ∷ c ∷ d ∷ e ∷ f ∷ []) long = absurd (omega arith)
twice_groups (a ∷ b ∷ c ∷ d ∷ e ∷ f ∷ g ∷ []) long = absurd (omega arith)

-- a form of a form is the bytes again
pub uuid_form-twice : (r : UuidRepresentation) (bs : List ℕ) → length bs ≡ 16 → uuid_form r (uuid_form r bs) ≡ bs
uuid_form-twice Standard bs long = refl
uuid_form-twice CSharpLegacy bs long = twice_groups bs (omega arith)
uuid_form-twice JavaLegacy bs long = twice_halves bs (omega arith)
uuid_form-twice PythonLegacy bs long = refl

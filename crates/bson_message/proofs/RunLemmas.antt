-- Things that stand one after the other in bytes, and those of them that a loop has met.
use Rattle.std.proofs.Common.{◌≡◌, ℕ, ◌≤◌, ◌<◌, List, [], ◌∷◌, ◌++◌, length, refl, ap, sym, ◌∙◌, subst, arith, append_assoc}
use Rattle.std.proofs.lemmas.List.{append-nil, length-append}
use Rattle.bson_message.specs.Runs.{AreAll, BeginsWith, BeginsWithNone}

-- bytes begin with one such thing at the most
abbrev pub IsOne : {T : Type 0} → (List ℕ → T → Type 0) → Type 0
IsOne {T} Is = (f g r s : List ℕ) (x y : T) → Is f x → Is g y → f ++ r ≡ g ++ s → (r ≡ s) × (x ≡ y)

-- such a thing has a byte
abbrev pub IsSome : {T : Type 0} → (List ℕ → T → Type 0) → Type 0
IsSome {T} Is = (f : List ℕ) (x : T) → Is f x → 1 ≤ length f

-- a loop has met these, and the rest is left
pub record Way {T : Type 0} (Is : List ℕ → T → Type 0) (whole rest : List ℕ) (met : List T) : Type 0 where
  pub forth : (xs : List T) → AreAll Is rest xs → AreAll Is whole (met ++ xs)
  pub back : (all : List T) → AreAll Is whole all → (xs : List T) × AreAll Is rest xs × (all ≡ met ++ xs)

nothing : {T : Type 0} (Is : List ℕ → T → Type 0) → IsSome Is → (bytes g s : List ℕ) (x : T) → bytes ≡ [] → bytes ≡ g ++ s → Is g x → ⊥
nothing Is some bytes g s x e split is =
    let a = some g x is in
    let b : length (g ++ s) ≡ 0 = sym (ap length split) ∙ ap length e in
    let c = length-append g s in
    omega (arith, a, b, c)

pub begun : {T : Type 0} (Is : List ℕ → T → Type 0) (whole : List ℕ) → Way Is whole whole []
begun Is whole = record { forth = λ xs h. h; back = λ all h. (all, h, refl) }

-- what begins with a thing is that thing and others
after : {T : Type 0} (Is : List ℕ → T → Type 0) → IsOne Is → IsSome Is → (rest behind : List ℕ) (y : T) (all : List T) → BeginsWith Is rest y behind → AreAll Is rest all → (xs : List T) × AreAll Is behind xs × (all ≡ y ∷ xs)
after Is one some rest behind y [] (g, gs, gp) h = absurd (nothing Is some rest g behind y h gs gp)
after Is one some rest behind y (x ∷ xs) (g, gs, gp) (f, r, fs, fp, fm) =
    let t = one f g r behind x y fp gp (sym fs ∙ gs) in
    (xs, subst (λ b. AreAll Is b xs) t.0 fm, ap (λ z. z ∷ xs) t.1)

pub one_more : {T : Type 0} (Is : List ℕ → T → Type 0) → IsOne Is → IsSome Is → (whole rest behind : List ℕ) (met : List T) (y : T) → Way Is whole rest met → BeginsWith Is rest y behind → Way Is whole behind (met ++ y ∷ [])
one_more {T} Is one some whole rest behind met y way (g, gs, gp) = record {
  forth = λ xs h. subst (λ l. AreAll Is whole l) (sym (append_assoc met (y ∷ []) xs)) (way.forth (y ∷ xs) (g, behind, gs, gp, h));
  back = λ all h. onward all (way.back all h);
}
  where
    onward : (all : List T) → ((xs : List T) × AreAll Is rest xs × (all ≡ met ++ xs)) → (xs : List T) × AreAll Is behind xs × (all ≡ (met ++ y ∷ []) ++ xs)
    onward all (xs, hx, e) =
        let (ys, hy, f) = after Is one some rest behind y xs (g, gs, gp) hx in
        (ys, hy, e ∙ ap (λ l. met ++ l) f ∙ sym (append_assoc met (y ∷ []) ys))

-- nothing is left
pub all_met : {T : Type 0} (Is : List ℕ → T → Type 0) (whole rest : List ℕ) (met : List T) → Way Is whole rest met → length rest ≡ 0 → AreAll Is whole met
all_met Is whole [] met way none = subst (λ l. AreAll Is whole l) (append-nil met) (way.forth [] refl)
all_met Is whole (x ∷ xs) met way none = absurd (omega (arith, none))

-- no more such things are left
pub no_more : {T : Type 0} (Is : List ℕ → T → Type 0) (whole rest : List ℕ) (met all : List T) → Way Is whole rest met → BeginsWithNone Is rest → AreAll Is whole all → (length rest ≡ 0) × (all ≡ met)
no_more {T} Is whole rest met all way lacks h = ends (way.back all h)
  where
    ends : ((xs : List T) × AreAll Is rest xs × (all ≡ met ++ xs)) → (length rest ≡ 0) × (all ≡ met)
    ends ([], is, e) = (ap length is, e ∙ append-nil met)
    ends (x ∷ xs, (f, r, split, part, more), e) = absurd (lacks x r (f, split, part))

-- something is left, and no such thing
pub stuck : {T : Type 0} (Is : List ℕ → T → Type 0) (whole rest : List ℕ) (met all : List T) → Way Is whole rest met → BeginsWithNone Is rest → 0 < length rest → AreAll Is whole all → ⊥
stuck Is whole rest met all way lacks some h = let e = (no_more Is whole rest met all way lacks h).0 in omega (arith, e, some)

pub empty_begins_with_none : {T : Type 0} (Is : List ℕ → T → Type 0) → IsSome Is → (bytes : List ℕ) → bytes ≡ [] → BeginsWithNone Is bytes
empty_begins_with_none Is some bytes e x rest (g, gs, gp) = nothing Is some bytes g rest x e gs gp

-- bytes are one list of such things
pub one_list : {T : Type 0} (Is : List ℕ → T → Type 0) → IsOne Is → IsSome Is → (bytes : List ℕ) (xs ys : List T) → AreAll Is bytes xs → AreAll Is bytes ys → xs ≡ ys
one_list Is one some bytes [] [] p q = refl
one_list Is one some bytes [] (y ∷ ys) p (g, s, gs, gp, gm) = absurd (nothing Is some bytes g s y p gs gp)
one_list Is one some bytes (x ∷ xs) ys (f, r, fs, fp, fm) q =
    let (zs, hz, e) = after Is one some bytes r x ys (f, fs, fp) q in
    ap (λ l. x ∷ l) (one_list Is one some r xs zs fm hz) ∙ sym e

-- A value that is put at a path, and then another one there.
use Rattle.std.proofs.Common.{◌≡◌, ◌∙◌, ℕ, List, [], ◌∷◌, Bool, true, false, cond, Option, Some, None, Result, Ok, Err, bytes_eq, refl, sym, ap}
use Rattle.bson_base.proofs.MemberLemmas.{look_up-put, same_key}
use Rattle.bson_base.specs.Value.{Value, document, Members, no_members, member, look_up, put}
use Rattle.store_update.specs.Number.{onward}
use Rattle.store_update.specs.Plan.{Path}
use Rattle.store_update.specs.Update.{altered, found, settled_inside}
use Rattle.store_update.specs.declared.error.UpdateError.{UpdateError}
use Rattle.store_pipeline.specs.Unwound.{or_same, with_at}

put_twice : (k : List ℕ) (v w : Value) (ms : Members) → put k w (put k v ms) ≡ put k w ms
put_twice k v w no_members = ap (λ b. cond b (member k w no_members) (member k v (member k w no_members))) (same_key k)
put_twice k v w (member l u ms) = by (bytes_eq k l) refl (put_twice k v w ms)
  where
    by : (b : Bool) → bytes_eq k l ≡ b → put k w (put k v ms) ≡ put k w ms → put k w (cond b (member l v ms) (member l u (put k v ms))) ≡ cond b (member l w ms) (member l u (put k w ms))
    by true same more = rw same refl
    by false other more = rw other (ap (member l u) more)

there_then : (k : List ℕ) (v : Value) (ms : Members) → look_up k (put k v ms) ≡ Some v
there_then k v ms = look_up-put k k v ms ∙ ap (λ b. cond b (Some v) (look_up k ms)) (same_key k)

onward_same : {A B : Type 0} (r s : Result A UpdateError) (f g : A → Result B UpdateError) → r ≡ s → ((a : A) → f a ≡ g a) → onward r f ≡ onward s g
onward_same (Ok a) s f g same each = each a ∙ ap (λ x. onward x g) same
onward_same (Err e) s f g same each = ap (λ x. onward x g) same

-- the first of them is put there, and what the second one makes of that is what it makes of the document as it was
abbrev Twice : Value → Value → Path → Members → Type 0
Twice v w p d = (e : Members) × (altered (λ old. Ok (Some v)) p d ≡ Ok e) × (altered (λ old. Ok (Some w)) p e ≡ altered (λ old. Ok (Some w)) p d)

twice : (v w u : Value) (k : List ℕ) (ks : Path) (d : Members) → found (k ∷ ks) (Some (document d)) ≡ Ok (Some u) → Twice v w (k ∷ ks) d
twice v w u k [] d is = (put k v d, refl, ap (λ (e : Members). Ok e) (put_twice k v w d))
twice v w u k (l ∷ ks) d is = by (twice v w u l ks) (look_up k d) refl is
  where
    on : (m : Members) → look_up k d ≡ Some (document m) → Twice v w (l ∷ ks) m → Twice v w (k ∷ l ∷ ks) d
    on m at h =
        let e = put k (document h.0) d in (
          e,
          rw (at, h.1) refl,
          rw (there_then k (document h.0) d, at)
              (onward_same (altered (λ old. Ok (Some w)) (l ∷ ks) h.0) (altered (λ old. Ok (Some w)) (l ∷ ks) m) (λ x. Ok (settled_inside k (Some (document h.0)) x e)) (λ x. Ok (settled_inside k (Some (document m)) x d)) h.2
              (λ x. ap (λ (y : Members). Ok y) (put_twice k (document h.0) (document x) d))),
        )

    by : ((m : Members) → found (l ∷ ks) (Some (document m)) ≡ Ok (Some u) → Twice v w (l ∷ ks) m) → (o : Option Value) → look_up k d ≡ o → found (l ∷ ks) o ≡ Ok (Some u) → Twice v w (k ∷ l ∷ ks) d
    by more None at e = absurd cc
    by more (Some (document m)) at e = on m at (more m e)
    by more (Some x) at e = absurd cc

pub put_there_twice : (v w u : Value) (p : Path) (d : Members) → found p (Some (document d)) ≡ Ok (Some u) → with_at p (with_at p d (Some v)) (Some w) ≡ with_at p d (Some w)
put_there_twice v w u [] d is = refl
put_there_twice v w u (k ∷ ks) d is =
    let h = twice v w u k ks d is in
    let there = twice w w u k ks d is in
    by (altered (λ old. Ok (Some v)) (k ∷ ks) d) h.0 there.0 h.1 (h.2 ∙ there.1) there.1
  where
    by : (r : Result Members UpdateError) (e y : Members) → r ≡ Ok e → altered (λ old. Ok (Some w)) (k ∷ ks) e ≡ Ok y → altered (λ old. Ok (Some w)) (k ∷ ks) d ≡ Ok y → with_at (k ∷ ks) (or_same d r) (Some w) ≡ with_at (k ∷ ks) d (Some w)
    by (Ok x) e y same is there = let i : x ≡ e = cc in ap (λ m. with_at (k ∷ ks) m (Some w)) i ∙ ap (or_same e) is ∙ sym (ap (or_same d) there)
    by (Err x) e y same is there = absurd cc

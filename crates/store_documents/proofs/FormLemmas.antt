-- A pair that is put in its place, and its member put among the others.
use Rattle.std.proofs.Common.{◌≡◌, ℕ, zero, suc, List, [], ◌∷◌, Option, Some, None, refl, sym, ap, ◌∙◌, subst}
use Rattle.std.specs.Prelude.{insert, option_map, option_and_then}
use Rattle.std.specs.Borrow.{Bor}
use Rattle.std.specs.Ordering.{match_ordering}
use Rattle.std.specs.declared.cmp.Ordering.{Ordering}
use Rattle.std.specs.declared.cmp.Ordering.TheVariants.{Less, Greater}
use Rattle.serde_json.specs.Data.{Data, Members, member, put}
use Rattle.store_documents.specs.Forms.{ShowPairs, pair_forms}
use Rattle.store_documents.specs.Order.{GoesAt, key_cmp}

abbrev Key : Type 0
Key = List ℕ

abbrev With : Key → Data → Key → Data → Members → Ordering → Members
With k d l e js o = match_ordering o (member k d (member l e js)) (member l d js) (member l e (put k d js))

first_of_two : (k l : Key) → key_cmp k l ≡ Less → (o p : Option Data) (q : Option Members)
    → option_and_then (λ j. option_map (member k j) (option_and_then (λ i. option_map (member l i) q) p)) o
    ≡ option_and_then (λ j. option_map (put k j) (option_and_then (λ i. option_map (member l i) q) p)) o
first_of_two k l e (Some j) (Some i) (Some js) = sym (ap (λ x. Some (With k j l i js x)) e)
first_of_two k l e (Some j) (Some i) None = refl
first_of_two k l e (Some j) None q = refl
first_of_two k l e None p q = refl

second_of_two : (k l : Key) → key_cmp k l ≡ Greater → (o p : Option Data) (q : Option Members)
    → option_and_then (λ i. option_map (member l i) (option_and_then (λ j. option_map (put k j) q) o)) p
    ≡ option_and_then (λ j. option_map (put k j) (option_and_then (λ i. option_map (member l i) q) p)) o
second_of_two k l e (Some j) (Some i) (Some js) = sym (ap (λ x. Some (With k j l i js x)) e)
second_of_two k l e (Some j) (Some i) None = refl
second_of_two k l e (Some j) None q = refl
second_of_two k l e None (Some i) q = refl
second_of_two k l e None None q = refl

module _ {T V : Type 0} (R : T → V → Type 0) (f : V → Option Data) (k : Bor Key) (x : T) (v : V) (shown : R x v) where
  -- there are pairs with this one among them, and its member is among theirs
  abbrev pub IsAmong : ℕ → List (Bor Key × T) → List (Key × V) → Type 0
  IsAmong n rs ps = (qs : List (Key × V)) × ShowPairs R (insert rs n (k, x)) qs × (pair_forms f qs ≡ option_and_then (λ j. option_map (put k.now j) (pair_forms f ps)) (f v))

  pub among : (n : ℕ) (rs : List (Bor Key × T)) (ps : List (Key × V)) → ShowPairs R rs ps → GoesAt k.now n rs → IsAmong n rs ps
  among zero [] [] all goes = ((k.now, v) ∷ [], ((refl, shown), tt), refl)
  among zero [] (p ∷ ps) all goes = absurd all
  among zero (r ∷ rs) [] all goes = absurd all
  among zero (r ∷ rs) (p ∷ ps) all goes = (
    (k.now, v) ∷ p ∷ ps,
    ((refl, shown), all),
    first_of_two k.now p.0 (subst (λ (l : Key). key_cmp k.now l ≡ Less) (sym all.0.0) goes) (f v) (f p.1) (pair_forms f ps),
  )
  among (suc n) [] ps all goes = absurd goes
  among (suc n) (r ∷ rs) [] all goes = absurd all
  among (suc n) (r ∷ rs) (p ∷ ps) all goes =
      let more = among n rs ps all.1 goes.1 in (
        p ∷ more.0,
        (all.0, more.1),
        ap (λ w. option_and_then (λ i. option_map (member p.0 i) w) (f p.1)) more.2
            ∙ second_of_two k.now p.0 (subst (λ (l : Key). key_cmp k.now l ≡ Greater) (sym all.0.0) goes.0) (f v) (f p.1) (pair_forms f ps),
      )

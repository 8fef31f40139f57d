-- Commands with another number of arguments than the table has.
use Rattle.std.proofs.Common.{◌≡◌, List, [], ◌∷◌, length, map, refl}
use Rattle.fallowtime_requests.specs.Inputs.{Given}
use Rattle.fallowtime_requests.specs.Reading.{AsMany}
use Rattle.fallowtime_words.specs.declared.table.Argument.{Argument}
use Rattle.fallowtime_words.specs.declared.table.Argument.TheVariants.{Query}

module _ {X : Type 0} (seen : X → Given) where
  pub not_none : (xs : List X) → (length xs ≡ 0 → ⊥) → AsMany [] (map seen xs) → ⊥
  not_none [] other all = other refl
  not_none (x ∷ xs) other all = all

  pub not_one : (k : Argument) (xs : List X) → (AsMany (k ∷ []) [] → ⊥) → (length xs ≡ 1 → ⊥) → AsMany (k ∷ []) (map seen xs) → ⊥
  not_one k [] none other all = none all
  not_one k (x ∷ []) none other all = other refl
  not_one k (x ∷ y ∷ xs) none other all = all

  pub not_two : (k l : Argument) (xs : List X) → (AsMany (k ∷ l ∷ []) [] → ⊥) → (AsMany (l ∷ []) [] → ⊥) → (length xs ≡ 2 → ⊥) → AsMany (k ∷ l ∷ []) (map seen xs) → ⊥
  not_two k l [] none one other all = none all
  not_two k l (x ∷ []) none one other all = one all
  not_two k l (x ∷ y ∷ []) none one other all = other refl
  not_two k l (x ∷ y ∷ z ∷ xs) none one other all = all

  pub not_three : (k l n : Argument) (xs : List X) → (AsMany (k ∷ l ∷ n ∷ []) [] → ⊥) → (AsMany (l ∷ n ∷ []) [] → ⊥) → (AsMany (n ∷ []) [] → ⊥) → (length xs ≡ 3 → ⊥)
      → AsMany (k ∷ l ∷ n ∷ []) (map seen xs) → ⊥
  not_three k l n [] none one two other all = none all
  not_three k l n (x ∷ []) none one two other all = one all
  not_three k l n (x ∷ y ∷ []) none one two other all = two all
  not_three k l n (x ∷ y ∷ z ∷ []) none one two other all = other refl
  not_three k l n (x ∷ y ∷ z ∷ v ∷ xs) none one two other all = all

  pub not_four : (k l n o : Argument) (xs : List X) → (AsMany (k ∷ l ∷ n ∷ o ∷ []) [] → ⊥) → (AsMany (l ∷ n ∷ o ∷ []) [] → ⊥) → (AsMany (n ∷ o ∷ []) [] → ⊥) → (AsMany (o ∷ []) [] → ⊥)
      → (length xs ≡ 4 → ⊥) → AsMany (k ∷ l ∷ n ∷ o ∷ []) (map seen xs) → ⊥
  not_four k l n o [] none one two three other all = none all
  not_four k l n o (x ∷ []) none one two three other all = one all
  not_four k l n o (x ∷ y ∷ []) none one two three other all = two all
  not_four k l n o (x ∷ y ∷ z ∷ []) none one two three other all = three all
  not_four k l n o (x ∷ y ∷ z ∷ v ∷ []) none one two three other all = other refl
  not_four k l n o (x ∷ y ∷ z ∷ v ∷ w ∷ xs) none one two three other all = all

  -- with a query or without one
  pub not_one_or_two : (k : Argument) (xs : List X) → (AsMany (k ∷ Query ∷ []) [] → ⊥) → (length xs ≡ 1 → ⊥) → (length xs ≡ 2 → ⊥) → AsMany (k ∷ Query ∷ []) (map seen xs) → ⊥
  not_one_or_two k [] none one two all = none all
  not_one_or_two k (x ∷ []) none one two all = one refl
  not_one_or_two k (x ∷ y ∷ []) none one two all = two refl
  not_one_or_two k (x ∷ y ∷ z ∷ xs) none one two all = all

  pub not_two_or_three : (k l n : Argument) (xs : List X) → (AsMany (k ∷ l ∷ n ∷ []) [] → ⊥) → (AsMany (l ∷ n ∷ []) [] → ⊥) → (length xs ≡ 2 → ⊥) → (length xs ≡ 3 → ⊥) → AsMany (k ∷ l ∷ n ∷ []) (map seen xs) → ⊥
  not_two_or_three k l n [] none one two three all = none all
  not_two_or_three k l n (x ∷ []) none one two three all = one all
  not_two_or_three k l n (x ∷ y ∷ []) none one two three all = two refl
  not_two_or_three k l n (x ∷ y ∷ z ∷ []) none one two three all = three refl
  not_two_or_three k l n (x ∷ y ∷ z ∷ v ∷ xs) none one two three all = all

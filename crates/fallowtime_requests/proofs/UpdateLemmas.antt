-- The arguments of an update, taken one by one.
use Rattle.std.proofs.Common.{Bor, Result, Ok, Err, Vec, Global, ◌≡◌, ℕ, List, [], ◌∷◌, length, get_or, map, inl, inr, refl, ap, subst, sym}
use Rattle.std.specs.Prelude.{MatchResult}
use Rattle.store_update.specs.declared.operation.Step.{Step}
use Rattle.store_question_read.specs.UpdateOutcome.{plans_of}
use Rattle.store_question.specs.declared.question.Question.{Question}
use Rattle.store_update.specs.Plan.{Plan}
use Rattle.fallowtime_requests.specs.Inputs.{Given}
use Rattle.fallowtime_requests.specs.Reading.{AsMany, IsFirst, IsUnread, StopsOptions}
use Rattle.fallowtime_requests.specs.Requests.{NameQueryAndUpdate}
use Rattle.fallowtime_requests.specs.declared.stop.Stop.{Stop}
use Rattle.cli_convert.specs.declared.made.IdMaker.{IdMaker}
use Rattle.fallowtime_words.specs.declared.table.Argument.{Argument}
use Rattle.fallowtime_words.specs.declared.table.Argument.TheVariants.{Collection, Selection, Update, Options}

-- what an update has for arguments, and those without options
abbrev pub all : List Argument
all = Collection ∷ Selection ∷ Update ∷ Options ∷ []

abbrev pub but_last : List Argument
but_last = Collection ∷ Selection ∷ Update ∷ []

abbrev Steps : Type 0
Steps = Vec Step Global

-- ---- what holds of each by itself holds of the list

module _ {X : Type 0} (of : X → Given) (P : List Given → Type 0) (xs : List X) where
  pub of_three : (a b c : X) → length xs ≡ 3 → get_or xs 0 a ≡ a → get_or xs 1 b ≡ b → get_or xs 2 c ≡ c → P (of a ∷ of b ∷ of c ∷ []) → P (map of xs)
  of_three a b c many first second third h = by xs many first second third
    where
      by : (ys : List X) → length ys ≡ 3 → get_or ys 0 a ≡ a → get_or ys 1 b ≡ b → get_or ys 2 c ≡ c → P (map of ys)
      by [] e p q r = absurd cc
      by (y ∷ []) e p q r = absurd cc
      by (y ∷ z ∷ []) e p q r = absurd cc
      by (y ∷ z ∷ v ∷ []) e p q r =
          subst (λ g. P (of y ∷ of z ∷ g ∷ [])) (sym (ap of r)) (subst (λ g. P (of y ∷ g ∷ of c ∷ [])) (sym (ap of q)) (subst (λ g. P (g ∷ of b ∷ of c ∷ [])) (sym (ap of p)) h))
      by (y ∷ z ∷ v ∷ w ∷ ys) e p q r = absurd cc

  pub of_four : (a b c d : X) → length xs ≡ 4 → get_or xs 0 a ≡ a → get_or xs 1 b ≡ b → get_or xs 2 c ≡ c → get_or xs 3 d ≡ d → P (of a ∷ of b ∷ of c ∷ of d ∷ []) → P (map of xs)
  of_four a b c d many first second third fourth h = by xs many first second third fourth
    where
      by : (ys : List X) → length ys ≡ 4 → get_or ys 0 a ≡ a → get_or ys 1 b ≡ b → get_or ys 2 c ≡ c → get_or ys 3 d ≡ d → P (map of ys)
      by [] e p q r s = absurd cc
      by (y ∷ []) e p q r s = absurd cc
      by (y ∷ z ∷ []) e p q r s = absurd cc
      by (y ∷ z ∷ v ∷ []) e p q r s = absurd cc
      by (y ∷ z ∷ v ∷ w ∷ []) e p q r s =
          subst (λ g. P (of y ∷ of z ∷ of v ∷ g ∷ [])) (sym (ap of s))
          (subst (λ g. P (of y ∷ of z ∷ g ∷ of d ∷ [])) (sym (ap of r)) (subst (λ g. P (of y ∷ g ∷ of c ∷ of d ∷ [])) (sym (ap of q)) (subst (λ g. P (g ∷ of b ∷ of c ∷ of d ∷ [])) (sym (ap of p)) h)))
      by (y ∷ z ∷ v ∷ w ∷ u ∷ ys) e p q r s = absurd cc

-- ---- which of them can't be read

-- an argument that can't be read is the first one also if more follow
longer : (m : IdMaker) (g h k : Given) (ks : List Argument) (gs : List Given) (s : Stop) → IsFirst m but_last (g ∷ h ∷ k ∷ []) s
    → IsFirst m (Collection ∷ Selection ∷ Update ∷ ks) (g ∷ h ∷ k ∷ gs) s
longer m g h k ks gs s (inl first) = inl first
longer m g h k ks gs s (inr (name, inl second)) = inr (name, inl second)
longer m g h k ks gs s (inr (name, inr (query, inl third))) = inr (name, inr (query, inl third))
longer m g h k ks gs s (inr (name, inr (query, inr (update, none)))) = absurd none

pub stops_early : (m : IdMaker) (g h k : Given) (s : Stop) → IsFirst m but_last (g ∷ h ∷ k ∷ []) s → IsUnread m all (g ∷ h ∷ k ∷ []) s
stops_early m g h k s first = inr (tt, longer m g h k (Options ∷ []) [] s first)

pub stops_before : (m : IdMaker) (g h k o : Given) (s : Stop) → IsFirst m but_last (g ∷ h ∷ k ∷ []) s → IsUnread m all (g ∷ h ∷ k ∷ o ∷ []) s
stops_before m g h k o s first = inr (tt, longer m g h k (Options ∷ []) (o ∷ []) s first)

pub stops_last : (m : IdMaker) (g h k o : Given) (s : Stop) (name : List ℕ) (q : Question) (plans : List Plan) → NameQueryAndUpdate m (g ∷ h ∷ k ∷ []) name q plans → StopsOptions o s
    → IsUnread m all (g ∷ h ∷ k ∷ o ∷ []) s
stops_last m g h k o s name q plans (named, (a, asked, stands), updates) stops = inr (tt, inr ((name, named), inr ((a, asked), inr ((plans, updates), inl stops))))

-- ---- another number of arguments

pub not_three_or_four : {X : Type 0} (of : X → Given) (xs : List X) → (length xs ≡ 3 → ⊥) → (length xs ≡ 4 → ⊥) → AsMany all (map of xs) → ⊥
not_three_or_four of [] three four many = many
not_three_or_four of (x ∷ []) three four many = many
not_three_or_four of (x ∷ y ∷ []) three four many = many
not_three_or_four of (x ∷ y ∷ z ∷ []) three four many = three refl
not_three_or_four of (x ∷ y ∷ z ∷ v ∷ []) three four many = four refl
not_three_or_four of (x ∷ y ∷ z ∷ v ∷ w ∷ xs) three four many = many

-- ---- no options

-- three of which each can be read, or the first one can't
pub three_read : {X : Type 0} (of : X → Given) (m : IdMaker) (xs : List X) (a b c : X) (r : Result (Bor (List ℕ) × Question × Steps) Stop) → length xs ≡ 3 → get_or xs 0 a ≡ a → get_or xs 1 b ≡ b → get_or xs 2 c ≡ c
    → MatchResult r (λ p. NameQueryAndUpdate m (of a ∷ of b ∷ of c ∷ []) p.0.now p.1 (plans_of p.2)) (IsFirst m but_last (of a ∷ of b ∷ of c ∷ []))
    → MatchResult r (λ p. NameQueryAndUpdate m (map of xs) p.0.now p.1 (plans_of p.2)) (IsUnread m but_last (map of xs))
three_read of m xs a b c (Ok p) long first second third h = of_three of (λ gs. NameQueryAndUpdate m gs p.0.now p.1 (plans_of p.2)) xs a b c long first second third h
three_read of m xs a b c (Err s) long first second third h = of_three of (λ gs. IsUnread m but_last gs s) xs a b c long first second third (inr (tt, h))

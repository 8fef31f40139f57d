-- The first of four arguments that can't be read.
use Rattle.std.proofs.Common.{◌≡◌, ℕ, List, [], ◌∷◌, length, get_or, map, inl, inr, sym, subst}
use Rattle.bson_base.specs.Value.{Value as Tree}
use Rattle.fallowtime_requests.specs.Inputs.{Given, IsId, IsText}
use Rattle.fallowtime_requests.specs.Reading.{IsUnread, StopsText}
use Rattle.fallowtime_requests.specs.declared.stop.Stop.{Stop}
use Rattle.fallowtime_requests.specs.declared.unread.Unread.TheVariants as unread
use Rattle.cli_convert.specs.declared.made.IdMaker.{IdMaker}
use Rattle.fallowtime_words.specs.declared.table.Argument.TheVariants.{Collection, Id, Key, Value}

module _ {X : Type 0} (seen : X → Given) (m : IdMaker) where
  pub no_name : (xs : List X) (x : X) (s : Stop) → length xs ≡ 4 → get_or xs 0 x ≡ x → StopsText unread.Collection (seen x) s → IsUnread m (Collection ∷ Id ∷ Key ∷ Value ∷ []) (map seen xs) s
  no_name [] x s four at stops = absurd cc
  no_name (a ∷ []) x s four at stops = absurd cc
  no_name (a ∷ b ∷ []) x s four at stops = absurd cc
  no_name (a ∷ b ∷ c ∷ []) x s four at stops = absurd cc
  no_name (a ∷ b ∷ c ∷ d ∷ []) x s four at stops = inr (tt, inl (subst (λ y. StopsText unread.Collection (seen y) s) (sym at) stops))
  no_name (a ∷ b ∷ c ∷ d ∷ e ∷ xs) x s four at stops = absurd cc

  pub no_key : (xs : List X) (x y z : X) (s : Stop) (t : List ℕ) (v : Tree) → length xs ≡ 4 → get_or xs 0 x ≡ x → get_or xs 1 y ≡ y → get_or xs 2 z ≡ z → IsText (seen x) t → IsId (seen y) v → StopsText unread.Key (seen z) s
      → IsUnread m (Collection ∷ Id ∷ Key ∷ Value ∷ []) (map seen xs) s
  no_key [] x y z s t v four at next third name id stops = absurd cc
  no_key (a ∷ []) x y z s t v four at next third name id stops = absurd cc
  no_key (a ∷ b ∷ []) x y z s t v four at next third name id stops = absurd cc
  no_key (a ∷ b ∷ c ∷ []) x y z s t v four at next third name id stops = absurd cc
  no_key (a ∷ b ∷ c ∷ d ∷ []) x y z s t v four at next third name id stops =
      inr (tt, inr ((t, subst (λ i. IsText (seen i) t) (sym at) name), inr ((v, subst (λ i. IsId (seen i) v) (sym next) id), inl (subst (λ i. StopsText unread.Key (seen i) s) (sym third) stops))))
  no_key (a ∷ b ∷ c ∷ d ∷ e ∷ xs) x y z s t v four at next third name id stops = absurd cc

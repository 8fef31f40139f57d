-- What a document that was lent through two calls ends as, where each call lends a part of what it was given.
use mathlib.Core.Option.{Option, none, some}
use seplogic.Ra.Ura.{Ura}
use base.Logic.{ent, sep, via, ex∗, ex_i, comm∗}
use base.Fml.{GName}
use types.Logic.{Logic, sem}
use denote.RattleType.{RattleType}
use denote.Follow.{follows, follows_by, follows_if, follows_so, such_by, followed, follows_then}

-- R lends U under γ₁, and U may lend X under m: R may lend X under m
module _ {M : Type 1} {𝓤 : Ura M} (𝓛 : Logic 𝓤) (R U X : RattleType) (γ γ₁ : GName) (F : U.Denot → R.Denot) where
  onward_if : (m : Option GName) (G : X.Denot → U.Denot) (v : U.Denot) → ent 𝓤 (sep 𝓤 (sem 𝓛 (follows R U γ γ₁ F)) (sem 𝓛 (follows_if U X γ₁ m G v))) (sem 𝓛 (follows_if R X γ m (λ z. F (G z)) (F v)))
  unfolding follows_by
  onward_if none G v = followed 𝓛 R U F γ γ₁ v
  onward_if (some γ₂) G v = follows_then 𝓛 R U X F G γ γ₁ γ₂

  pub onward : (m : Option GName) (P : X.Denot → U.Denot → Type 0) (P₀ : U.Denot → Type 0) (P' : X.Denot → R.Denot → Type 0) (P₀' : R.Denot → Type 0)
      → ((z : X.Denot) (n : U.Denot) → P z n → P' z (F n)) → ((n : U.Denot) → P₀ n → P₀' (F n))
      → ent 𝓤 (sep 𝓤 (sem 𝓛 (follows_so U X γ₁ m P P₀)) (sem 𝓛 (follows R U γ γ₁ F))) (sem 𝓛 (follows_so R X γ m P' P₀'))
  unfolding such_by
  onward m P P₀ P' P₀' so so₀ =
      ex∗ 𝓤 (λ (s : (p : (X.Denot → U.Denot) × U.Denot) × ((z : X.Denot) → P z (p.0 z)) × P₀ p.1). sem 𝓛 (follows_if U X γ₁ m s.0.0 s.0.1)) (sem 𝓛 (follows R U γ γ₁ F))
      (λ s. via 𝓤 (sep 𝓤 (sem 𝓛 (follows R U γ γ₁ F)) (sem 𝓛 (follows_if U X γ₁ m s.0.0 s.0.1))) (comm∗ 𝓤 (sem 𝓛 (follows_if U X γ₁ m s.0.0 s.0.1)) (sem 𝓛 (follows R U γ γ₁ F)))
      (via 𝓤 (sem 𝓛 (follows_if R X γ m (λ z. F (s.0.0 z)) (F s.0.1))) (onward_if m s.0.0 s.0.1)
      (ex_i 𝓤 (λ (y : (p : (X.Denot → R.Denot) × R.Denot) × ((z : X.Denot) → P' z (p.0 z)) × P₀' p.1). sem 𝓛 (follows_if R X γ m y.0.0 y.0.1)) (((λ z. F (s.0.0 z)), F s.0.1), (λ z. so z (s.0.0 z) (s.1 z)), so₀ s.0.1 s.2))))

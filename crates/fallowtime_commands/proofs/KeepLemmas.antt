-- Why documents aren't kept.
use Rattle.std.proofs.Common.{◌≡◌, ◌⊎◌, ◌≤◌, inl, inr, ℕ, Some, None, Result, Ok, Err, Vec, Global, refl}
use Rattle.std.specs.Prelude.{MatchResult}
use Rattle.bson_base.specs.Kinds.{IsPlain}
use Rattle.bson_base.specs.Value.{Value, Members, document, levels, look_up}
use Rattle.bson_bytes.specs.Encode.{encode}
use Rattle.bson_meaning.specs.Gate.{level_limit}
use Rattle.store_documents.specs.Bodies.{IsBody, IsUnwritten}
use Rattle.store_model.specs.State.{id_key}
use Rattle.store_model.specs.declared.error.ErrorKind.{ErrorKind}
use Rattle.store_model.specs.declared.error.ErrorKind.TheVariants.{Memory, NoId, Nul}
use Rattle.fallowtime_commands.specs.Storing.{IsFit, IsUnkept}

module _ (e : Members) (low : levels (document e) ≤ level_limit) where
  pub no_id : (k : ErrorKind) → look_up id_key e ≡ None → ((k ≡ Nul) × (IsPlain (document e) → ⊥)) ⊎ ((k ≡ NoId) × IsPlain (document e)) → IsUnkept e k ⊎ (k ≡ Memory)
  no_id k none (inl h) = inl (rw h.0 (low, h.1))
  no_id k none (inr h) = inl (rw h.0 (low, h.1, rw none refl))

  pub has_id : (r : Result (Vec ℕ Global) ErrorKind) (id : Value) → look_up id_key e ≡ Some id → MatchResult r (λ b. IsBody b.items e) (IsUnwritten e) → MatchResult r (λ b. (b.items ≡ encode e) × IsFit e) (λ k. IsUnkept e k ⊎ (k ≡ Memory))
  has_id (Ok b) id has h = (h.0, (record { shallow = low; plain = h.1; small = h.2 }, rw has refl))
  has_id (Err k) id has (inl h) = inl (rw h.0 (low, h.1))
  has_id (Err k) id has (inr (inl h)) = inl (rw h.0 (low, h.1, rw has refl, h.2))
  has_id (Err k) id has (inr (inr h)) = inr h

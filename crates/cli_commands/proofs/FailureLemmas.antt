-- Which device failed, by what is reported.
use Rattle.std.proofs.Common.{◌≡◌, inl, inr, ℕ, Err, refl, sym, ap, ◌∙◌, subst}
use Rattle.store_model.specs.declared.error.ErrorKind.{ErrorKind}
use Rattle.store_model.specs.Table.{DocumentTable}
use Rattle.store_model.specs.declared.error.ErrorKind.TheVariants.{Memory, Writer}
use Rattle.store_model.specs.declared.error.StoreError.{StoreError}
use Rattle.cli_commands.specs.Execute.{Fails, IsFault, Misprints}
use Rattle.cli_commands.specs.declared.stop.Failure.TheVariants.{Refused}
use Rattle.cli_commands.proofs.KindLemmas.{IsDevice}

-- no device is reported
pub no_fault : (kind : ErrorKind) (e : StoreError) (old new : ℕ) → IsDevice kind → (IsDevice e.kind → ⊥) → new ≡ old → Fails kind (Err (Refused e)) old new
no_fault kind e old new device none same = inr ((λ is. none (subst IsDevice (sym is) device)), same)

memory_told : (kind : ErrorKind) → IsDevice kind → Memory ≡ kind → ⊥
memory_told kind device is = subst IsDevice (sym is) device

-- this one is, or none
pub fault : (kind : ErrorKind) (e : StoreError) (old new : ℕ) → IsDevice kind → IsFault kind old new e → Fails kind (Err (Refused e)) old new
fault kind e old new device (inl h) = inl (ap (λ (x : StoreError). x.kind) h.0, h.1)
fault kind e old new device (inr h) = inr ((λ is. memory_told kind device (sym (ap (λ (x : StoreError). x.kind) h.0) ∙ is)), h.1)

-- the other one is, or none
pub other_fault : (kind other : ErrorKind) (e : StoreError) (m n old new : ℕ) → IsDevice other → (kind ≡ other → ⊥) → IsFault kind m n e → new ≡ old → Fails other (Err (Refused e)) old new
other_fault kind other e m n old new device apart (inl h) same = inr ((λ is. apart (sym (ap (λ (x : StoreError). x.kind) h.0) ∙ is)), same)
other_fault kind other e m n old new device apart (inr h) same = inr ((λ is. memory_told other device (sym (ap (λ (x : StoreError). x.kind) h.0) ∙ is)), same)

-- the answer of a command wasn't printed
pub as_fault : (old new : ℕ) (e : StoreError) (a b : DocumentTable) → Misprints old new e a b → IsFault Writer old new e
as_fault old new e a b (inl failed) = inl failed
as_fault old new e a b (inr (memory, same, stays)) = inr (memory, same)

-- if the table is the same
pub misprinted : (old new : ℕ) (e : StoreError) (a : DocumentTable) → IsFault Writer old new e → Misprints old new e a a
misprinted old new e a (inl failed) = inl failed
misprinted old new e a (inr (memory, same)) = inr (memory, same, refl)

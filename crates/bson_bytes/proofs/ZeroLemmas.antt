-- Whether a 00 is among bytes.
use Rattle.std.proofs.Common.{◌≡◌, ℕ, zero, suc, List, [], ◌∷◌, false, IsTrue, nat_eq, refl, arith}
use Rattle.std.specs.List.{list_any}
use Rattle.std.proofs.Math.Dec.{eqb-suc-zero}
use mathlib.Core.Bool.{not}
use Rattle.bson_base.specs.Kinds.{HasNo00}

pub no_zero_told : (bytes : List ℕ) → (IsTrue (not (list_any (λ b. nat_eq b 0) bytes)) → HasNo00 bytes) × (HasNo00 bytes → IsTrue (not (list_any (λ b. nat_eq b 0) bytes)))
no_zero_told [] = (λ h. tt, λ h. refl)
no_zero_told (zero ∷ bytes) = (λ h. cc, λ h. absurd (omega (arith, h.0)))
no_zero_told (suc b ∷ bytes) =
    let more = no_zero_told bytes in
    let e : nat_eq (suc b) 0 ≡ false = eqb-suc-zero b in
    (λ h. (omega arith, more.0 (rw e at h)), λ h. rw e (more.1 h.1))

-- A kept document without a reserved key below its top has a text.
use Rattle.std.proofs.Common.{◌≡◌, ◌≤◌, ◌<◌, ◌-◌, ◌+◌, ◌^◌, ℕ, Bool, true, false, List, refl, subst, sym, arith}
use Rattle.bson_base.specs.Value.{Members}
use Rattle.bson_bytes.specs.Encode.{encode, members_bytes}
use Rattle.bson_bytes.proofs.ExtentLemmas.{framed_envelope}
use Rattle.bson_bytes.proofs.LengthLemmas.{members_length}
use Rattle.bson_frame.specs.Payload.{IsEnvelope}
use Rattle.bson_json.specs.Straight.{IsStraightAtTop}
use Rattle.bson_json.specs.declared.style.Style.TheVariants.{Full}
use Rattle.bson_json.proofs.TextLemmas.{full_at_top}
use Rattle.bson_meaning.specs.JsonReserved.{has_reserved}
use Rattle.bson_model.specs.declared.extjson.ser.Mode.{Mode}
use Rattle.store_model.specs.State.{IsKept}

module _ (d : Members) (body : List ℕ) (kept : IsKept d) (is : body ≡ encode d) where
  pub whole : IsEnvelope body
  whole = subst IsEnvelope (sym is) (framed_envelope (members_bytes d) (omega (arith, kept.small, members_length d)))

  pub straight_at_top : (m : Mode) → has_reserved d ≡ false → IsStraightAtTop (Full m) 100 d
  straight_at_top m free = full_at_top m 99 d free (omega (arith, kept.read.shallow))

pub left : {P : Type 0} (b : Bool) → (b ≡ true → P) → (b ≡ false → ⊥) → P
left true f g = f refl
left false f g = absurd (g refl)

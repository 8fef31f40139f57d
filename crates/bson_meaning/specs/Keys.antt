-- What a call for the key of a document returns.
use Rattle.std.specs.Prelude.{◌≡◌, ◌↔◌, ℕ, ◌<◌, ◌≤◌, List, length, Result, Err, Vec, IfOk, OnOk}
use Rattle.std.specs.declared.alloc.Global.{Global}
use Rattle.bson_base.specs.Kinds.{IsPlain, IsSound}
use Rattle.bson_base.specs.Value.{Value, document, Members, no_members, member}
use Rattle.bson_frame.specs.Frame.{length_limit}
use Rattle.bson_meaning.specs.Forms.{key, Same}
use Rattle.bson_meaning.specs.declared.key.KeyError.{KeyError}
use Rattle.bson_meaning.specs.declared.key.KeyError.TheVariants.{NotPlain, TooLong}
use Rattle.bson_meaning.specs.declared.scalars.Zeros.{Zeros}

-- the document that has this element alone
abbrev pub alone : List ℕ → Value → Members
alone name v = member name v no_members

-- the key of the document, or why there is none
pub record AnswersKey (zeros : Zeros) (d : Members) (result : Result (Vec ℕ Global) KeyError) : Type 0 where
  pub bytes : IfOk result (λ k. k.items ≡ key zeros d)
  pub fits : OnOk result (length (key zeros d) ≤ length_limit)
  pub plain : OnOk result (IsPlain (document d))
  pub sound : OnOk result (IsSound (document d))
  -- each refusal is reported exactly if its reason holds, and a 00 before the length; out of memory comes after both
  pub not_plain : (result ≡ Err NotPlain) ↔ (IsPlain (document d) → ⊥)
  pub too_long : (result ≡ Err TooLong) ↔ IsPlain (document d) × (length_limit < length (key zeros d))
  -- what keys are for: they are equal exactly if the documents mean the same
  pub tells : (e : Members) → IsPlain (document e) → IsSound (document e) → length (key zeros e) ≤ length_limit
      → OnOk result ((key zeros d ≡ key zeros e) ↔ Same zeros (document d) (document e))

-- Which kept documents have a text.
use Rattle.std.proofs.Common.{◌≡◌, ◌<◌, ◌+◌, ◌^◌, Bool, true, false, List, ℕ, Option, Some, None, Result, Ok, Err, refl, sym, ap, ap₂, ◌∙◌, subst, arith}
use Rattle.std.specs.Prelude.{if◌then◌else◌, is_some, not}
use Rattle.serde_json.specs.Data.{Data}
use Rattle.bson_base.specs.Value.{Members, document}
use Rattle.bson_bytes.specs.Encode.{encode, members_bytes}
use Rattle.bson_bytes.proofs.ExtentLemmas.{framed_envelope}
use Rattle.bson_bytes.proofs.LengthLemmas.{members_length}
use Rattle.bson_frame.specs.Payload.{IsEnvelope}
use Rattle.bson_json.specs.Straight.{IsStraightAtTop}
use Rattle.bson_json.specs.Styles.{HasText}
use Rattle.bson_json.specs.declared.style.Style.TheVariants.{Stored}
use Rattle.bson_json.proofs.TextLemmas.{stored_at_top}
use Rattle.bson_meaning.specs.JsonReserved.{has_reserved}
use Rattle.bson_model.specs.JsonWrite.{members_hold_finite, write}
use Rattle.bson_model.specs.declared.extjson.ser.Mode.TheVariants.{Canonical}
use Rattle.bson_model.proofs.FiniteLemmas.{is_written}
use Rattle.store_model.specs.State.{IsKept, json_of, or_finite}
use Rattle.store_model.specs.declared.error.ErrorKind.{ErrorKind}
use Rattle.store_model.specs.declared.error.ErrorKind.TheVariants.{ReservedKey}
use Rattle.store_documents.specs.Answers.{AnswersText, HasTree}

-- the tree of a document, or a refusal, once both are known
abbrev answer : Bool → Option Data → Result Data ErrorKind
answer b o = if b then Err ReservedKey else or_finite o

pub told : (d : Members) (t : List ℕ) → (has_reserved d ≡ false) × HasText Stored (document d) t → AnswersText (json_of Canonical d) t (Ok tt)
told d t h = (h.1.0, ap₂ answer h.0 h.1.1, h.1.2)

pub reserved : (d : Members) → has_reserved d ≡ true → json_of Canonical d ≡ Err ReservedKey
reserved d is = ap (λ b. answer b (write Canonical (document d))) is

-- a document with a tree has neither a reserved key nor a finite double
parts : (b : Bool) (o : Option Data) → HasTree (answer b o) → (b ≡ false) × (is_some o ≡ true)
parts false (Some j) h = (refl, refl)
parts false None h = let bad = h.1 in absurd cc
parts true o h = let bad = h.1 in absurd cc

not_so : (b : Bool) → not b ≡ true → b ≡ false
not_so false h = refl
not_so true h = cc

module _ (d : Members) (body : List ℕ) (kept : IsKept d) (is : body ≡ encode d) where
  pub enveloped : IsEnvelope body
  enveloped = subst IsEnvelope (sym is) (framed_envelope (members_bytes d) (omega (arith, kept.small, members_length d)))

  pub has_text : HasTree (json_of Canonical d) → IsStraightAtTop Stored 100 d
  has_text h =
      let both = parts (has_reserved d) (write Canonical (document d)) h in
      let whole : not (members_hold_finite d) ≡ true = sym (is_written Canonical (document d)) ∙ both.1 in
      stored_at_top 99 d both.0 (not_so (members_hold_finite d) whole) kept.read.sound.distinct (omega (arith, kept.read.shallow))

-- That a payload has the size of its kind, from the fact that it has in some way.
use Rattle.std.proofs.Common.{◌≡◌, ℕ, zero, suc, ◌+◌, List, [], ◌∷◌, ◌++◌, length, refl, ap, sym, ◌∙◌, subst, arith}
use Rattle.std.proofs.Math.Logic.{∥∥₁_elim, ∥∥₁_map}
use Rattle.std.proofs.Props.{props}
use Rattle.std.proofs.lemmas.Str.{IsUtf8-had}
use Rattle.std.specs.Prelude.{IsUtf8}
use Rattle.bson_base.specs.declared.spec.ElementType.{ElementType}
use Rattle.bson_base.specs.declared.spec.ElementType.TheVariants as kinds
use Rattle.bson_base.specs.Kinds.{HasNo00}
use Rattle.bson_frame.specs.Frame.{IsRegexSize}
use Rattle.bson_frame.specs.Payload.{IsPayload}

-- the bytes before the first 00, and those after it
abbrev before : List ℕ → List ℕ
before [] = []
before (zero ∷ bs) = []
before (suc b ∷ bs) = suc b ∷ before bs

abbrev behind : List ℕ → List ℕ
behind [] = []
behind (zero ∷ bs) = bs
behind (suc b ∷ bs) = behind bs

before_has_none : (bs : List ℕ) → HasNo00 (before bs)
before_has_none [] = tt
before_has_none (zero ∷ bs) = tt
before_has_none (suc b ∷ bs) = (omega arith, before_has_none bs)

before_run : (a x : List ℕ) → HasNo00 a → before (a ++ 0 ∷ x) ≡ a
before_run [] x h = refl
before_run (zero ∷ a) x h = absurd (omega (arith, h.0))
before_run (suc c ∷ a) x h = ap (λ l. suc c ∷ l) (before_run a x h.1)

behind_run : (a x : List ℕ) → HasNo00 a → behind (a ++ 0 ∷ x) ≡ x
behind_run [] x h = refl
behind_run (zero ∷ a) x h = absurd (omega (arith, h.0))
behind_run (suc c ∷ a) x h = behind_run a x h.1

-- the parts of two names are where the 00s are
module _ (bytes : List ℕ) (size : ℕ) (r : IsRegexSize bytes size) where
  pattern_is : before bytes ≡ r.pattern
  pattern_is = ap before r.parts ∙ before_run r.pattern (r.options ++ 0 ∷ r.rest) r.pattern_name.no_zero

  after : behind bytes ≡ r.options ++ 0 ∷ r.rest
  after = ap behind r.parts ∙ behind_run r.pattern (r.options ++ 0 ∷ r.rest) r.pattern_name.no_zero

  options_are : before (behind bytes) ≡ r.options
  options_are = ap before after ∙ before_run r.options r.rest r.options_name.no_zero

  rest_is : behind (behind bytes) ≡ r.rest
  rest_is = ap behind after ∙ behind_run r.options r.rest r.options_name.no_zero

  parts_are : bytes ≡ before bytes ++ 0 ∷ (before (behind bytes) ++ 0 ∷ behind (behind bytes))
  parts_are = let p = pattern_is in let o = options_are in let e = rest_is in let whole = r.parts in cc

  declared_is : size ≡ length (before bytes) + length (before (behind bytes)) + 2
  declared_is = let p = ap length pattern_is in let o = ap length options_are in omega (arith, p, o, r.declared)

regex_had : (bytes : List ℕ) (size : ℕ) → ∥ IsRegexSize bytes size ∥₁ → IsRegexSize bytes size
regex_had bytes size h = record {
  pattern = before bytes;
  options = before (behind bytes);
  rest = behind (behind bytes);
  parts = ∥∥₁_elim h (hlevel props) (λ r. parts_are bytes size r);
  pattern_name = record {
    no_zero = before_has_none bytes;
    text = IsUtf8-had (before bytes) (∥∥₁_map h (λ r. subst IsUtf8 (sym (pattern_is bytes size r)) r.pattern_name.text));
  };
  options_name = record {
    no_zero = before_has_none (behind bytes);
    text = IsUtf8-had (before (behind bytes)) (∥∥₁_map h (λ r. subst IsUtf8 (sym (options_are bytes size r)) r.options_name.text));
  };
  declared = ∥∥₁_elim h (hlevel props) (λ r. declared_is bytes size r);
}

-- of each kind the fact has one proof, or can be found again
pub payload_had : (tag : ElementType) (payload : List ℕ) → ∥ IsPayload tag payload ∥₁ → IsPayload tag payload
payload_had kinds.Double p h = ∥∥₁_elim h (hlevel props) (λ x. x)
payload_had kinds.String p h = ∥∥₁_elim h (hlevel props) (λ x. x)
payload_had kinds.EmbeddedDocument p h = ∥∥₁_elim h (hlevel props) (λ x. x)
payload_had kinds.Array p h = ∥∥₁_elim h (hlevel props) (λ x. x)
payload_had kinds.Binary p h = ∥∥₁_elim h (hlevel props) (λ x. x)
payload_had kinds.Undefined p h = ∥∥₁_elim h (hlevel props) (λ x. x)
payload_had kinds.ObjectId p h = ∥∥₁_elim h (hlevel props) (λ x. x)
payload_had kinds.Boolean p h = ∥∥₁_elim h (hlevel props) (λ x. x)
payload_had kinds.DateTime p h = ∥∥₁_elim h (hlevel props) (λ x. x)
payload_had kinds.Null p h = ∥∥₁_elim h (hlevel props) (λ x. x)
payload_had kinds.RegularExpression p h = regex_had p (length p) h
payload_had kinds.DbPointer p h = ∥∥₁_elim h (hlevel props) (λ x. x)
payload_had kinds.JavaScriptCode p h = ∥∥₁_elim h (hlevel props) (λ x. x)
payload_had kinds.Symbol p h = ∥∥₁_elim h (hlevel props) (λ x. x)
payload_had kinds.JavaScriptCodeWithScope p h = tt
payload_had kinds.Int32 p h = ∥∥₁_elim h (hlevel props) (λ x. x)
payload_had kinds.Timestamp p h = ∥∥₁_elim h (hlevel props) (λ x. x)
payload_had kinds.Int64 p h = ∥∥₁_elim h (hlevel props) (λ x. x)
payload_had kinds.Decimal128 p h = ∥∥₁_elim h (hlevel props) (λ x. x)
payload_had kinds.MaxKey p h = ∥∥₁_elim h (hlevel props) (λ x. x)
payload_had kinds.MinKey p h = ∥∥₁_elim h (hlevel props) (λ x. x)

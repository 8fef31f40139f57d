-- From values that were read to the trees that they spell.
use Rattle.std.proofs.Common.{◌≡◌, ℕ, ◌+◌, ◌≤◌, List, length, drop, Some, Result, Ok, Err, MatchResult, inr, length-drop, sym, ap, ◌∙◌, subst, arith}
use Rattle.bson_base.specs.declared.spec.ElementType.{ElementType}
use Rattle.bson_base.specs.Value.{Scalar, scalar_kind, Value, scalar, value_kind}
use Rattle.bson_bytes.specs.Spells.{HoldsScalar, SpellsValue, SpellsItems, SpellsMembers}
use Rattle.bson_frame.specs.Frame.{number}
use Rattle.bson_frame.specs.Payload.{code_in, scope_in, IsFaultless}
use Rattle.bson_raw.specs.declared.bson_ref.RawBsonRef.{RawBsonRef}
use Rattle.bson_raw.specs.declared.bson_ref.RawBsonRef.TheVariants as views
use Rattle.bson_raw.specs.ReadValue.{IsValue, Holds}
use Rattle.bson_raw.specs.Raw.{RawValue, leaf, array, document, scoped_code, ref_value, raw_kind}
use Rattle.bson_raw.specs.View.{bytes_of, array_bytes}
use Rattle.bson_frame.specs.declared.error.Error.{Error}
use Rattle.bson_frame.specs.Frame.{Element}
use Rattle.bson_frame.specs.View.{fault_key}
use Rattle.bson_model.specs.declared.bson.Bson.{Bson}
use Rattle.bson_raw.specs.Convert.{SpellsRawValue, elements_of, elements_in, HasFaultIn, HasFaultInside, IsValueOf, ConvertsValue, TellsFault}
use Rattle.bson_raw.proofs.FaultLemmas.{nothing_inside}
use Rattle.bson_raw.proofs.ProgressLemmas.{told_on}

-- how many bytes a value has inside that are read once more
abbrev pub inner_length : RawBsonRef → ℕ
inner_length (views.Array x) = length (array_bytes x)
inner_length (views.Document x) = length (bytes_of x)
inner_length (views.JavaScriptCodeWithScope x) = length (bytes_of x.scope) + 1
inner_length v = 0

scope_shorter : (payload : List ℕ) → 5 ≤ length (scope_in payload) → length (scope_in payload) + 1 ≤ length payload
scope_shorter payload some = omega (arith, some, length-drop {A = ℕ} (number (code_in payload) + 4) (code_in payload), length-drop {A = ℕ} 4 payload)

module _ (tag : ElementType) (payload : List ℕ) where
  -- a payload has more bytes than are read once more
  pub inner_shorter : (r : RawBsonRef) → Holds payload (ref_value r) → inner_length r ≤ length payload
  inner_shorter (views.Array x) holds = omega (arith, ap length holds)
  inner_shorter (views.Document x) holds = omega (arith, ap length holds)
  inner_shorter (views.JavaScriptCodeWithScope x) holds =
      let same = ap length holds.1 in
      omega (arith, same, scope_shorter payload (omega (arith, same, x.scope.envelope.some)))
  inner_shorter r holds = omega arith

  abbrev IsSpelled : Value → Type 0
  IsSpelled v = (value_kind v ≡ tag) × SpellsValue payload v

  by_scalar : (s : Scalar) (v : Value) → scalar_kind s ≡ tag → HoldsScalar payload s → IsFaultless tag payload → v ≡ scalar s → IsSpelled v
  by_scalar s v kind holds faultless is = subst IsSpelled (sym is) (kind, (subst (λ (t : ElementType). IsFaultless t payload) (sym kind) faultless, holds))

  -- the tree that a value spells is one that its payload spells
  pub spelled : (r : RawValue) (v : Value) → raw_kind r ≡ tag → Holds payload r → IsFaultless tag payload → SpellsRawValue r v → IsSpelled v
  spelled (leaf s) v kind holds faultless is = by_scalar s v kind holds faultless is
  spelled (array bs) v kind holds faultless (vs, spells, is) = subst IsSpelled (sym is) (kind, subst (λ b. SpellsItems (drop 4 b) vs) holds spells)
  spelled (document bs) v kind holds faultless (ms, spells, is) = subst IsSpelled (sym is) (kind, subst (λ b. SpellsMembers (drop 4 b) ms) holds spells)
  spelled (scoped_code t bs) v kind holds faultless (ms, spells, is) =
      subst IsSpelled (sym is) (kind, (subst (λ (k : ElementType). IsFaultless k payload) (sym kind) faultless, holds.0, subst (λ b. SpellsMembers (drop 4 b) ms) holds.1 spells))

  inside_of : (r : RawValue) → Holds payload r → elements_of r ≡ elements_in (raw_kind r) payload
  inside_of (leaf s) holds = sym (nothing_inside payload s)
  inside_of (array bs) holds = ap (λ (b : List ℕ). Some (drop 4 b)) holds
  inside_of (document bs) holds = ap (λ (b : List ℕ). Some (drop 4 b)) holds
  inside_of (scoped_code t bs) holds = ap (λ (b : List ℕ). Some (drop 4 b)) holds.1

  -- what is inside a value is inside its payload
  pub same_inside : (r : RawValue) → raw_kind r ≡ tag → Holds payload r → elements_of r ≡ elements_in tag payload
  same_inside r kind holds = inside_of r holds ∙ ap (λ (t : ElementType). elements_in t payload) kind

-- what a value's conversion returns is what its element's returns
pub element_converted : (e : Element) (r : RawBsonRef) (result : Result Bson Error) → IsValue e.tag e.payload r → ConvertsValue (ref_value r) result → MatchResult result (IsValueOf e) (TellsFault (HasFaultIn e))
element_converted e r (Ok b) is (v, stands, seen) =
    let s = spelled e.tag e.payload (ref_value r) v is.kind is.holds is.faultless stands in
    (v, s.0, s.1, seen)
element_converted e r (Err x) is h =
    told_on (HasFaultInside (ref_value r)) (HasFaultIn e) (λ key kind f. inr (f.0, is.faultless, sym (same_inside e.tag e.payload (ref_value r) is.kind is.holds) ∙ f.1, f.2)) (fault_key x) x.kind h

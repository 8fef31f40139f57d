-- What one value is seen to be, from its view.
use Rattle.std.proofs.Common.{◌≡◌, ℕ, Bor, Bool, false, List, refl, sym, subst}
use Rattle.std.specs.Prelude.{option_and_then, option_map}
use Rattle.bson_base.specs.Value.{Value}
use Rattle.bson_raw.specs.Convert.{SpellsRawValue}
use Rattle.bson_raw.specs.Raw.{ref_value}
use Rattle.bson_raw.specs.declared.bson_ref.RawBsonRef.{RawBsonRef}
use Rattle.bson_raw.specs.declared.bson_ref.RawBsonRef.TheVariants as views
use Rattle.bson_raw.specs.declared.bson_ref.RawRegexRef.{RawRegexRef}
use Rattle.store_question_read.specs.Kinds.{is_number, kind_of, kind_of_number}
use Rattle.bson_order.specs.Wholes.{whole_of}
use Rattle.store_question_read.specs.Values.{is_expression, is_not_zero, truth_of}

-- ---- what is no text, no truth value, no expression

pub no_number_name : (raw : RawBsonRef) (v : Value) → ((x : Bor (List ℕ)) → raw ≡ views.String x → ⊥) → SpellsRawValue (ref_value raw) v → false ≡ is_number v
no_number_name (views.String x) v never s = absurd (never x refl)
no_number_name (views.Array x) v never s = subst (λ (w : Value). false ≡ is_number w) (sym s.2) refl
no_number_name (views.Document x) v never s = subst (λ (w : Value). false ≡ is_number w) (sym s.2) refl
no_number_name (views.JavaScriptCodeWithScope x) v never s = subst (λ (w : Value). false ≡ is_number w) (sym s.2) refl
no_number_name raw v never s = subst (λ (w : Value). false ≡ is_number w) (sym s) refl

pub kind_by_number : (raw : RawBsonRef) (v : Value) → ((x : Bor (List ℕ)) → raw ≡ views.String x → ⊥) → SpellsRawValue (ref_value raw) v → option_and_then kind_of_number (whole_of v) ≡ kind_of v
kind_by_number (views.String x) v never s = absurd (never x refl)
kind_by_number (views.Array x) v never s = subst (λ (w : Value). option_and_then kind_of_number (whole_of w) ≡ kind_of w) (sym s.2) refl
kind_by_number (views.Document x) v never s = subst (λ (w : Value). option_and_then kind_of_number (whole_of w) ≡ kind_of w) (sym s.2) refl
kind_by_number (views.JavaScriptCodeWithScope x) v never s = subst (λ (w : Value). option_and_then kind_of_number (whole_of w) ≡ kind_of w) (sym s.2) refl
kind_by_number raw v never s = subst (λ (w : Value). option_and_then kind_of_number (whole_of w) ≡ kind_of w) (sym s) refl

pub truth_by_number : (raw : RawBsonRef) (v : Value) → ((x : Bool) → raw ≡ views.Boolean x → ⊥) → SpellsRawValue (ref_value raw) v → option_map is_not_zero (whole_of v) ≡ truth_of v
truth_by_number (views.Boolean x) v never s = absurd (never x refl)
truth_by_number (views.Array x) v never s = subst (λ (w : Value). option_map is_not_zero (whole_of w) ≡ truth_of w) (sym s.2) refl
truth_by_number (views.Document x) v never s = subst (λ (w : Value). option_map is_not_zero (whole_of w) ≡ truth_of w) (sym s.2) refl
truth_by_number (views.JavaScriptCodeWithScope x) v never s = subst (λ (w : Value). option_map is_not_zero (whole_of w) ≡ truth_of w) (sym s.2) refl
truth_by_number raw v never s = subst (λ (w : Value). option_map is_not_zero (whole_of w) ≡ truth_of w) (sym s) refl

pub no_expression : (raw : RawBsonRef) (v : Value) → ((x : RawRegexRef) → raw ≡ views.RegularExpression x → ⊥) → SpellsRawValue (ref_value raw) v → false ≡ is_expression v
no_expression (views.RegularExpression x) v never s = absurd (never x refl)
no_expression (views.Array x) v never s = subst (λ (w : Value). false ≡ is_expression w) (sym s.2) refl
no_expression (views.Document x) v never s = subst (λ (w : Value). false ≡ is_expression w) (sym s.2) refl
no_expression (views.JavaScriptCodeWithScope x) v never s = subst (λ (w : Value). false ≡ is_expression w) (sym s.2) refl
no_expression raw v never s = subst (λ (w : Value). false ≡ is_expression w) (sym s) refl

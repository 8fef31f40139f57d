-- What an arm of `equal` promises of the scalar that the value spells, and filters of numbers that are put together.
use Rattle.std.proofs.Common.{◌≡◌, ℕ, ◌<◌, ◌^◌, ℤ, pos, negsuc, Bool, true, false, ◌==◌, if◌then◌else◌, Option, Some, None, Result, Ok, Err, refl, sym, ap, ◌∙◌, subst, arith, of_z, to_z}
use Rattle.std.proofs.lemmas.Bool.Decides.{nat_tests}
use Rattle.std.proofs.lemmas.Int.{to_z-of_z}
use Rattle.std.specs.Int.{w64}
use Rattle.std.specs.declared.alloc.AllocError.{AllocError}
use Rattle.std.specs.Prelude.{FitsSigned, IfOk, nat_lt, option_and_then}
use Rattle.bson_base.specs.Doubles.{is_nan}
use Rattle.bson_base.specs.Kinds.{IsSound}
use Rattle.bson_base.specs.Value.{Scalar, Value, double, scalar}
use Rattle.bson_base.specs.declared.double.DoubleBits.{DoubleBits}
use Rattle.bson_base.specs.declared.spec.ElementType.TheVariants as kinds
use Rattle.bson_model.proofs.ViewLemmas.{view-Double}
use Rattle.bson_model.specs.View.{view}
use Rattle.bson_model.specs.declared.bson.Bson.{Bson, Double}
use Rattle.bson_order.specs.Line.{double_place, whole_place}
use Rattle.bson_order.specs.Wholes.{in_64_bits, toward_zero, whole_at, whole_of, whole_part}
use Rattle.bson_raw.specs.Convert.{SpellsRawValue}
use Rattle.bson_raw.specs.Raw.{RawValue, leaf, ref_value}
use Rattle.bson_raw.specs.declared.bson_ref.RawBsonRef.{RawBsonRef}
use Rattle.store_question.specs.Filters.{filter_of}
use Rattle.store_question.specs.declared.filter.Filter.{Filter as Made}
use Rattle.store_model.specs.Filter.{Filter, Path, equals, is_of}
use Rattle.store_asked.specs.Front.{IsDoubleAt, Reaches, double_at, either, integers_at}
use Rattle.store_asked.proofs.PrefilterLemmas.{doubles_reach, wholes_reach}

-- ---- arms

abbrev pub Serves : Path → RawBsonRef → Result Made AllocError → Type 0
Serves p raw r = IfOk r (λ f. (w : Value) → SpellsRawValue (ref_value raw) w → Reaches p w (filter_of f))

pub served : (p : Path) (raw : RawBsonRef) (s : Scalar) (Q : Made → Type 0) (r : Result Made AllocError) → ref_value raw ≡ leaf s → ((f : Made) → Q f → Reaches p (scalar s) (filter_of f)) → IfOk r Q → Serves p raw r
served p raw s Q (Ok f) e h q = λ w spelled.
    let is : w ≡ scalar s = subst (λ (x : RawValue). SpellsRawValue x w) e spelled in
    subst (λ (x : Value). Reaches p x (filter_of f)) (sym is) (h f q)
served p raw s Q (Err x) e h q = tt

-- the filter is this one
pub served_so : (p : Path) (raw : RawBsonRef) (s : Scalar) (g : Filter) (r : Result Made AllocError) → ref_value raw ≡ leaf s → Reaches p (scalar s) g → IfOk r (λ f. filter_of f ≡ g) → Serves p raw r
served_so p raw s g r e h = served p raw s (λ f. filter_of f ≡ g) r e (λ f is. subst (λ (x : Filter). Reaches p (scalar s) x) (sym is) h)

-- the filter is the equality with a tree that is the scalar
pub served_view : (p : Path) (raw : RawBsonRef) (s : Scalar) (b : Bson) (r : Result Made AllocError) → ref_value raw ≡ leaf s → view b ≡ scalar s → Reaches p (scalar s) (equals p (scalar s)) → IfOk r (λ f. filter_of f ≡ equals p (view b)) → Serves p raw r
served_view p raw s b r e seen h = served p raw s (λ f. filter_of f ≡ equals p (view b)) r e (λ f is. subst (λ (x : Filter). Reaches p (scalar s) x) (sym (is ∙ ap (equals p) seen)) h)

-- ---- numbers

-- a whole number at a place has room in 64 bits
in_room : (y z : ℤ) → in_64_bits y ≡ Some z → FitsSigned w64 z
in_room (pos n) z e = by (nat_lt n (2 ^ 63)) refl e
  where
    by : (b : Bool) → nat_lt n (2 ^ 63) ≡ b → (if b then Some (pos n) else None) ≡ Some z → FitsSigned w64 z
    by true t q =
        let same : pos n ≡ z = cc in
        let low : n < 2 ^ 63 = grind (arith, nat_tests) in
        let fits : FitsSigned w64 (pos n) = record { sfits = omega (arith, low) } in
        subst (λ (x : ℤ). FitsSigned w64 x) same fits
    by false t q = absurd cc
in_room (negsuc n) z e = by (nat_lt n (2 ^ 63)) refl e
  where
    by : (b : Bool) → nat_lt n (2 ^ 63) ≡ b → (if b then Some (negsuc n) else None) ≡ Some z → FitsSigned w64 z
    by true t q =
        let same : negsuc n ≡ z = cc in
        let low : n < 2 ^ 63 = grind (arith, nat_tests) in
        let fits : FitsSigned w64 (negsuc n) = record { sfits = omega (arith, low) } in
        subst (λ (x : ℤ). FitsSigned w64 x) same fits
    by false t q = absurd cc

whole_room : (k : ℕ) (z : ℤ) → whole_at k ≡ Some z → FitsSigned w64 z
whole_room k z e = in_room (toward_zero k) z (on (whole_part k) e)
  where
    inner : (y : ℤ) (b : Bool) → (if b then Some y else None) ≡ Some z → Some y ≡ Some z
    inner y true q = q
    inner y false q = absurd cc

    on : (o : Option ℤ) → option_and_then (λ y. if whole_place y == k then Some y else None) o ≡ Some z → o ≡ Some z
    on None q = absurd cc
    on (Some y) q = inner y (whole_place y == k) q

-- the filter of a whole number reaches a value that is it
pub whole_found : (p : Path) (v : Value) (k : ℕ) (z : ℤ) (r : Result Made AllocError) → whole_at k ≡ Some z → whole_of v ≡ Some z → IfOk r (λ f. (w : Value) → whole_of w ≡ Some (to_z w64 (of_z w64 z)) → Reaches p w (filter_of f)) → IfOk r (λ f. Reaches p v (filter_of f))
whole_found p v k z (Ok f) e is h = h v (is ∙ ap Some (sym (to_z-of_z w64 z (whole_room k z e))))
whole_found p v k z (Err x) e is h = tt

low_pattern : (d : DoubleBits) → IsSound (view (Double d)) → d.0 < 2 ^ 64
low_pattern d h = let sound : IsSound (scalar (double d.0)) = subst (λ (x : Value). IsSound x) (view-Double d) h in sound.ranged

pub double_told : (p : Path) (z : ℤ) (d : DoubleBits) (r : Result Made AllocError) → IsSound (view (Double d)) → double_place d.0 ≡ whole_place z → IfOk r (λ f. filter_of f ≡ equals p (view (Double d)))
    → IfOk r (λ f. (o : Option ℕ) × IsDoubleAt z o × (filter_of f ≡ double_at p o))
double_told p z d (Ok f) sound same is = (Some d.0, (low_pattern d sound, same), is ∙ ap (equals p) (view-Double d))
double_told p z d (Err e) sound same is = tt

pub whole_reached : (p : Path) (z : ℤ) (i d k e f : Filter) → FitsSigned w64 z → i ≡ integers_at p z → ((o : Option ℕ) × IsDoubleAt z o × (d ≡ double_at p o)) → k ≡ is_of p kinds.Decimal128 → e ≡ either d k → f ≡ either i e
    → (w : Value) → whole_of w ≡ Some z → Reaches p w f
whole_reached p z i d k e f fits a b c g h = λ w is.
    let same : f ≡ either (integers_at p z) (either (double_at p b.0) (is_of p kinds.Decimal128)) = h ∙ ap (λ x. either x e) a ∙ ap (either (integers_at p z)) (g ∙ ap (λ x. either x k) b.2 ∙ ap (either (double_at p b.0)) c) in
    subst (λ (x : Filter). Reaches p w x) (sym same) (wholes_reach p w z b.0 fits b.1 is)

pub fraction_reached : (p : Path) (d : DoubleBits) (x k f : Filter) → IsSound (view (Double d)) → is_nan d.0 ≡ false → x ≡ equals p (view (Double d)) → k ≡ is_of p kinds.Decimal128 → f ≡ either x k
    → whole_of (scalar (double d.0)) ≡ None → Reaches p (scalar (double d.0)) f
fraction_reached p d x k f sound some a b h = λ none.
    let same : f ≡ either (equals p (scalar (double d.0))) (is_of p kinds.Decimal128) = h ∙ ap (λ y. either y k) (a ∙ ap (equals p) (view-Double d)) ∙ ap (either (equals p (scalar (double d.0)))) b in
    subst (λ (y : Filter). Reaches p (scalar (double d.0)) y) (sym same) (doubles_reach p d.0 (low_pattern d sound) some none)

-- What is equal to a value, by the kinds that can hold it.
use Rattle.std.proofs.Common.{◌≡◌, ◌⊎◌, inl, inr, ◌<◌, ◌^◌, ℕ, zero, suc, ℤ, pos, negsuc, List, Bool, true, false, ◌==◌, if◌then◌else◌, IsTrue, Option, Some, None, refl, sym, ap, ◌∙◌, subst, arith}
use Rattle.std.specs.Prelude.{IsSomeAnd, FitsSigned, unwrap_or, option_and_then}
use Rattle.std.specs.Int.{w32, w64}
use Rattle.bson_base.specs.declared.spec.ElementType.{ElementType}
use Rattle.bson_base.specs.declared.spec.ElementType.TheVariants as kinds
use Rattle.bson_base.specs.Doubles.{is_nan, is_negative, is_zero}
use Rattle.bson_base.specs.Kinds.{IsRangedScalar}
use Rattle.bson_base.specs.Value.{Scalar, boolean, date_time, decimal, double, int32, int64, null, object_id, string, symbol, scalar_kind, Value, scalar, array, document, scoped_code, value_kind}
use Rattle.bson_meaning.specs.Forms.{normal_double}
use Rattle.bson_meaning.specs.Meaning.{Same, normal_scalar}
use Rattle.bson_bytes.specs.Encode.{truth}
use Rattle.bson_order.proofs.DoubleLemmas.{double_low, one_pattern}
use Rattle.bson_order.proofs.SizeLemmas.{on_line_some}
use Rattle.bson_order.proofs.WholeLemmas.{nowhere, whole_at_is, whole_at_place}
use Rattle.bson_order.specs.Line.{decimal_place, double_place, double_size, on_line, whole_place}
use Rattle.bson_order.specs.Wholes.{whole_at, whole_of}
use Rattle.bson_order.specs.Order.{nothing, parts, parts_key, rank}
use Rattle.store_question.proofs.MemberLemmas.{at_back}
use Rattle.store_question.specs.Views.{ComesBack}
use Rattle.store_model.specs.Filter.{Filter, Path, Selects, at, equals, is_of}
use Rattle.store_asked.specs.Front.{IsDoubleAt, Reaches, double_at, either, integers_at, nothing_at, texts_at}
use Rattle.store_question.proofs.EqualLemmas.{Level, LevelScalar, SameParts, level, level_scalar, split_parts, text_found}
use Rattle.store_question.specs.Asked.{lies_to}
use Rattle.bson_model.proofs.JsonTextsLemmas.{fits_32_so}
use Rattle.bson_model.specs.JsonTexts.{fits_32}
use Rattle.store_question.specs.declared.question.Comparison.TheVariants.{Equal}

-- ---- kinds

pub id_found : (bs : List ℕ) (r : Scalar) → rank (scalar_kind r) ≡ 8 → (parts r).id ≡ bs → r ≡ object_id bs
id_found bs (object_id cs) e h = ap object_id h
id_found bs r e h = absurd (omega (arith, e))

pub null_found : (r : Scalar) → rank (scalar_kind r) ≡ 2 → r ≡ null
null_found null e = refl
null_found r e = absurd (omega (arith, e))

truth_back : (b c : Bool) → truth b ≡ truth c → b ≡ c
truth_back true true e = refl
truth_back true false e = absurd (omega (arith, e))
truth_back false true e = absurd (omega (arith, e))
truth_back false false e = refl

pub truth_found : (b : Bool) (r : Scalar) → rank (scalar_kind r) ≡ 9 → (parts r).major ≡ truth b → r ≡ boolean b
truth_found b (boolean c) e h = ap boolean (truth_back c b h)
truth_found b r e h = absurd (omega (arith, e))

wider : (y : ℤ) → FitsSigned w32 y → FitsSigned w64 y
wider (pos n) h = let k : n < 2 ^ 31 = h.sfits in record { sfits = omega (arith, k) }
wider (negsuc n) h = let k : n < 2 ^ 31 = h.sfits in record { sfits = omega (arith, k) }

whole_again : (y z : ℤ) → FitsSigned w64 y → FitsSigned w64 z → whole_place y ≡ whole_place z → y ≡ z
whole_again y z fy fz e = let same : Some y ≡ Some z = sym (whole_at_place y fy) ∙ ap whole_at e ∙ whole_at_place z fz in cc

pub date_found : (z : ℤ) (r : Scalar) → IsRangedScalar r → FitsSigned w64 z → rank (scalar_kind r) ≡ 10 → (parts r).place ≡ whole_place z → r ≡ date_time z
date_found z (date_time y) ranged fits e h = ap date_time (whole_again y z ranged fits h)
date_found z r ranged fits e h = absurd (omega (arith, e))

-- ---- selected by what is at the path

module _ (v : Value) where
  module _ (p : Path) (u : Value) (there : at v p ≡ Some u) where
    equal_here : (w : Value) → Same u w → Selects (equals p w) v
    equal_here w h = subst (λ (o : Option Value). IsSomeAnd o (λ x. Same x w)) (sym there) h

    kind_here : (k : ElementType) → value_kind u ≡ k → Selects (is_of p k) v
    kind_here k h = subst (λ (o : Option Value). IsSomeAnd o (λ x. value_kind x ≡ k)) (sym there) h

same_scalar : (r s : Scalar) → r ≡ s → Same (scalar r) (scalar s)
same_scalar r s e = ap normal_scalar e

-- what is at the path is level with the value, which isn't null
reach : (p : Path) (w : Value) (f : Filter) → (2 ≡ rank (value_kind w) → ⊥) → ((v u : Value) → ComesBack u → at v p ≡ Some u → IsTrue (lies_to Equal u w) → Selects f v) → Reaches p w f
reach p w f never there v back h = by (at v p) refl h
  where
    by : (o : Option Value) → at v p ≡ o → IsTrue (lies_to Equal (unwrap_or o (scalar null)) w) → Selects f v
    by None e t = absurd (never (level (scalar null) w t).ranks)
    by (Some u) e t = there v u (at_back p v u back e) e t

-- ---- each sort of values

pub texts_reach : (p : Path) (t : List ℕ) (s : Scalar) → rank (scalar_kind s) ≡ 4 → (parts s).text ≡ t → Reaches p (scalar s) (texts_at p t)
texts_reach p t s e is = reach p (scalar s) (texts_at p t) (λ n. omega (arith, e, n)) (λ v u back here h. on v u here (level_scalar s u h))
  where
    on : (v u : Value) → at v p ≡ Some u → LevelScalar s u → Selects (texts_at p t) v
    on v u here l = elim (text_found t l.other (l.ranks ∙ e) (l.same.text ∙ is)) [
      | inl a ↦ inl (equal_here v p u here (scalar (string t)) (subst (λ (x : Value). Same x (scalar (string t))) (sym l.is) (same_scalar l.other (string t) a)))
      | inr a ↦ inr (inl (equal_here v p u here (scalar (symbol t)) (subst (λ (x : Value). Same x (scalar (symbol t))) (sym l.is) (same_scalar l.other (symbol t) a))))
    ]

pub alone_reach : (p : Path) (s t : Scalar) → (rank (scalar_kind s) ≡ 2 → ⊥) → ((r : Scalar) → IsRangedScalar r → rank (scalar_kind r) ≡ rank (scalar_kind s) → SameParts (parts r) (parts s) → r ≡ t) → Reaches p (scalar s) (equals p (scalar t))
alone_reach p s t never found = reach p (scalar s) (equals p (scalar t)) (λ n. never (sym n)) (λ v u back here h. on v u back here (level_scalar s u h))
  where
    on : (v u : Value) → ComesBack u → at v p ≡ Some u → LevelScalar s u → Selects (equals p (scalar t)) v
    on v u back here l =
        let ranged : IsRangedScalar l.other = (subst ComesBack l.is back).sound.ranged in
        equal_here v p u here (scalar t) (subst (λ (x : Value). Same x (scalar t)) (sym l.is) (same_scalar l.other t (found l.other ranged l.ranks l.same)))

pub id_reach : (p : Path) (bs : List ℕ) → Reaches p (scalar (object_id bs)) (equals p (scalar (object_id bs)))
id_reach p bs = alone_reach p (object_id bs) (object_id bs) (λ e. omega (arith, e)) (λ r ranged e q. id_found bs r e q.id)

pub truth_reach : (p : Path) (b : Bool) → Reaches p (scalar (boolean b)) (equals p (scalar (boolean b)))
truth_reach p b = alone_reach p (boolean b) (boolean b) (λ e. omega (arith, e)) (λ r ranged e q. truth_found b r e q.major)

pub date_reach : (p : Path) (z : ℤ) → FitsSigned w64 z → Reaches p (scalar (date_time z)) (equals p (scalar (date_time z)))
date_reach p z fits = alone_reach p (date_time z) (date_time z) (λ e. omega (arith, e)) (λ r ranged e q. date_found z r ranged fits e q.place)

pub nothing_reach : (p : Path) → Reaches p (scalar null) (nothing_at p)
nothing_reach p v back h = by (at v p) refl h
  where
    by : (o : Option Value) → at v p ≡ o → IsTrue (lies_to Equal (unwrap_or o (scalar null)) (scalar null)) → Selects (nothing_at p) v
    by None e t = inr (inl (λ s. subst (λ (o : Option Value). IsSomeAnd o (λ x. Unit {0})) e s))
    by (Some u) e t =
        let l = level_scalar null u t in
        inl (equal_here v p u e (scalar null) (subst (λ (x : Value). Same x (scalar null)) (sym l.is) (same_scalar l.other null (null_found l.other l.ranks))))

-- ---- numbers

zeros_same : (m n : ℕ) → (m ≡ n) ⊎ ((is_zero m ≡ true) × (is_zero n ≡ true)) → is_nan m ≡ false → is_nan n ≡ false → normal_scalar (double m) ≡ normal_scalar (double n)
unfolding normal_double
zeros_same m n (inl e) a b = ap (λ k. normal_scalar (double k)) e
zeros_same m n (inr z) a b = zero m z.0 a ∙ sym (zero n z.1 b)
  where
    zero : (k : ℕ) → is_zero k ≡ true → is_nan k ≡ false → normal_scalar (double k) ≡ double 0
    zero k z a = ap (λ b. double (if b then (if is_negative k then 0xFFF8_0000_0000_0000 else 0x7FF8_0000_0000_0000) else (if is_zero k then 0 else k))) a ∙ ap (λ b. double (if b then 0 else k)) z

-- at a place that isn't that of NaN
not_nan : (n m : ℕ) → double_place n ≡ m → 0 < m → is_nan n ≡ false
not_nan n m e some = by (is_nan n) refl
  where
    by : (b : Bool) → is_nan n ≡ b → is_nan n ≡ false
    by true a = let zero : double_place n ≡ 0 = ap (λ b. if b then 0 else on_line (is_negative n) (double_size n)) a in absurd (omega (arith, zero, e, some))
    by false a = a

doubles_same : (m n k : ℕ) → m < 2 ^ 64 → n < 2 ^ 64 → 0 < k → double_place m ≡ k → double_place n ≡ k → Same (scalar (double m)) (scalar (double n))
doubles_same m n k hm hn some em en =
    let a = not_nan m k em some in
    let b = not_nan n k en some in
    zeros_same m n (one_pattern m n hm hn a b (em ∙ sym en)) a b

some_place : (z : ℤ) → FitsSigned w64 z → 0 < whole_place z
some_place z h = by (whole_place z) refl
  where
    by : (k : ℕ) → whole_place z ≡ k → 0 < k
    by zero e =
        let none : whole_at 0 ≡ None = ap (λ o. option_and_then (λ y. if whole_place y == 0 then Some y else None) o) (sym nowhere) in
        let some : whole_at 0 ≡ Some z = sym (ap whole_at e) ∙ whole_at_place z h in
        absurd cc
    by (suc k) e = omega arith

-- a whole number, in each kind that holds it; a decimal is looked at
abbrev pub wholes_at : Path → ℤ → Option ℕ → Filter
wholes_at p z o = either (integers_at p z) (either (double_at p o) (is_of p kinds.Decimal128))

abbrev pub doubles_at : Path → ℕ → Filter
doubles_at p n = either (equals p (scalar (double n))) (is_of p kinds.Decimal128)

-- what is level with a whole number of 64 bits, the double at whose place is told
module _ (p : Path) (z : ℤ) (o : Option ℕ) (fits : FitsSigned w64 z) (told : IsDoubleAt z o) where
  abbrev Found : Value → Type 0
  Found v = Selects (wholes_at p z o) v

  small_found : (v : Value) (y : ℤ) → at v p ≡ Some (scalar (int32 y)) → FitsSigned w32 y → y ≡ z → Found v
  small_found v y here low e =
      let small : fits_32 z ≡ true = ap fits_32 (sym e) ∙ fits_32_so y low in
      inl (subst (λ b. Selects (if b then either (equals p (scalar (int32 z))) (equals p (scalar (int64 z))) else equals p (scalar (int64 z))) v) (sym small) (inl (equal_here v p (scalar (int32 y)) here (scalar (int32 z)) (same_scalar (int32 y) (int32 z) (ap int32 e)))))

  long_found : (v : Value) (y : ℤ) → at v p ≡ Some (scalar (int64 y)) → y ≡ z → Found v
  long_found v y here e = inl (by (fits_32 z))
    where
      held : Selects (equals p (scalar (int64 z))) v
      held = equal_here v p (scalar (int64 y)) here (scalar (int64 z)) (same_scalar (int64 y) (int64 z) (ap int64 e))

      by : (b : Bool) → Selects (if b then either (equals p (scalar (int32 z))) (equals p (scalar (int64 z))) else equals p (scalar (int64 z))) v
      by true = inr (inl held)
      by false = held

  double_found : (v : Value) (m : ℕ) → at v p ≡ Some (scalar (double m)) → m < 2 ^ 64 → double_place m ≡ whole_place z → Found v
  double_found v m here low e = inr (inl (inl (by o told)))
    where
      by : (q : Option ℕ) → IsDoubleAt z q → Selects (double_at p q) v
      by None none = absurd (none m e)
      by (Some n) h = equal_here v p (scalar (double m)) here (scalar (double n)) (doubles_same m n (whole_place z) low h.0 (some_place z fits) e h.1)

  decimal_found : (v : Value) (bs : List ℕ) → at v p ≡ Some (scalar (decimal bs)) → Found v
  decimal_found v bs here = inr (inl (inr (inl (kind_here v p (scalar (decimal bs)) here kinds.Decimal128 refl))))

  number_found : (v : Value) (r : Scalar) → at v p ≡ Some (scalar r) → IsRangedScalar r → rank (scalar_kind r) ≡ 3 → (parts r).place ≡ whole_place z → Found v
  number_found v (int32 y) here ranged e is = small_found v y here ranged (whole_again y z (wider y ranged) fits is)
  number_found v (int64 y) here ranged e is = long_found v y here (whole_again y z ranged fits is)
  number_found v (double m) here ranged e is = double_found v m here ranged is
  number_found v (decimal bs) here ranged e is = decimal_found v bs here
  number_found v r here ranged e is = absurd (omega (arith, e))

wholes_there : (p : Path) (w v u : Value) (z : ℤ) (o : Option ℕ) → FitsSigned w64 z → IsDoubleAt z o → Level w (scalar (int64 z)) → ComesBack u → at v p ≡ Some u → Level u w → Selects (wholes_at p z o) v
wholes_there p w v u z o fits told one back here two = on u back here (record { ranks = two.ranks ∙ one.ranks; insides = two.insides ∙ one.insides })
  where
    on : (x : Value) → ComesBack x → at v p ≡ Some x → Level x (scalar (int64 z)) → Selects (wholes_at p z o) v
    on (scalar r) b h l = number_found p z o fits told v r h b.sound.ranged l.ranks (split_parts (parts r) (parts (int64 z)) l.insides).place
    on (array vs) b h l = absurd (omega (arith, l.ranks))
    on (document ms) b h l = absurd (omega (arith, l.ranks))
    on (scoped_code t ms) b h l = absurd (omega (arith, l.ranks))

number_level : (s : Scalar) (k : ℕ) (z : ℤ) → rank (scalar_kind s) ≡ 3 → parts s ≡ record nothing { place = k } → whole_at k ≡ Some z → Level (scalar s) (scalar (int64 z))
number_level s k z r p e = record { ranks = r; insides = ap parts_key (p ∙ ap (λ m. record nothing { place = m }) (sym (whole_at_is k z e))) }

whole_level : (w : Value) (z : ℤ) → whole_of w ≡ Some z → Level w (scalar (int64 z))
whole_level (scalar (double n)) z e = number_level (double n) (double_place n) z refl refl e
whole_level (scalar (int32 y)) z e = number_level (int32 y) (whole_place y) z refl refl e
whole_level (scalar (int64 y)) z e = number_level (int64 y) (whole_place y) z refl refl e
whole_level (scalar (decimal bs)) z e = number_level (decimal bs) (decimal_place bs) z refl refl e
whole_level w z e = absurd cc

pub wholes_reach : (p : Path) (w : Value) (z : ℤ) (o : Option ℕ) → FitsSigned w64 z → IsDoubleAt z o → whole_of w ≡ Some z → Reaches p w (wholes_at p z o)
wholes_reach p w z o fits told e =
    let one = whole_level w z e in
    let ranks = one.ranks in
    reach p w (wholes_at p z o) (λ n. omega (arith, ranks, n)) (λ v u back here h. wholes_there p w v u z o fits told one back here (level u w h))

-- a double that is no whole number of 64 bits
whole_double : (n : ℕ) (y : ℤ) → FitsSigned w64 y → whole_place y ≡ double_place n → whole_of (scalar (double n)) ≡ Some y
whole_double n y fits e = ap whole_at (sym e) ∙ whole_at_place y fits

pub doubles_reach : (p : Path) (n : ℕ) → n < 2 ^ 64 → is_nan n ≡ false → whole_of (scalar (double n)) ≡ None → Reaches p (scalar (double n)) (doubles_at p n)
doubles_reach p n low nan none = reach p (scalar (double n)) (doubles_at p n) (λ e. omega (arith, e)) (λ v u back here h. on v u back here (level_scalar (double n) u h))
  where
    never : (y : ℤ) → FitsSigned w64 y → whole_place y ≡ double_place n → ⊥
    never y fits e = let some = whole_double n y fits e in let clash : Some y ≡ None = sym some ∙ none in cc

    some : 0 < double_place n
    some = let line : double_place n ≡ on_line (is_negative n) (double_size n) = ap (λ b. if b then 0 else on_line (is_negative n) (double_size n)) nan in let above = on_line_some (is_negative n) (double_size n) (double_low n nan) in omega (arith, line, above)

    found : (v : Value) (r : Scalar) → at v p ≡ Some (scalar r) → IsRangedScalar r → rank (scalar_kind r) ≡ 3 → (parts r).place ≡ double_place n → Selects (doubles_at p n) v
    found v (int32 y) here ranged e is = absurd (never y (wider y ranged) is)
    found v (int64 y) here ranged e is = absurd (never y ranged is)
    found v (double m) here ranged e is = inl (equal_here v p (scalar (double m)) here (scalar (double n)) (doubles_same m n (double_place n) ranged low some is refl))
    found v (decimal bs) here ranged e is = inr (inl (kind_here v p (scalar (decimal bs)) here kinds.Decimal128 refl))
    found v r here ranged e is = absurd (omega (arith, e))

    on : (v u : Value) → ComesBack u → at v p ≡ Some u → LevelScalar (double n) u → Selects (doubles_at p n) v
    on v u back here l = found v l.other (here ∙ ap Some l.is) (subst ComesBack l.is back).sound.ranged l.ranks l.same.place

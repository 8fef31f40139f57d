-- Patterns of a fixed beginning, byte by byte.
use Rattle.std.proofs.Common.{◌≡◌, ◌↔◌, inl, inr, ◌<◌, ◌≤◌, ◌+◌, ℕ, Bool, true, false, ◌==◌, if◌then◌else◌, List, [], ◌∷◌, ◌++◌, drop, length, get_or, Bor, Option, Some, None, refl, sym, ap, ◌∙◌, subst, append_assoc, append-nil, add-one}
use Rattle.std.specs.Prelude.{option_map}
use Rattle.std.proofs.Math.Seq.{drop-cons}
use Rattle.std.proofs.lemmas.Bool.{eqb-true}
use Rattle.std.proofs.lemmas.List.{drop_all}
use Rattle.bson_base.specs.Value.{Value}
use Rattle.bson_raw.specs.Convert.{SpellsRawValue}
use Rattle.bson_raw.specs.Raw.{ref_value}
use Rattle.bson_raw.specs.declared.bson_ref.RawBsonRef.{RawBsonRef}
use Rattle.bson_raw.specs.declared.bson_ref.RawBsonRef.TheVariants as views
use Rattle.bson_raw.specs.declared.bson_ref.RawRegexRef.{RawRegexRef}
use Rattle.store_question_read.specs.Patterns.{AreWritten, IsBeginning, IsWritten, beginning_in, expression_of, literal, opens, stands}

-- ---- one more byte

abbrev pub Kept : List ℕ → List ℕ → Bool → List ℕ → Type 0
Kept whole bytes escaped rest = literal false whole ≡ option_map (λ t. bytes ++ t) (literal escaped rest)

kept_more : (bytes : List ℕ) (b : ℕ) (o : Option (List ℕ)) → option_map (λ t. bytes ++ t) (option_map (λ t. b ∷ t) o) ≡ option_map (λ t. (bytes ++ b ∷ []) ++ t) o
kept_more bytes b (Some t) = ap Some (sym (append_assoc bytes (b ∷ []) t))
kept_more bytes b None = refl

pub none_kept : (whole bytes : List ℕ) → bytes ≡ [] → Kept whole bytes false whole
none_kept whole bytes e = by (literal false whole) ∙ ap (λ (x : List ℕ). option_map (λ t. x ++ t) (literal false whole)) (sym e)
  where
    by : (o : Option (List ℕ)) → o ≡ option_map (λ t. [] ++ t) o
    by (Some t) = refl
    by None = refl

module _ (whole bytes : List ℕ) (escaped : Bool) (i d : ℕ) (h : i < length whole) (k : Kept whole bytes escaped (drop i whole)) where
  abbrev b : ℕ
  b = get_or whole i d

  next : drop i whole ≡ b ∷ drop (i + 1) whole
  next = drop-cons whole i d h ∙ rw add-one refl

  here : Kept whole bytes escaped (b ∷ drop (i + 1) whole)
  here = k ∙ ap (λ (x : List ℕ). option_map (λ t. bytes ++ t) (literal escaped x)) next

  pub opened : (now : List ℕ) (flag : Bool) → now ≡ bytes → flag ≡ true → opens escaped b ≡ true → Kept whole now flag (drop (i + 1) whole)
  opened now flag n f e =
      here
      ∙ ap (λ (x : Bool). option_map (λ t. bytes ++ t) (if x then literal true (drop (i + 1) whole) else (if stands escaped b then option_map (λ t. b ∷ t) (literal false (drop (i + 1) whole)) else None))) e
      ∙ ap (λ (x : List ℕ). option_map (λ t. x ++ t) (literal true (drop (i + 1) whole))) (sym n)
      ∙ ap (λ (x : Bool). option_map (λ t. now ++ t) (literal x (drop (i + 1) whole))) (sym f)

  closed : (x : Bool) → opens escaped b ≡ false → stands escaped b ≡ x → literal false whole ≡ option_map (λ t. bytes ++ t) (if x then option_map (λ t. b ∷ t) (literal false (drop (i + 1) whole)) else None)
  closed x e f =
      here
      ∙ ap (λ (y : Bool). option_map (λ t. bytes ++ t) (if y then literal true (drop (i + 1) whole) else (if stands escaped b then option_map (λ t. b ∷ t) (literal false (drop (i + 1) whole)) else None))) e
      ∙ ap (λ (y : Bool). option_map (λ t. bytes ++ t) (if y then option_map (λ t. b ∷ t) (literal false (drop (i + 1) whole)) else None)) f

  pub refused : opens escaped b ≡ false → stands escaped b ≡ false → None ≡ literal false whole
  refused e f = sym (closed false e f)

  pub kept : (now : List ℕ) (flag : Bool) → now ≡ bytes ++ b ∷ [] → flag ≡ false → opens escaped b ≡ false → stands escaped b ≡ true → Kept whole now flag (drop (i + 1) whole)
  kept now flag n f e s =
      closed true e s
      ∙ kept_more bytes b (literal false (drop (i + 1) whole))
      ∙ ap (λ (x : List ℕ). option_map (λ t. x ++ t) (literal false (drop (i + 1) whole))) (sym n)
      ∙ ap (λ (x : Bool). option_map (λ t. now ++ t) (literal x (drop (i + 1) whole))) (sym f)

module _ (whole bytes : List ℕ) (escaped : Bool) (i : ℕ) (h : length whole ≤ i) (k : Kept whole bytes escaped (drop i whole)) where
  over : literal false whole ≡ option_map (λ t. bytes ++ t) (literal escaped [])
  over = k ∙ ap (λ (x : List ℕ). option_map (λ t. bytes ++ t) (literal escaped x)) (drop_all i whole h)

  pub broken_off : escaped ≡ true → None ≡ literal false whole
  broken_off e = sym (over ∙ ap (λ (x : Bool). option_map (λ t. bytes ++ t) (literal x [])) e)

  pub complete : escaped ≡ false → Some bytes ≡ literal false whole
  complete e = sym (over ∙ ap (λ (x : Bool). option_map (λ t. bytes ++ t) (literal x [])) e ∙ ap Some (append-nil bytes))

-- ---- what is no expression

pub no_expression : (raw : RawBsonRef) (v : Value) → ((x : Bor (List ℕ)) → raw ≡ views.String x → ⊥) → ((x : RawRegexRef) → raw ≡ views.RegularExpression x → ⊥) → SpellsRawValue (ref_value raw) v → None ≡ expression_of v
no_expression (views.String x) v never nor s = absurd (never x refl)
no_expression (views.RegularExpression x) v never nor s = absurd (nor x refl)
no_expression (views.Array x) v never nor s = subst (λ (w : Value). None ≡ expression_of w) (sym s.2) refl
no_expression (views.Document x) v never nor s = subst (λ (w : Value). None ≡ expression_of w) (sym s.2) refl
no_expression (views.JavaScriptCodeWithScope x) v never nor s = subst (λ (w : Value). None ≡ expression_of w) (sym s.2) refl
no_expression raw v never nor s = subst (λ (w : Value). None ≡ expression_of w) (sym s) refl

-- ---- what is read is what is written

kept_on : (b : ℕ) (bs pattern rest : List ℕ) (o : Option (List ℕ)) → IsWritten b pattern rest → ((t : List ℕ) → o ≡ Some t → AreWritten t rest) → option_map (λ t. b ∷ t) o ≡ Some bs → AreWritten bs pattern
kept_on b bs pattern rest (Some t) w on e = let same : b ∷ t ≡ bs = cc in subst (λ (x : List ℕ). AreWritten x pattern) same (rest, w, on t refl)
kept_on b bs pattern rest None w on e = absurd cc

escaped_by : (b : ℕ) (rest bs : List ℕ) (x : Bool) → stands true b ≡ x → ((t : List ℕ) → literal false rest ≡ Some t → AreWritten t rest) → (if x then option_map (λ t. b ∷ t) (literal false rest) else None) ≡ Some bs → AreWritten bs (92 ∷ b ∷ rest)
escaped_by b rest bs true s on e = kept_on b bs (92 ∷ b ∷ rest) rest (literal false rest) (inr (refl, s)) on e
escaped_by b rest bs false s on e = absurd cc

plain_by : (b : ℕ) (rest bs : List ℕ) (x : Bool) → stands false b ≡ x → ((t : List ℕ) → literal false rest ≡ Some t → AreWritten t rest) → (if x then option_map (λ t. b ∷ t) (literal false rest) else None) ≡ Some bs → AreWritten bs (b ∷ rest)
plain_by b rest bs true s on e = kept_on b bs (b ∷ rest) rest (literal false rest) (inl (refl, s)) on e
plain_by b rest bs false s on e = absurd cc

written_by : (b : ℕ) (rest bs : List ℕ) (x : Bool) → (b == 92) ≡ x → (literal true rest ≡ Some bs → AreWritten bs (92 ∷ rest)) → ((t : List ℕ) → literal false rest ≡ Some t → AreWritten t rest)
    → (if x then literal true rest else (if stands false b then option_map (λ t. b ∷ t) (literal false rest) else None)) ≡ Some bs → AreWritten bs (b ∷ rest)
written_by b rest bs true s escaped on e = subst (λ (y : ℕ). AreWritten bs (y ∷ rest)) (sym (eqb-true b 92 s)) (escaped e)
written_by b rest bs false s escaped on e = plain_by b rest bs (stands false b) refl on e

mutual
  are_written : (pattern bs : List ℕ) → literal false pattern ≡ Some bs → AreWritten bs pattern
  are_written [] bs e = let same : [] ≡ bs = cc in subst (λ (x : List ℕ). AreWritten x []) same refl
  are_written (b ∷ rest) bs e = written_by b rest bs (b == 92) refl (λ h. escaped_written rest bs h) (λ t h. are_written rest t h) e

  escaped_written : (pattern bs : List ℕ) → literal true pattern ≡ Some bs → AreWritten bs (92 ∷ pattern)
  escaped_written [] bs e = absurd cc
  escaped_written (b ∷ rest) bs e = escaped_by b rest bs (stands true b) refl (λ t h. are_written rest t h) e

plain_read : (b : ℕ) (rest : List ℕ) → stands false b ≡ true → literal false (b ∷ rest) ≡ option_map (λ t. b ∷ t) (literal false rest)
plain_read b rest s = by (b == 92) refl
  where
    by : (x : Bool) → (b == 92) ≡ x → literal false (b ∷ rest) ≡ option_map (λ t. b ∷ t) (literal false rest)
    by true e = let never : stands false 92 ≡ true = subst (λ (y : ℕ). stands false y ≡ true) (eqb-true b 92 e) s in absurd cc
    by false e =
        ap (λ (x : Bool). if x then literal true rest else (if stands false b then option_map (λ t. b ∷ t) (literal false rest) else None)) e
        ∙ ap (λ (x : Bool). if x then option_map (λ t. b ∷ t) (literal false rest) else None) s

read_by : (b : ℕ) (bs pattern rest : List ℕ) → IsWritten b pattern rest → literal false rest ≡ Some bs → literal false pattern ≡ Some (b ∷ bs)
read_by b bs pattern rest (inl w) e = ap (literal false) w.0 ∙ plain_read b rest w.1 ∙ ap (option_map (λ t. b ∷ t)) e
read_by b bs pattern rest (inr w) e = ap (literal false) w.0 ∙ ap (λ (x : Bool). if x then option_map (λ t. b ∷ t) (literal false rest) else None) w.1 ∙ ap (option_map (λ t. b ∷ t)) e

is_read : (bs pattern : List ℕ) → AreWritten bs pattern → literal false pattern ≡ Some bs
is_read [] pattern e = ap (literal false) e
is_read (b ∷ bs) pattern w = read_by b bs pattern w.0 w.1 (is_read bs w.0 w.2)

-- ---- with what is in front of it

beginning_written : (pattern bs : List ℕ) → beginning_in pattern ≡ Some bs → IsBeginning bs pattern
beginning_written [] bs e = absurd cc
beginning_written (b ∷ rest) bs e = by (b == 94) refl e
  where
    by : (x : Bool) → (b == 94) ≡ x → (if x then literal false rest else None) ≡ Some bs → IsBeginning bs (b ∷ rest)
    by true s t = (rest, ap (λ (y : ℕ). y ∷ rest) (eqb-true b 94 s), are_written rest bs t)
    by false s t = absurd cc

pub fixed_beginning : (bs pattern : List ℕ) → (beginning_in pattern ≡ Some bs) ↔ IsBeginning bs pattern
fixed_beginning bs pattern = (beginning_written pattern bs, λ w. ap beginning_in w.1 ∙ is_read bs w.0 w.2)

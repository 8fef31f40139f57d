-- Bytes spell one tree at most.
use Rattle.std.proofs.Common.{◌≡◌, ℕ, ◌<◌, List, [], ◌∷◌, ◌++◌, length, drop, Bool, true, false, eqb, refl, sym, ap, ◌∙◌, subst, arith, lit<, eq-eqb, length-append}
use mathlib.Core.Bool.{true≢false}
use Rattle.bson_base.specs.declared.spec.ElementType.{ElementType}
use Rattle.bson_base.specs.declared.spec.ElementType.TheVariants as kinds
use Rattle.bson_base.specs.Kinds.{HasNo00}
use Rattle.bson_base.specs.Tags.{tag_byte}
use Rattle.bson_base.specs.Value.{Scalar, double, string, binary, undefined, object_id, boolean, date_time, null, regex, db_pointer, code, symbol, int32, timestamp, int64, decimal, max_key, min_key, scalar_kind, value_kind, Value, scalar, array, document, scoped_code, Items, no_items, item, Members, no_members, member}
use Rattle.bson_bytes.specs.Encode.{truth}
use Rattle.bson_bytes.specs.Spells.{HoldsScalar, SpellsValue, SpellsItems, SpellsMembers, settle, Means}
use Rattle.bson_frame.specs.Frame.{Element, IsFirstFrame, IsRegexSize}
use Rattle.bson_frame.specs.Payload.{IsPayload}
use Rattle.bson_frame.proofs.FrameLemmas.{frame_is_one}
use Rattle.bson_frame.proofs.PayloadLemmas.{payload_by_itself}

pub apart : {A : Type 0} (m n : ℕ) → m ≡ n → eqb m n ≡ false → A
apart m n e f = absurd (true≢false (sym (eq-eqb m n e) ∙ f))

truth_same : (a b : Bool) → truth a ≡ truth b → a ≡ b
truth_same true true e = refl
truth_same true false e = apart 1 0 e refl
truth_same false true e = apart 0 1 e refl
truth_same false false e = refl

-- ---- a pattern and its options

last_same : (s t : List ℕ) → s ++ 0 ∷ [] ≡ t ++ 0 ∷ [] → s ≡ t
last_same [] [] e = refl
last_same [] (c ∷ t) e = let tails : [] ≡ t ++ 0 ∷ [] = cc in absurd (no_end t tails)
  where
    no_end : (t : List ℕ) → [] ≡ t ++ 0 ∷ [] → ⊥
    no_end [] e = cc
    no_end (c ∷ t) e = cc
last_same (b ∷ s) [] e = let tails : s ++ 0 ∷ [] ≡ [] = cc in absurd (no_end s tails)
  where
    no_end : (t : List ℕ) → t ++ 0 ∷ [] ≡ [] → ⊥
    no_end [] e = cc
    no_end (c ∷ t) e = cc
last_same (b ∷ s) (c ∷ t) e =
    let heads : b ≡ c = cc in
    let tails = last_same s t cc in
    cc

-- a 00 before the last one isn't in a run without 00
early_zero : (p x o : List ℕ) → HasNo00 o → p ++ 0 ∷ (x ++ 0 ∷ []) ≡ o ++ 0 ∷ [] → ⊥
early_zero [] [] [] h e = cc
early_zero [] (a ∷ x) [] h e = cc
early_zero (b ∷ p) x [] h e = let tails : p ++ 0 ∷ (x ++ 0 ∷ []) ≡ [] = cc in no_end p tails
  where
    no_end : (p : List ℕ) → p ++ 0 ∷ (x ++ 0 ∷ []) ≡ [] → ⊥
    no_end [] e = cc
    no_end (c ∷ p) e = cc
early_zero [] x (c ∷ o) h e = let z : 0 ≡ c = cc in omega (arith, z, h.0)
early_zero (b ∷ p) x (c ∷ o) h e = let tails : p ++ 0 ∷ (x ++ 0 ∷ []) ≡ o ++ 0 ∷ [] = cc in early_zero p x o h.1 tails

-- the two runs are the only two
pub two_runs : (p o q u : List ℕ) → HasNo00 q → HasNo00 u → p ++ 0 ∷ (o ++ 0 ∷ []) ≡ q ++ 0 ∷ (u ++ 0 ∷ []) → (p ≡ q) × (o ≡ u)
two_runs [] o [] u h k e = (refl, last_same o u cc)
two_runs [] o (c ∷ q) u h k e = let z : 0 ≡ c = cc in absurd (omega (arith, z, h.0))
two_runs (b ∷ p) o [] u h k e = let tails : p ++ 0 ∷ (o ++ 0 ∷ []) ≡ u ++ 0 ∷ [] = cc in absurd (early_zero p o u k tails)
two_runs (b ∷ p) o (c ∷ q) u h k e =
    let heads : b ≡ c = cc in
    let tails : p ++ 0 ∷ (o ++ 0 ∷ []) ≡ q ++ 0 ∷ (u ++ 0 ∷ []) = cc in
    let r = two_runs p o q u h.1 k tails in
    let same = r.0 in (cc, r.1)

-- the parts that a payload holds are its names
pub parts_in : (payload p o : List ℕ) (size : IsRegexSize payload (length payload)) → payload ≡ p ++ 0 ∷ (o ++ 0 ∷ []) → (p ≡ size.pattern) × (o ≡ size.options)
parts_in payload p o size is =
    let long = length-append size.pattern (0 ∷ (size.options ++ 0 ∷ size.rest)) in
    let more = length-append size.options (0 ∷ size.rest) in
    let none : size.rest ≡ [] = nothing size.rest (omega (arith, size.declared, ap length size.parts, long, more)) in
    let whole : size.pattern ++ 0 ∷ (size.options ++ 0 ∷ size.rest) ≡ size.pattern ++ 0 ∷ (size.options ++ 0 ∷ []) = ap (λ (r : List ℕ). size.pattern ++ 0 ∷ (size.options ++ 0 ∷ r)) none in
    two_runs p o size.pattern size.options size.pattern_name.no_zero size.options_name.no_zero (sym is ∙ size.parts ∙ whole)
  where
    nothing : (xs : List ℕ) → length xs ≡ 0 → xs ≡ []
    nothing [] e = refl
    nothing (x ∷ xs) e = absurd (omega arith)

one_regex : (payload p o q u : List ℕ) → IsRegexSize payload (length payload) → payload ≡ p ++ 0 ∷ (o ++ 0 ∷ []) → payload ≡ q ++ 0 ∷ (u ++ 0 ∷ []) → regex p o ≡ regex q u
one_regex payload p o q u size is js =
    let a = parts_in payload p o size is in
    let b = parts_in payload q u size js in
    let i = a.0 ∙ sym b.0 in
    let j = a.1 ∙ sym b.1 in
    cc

pub one_scalar : (p : List ℕ) (s t : Scalar) → scalar_kind s ≡ scalar_kind t → IsPayload (scalar_kind s) p → HoldsScalar p s → HoldsScalar p t → s ≡ t
one_scalar p (double m) (double n) g whole h k = ap double (h ∙ sym k)
one_scalar p (string t) (string u) g whole h k = ap string (h ∙ sym k)
one_scalar p (binary s a) (binary t b) g whole h k = let i = h.0 ∙ sym k.0 in let j = h.1 ∙ sym k.1 in cc
one_scalar p undefined undefined g whole h k = refl
one_scalar p (object_id a) (object_id b) g whole h k = ap object_id (h ∙ sym k)
one_scalar p (boolean a) (boolean b) g whole h k = ap boolean (truth_same a b (sym h ∙ k))
one_scalar p (date_time a) (date_time b) g whole h k = ap date_time (h ∙ sym k)
one_scalar p null null g whole h k = refl
one_scalar p (regex a o) (regex b u) g whole h k = one_regex p a o b u whole h k
one_scalar p (db_pointer t a) (db_pointer u b) g whole h k = let i = h.0 ∙ sym k.0 in let j = h.1 ∙ sym k.1 in cc
one_scalar p (code t) (code u) g whole h k = ap code (h ∙ sym k)
one_scalar p (symbol t) (symbol u) g whole h k = ap symbol (h ∙ sym k)
one_scalar p (int32 a) (int32 b) g whole h k = ap int32 (h ∙ sym k)
one_scalar p (timestamp t i) (timestamp u j) g whole h k = let a = h.0 ∙ sym k.0 in let b = h.1 ∙ sym k.1 in cc
one_scalar p (int64 a) (int64 b) g whole h k = ap int64 (h ∙ sym k)
one_scalar p (decimal a) (decimal b) g whole h k = ap decimal (h ∙ sym k)
one_scalar p max_key max_key g whole h k = refl
one_scalar p min_key min_key g whole h k = refl
one_scalar p _ _ g whole h k = apart _ _ (ap tag_byte g) refl

-- ---- trees

pub not_array : (s : Scalar) → scalar_kind s ≡ kinds.Array → ⊥
not_array (double n) e = apart _ _ (ap tag_byte e) refl
not_array _ e = apart _ _ (ap tag_byte e) refl

pub not_document : (s : Scalar) → scalar_kind s ≡ kinds.EmbeddedDocument → ⊥
not_document (double n) e = apart _ _ (ap tag_byte e) refl
not_document _ e = apart _ _ (ap tag_byte e) refl

not_scoped : (s : Scalar) → scalar_kind s ≡ kinds.JavaScriptCodeWithScope → ⊥
not_scoped (double n) e = apart _ _ (ap tag_byte e) refl
not_scoped _ e = apart _ _ (ap tag_byte e) refl

tag_positive : (k : ElementType) → 0 < tag_byte k
tag_positive kinds.Double = lit< tt
tag_positive _ = lit< tt

-- the last byte begins no frame
pub end_no_frame : (bytes : List ℕ) (e : Element) (rest : List ℕ) → bytes ≡ 0 ∷ [] → IsFirstFrame bytes e rest → ⊥
end_no_frame bytes e rest is h =
    let all : tag_byte e.tag ∷ (e.key ++ 0 ∷ (e.payload ++ rest)) ≡ 0 ∷ [] = sym h.parts ∙ is in
    let z : tag_byte e.tag ≡ 0 = cc in
    omega (arith, z, tag_positive e.tag)

mutual
  pub one_value : (p : List ℕ) (v w : Value) → value_kind v ≡ value_kind w → IsPayload (value_kind v) p → SpellsValue p v → SpellsValue p w → v ≡ w
  one_value p (scalar s) (scalar t) g whole h k = ap scalar (one_scalar p s t g whole h.1 k.1)
  one_value p (scalar s) (array ws) g whole h k = absurd (not_array s g)
  one_value p (scalar s) (document ns) g whole h k = absurd (not_document s g)
  one_value p (scalar s) (scoped_code u ns) g whole h k = absurd (not_scoped s g)
  one_value p (array vs) (array ws) g whole h k = ap array (one_items (drop 4 p) vs ws h k)
  one_value p (array vs) (scalar t) g whole h k = absurd (not_array t (sym g))
  one_value p (document ms) (document ns) g whole h k = ap document (one_list (drop 4 p) ms ns h k)
  one_value p (document ms) (scalar t) g whole h k = absurd (not_document t (sym g))
  one_value p (scoped_code t ms) (scoped_code u ns) g whole h k =
      let text = h.1 ∙ sym k.1 in
      let scope = one_list _ ms ns h.2 k.2 in
      cc
  one_value p (scoped_code t ms) (scalar s) g whole h k = absurd (not_scoped s (sym g))
  one_value p _ _ g whole h k = apart _ _ (ap tag_byte g) refl

  pub one_items : (bytes : List ℕ) (vs ws : Items) → SpellsItems bytes vs → SpellsItems bytes ws → vs ≡ ws
  one_items bytes no_items no_items h k = refl
  one_items bytes no_items (item w ws) h k = absurd (end_no_frame bytes k.0 k.1 h k.2)
  one_items bytes (item v vs) no_items h k = absurd (end_no_frame bytes h.0 h.1 k h.2)
  one_items bytes (item v vs) (item w ws) h k =
      let same = frame_is_one bytes h.0 k.0 h.1 k.1 h.2 k.2 in
      let kind : value_kind v ≡ value_kind w = h.3 ∙ ap (λ (e : Element). e.tag) same.0 ∙ sym k.3 in
      let whole = subst (λ t. IsPayload t h.0.payload) (sym h.3) (payload_by_itself bytes h.0 h.1 h.2) in
      let first = one_value h.0.payload v w kind whole h.4 (subst (λ (e : Element). SpellsValue e.payload w) (sym same.0) k.4) in
      let rest = one_items h.1 vs ws h.5 (subst (λ (r : List ℕ). SpellsItems r ws) (sym same.1) k.5) in
      cc

  pub one_list : (bytes : List ℕ) (ms ns : Members) → SpellsMembers bytes ms → SpellsMembers bytes ns → ms ≡ ns
  one_list bytes no_members no_members h k = refl
  one_list bytes no_members (member l w ns) h k = absurd (end_no_frame bytes k.0 k.1 h k.2)
  one_list bytes (member j v ms) no_members h k = absurd (end_no_frame bytes h.0 h.1 k h.2)
  one_list bytes (member j v ms) (member l w ns) h k =
      let same = frame_is_one bytes h.0 k.0 h.1 k.1 h.2 k.2 in
      let key : j ≡ l = h.3 ∙ ap (λ (e : Element). e.key) same.0 ∙ sym k.3 in
      let kind : value_kind v ≡ value_kind w = h.4 ∙ ap (λ (e : Element). e.tag) same.0 ∙ sym k.4 in
      let whole = subst (λ t. IsPayload t h.0.payload) (sym h.4) (payload_by_itself bytes h.0 h.1 h.2) in
      let first = one_value h.0.payload v w kind whole h.5 (subst (λ (e : Element). SpellsValue e.payload w) (sym same.0) k.5) in
      let rest = one_list h.1 ms ns h.6 (subst (λ (r : List ℕ). SpellsMembers r ns) (sym same.1) k.6) in
      cc

-- bytes mean one tree at most
pub one_meaning : (bytes : List ℕ) (d e : Members) → Means bytes d → Means bytes e → d ≡ e
one_meaning bytes d e m n = m.3 ∙ ap settle (one_list (drop 4 bytes) m.0 n.0 m.2 n.2) ∙ sym n.3

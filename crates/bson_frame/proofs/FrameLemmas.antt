-- Why bytes begin with no frame, and why a first frame is the only one.
use Rattle.std.proofs.Common.{◌≡◌, ◌≢◌, ◌⊎◌, ℕ, ◌-◌, ◌≤◌, List, [], ◌∷◌, ◌++◌, length, take, drop, get_or, refl, sym, ap, ◌∙◌, subst, inl, inr, arith}
use Rattle.std.proofs.lemmas.List.{length-append, take_all}
use Rattle.bson_base.specs.declared.spec.ElementType.{ElementType}
use Rattle.bson_base.specs.declared.spec.ElementType.TheVariants as kinds
use Rattle.bson_base.specs.Tags.{tag_byte}
use Rattle.bson_frame.specs.declared.error.ErrorKind.{ErrorKind}
use Rattle.bson_frame.specs.declared.error.ErrorKind.TheVariants.{MalformedValue, Utf8EncodingError, OutOfMemory}
use Rattle.bson_base.specs.Kinds.{HasNo00}
use Rattle.bson_frame.specs.Frame.{IsCstring, IsRegexSize, HasSize, Element, IsFirstFrame, HasNoFrame, NoTextAfter, HasBadText, IsStructuralFault}
use Rattle.bson_frame.specs.Reader.{NameFault, IsNeverWhole, SizeFault}
use Rattle.bson_frame.proofs.TagLemmas.{tag_from_byte}
use Rattle.bson_frame.proofs.NameLemmas.{no_run, no_name, rest_is_one, name_is_one}

-- ---- no frame

pub nothing : IsStructuralFault [] MalformedValue
nothing = record { no_frame = λ f r h. absurd (let e = h.parts in cc); reason = λ h. h }

-- a slice that is taken apart into its first byte and the others
pub first_and_others : (bytes : List ℕ) → 1 ≤ length bytes → get_or bytes 0 0 ∷ take (length bytes - 1) (drop 1 bytes) ≡ bytes
first_and_others [] h = absurd (omega arith)
first_and_others (b ∷ bytes) h = ap (λ (x : List ℕ). b ∷ x) (take_all (length (b ∷ bytes) - 1) bytes (omega arith))

-- what follows the tag of a first frame
after_tag : (b : ℕ) (after : List ℕ) (f : Element) (r : List ℕ) → IsFirstFrame (b ∷ after) f r → after ≡ f.key ++ 0 ∷ (f.payload ++ r)
after_tag b after f r h = let e = h.parts in cc

tag_is : (b : ℕ) (after : List ℕ) (f : Element) (r : List ℕ) → IsFirstFrame (b ∷ after) f r → b ≡ tag_byte f.tag
tag_is b after f r h = let e = h.parts in cc

no_text_in_place : (b : ℕ) (after : List ℕ) → HasNo00 after → HasBadText (b ∷ after) → ⊥
no_text_in_place b after h (inl (run, rest, parts, no_zero, t)) = no_run after run rest h parts
no_text_in_place b after h (inr (is, inl (name, rest, parts, is_name, t))) = no_run after name rest h parts
no_text_in_place b after h (inr (is, inr (name, rest, parts, is_name, t))) = no_run after name rest h parts

pub no_key : (b : ℕ) (after : List ℕ) (kind : ErrorKind) → NameFault after kind → IsStructuralFault (b ∷ after) kind
no_key b after MalformedValue h = record {
  no_frame = λ f r first. no_run after f.key (f.payload ++ r) h (after_tag b after f r first);
  reason = no_text_in_place b after h;
}
no_key b after Utf8EncodingError t = record {
  no_frame = λ f r first. no_name after f.key (f.payload ++ r) t first.key_name (after_tag b after f r first);
  reason = inl t;
}
no_key b after OutOfMemory h = absurd h

unknown_text : (b : ℕ) (key value : List ℕ) → IsCstring key → ((tag : ElementType) → tag_byte tag ≢ b) → HasBadText (b ∷ (key ++ 0 ∷ value)) → ⊥
unknown_text b key value n h (inl t) = no_name (key ++ 0 ∷ value) key value t n refl
unknown_text b key value n h (inr t) = h kinds.RegularExpression (sym t.0)

pub unknown_tag : (b : ℕ) (after key value : List ℕ) → IsCstring key → after ≡ key ++ 0 ∷ value → ((tag : ElementType) → tag_byte tag ≢ b) → IsStructuralFault (b ∷ after) MalformedValue
unknown_tag b after key value n e h = record {
  no_frame = λ f r first. h f.tag (sym (tag_is b after f r first));
  reason = λ t. unknown_text b key value n h (subst (λ (x : List ℕ). HasBadText (b ∷ x)) e t);
}

-- what a first frame says of a value after a key
module _ (b : ℕ) (after key value : List ℕ) (tag : ElementType) (n : IsCstring key) (e : after ≡ key ++ 0 ∷ value) (t : tag_byte tag ≡ b) where
  same_value : (f : Element) (r : List ℕ) → IsFirstFrame (b ∷ after) f r → value ≡ f.payload ++ r
  same_value f r first = rest_is_one after key f.key value (f.payload ++ r) n first.key_name e (after_tag b after f r first)

  same_tag : (f : Element) (r : List ℕ) → IsFirstFrame (b ∷ after) f r → f.tag ≡ tag
  same_tag f r first = tag_from_byte f.tag tag (sym (tag_is b after f r first) ∙ sym t)

  no_whole : IsNeverWhole (HasSize tag) value → HasNoFrame (b ∷ after)
  no_whole h f r first =
      let v = same_value f r first in
      let sized : HasSize tag value (length f.payload) = subst (λ (x : List ℕ). HasSize tag x (length f.payload)) (sym v) (subst (λ (k : ElementType). HasSize k (f.payload ++ r) (length f.payload)) (same_tag f r first) first.size) in
      h (length f.payload) sized (omega (arith, ap length v, length-append f.payload r))

  text_in_place : HasBadText (b ∷ after) → (tag ≡ kinds.RegularExpression) × (NoTextAfter 0 value ⊎ NoTextAfter 1 value)
  text_in_place (inl s) = absurd (no_name after key value s n e)
  text_in_place (inr (is, inl (name, rest, parts, is_name, f))) = (tag_from_byte tag kinds.RegularExpression (t ∙ is), inl (subst (NoTextAfter 0) (rest_is_one after name key rest value is_name n parts e) f))
  text_in_place (inr (is, inr (name, rest, parts, is_name, f))) = (tag_from_byte tag kinds.RegularExpression (t ∙ is), inr (subst (NoTextAfter 1) (rest_is_one after name key rest value is_name n parts e) f))

  behind_key : NoTextAfter 0 value ⊎ NoTextAfter 1 value → NoTextAfter 1 after ⊎ NoTextAfter 2 after
  behind_key (inl f) = inl (key, value, e, n, f)
  behind_key (inr f) = inr (key, value, e, n, f)

  pub no_size : (kind : ErrorKind) → IsNeverWhole (HasSize tag) value → SizeFault tag value kind → IsStructuralFault (b ∷ after) kind
  no_size MalformedValue h s = record { no_frame = no_whole h; reason = λ x. let p = text_in_place x in s p.0 p.1 }
  no_size Utf8EncodingError h s = record {
    no_frame = no_whole h;
    reason = inr (sym t ∙ ap tag_byte s.0, behind_key s.1);
  }
  no_size OutOfMemory h s = absurd s

-- ---- one frame

pub front_is_one : (a b x y : List ℕ) → length a ≡ length b → a ++ x ≡ b ++ y → (a ≡ b) × (x ≡ y)
front_is_one [] [] x y l e = (refl, e)
front_is_one [] (d ∷ b) x y l e = absurd (omega arith)
front_is_one (c ∷ a) [] x y l e = absurd (omega arith)
front_is_one (c ∷ a) (d ∷ b) x y l e =
    let tails : a ++ x ≡ b ++ y = cc in
    let heads : c ≡ d = cc in
    let r = front_is_one a b x y (omega arith) tails in
    (cc (r.0, heads), r.1)

regex_size_is_one : (bytes : List ℕ) (m n : ℕ) → IsRegexSize bytes m → IsRegexSize bytes n → m ≡ n
regex_size_is_one bytes m n r s =
    let p = name_is_one bytes r.pattern s.pattern (r.options ++ 0 ∷ r.rest) (s.options ++ 0 ∷ s.rest) r.pattern_name s.pattern_name r.parts s.parts in
    let rest = rest_is_one bytes r.pattern s.pattern (r.options ++ 0 ∷ r.rest) (s.options ++ 0 ∷ s.rest) r.pattern_name s.pattern_name r.parts s.parts in
    let o = name_is_one (r.options ++ 0 ∷ r.rest) r.options s.options r.rest s.rest r.options_name s.options_name refl rest in
    omega (arith, r.declared, s.declared, ap length p, ap length o)

-- a kind's payload at the front of bytes has one size
pub size_is_one : (k : ElementType) (bytes : List ℕ) (m n : ℕ) → HasSize k bytes m → HasSize k bytes n → m ≡ n
size_is_one kinds.Double bytes m n h i = omega arith
size_is_one kinds.String bytes m n h i = omega (arith, h.declared, i.declared)
size_is_one kinds.EmbeddedDocument bytes m n h i = omega (arith, h.declared, i.declared)
size_is_one kinds.Array bytes m n h i = omega (arith, h.declared, i.declared)
size_is_one kinds.Binary bytes m n h i = omega (arith, h.declared, i.declared)
size_is_one kinds.Undefined bytes m n h i = omega arith
size_is_one kinds.ObjectId bytes m n h i = omega arith
size_is_one kinds.Boolean bytes m n h i = omega arith
size_is_one kinds.DateTime bytes m n h i = omega arith
size_is_one kinds.Null bytes m n h i = omega arith
size_is_one kinds.RegularExpression bytes m n h i = regex_size_is_one bytes m n h i
size_is_one kinds.DbPointer bytes m n h i = omega (arith, h.room, i.room, h.text.declared, i.text.declared)
size_is_one kinds.JavaScriptCode bytes m n h i = omega (arith, h.declared, i.declared)
size_is_one kinds.Symbol bytes m n h i = omega (arith, h.declared, i.declared)
size_is_one kinds.JavaScriptCodeWithScope bytes m n h i = omega (arith, h.declared, i.declared)
size_is_one kinds.Int32 bytes m n h i = omega arith
size_is_one kinds.Timestamp bytes m n h i = omega arith
size_is_one kinds.Int64 bytes m n h i = omega arith
size_is_one kinds.Decimal128 bytes m n h i = omega arith
size_is_one kinds.MaxKey bytes m n h i = omega arith
size_is_one kinds.MinKey bytes m n h i = omega arith

pub frame_is_one : (bytes : List ℕ) (f g : Element) (r s : List ℕ) → IsFirstFrame bytes f r → IsFirstFrame bytes g s → (f ≡ g) × (r ≡ s)
frame_is_one bytes f g r s p q =
    let both : tag_byte f.tag ∷ (f.key ++ 0 ∷ (f.payload ++ r)) ≡ tag_byte g.tag ∷ (g.key ++ 0 ∷ (g.payload ++ s)) = sym p.parts ∙ q.parts in
    let heads : tag_byte f.tag ≡ tag_byte g.tag = cc in
    let tails : f.key ++ 0 ∷ (f.payload ++ r) ≡ g.key ++ 0 ∷ (g.payload ++ s) = cc in
    let t = tag_from_byte f.tag g.tag heads in
    let keys = name_is_one (f.key ++ 0 ∷ (f.payload ++ r)) f.key g.key (f.payload ++ r) (g.payload ++ s) p.key_name q.key_name refl tails in
    let values = rest_is_one (f.key ++ 0 ∷ (f.payload ++ r)) f.key g.key (f.payload ++ r) (g.payload ++ s) p.key_name q.key_name refl tails in
    let sized : HasSize f.tag (f.payload ++ r) (length g.payload) = subst (λ (k : ElementType). HasSize k (f.payload ++ r) (length g.payload)) (sym t) (subst (λ (x : List ℕ). HasSize g.tag x (length g.payload)) (sym values) q.size) in
    let lengths = size_is_one f.tag (f.payload ++ r) (length f.payload) (length g.payload) p.size sized in
    let ends = front_is_one f.payload g.payload r s lengths values in (
      ap (λ (x : ElementType). record { tag = x; key = f.key; payload = f.payload }) t
          ∙ ap (λ (x : List ℕ). record { tag = g.tag; key = x; payload = f.payload }) keys
          ∙ ap (λ (x : List ℕ). record { tag = g.tag; key = g.key; payload = x }) ends.0,
      ends.1,
    )

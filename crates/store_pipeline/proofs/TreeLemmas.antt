-- What is left of a document comes back from its bytes as the document does, and is no deeper.
use Rattle.std.proofs.Common.{◌≡◌, ◌∙◌, ℕ, ◌≤◌, List, [], ◌∷◌, length, max, Bool, true, false, cond, Option, Some, None, bytes_eq, refl, ap, arith}
use Rattle.std.specs.Prelude.{IsUtf8}
use Rattle.bson_base.specs.Kinds.{HasNo00, IsCleanScalar, IsPlainScalar, IsRangedScalar}
use Rattle.bson_base.specs.Value.{Value, Scalar, scalar, array, document, scoped_code, Items, no_items, item, Members, no_members, member, look_up, levels, items_levels, members_levels, EachPart, EachItem, EachMember, HasDistinctKeys, ItemsHaveDistinctKeys, MembersHaveDistinctKeys}
use Rattle.bson_bytes.proofs.LengthLemmas.{encode_length}
use Rattle.bson_bytes.specs.Encode.{encode}
use Rattle.store_pipeline.specs.Fields.{fields, inside, item_if, items_inside, member_if, named, names_it, rests, unless}
use Rattle.store_model.specs.Filter.{Path}
use Rattle.store_pipeline.specs.Bodies.{IsBody}

-- P holds of what stays
abbrev OfLeft : (Value → Type 0) → Option Value → Type 0
OfLeft P None = Unit {0}
OfLeft P (Some v) = P v

unless_of : (P : Value → Type 0) (kept : Bool) (v : Value) → P v → OfLeft P (unless kept v)
unless_of P true v h = tt
unless_of P false v h = h

chosen : (P : Value → Type 0) (b kept : Bool) (v : Value) (part : Option Value) → P v → OfLeft P part → OfLeft P (cond b (cond kept (Some v) None) part)
chosen P true true v part h p = h
chosen P true false v part h p = tt
chosen P false kept v part h p = p

named_of : (P : Value → Type 0) (kept : Bool) (ps : List Path) (v : Value) (part : Option Value) → P v → OfLeft P part → OfLeft P (named kept ps v part)
named_of P kept [] v part h p = unless_of P kept v h
named_of P kept (q ∷ ps) v part h p = chosen P (names_it (q ∷ ps)) kept v part h p

module _ (kept : Bool) where
  -- ---- what holds of each key and of each scalar

  module _ (K : List ℕ → Type 0) (S : Scalar → Type 0) where
    item_each : (o : Option Value) (vs : Items) → OfLeft (EachPart K S) o → EachItem K S vs → EachItem K S (item_if o vs)
    item_each None vs h hs = hs
    item_each (Some v) vs h hs = (h, hs)

    member_each : (k : List ℕ) (o : Option Value) (ms : Members) → K k → OfLeft (EachPart K S) o → EachMember K S ms → EachMember K S (member_if k o ms)
    member_each k None ms key h hs = hs
    member_each k (Some v) ms key h hs = (key, h, hs)

    mutual
      inside_each : (ps : List Path) (v : Value) → EachPart K S v → OfLeft (EachPart K S) (inside kept ps v)
      inside_each ps (scalar s) h = unless_of (EachPart K S) kept (scalar s) h
      inside_each ps (array vs) h = items_each ps vs h
      inside_each ps (document ms) h = fields_each ps ms h
      inside_each ps (scoped_code t ms) h = unless_of (EachPart K S) kept (scoped_code t ms) h

      items_each : (ps : List Path) (vs : Items) → EachItem K S vs → EachItem K S (items_inside kept ps vs)
      items_each ps no_items h = tt
      items_each ps (item v vs) h = item_each (inside kept ps v) (items_inside kept ps vs) (inside_each ps v h.0) (items_each ps vs h.1)

      fields_each : (ps : List Path) (ms : Members) → EachMember K S ms → EachMember K S (fields kept ps ms)
      fields_each ps no_members h = tt
      fields_each ps (member k v ms) h =
          member_each k (named kept (rests k ps) v (inside kept (rests k ps) v)) (fields kept ps ms) h.0 (named_of (EachPart K S) kept (rests k ps) v (inside kept (rests k ps) v) h.1 (inside_each (rests k ps) v h.1)) (fields_each ps ms h.2)

  -- ---- distinct keys

  passed : (b : Bool) (v : Value) (o : Option Value) → cond b (Some v) o ≡ None → (b ≡ false) × (o ≡ None)
  passed true v o e = absurd cc
  passed false v o e = (refl, e)

  absent_if : (k l : List ℕ) (o : Option Value) (ms : Members) → bytes_eq k l ≡ false → look_up k ms ≡ None → look_up k (member_if l o ms) ≡ None
  absent_if k l None ms other e = e
  absent_if k l (Some v) ms other e = ap (λ b. cond b (Some v) (look_up k ms)) other ∙ e

  absent : (k : List ℕ) (ps : List Path) (ms : Members) → look_up k ms ≡ None → look_up k (fields kept ps ms) ≡ None
  absent k ps no_members e = refl
  absent k ps (member l v ms) e =
      let on = passed (bytes_eq k l) v (look_up k ms) e in
      absent_if k l (named kept (rests l ps) v (inside kept (rests l ps) v)) (fields kept ps ms) on.0 (absent k ps ms on.1)

  item_distinct : (o : Option Value) (vs : Items) → OfLeft HasDistinctKeys o → ItemsHaveDistinctKeys vs → ItemsHaveDistinctKeys (item_if o vs)
  item_distinct None vs h hs = hs
  item_distinct (Some v) vs h hs = (h, hs)

  member_distinct : (k : List ℕ) (o : Option Value) (ms : Members) → look_up k ms ≡ None → OfLeft HasDistinctKeys o → MembersHaveDistinctKeys ms → MembersHaveDistinctKeys (member_if k o ms)
  member_distinct k None ms new h hs = hs
  member_distinct k (Some v) ms new h hs = (new, h, hs)

  mutual
    inside_distinct : (ps : List Path) (v : Value) → HasDistinctKeys v → OfLeft HasDistinctKeys (inside kept ps v)
    inside_distinct ps (scalar s) h = unless_of HasDistinctKeys kept (scalar s) h
    inside_distinct ps (array vs) h = items_distinct ps vs h
    inside_distinct ps (document ms) h = fields_distinct ps ms h
    inside_distinct ps (scoped_code t ms) h = unless_of HasDistinctKeys kept (scoped_code t ms) h

    items_distinct : (ps : List Path) (vs : Items) → ItemsHaveDistinctKeys vs → ItemsHaveDistinctKeys (items_inside kept ps vs)
    items_distinct ps no_items h = tt
    items_distinct ps (item v vs) h = item_distinct (inside kept ps v) (items_inside kept ps vs) (inside_distinct ps v h.0) (items_distinct ps vs h.1)

    fields_distinct : (ps : List Path) (ms : Members) → MembersHaveDistinctKeys ms → MembersHaveDistinctKeys (fields kept ps ms)
    fields_distinct ps no_members h = tt
    fields_distinct ps (member k v ms) h =
        member_distinct k (named kept (rests k ps) v (inside kept (rests k ps) v)) (fields kept ps ms) (absent k ps ms h.0) (named_of HasDistinctKeys kept (rests k ps) v (inside kept (rests k ps) v) h.1 (inside_distinct (rests k ps) v h.1)) (fields_distinct ps ms h.2)

  -- ---- levels

  abbrev IsLower : Value → Value → Type 0
  IsLower v w = levels w ≤ levels v

  item_lower : (v : Value) (o : Option Value) (vs ws : Items) → OfLeft (IsLower v) o → items_levels ws ≤ items_levels vs → items_levels (item_if o ws) ≤ max (levels v) (items_levels vs)
  item_lower v None vs ws h hs = omega (arith, hs)
  item_lower v (Some w) vs ws h hs = omega (arith, h, hs)

  member_lower : (k : List ℕ) (v : Value) (o : Option Value) (ms ns : Members) → OfLeft (IsLower v) o → members_levels ns ≤ members_levels ms → members_levels (member_if k o ns) ≤ max (levels v) (members_levels ms)
  member_lower k v None ms ns h hs = omega (arith, hs)
  member_lower k v (Some w) ms ns h hs = omega (arith, h, hs)

  mutual
    inside_lower : (ps : List Path) (v : Value) → OfLeft (IsLower v) (inside kept ps v)
    inside_lower ps (scalar s) = unless_of (IsLower (scalar s)) kept (scalar s) (omega arith)
    inside_lower ps (array vs) = omega (arith, items_lower ps vs)
    inside_lower ps (document ms) = omega (arith, fields_lower ps ms)
    inside_lower ps (scoped_code t ms) = unless_of (IsLower (scoped_code t ms)) kept (scoped_code t ms) (omega arith)

    items_lower : (ps : List Path) (vs : Items) → items_levels (items_inside kept ps vs) ≤ items_levels vs
    items_lower ps no_items = omega arith
    items_lower ps (item v vs) = item_lower v (inside kept ps v) vs (items_inside kept ps vs) (inside_lower ps v) (items_lower ps vs)

    fields_lower : (ps : List Path) (ms : Members) → members_levels (fields kept ps ms) ≤ members_levels ms
    fields_lower ps no_members = omega arith
    fields_lower ps (member k v ms) =
        member_lower k v (named kept (rests k ps) v (inside kept (rests k ps) v)) ms (fields kept ps ms) (named_of (IsLower v) kept (rests k ps) v (inside kept (rests k ps) v) (omega arith) (inside_lower (rests k ps) v)) (fields_lower ps ms)

-- ---- the body of what is left

pub left_body : (kept : Bool) (ps : List Path) (d : Members) (bytes out : List ℕ) → IsBody bytes d → out ≡ encode (fields kept ps d) → length out ≤ length bytes → IsBody out (fields kept ps d)
left_body kept ps d bytes out b is few = record {
  written = is;
  back = record {
    clean = fields_each kept HasNo00 (λ s. IsPlainScalar s × IsCleanScalar s) ps d b.back.clean;
    sound = record { ranged = fields_each kept IsUtf8 IsRangedScalar ps d b.back.sound.ranged; distinct = fields_distinct kept ps d b.back.sound.distinct };
    short = (let short = b.back.short in omega (arith, short, ap length is, encode_length (fields kept ps d), ap length b.written, encode_length d, few));
  };
  low = (let low = b.low in omega (arith, low, fields_lower kept ps d));
}

-- What is written inside of a document or an array, and the value around it.
use Rattle.std.proofs.Common.{◌≡◌, ◌∙◌, ℕ, suc, ◌+◌, ◌-◌, ◌≤◌, ◌<◌, ◌^◌, ◌⊎◌, inl, inr, List, [], ◌∷◌, ◌++◌, length, max, Bool, true, Option, Some, None, refl, sym, ap, arith, append_assoc, append-nil, length-append, length-drop, length-take, slice_range, drop}
use Rattle.std.specs.Borrow.{Bor}
use Rattle.bson_base.specs.declared.spec.ElementType.{ElementType}
use Rattle.bson_base.specs.declared.spec.ElementType.TheVariants as kinds
use Rattle.bson_base.specs.Tags.{tag_byte}
use Rattle.bson_base.specs.Value.{Value, Scalar, null, scalar, array, document, scoped_code, Items, no_items, item, levels, items_levels, members_levels, scalar_kind, value_kind}
use Rattle.bson_bytes.proofs.LengthLemmas.{ended_length, framed_length, value_length}
use Rattle.bson_bytes.proofs.WrittenLemmas.{room, written_in}
use Rattle.bson_bytes.specs.Encode.{cstring_of, frame_of, items_bytes, le32, members_bytes}
use Rattle.bson_frame.specs.Frame.{Element}
use Rattle.store_pipeline.specs.Fields.{fields, inside, items_inside}
use Rattle.store_pipeline.specs.Views.{Appends, elements_left, Grows, HasElements, HasInside, Lends}
use Rattle.store_question.proofs.MemberLemmas.{array_bytes_pairs, pairs_back}
use Rattle.store_question.proofs.ProjectionLemmas.{framed_now}
use Rattle.store_question.specs.Views.{ComesBack, IsWrittenFor}
use Rattle.store_model.specs.Filter.{under_places, Path}

-- ---- a length in front

pub framed_whole : (old body now : List ℕ) → now ≡ old ++ (le32 (length (body ++ 0 ∷ []) + 4) ++ (body ++ 0 ∷ [])) → now ≡ old ++ frame_of body
framed_whole old body now is = is ∙ ap (λ (x : List ℕ). old ++ x) (framed_now body (le32 (length (body ++ 0 ∷ []) + 4) ++ (body ++ 0 ∷ [])) refl)

pub framed_grown : (old body now : List ℕ) (n : ℕ) → now ≡ old ++ (le32 (length (body ++ 0 ∷ []) + 4) ++ (body ++ 0 ∷ [])) → length body ≤ n → Grows old now (n + 5)
framed_grown old body now n is few = record {
  more = frame_of body;
  is = framed_whole old body now is;
  few = omega (arith, framed_length body, few);
}

pub in_room : (old begun out new body : List ℕ) → begun ≡ old ++ room → out ≡ begun ++ body → new ≡ out ++ 0 ∷ [] → new ≡ old ++ (room ++ (body ++ 0 ∷ []))
in_room old begun out new body start told pushed = written_in old begun out new body start (append-nil out ∙ told) pushed

pub between : (bytes : List ℕ) → 5 ≤ length bytes → length (slice_range bytes 4 (length bytes - 1)) + 5 ≡ length bytes
between bytes some = omega (arith, length-take (length bytes - 1 - 4) (drop 4 bytes), length-drop 4 bytes, some)

-- ---- kinds

no_array : (s : Scalar) → kinds.Array ≡ scalar_kind s → ⊥
no_array null e = absurd cc
no_array _ e = absurd cc

no_document : (s : Scalar) → kinds.EmbeddedDocument ≡ scalar_kind s → ⊥
no_document null e = absurd cc
no_document _ e = absurd cc

pub array_left : (kept : Bool) (ps : List Path) (tag : ElementType) (elements : List ℕ) (v : Value) (n : ℕ) (new now : List ℕ) → tag ≡ kinds.Array → HasElements tag elements v n
    → ((vs : Items) → elements ≡ members_bytes (under_places 0 vs) → HasElements tag elements (array vs) n → now ≡ new ++ items_bytes 0 (items_inside kept ps vs)) → now ≡ new ++ elements_left kept ps v
array_left kept ps tag elements v n new now e h told = by v h (sym e ∙ h.kind)
  where
    by : (v : Value) → HasElements tag elements v n → kinds.Array ≡ value_kind v → now ≡ new ++ elements_left kept ps v
    by (array vs) h k = told vs h.written h
    by (scalar s) h k = absurd (no_array s k)
    by (document ms) h k = absurd cc
    by (scoped_code t ms) h k = absurd cc

-- ---- the bytes inside

places_levels : (i : ℕ) (vs : Items) → members_levels (under_places i vs) ≡ items_levels vs
places_levels i no_items = refl
places_levels i (item v vs) = ap (max (levels v)) (places_levels (suc i) vs)

pub lent_inside : (o : Option (Bor (List ℕ))) (e : Element) (v : Value) → (e.tag ≡ kinds.EmbeddedDocument) ⊎ (e.tag ≡ kinds.Array) → IsWrittenFor e v → ComesBack v
    → ((elements : List ℕ) → e.payload ≡ frame_of elements → length elements + 5 < 2 ^ 31 → Lends o elements) → HasInside o v
lent_inside o e (scalar s) (inl d) w b lends = absurd (no_document s (sym d ∙ w.kind))
lent_inside o e (scalar s) (inr a) w b lends = absurd (no_array s (sym a ∙ w.kind))
lent_inside o e (scoped_code t ms) (inl d) w b lends = let bad = sym d ∙ w.kind in absurd cc
lent_inside o e (scoped_code t ms) (inr a) w b lends = let bad = sym a ∙ w.kind in absurd cc
lent_inside o e (array vs) k w b lends = of o (lends (members_bytes (under_places 0 vs)) (w.payload ∙ array_bytes_pairs vs) (let short = b.short in omega (arith, short, value_length (array vs), ap length (array_bytes_pairs vs), framed_length (members_bytes (under_places 0 vs)))))
  where
    of : (o : Option (Bor (List ℕ))) → Lends o (members_bytes (under_places 0 vs)) → HasInside o (array vs)
    of None h = h
    of (Some x) h = h
lent_inside o e (document ms) k w b lends = of o (lends (members_bytes ms) w.payload (let short = b.short in omega (arith, short, value_length (document ms), framed_length (members_bytes ms))))
  where
    of : (o : Option (Bor (List ℕ))) → Lends o (members_bytes ms) → HasInside o (document ms)
    of None h = h
    of (Some x) h = h

module _ (kept : Bool) (ps : List Path) (n : ℕ) (x : Bor (List ℕ)) (e : Element) (key old front now : List ℕ) (begun : front ≡ old ++ tag_byte e.tag ∷ cstring_of key) where
  framed : (v : Value) (body : List ℕ) → IsWrittenFor e v → now ≡ front ++ frame_of body → now ≡ old ++ (tag_byte (value_kind v) ∷ (cstring_of key ++ frame_of body))
  framed v body w is =
      is ∙ ap (λ (y : List ℕ). y ++ frame_of body) begun ∙ append_assoc old (tag_byte e.tag ∷ cstring_of key) (frame_of body) ∙ ap (λ t. old ++ (tag_byte t ∷ (cstring_of key ++ frame_of body))) w.kind

  pub inside_written : (v : Value) → HasInside (Some x) v → IsWrittenFor e v → ComesBack v → levels v ≤ n → (HasElements e.tag x.now v (n - 1) → now ≡ front ++ frame_of (elements_left kept ps v)) → Appends key (inside kept ps v) true old now
  inside_written (scalar s) h w b low told = absurd h
  inside_written (scoped_code t ms) h w b low told = absurd h
  inside_written (array vs) h w b low told =
      let deep : members_levels (under_places 0 vs) ≤ n - 1 = omega (arith, low, places_levels 0 vs) in
      record { told = refl; is = framed (array vs) (items_bytes 0 (items_inside kept ps vs)) w (told (record { kind = w.kind; written = h; back = pairs_back (array vs) b; low = deep })) }
  inside_written (document ms) h w b low told =
      record { told = refl; is = framed (document ms) (members_bytes (fields kept ps ms)) w (told (record { kind = w.kind; written = h; back = pairs_back (document ms) b; low = omega (arith, low) })) }

pub framed_key : (old front now : List ℕ) (tag : ElementType) (key elements payload : List ℕ) → front ≡ old ++ tag_byte tag ∷ cstring_of key → Grows front now (length elements + 5) → length elements + 5 ≤ length payload → Grows old now (length key + length payload + 2)
framed_key old front now tag key elements payload begun g fits = record {
  more = tag_byte tag ∷ (cstring_of key ++ g.more);
  is = g.is ∙ ap (λ (y : List ℕ). y ++ g.more) begun ∙ append_assoc old (tag_byte tag ∷ cstring_of key) g.more;
  few = omega (arith, length-append (cstring_of key) g.more, ended_length key, g.few, fits);
}

-- The normal form with its keys ascending, as it is written.
use Rattle.std.proofs.Common.{◌≡◌, ℕ, ◌+◌, ◌^◌, ◌<◌, ◌≤◌, List, [], ◌∷◌, ◌++◌, length, map, get_or, drop, Result, OnOk, IfErr, refl, ap, sym, ◌∙◌, subst, arith, append-nil, append_assoc, length-append}
use Rattle.bson_base.specs.Kinds.{IsPlain}
use Rattle.bson_base.specs.Tags.{tag_byte}
use Rattle.bson_base.specs.declared.spec.ElementType.{ElementType}
use Rattle.bson_base.specs.Value.{Value, scalar, array, document, scoped_code, value_kind, Items, item, Members, member, no_members}
use Rattle.bson_bytes.specs.Encode.{encode, cstring_of, le32, members_bytes, value_bytes, value_size}
use Rattle.bson_bytes.specs.Writing.{CanBeWritten, IsWriteRefusal}
use Rattle.bson_bytes.proofs.LengthLemmas.{members_length}
use Rattle.bson_bytes.proofs.WritingLemmas.{MembersTo, ItemsTo}
use Rattle.bson_bytes.proofs.WrittenLemmas.{framed_ok, items_from, long_refused, room, short_ok, written_in}
use Rattle.bson_frame.specs.View.{IsBare}
use Rattle.bson_frame.specs.declared.error.Error.{Error}
use Rattle.bson_frame.specs.declared.error.ErrorKind.TheVariants.{MalformedValue}
use Rattle.bson_model.specs.Keyed.{Key, ascending}
use Rattle.bson_model.specs.View.{view, items_of, members_of}
use Rattle.bson_model.specs.declared.bson.Bson.{Bson}
use Rattle.bson_meaning.specs.Forms.{norm_members_in_order, norm_items_in_order, norm_in_order}
use Rattle.bson_meaning.specs.declared.scalars.Zeros.{Zeros}
use Rattle.bson_meaning.proofs.ComparisonLemmas.{kind_kept}
use Rattle.bson_meaning.proofs.PairwiseLemmas.{each, in_order_ascending}

module _ (zeros : Zeros) where
  pub kind_of_in_order : (v : Value) → value_kind (norm_in_order zeros v) ≡ value_kind v
  kind_of_in_order (scalar s) = kind_kept zeros s
  kind_of_in_order (array vs) = refl
  kind_of_in_order (document ms) = refl
  kind_of_in_order (scoped_code t ms) = refl

  -- nothing is written yet
  pub members_begin : (ps rest : List (Key × Value)) (out : List ℕ) → rest ≡ ascending ps → MembersTo (norm_members_in_order zeros (members_of ps)) (each (norm_in_order zeros) (members_of rest)) out out
  members_begin ps rest out e = subst (λ ms. MembersTo (norm_members_in_order zeros (members_of ps)) ms out out) is start
    where
      is : norm_members_in_order zeros (members_of ps) ≡ each (norm_in_order zeros) (members_of rest)
      is = in_order_ascending zeros ps ∙ ap (λ qs. each (norm_in_order zeros) (members_of qs)) (sym e)

      start : MembersTo (norm_members_in_order zeros (members_of ps)) (norm_members_in_order zeros (members_of ps)) out out
      start = record {
        written = refl;
        forth = λ h. h;
        back = λ h. h;
        smaller = omega arith;
        behind = ([], sym (append-nil out));
      }

  -- the first of the items that are left, taken out
  pub next_item : (whole : Items) (xs : List Bson) (i : ℕ) (b : Bson) (begun out : List ℕ) → i < length xs → b ≡ get_or xs i b → ItemsTo whole i (norm_items_in_order zeros (items_of (map view (drop i xs)))) begun out
      → ItemsTo whole i (item (norm_in_order zeros (view b)) (norm_items_in_order zeros (items_of (map view (drop (i + 1) xs))))) begun out
  next_item whole xs i b begun out h is to = subst (λ vs. ItemsTo whole i vs begun out) (ap (norm_items_in_order zeros) (items_from xs i b h is)) to

-- one element after what was begun
pub one_element : (begun front out k : List ℕ) (v : Value) (kind : ElementType) → kind ≡ value_kind v → front ≡ begun ++ tag_byte kind ∷ cstring_of k → out ≡ front ++ value_bytes v
    → out ++ [] ≡ begun ++ members_bytes (member k v no_members)
one_element begun front out k v kind t f o =
    append-nil out ∙ o ∙ ap (λ (x : List ℕ). x ++ value_bytes v) (f ∙ ap (λ tag. begun ++ tag_byte tag ∷ cstring_of k) t) ∙ append_assoc begun (tag_byte (value_kind v) ∷ cstring_of k) (value_bytes v)
    ∙ ap (λ (x : List ℕ). begun ++ tag_byte (value_kind v) ∷ (cstring_of k ++ x)) (sym (append-nil (value_bytes v)))

-- elements between the room for their length and the final 00, once put_length is done
pub between : (r : Result (Unit {0}) Error) (ms : Members) (old begun out closed new : List ℕ) (start : ℕ) → start ≡ length old → begun ≡ old ++ room → out ++ [] ≡ begun ++ members_bytes ms → closed ≡ out ++ 0 ∷ []
    → IsPlain (document ms)
    → ((before middle after : List ℕ) → closed ≡ before ++ (middle ++ after) → length before ≡ start → length middle ≡ 4 → OnOk r (new ≡ before ++ (le32 (length after + 4) ++ after)))
    → OnOk r (length closed < start + 2 ^ 31) → IfErr r (λ e. IsBare MalformedValue e × (start + 2 ^ 31 ≤ length closed))
    → OnOk r (new ≡ old ++ encode ms) × OnOk r (CanBeWritten (document ms)) × IfErr r (IsWriteRefusal (CanBeWritten (document ms) → ⊥))
between r ms old begun out closed new start at b o c plain ok short refused =
    let body = members_bytes ms in
    let after : List ℕ = body ++ 0 ∷ [] in
    let whole : closed ≡ old ++ (room ++ after) = written_in old begun out closed body b o c in
    let long : value_size (document ms) ≡ length after + 4 = omega (arith, members_length ms, length-append {A = ℕ} body (0 ∷ [])) in
    (framed_ok r old new body (ok old room after whole (sym at) refl), short_ok r (document ms) old closed after start at whole long plain short, long_refused r (document ms) old closed after start at whole long refused)

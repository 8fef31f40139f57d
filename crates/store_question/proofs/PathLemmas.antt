-- Steps along a path.
use Rattle.std.proofs.Common.{◌≡◌, ℕ, ◌+◌, ◌<◌, List, [], ◌∷◌, drop, length, get_or, String, string_bytes, Option, Some, None, sym, ap, ◌∙◌, subst, arith, add-one}
use Rattle.std.specs.Prelude.{option_map, option_and_then, unwrap_or}
use Rattle.std.specs.declared.alloc.Global.{Global}
use Rattle.std.proofs.Math.Seq.{drop-cons}
use Rattle.bson_base.specs.Value.{Value, look_up}
use Rattle.bson_raw.specs.declared.bson_ref.RawBsonRef.{RawBsonRef}
use Rattle.store_question.specs.Filters.{path_of}
use Rattle.store_question.specs.Views.{Encodes, ComesBack, Finds}
use Rattle.store_question.proofs.MemberLemmas.{pairs_back, found_back}
use Rattle.store_model.specs.Filter.{pairs, at, frames, place_among, Path}

-- what is at the path is at the rest of it in the value that the view is of
pub record OnTheWay (whole : Value) (path rest : Path) (raw : RawBsonRef) (met : ℕ) : Type 0 where
  pub value : Value
  pub encodes : Encodes raw value
  pub back : ComesBack value
  pub same : at whole path ≡ at value rest
  pub count : frames whole path ≡ met + frames value rest

-- the key that comes next
pub onward : (whole : Value) (path : List (String Global)) (i : ℕ) (key : String Global) (k : List ℕ) (raw : RawBsonRef) (met : ℕ) → key ≡ get_or path i key → i < length path → k ≡ string_bytes key
    → OnTheWay whole (path_of path) (path_of (drop i path)) raw met → OnTheWay whole (path_of path) (k ∷ path_of (drop (i + 1) path)) raw met
onward whole path i key k raw met e h named way =
    let split : path_of (drop i path) ≡ string_bytes key ∷ path_of (drop (i + 1) path) = ap path_of (drop-cons path i key h) ∙ rw (← e, add-one) in
    subst (λ (r : Path). OnTheWay whole (path_of path) r raw met) (split ∙ ap (λ (x : List ℕ). x ∷ path_of (drop (i + 1) path)) (sym named)) way

module _ (whole : Value) (path : Path) (raw : RawBsonRef) (met : ℕ) (k : List ℕ) (more : Path) (way : OnTheWay whole path (k ∷ more) raw met) (found : Option RawBsonRef) (finds : Finds found (look_up k (pairs way.value))) (n : ℕ) (count : n ≡ place_among k (pairs way.value)) where
  pub stopped : found ≡ None → at whole path ≡ None
  stopped e =
      let none : look_up k (pairs way.value) ≡ None = subst (λ (o : Option RawBsonRef). Finds o (look_up k (pairs way.value))) e finds in
      way.same ∙ ap (λ (o : Option Value). option_and_then (λ w. at w more) o) none

  pub stopped_met : found ≡ None → met + n ≡ frames whole path
  stopped_met e =
      let none : look_up k (pairs way.value) ≡ None = subst (λ (o : Option RawBsonRef). Finds o (look_up k (pairs way.value))) e finds in
      let c : frames whole path ≡ met + (place_among k (pairs way.value) + 0) = way.count ∙ ap (λ (o : Option Value). met + (place_among k (pairs way.value) + unwrap_or (option_map (λ w. frames w more) o) 0)) none in
      omega (arith, c, count)

  pub stepped : (raw_next : RawBsonRef) → found ≡ Some raw_next → OnTheWay whole path more raw_next (met + n)
  stepped raw_next e =
      let there : Finds (Some raw_next) (look_up k (pairs way.value)) = subst (λ (o : Option RawBsonRef). Finds o (look_up k (pairs way.value))) e finds in
      let c : frames whole path ≡ met + (place_among k (pairs way.value) + frames there.0 more) = way.count ∙ ap (λ (o : Option Value). met + (place_among k (pairs way.value) + unwrap_or (option_map (λ w. frames w more) o) 0)) there.1 in
      record {
        value = there.0;
        encodes = there.2;
        back = found_back k (pairs way.value) there.0 (pairs_back way.value way.back) there.1;
        same = way.same ∙ ap (λ (o : Option Value). option_and_then (λ w. at w more) o) there.1;
        count = omega (arith, c, count);
      }

-- at the end of the path
pub arrived : (whole : Value) (path rest : Path) (raw : RawBsonRef) (met : ℕ) → OnTheWay whole path rest raw met → rest ≡ [] → (Finds (Some raw) (at whole path)) × (met ≡ frames whole path)
arrived whole path rest raw met way e =
    let c : frames whole path ≡ met + 0 = way.count ∙ ap (λ (r : Path). met + frames way.value r) e in
    ((way.value, way.same ∙ ap (at way.value) e, way.encodes), omega (arith, c))

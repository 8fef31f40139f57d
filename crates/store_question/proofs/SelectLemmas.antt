-- What a filter asks of a document, and what the code returns.
use Rattle.std.proofs.Common.{◌≡◌, ◌↔◌, ℕ, ◌≤◌, List, map, drop, length, Bool, true, false, IsTrue, Option, Some, None, is_some, refl, sym, ap, ◌∙◌, subst}
use Rattle.std.specs.Prelude.{IsSomeAnd}
use Rattle.std.proofs.lemmas.List.{drop_all}
use Rattle.bson_base.specs.declared.spec.ElementType.{ElementType}
use Rattle.bson_base.specs.Value.{Value, value_kind, HasDistinctKeys}
use Rattle.bson_meaning.specs.Meaning.{Same}
use Rattle.bson_raw.specs.declared.bson_ref.RawBsonRef.{RawBsonRef}
use Rattle.bson_raw.specs.Convert.{SpellsRawValue}
use Rattle.bson_raw.specs.Raw.{raw_kind, ref_value}
use Rattle.store_question.specs.declared.filter.Filter.{Filter}
use Rattle.store_question.specs.Filters.{filter_of, tests_of}
use Rattle.store_question.specs.Views.{ComesBack, Finds}
use Rattle.store_question.proofs.MemberLemmas.{at_back}
use Rattle.store_question.proofs.ViewLemmas.{shows, kind_shown}
use Rattle.store_model.specs.Filter.{at, Filters, no_filters, Path, SelectsAll, SelectsAny}

-- what is asked of the value that was found
pub asked_found : (b : Bool) (P : Value → Type 0) (o : Option Value) (v : Value) → o ≡ Some v → IsTrue b ↔ P v → IsTrue b ↔ IsSomeAnd o P
asked_found b P o v e h = subst (λ (x : Option Value). IsTrue b ↔ IsSomeAnd x P) (sym e) h

pub asked_nothing : (P : Value → Type 0) (o : Option Value) → o ≡ None → IsTrue false ↔ IsSomeAnd o P
asked_nothing P o e = subst (λ (x : Option Value). IsTrue false ↔ IsSomeAnd x P) (sym e) (λ h. absurd cc, λ h. absurd h)

pub means_same : (b : Bool) (raw : RawBsonRef) (d w : Value) (path : Path) → ComesBack d → Finds (Some raw) (at d path) → ((v : Value) → SpellsRawValue (ref_value raw) v → HasDistinctKeys v → IsTrue b ↔ Same v w)
    → IsTrue b ↔ IsSomeAnd (at d path) (λ v. Same v w)
means_same b raw d w path back f told =
    let there = at_back path d f.0 back f.1 in
    asked_found b (λ v. Same v w) (at d path) f.0 f.1 (told f.0 (shows raw f.0 f.2 there) there.sound.distinct)

pub kind_asked : (b : Bool) (raw : RawBsonRef) (d : Value) (path : Path) (k kind : ElementType) → Finds (Some raw) (at d path) → k ≡ raw_kind (ref_value raw) → (IsTrue b ↔ (k ≡ kind)) → IsTrue b ↔ IsSomeAnd (at d path) (λ v. value_kind v ≡ kind)
kind_asked b raw d path k kind f is told =
    let e : k ≡ value_kind f.0 = is ∙ kind_shown raw f.0 f.2 in
    asked_found b (λ v. value_kind v ≡ kind) (at d path) f.0 f.1 (λ t. sym e ∙ told.0 t, λ t. told.1 (e ∙ t))

pub there : (o : Option RawBsonRef) (v : Option Value) → Finds o v → IsTrue (is_some o) ↔ IsSomeAnd v (λ x. Unit {0})
there None v f = asked_nothing (λ x. Unit {0}) v f
there (Some raw) v f = asked_found true (λ x. Unit {0}) v f.0 f.1 (λ t. tt, λ t. refl)

-- ---- turns of the loops over filters

pub none_from : (fs : List Filter) (i : ℕ) → length fs ≤ i → tests_of (map filter_of (drop i fs)) ≡ no_filters
none_from fs i h = ap (λ gs. tests_of (map filter_of gs)) (drop_all i fs h)

pub all_end : (A : Type 0) (d : Value) (left : Filters) → left ≡ no_filters → A ↔ SelectsAll left d → IsTrue true ↔ A
all_end A d left e h = (λ t. h.1 (subst (λ (fs : Filters). SelectsAll fs d) (sym e) tt), λ a. refl)

pub any_end : (A : Type 0) (d : Value) (left : Filters) → left ≡ no_filters → A ↔ SelectsAny left d → IsTrue false ↔ A
any_end A d left e h = (λ t. absurd cc, λ a. absurd (subst (λ (fs : Filters). SelectsAny fs d) e (h.0 a)))

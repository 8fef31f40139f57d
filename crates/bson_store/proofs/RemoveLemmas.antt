-- The indexes but those of a collection on a path.
use Rattle.std.proofs.Common.{◌≡◌, inl, inr, ◌↔◌, ◌∷◌, [], ℕ, ℤ, Bool, true, false, List, length, refl, sym, subst, ◌∙◌, arith}
use Rattle.std.specs.List.{items_where_true}
use Rattle.std.specs.List.Retain.{IsFiltered, ReturnsInTurn}
use Rattle.store_model.specs.Filter.{Path}
use Rattle.bson_store.specs.Find.{FindEach, HasOn, IsOn, MissEach}
use Rattle.bson_store.specs.declared.indexed.index.Index.{Index}

pub record IsWithout (coll : List ℕ) (path : Path) (old new : List Index) : Type 0 where
  pub gone : HasOn new coll path → ⊥
  pub others : (c : List ℕ) (p : Path) → ((c ≡ coll) × (p ≡ path) → ⊥) → HasOn old c p ↔ HasOn new c p
  pub kept : (c : List ℕ) (p : ℤ) (b : List ℕ) → FindEach old c p b → FindEach new c p b
  pub missed : (p : ℤ) (b : List ℕ) → MissEach old p b → MissEach new p b
  pub none : old ≡ [] → new ≡ []

none_left : (coll : List ℕ) (path : Path) → IsWithout coll path [] []
none_left coll path = record { gone = λ h. h; others = λ c p other. (λ h. h, λ h. h); kept = λ c p b h. h; missed = λ p b h. h; none = λ e. e }

-- the first is another, and stays
first_stays : (coll : List ℕ) (path : Path) (ix : Index) (old new : List Index) → (IsOn ix coll path → ⊥) → IsWithout coll path old new → IsWithout coll path (ix ∷ old) (ix ∷ new)
first_stays coll path ix old new other rest = record {
  gone = λ h. elim h [ inl one ↦ other one | inr r ↦ rest.gone r ];
  others = λ c p e. (
    λ h. elim h as (λ _. HasOn (ix ∷ new) c p) [ inl one ↦ inl one | inr r ↦ inr ((rest.others c p e).0 r) ],
    λ h. elim h as (λ _. HasOn (ix ∷ old) c p) [ inl one ↦ inl one | inr r ↦ inr ((rest.others c p e).1 r) ],
  );
  kept = λ c p b h. (h.0, rest.kept c p b h.1);
  missed = λ p b h. (h.0, rest.missed p b h.1);
  none = λ e. absurd (cc);
}

-- the first is on the path, and goes
first_goes : (coll : List ℕ) (path : Path) (ix : Index) (old new : List Index) → IsOn ix coll path → IsWithout coll path old new → IsWithout coll path (ix ∷ old) new
first_goes coll path ix old new on rest = record {
  gone = rest.gone;
  others = λ c p e. (λ h. elim h [ inl one ↦ absurd (e (sym one.0 ∙ on.0, sym one.1 ∙ on.1)) | inr r ↦ (rest.others c p e).0 r ], λ h. inr ((rest.others c p e).1 h));
  kept = λ c p b h. rest.kept c p b h.1;
  missed = λ p b h. rest.missed p b h.1;
  none = λ e. absurd (cc);
}

-- what `retain` keeps
module _ {F : Type 0} (R : F → Index → Bool → F → Type 0) (coll : List ℕ) (path : Path) (f : F) (h : (ix : Index) (b : Bool) (f' : F) → R f ix b f' → ((b ≡ false) ↔ IsOn ix coll path) × (f' ≡ f)) where
  sifted : (bs : List Bool) (xs : List Index) (q : F) → length bs ≡ length xs → ReturnsInTurn R f bs xs q → IsWithout coll path xs (items_where_true bs xs)
  sifted [] [] q e t = none_left coll path
  sifted [] (x ∷ xs) q e t = absurd (omega arith)
  sifted (b ∷ bs) [] q e t = absurd t
  sifted (true ∷ bs) (x ∷ xs) q e t =
      let one = h x true t.0 t.1 in
      first_stays coll path x xs (items_where_true bs xs) (λ on. let same = one.0.1 on in absurd (cc)) (sifted bs xs q (omega arith) (subst (λ (y : F). ReturnsInTurn R y bs xs q) one.1 t.2))
  sifted (false ∷ bs) (x ∷ xs) q e t =
      let one = h x false t.0 t.1 in
      first_goes coll path x xs (items_where_true bs xs) (one.0.0 refl) (sifted bs xs q (omega arith) (subst (λ (y : F). ReturnsInTurn R y bs xs q) one.1 t.2))

  pub retained : (xs ys : List Index) → IsFiltered R f xs ys → IsWithout coll path xs ys
  retained xs ys k = subst (IsWithout coll path xs) (sym k.4) (sifted k.0 xs k.1 k.2 k.3)

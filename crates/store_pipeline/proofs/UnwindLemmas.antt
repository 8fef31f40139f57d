-- Documents that are taken apart, as their trees are.
use Rattle.std.proofs.Common.{◌≡◌, ◌≢◌, ◌⊎◌, inl, inr, ◌∙◌, ℕ, List, [], ◌∷◌, map, Bool, true, not, ◌||◌, Option, Some, None, Result, Ok, Err, refl, sym, ap, ap₂, subst}
use Rattle.bson_base.specs.Value.{Value, array, document, Items, Members}
use Rattle.bson_bytes.proofs.OneTreeLemmas.{one_meaning}
use Rattle.bson_bytes.proofs.SettledLemmas.{comes_back}
use Rattle.bson_bytes.specs.Spells.{Means}
use Rattle.bson_model.specs.Accessors.{as_array}
use Rattle.bson_model.specs.View.{items_of}
use Rattle.store_model.specs.Reading.{Documents}
use Rattle.store_pipeline.specs.Bodies.{IsBody}
use Rattle.store_update.proofs.UpdateLemmas.{values_of}
use Rattle.store_update.specs.Plan.{Path, path_of}
use Rattle.store_update.specs.Update.{found}
use Rattle.store_update.specs.declared.error.UpdateError.{UpdateError}
use Rattle.store_update.specs.declared.error.UpdateError.TheVariants.{Memory}
use Rattle.store_pipeline.specs.Groups.{is_null}
use Rattle.store_pipeline.specs.Unwound.{found_in, if_kept, opened, opened_array, or_same, unwound, with_at}
use Rattle.store_pipeline.specs.declared.stage.Unwinding.{Unwinding}
use Rattle.store_pipeline.proofs.TwiceLemmas.{put_there_twice}

-- a body means its document
pub meant : (bytes : List ℕ) (d e : Members) → IsBody bytes d → Means bytes e → e ≡ d
meant bytes d e b m = one_meaning bytes e d m (subst (λ (x : List ℕ). Means x d) (sym b.written) (comes_back d b.back.clean b.back.sound b.back.short))

-- ---- a change

pub changed_to : (r : Result Members UpdateError) (d e : Members) → r ≡ Ok e → e ≡ or_same d r
changed_to r d e is = rw is refl

pub not_changed : (r : Result Members UpdateError) (d e : Members) (x : UpdateError) → (r ≡ Err x) ⊎ (x ≡ Memory) → x ≢ Memory → e ≡ d → e ≡ or_same d r
not_changed r d e x (inl is) other same = rw is same
not_changed r d e x (inr is) other same = absurd (other is)

-- ---- at the path

same_each : {A B : Type 0} (f g : A → B) → ((x : A) → f x ≡ g x) → (xs : List A) → map f xs ≡ map g xs
same_each f g each [] = refl
same_each f g each (x ∷ xs) = ap₂ (λ y ys. y ∷ ys) (each x) (same_each f g each xs)

module _ (keeps : Bool) (p : Path) (d : Members) where
  -- what holds of the documents for the items holds of all
  pub array_opened : (Q : Documents → Type 0) (v : Value) (vs : Items) → Some vs ≡ as_array v → (found p (Some (document d)) ≡ Ok (Some (array vs)) → Q (opened_array keeps p d vs)) → found p (Some (document d)) ≡ Ok (Some v) → Q (opened keeps p d (Some v))
  array_opened Q (array ws) vs is h there = let same : vs ≡ ws = cc in subst (λ us. Q (opened_array keeps p d us)) same (h (there ∙ ap (λ us. Ok (Some (array us))) (sym same)))
  array_opened Q v vs is h there = absurd cc

  pub none_opened : (base : Members) (vs : List Value) → base ≡ with_at p d None → vs ≡ [] → if_kept keeps base ≡ opened_array keeps p d (items_of vs)
  none_opened base vs is none = ap (if_kept keeps) is ∙ ap (λ us. opened_array keeps p d (items_of us)) (sym none)

  pub else_opened : (v : Value) → None ≡ as_array v → opened keeps p d (Some v) ≡ if_kept (not (is_null v) || keeps) d
  else_opened (array ws) is = absurd cc
  else_opened v is = refl

  -- each item in the place of a value that was put in the array's place
  pub full_opened : (u n : Value) (base : Members) (vs : List Value) → found p (Some (document d)) ≡ Ok (Some u) → base ≡ with_at p d (Some n) → vs ≢ [] → map (λ w. with_at p base (Some w)) vs ≡ opened_array keeps p d (items_of vs)
  full_opened u n base [] there is some = absurd (some refl)
  full_opened u n base (v ∷ vs) there is some =
      same_each (λ w. with_at p base (Some w)) (λ w. with_at p d (Some w)) (λ w. ap (λ m. with_at p m (Some w)) is ∙ put_there_twice n w u p d there) (v ∷ vs) ∙ sym (ap (map (λ w. with_at p d (Some w))) (values_of (v ∷ vs)))

pub found_there : (r : Result (Option Value) UpdateError) (v : Value) → Some v ≡ found_in r → r ≡ Ok (Some v)
found_there (Ok o) v is = ap (λ (x : Option Value). Ok x) (sym is)
found_there (Err e) v is = absurd cc

-- the document at the path itself
pub at_once : (keeps : Bool) (p : Path) (d : Members) → p ≡ [] → if_kept true d ≡ opened keeps p d (found_in (found p (Some (document d))))
at_once keeps p d is = rw is refl

pub taken_at : (u : Unwinding) (d : Members) (o : Option Value) → o ≡ found_in (found (path_of u.path.items) (Some (document d))) → opened u.keeps (path_of u.path.items) d o ≡ unwound u d
taken_at u d o there = ap (opened u.keeps (path_of u.path.items) d) there

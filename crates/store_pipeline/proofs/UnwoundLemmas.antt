-- What a document is taken apart into comes back from its bytes, as the document does.
use Rattle.std.proofs.Common.{◌≡◌, [], ◌∷◌, Bool, true, false, not, ◌||◌, Option, Some, None, Result, Ok, Err, refl, subst}
use Rattle.std.specs.Prelude.{IfSome}
use Rattle.bson_base.specs.Value.{Value, array, document, Items, no_items, item, Members, look_up}
use Rattle.store_update.specs.Arrays.{values}
use Rattle.store_update.specs.Number.{onward}
use Rattle.store_update.specs.Plan.{Path, path_of}
use Rattle.store_update.specs.Update.{altered, found, inside, settled, settled_inside}
use Rattle.store_update.specs.declared.error.UpdateError.{UpdateError}
use Rattle.store_pipeline.specs.Faithful.{AreFaithful, IsFaithful}
use Rattle.store_pipeline.specs.Groups.{is_null}
use Rattle.store_pipeline.specs.Unwound.{found_in, if_kept, opened, opened_array, or_same, unwound, with_at}
use Rattle.store_pipeline.specs.declared.stage.Unwinding.{Unwinding}
use Rattle.store_pipeline.proofs.EachLemmas.{all_mapped}
use Rattle.store_pipeline.proofs.FaithfulLemmas.{items_faithful, put_in, taken_out, under}

-- ---- the value at the path

none_there : (ks : Path) (v : Value) → found ks None ≡ Ok (Some v) → ⊥
none_there [] v e = cc
none_there (k ∷ ks) v e = cc

value_faithful : (p : Path) (u v : Value) → found p (Some u) ≡ Ok (Some v) → IsFaithful u → IsFaithful v
value_faithful [] u v e f = let same : u ≡ v = cc in subst IsFaithful same f
value_faithful (k ∷ ks) (document ms) v e f = by (value_faithful ks) (look_up k ms) refl e
  where
    by : ((u v : Value) → found ks (Some u) ≡ Ok (Some v) → IsFaithful u → IsFaithful v) → (o : Option Value) → look_up k ms ≡ o → found ks o ≡ Ok (Some v) → IsFaithful v
    by more None at e = absurd (none_there ks v e)
    by more (Some w) at e = more w v e (under k ms w at f)
value_faithful (k ∷ ks) u v e f = absurd cc

-- the document with another value there, or with none
changed_faithful : (o : Option Value) → IfSome o IsFaithful → (p : Path) (d : Members) (v : Value) → found p (Some (document d)) ≡ Ok (Some v) → IsFaithful (document d) → IsFaithful (document (with_at p d o))
changed_faithful o new [] d v e f = f
changed_faithful o new (k ∷ []) d v e f = by o new
  where
    by : (o : Option Value) → IfSome o IsFaithful → IsFaithful (document (settled k o d))
    by (Some w) g = let at : look_up k d ≡ Some v = cc in put_in k v w d at g f
    by None g = taken_out k d f
changed_faithful o new (k ∷ l ∷ ks) d v e f = by (changed_faithful o new (l ∷ ks)) (look_up k d) refl e
  where
    on : (m : Members) (r : Result Members UpdateError) → look_up k d ≡ Some (document m) → IsFaithful (document (or_same m r))
        → IsFaithful (document (or_same d (onward r (λ x. Ok (settled_inside k (Some (document m)) x d)))))
    on m (Ok x) at h = put_in k (document m) (document x) d at h f
    on m (Err x) at h = f

    by : ((m : Members) (w : Value) → found (l ∷ ks) (Some (document m)) ≡ Ok (Some w) → IsFaithful (document m) → IsFaithful (document (with_at (l ∷ ks) m o))) → (x : Option Value) → look_up k d ≡ x → found (l ∷ ks) x ≡ Ok (Some v)
        → IsFaithful (document (or_same d (onward (inside x) (λ m. onward (altered (λ old. Ok o) (l ∷ ks) m) (λ y. Ok (settled_inside k x y d))))))
    by more None at e = absurd (none_there (l ∷ ks) v e)
    by more (Some (document m)) at e = on m (altered (λ old. Ok o) (l ∷ ks) m) at (more m v e (under k d (document m) at f))
    by more (Some w) at e = absurd cc

-- ---- the documents

kept_faithful : (keeps : Bool) (d : Members) → IsFaithful (document d) → AreFaithful (if_kept keeps d)
kept_faithful true d f = (f, tt)
kept_faithful false d f = tt

module _ (keeps : Bool) (p : Path) (d : Members) (f : IsFaithful (document d)) where
  array_faithful : (vs : Items) → found p (Some (document d)) ≡ Ok (Some (array vs)) → AreFaithful (opened_array keeps p d vs)
  array_faithful no_items is = kept_faithful keeps (with_at p d None) (changed_faithful None tt p d (array no_items) is f)
  array_faithful (item v vs) is =
      let a = value_faithful p (document d) (array (item v vs)) is f in
      all_mapped IsFaithful (λ e. IsFaithful (document e)) (λ w. with_at p d (Some w)) (values (item v vs)) (λ w g. changed_faithful (Some w) g p d (array (item v vs)) is f)
      (items_faithful (item v vs) a.sound.ranged a.sound.distinct a.settled)

  opened_faithful : (r : Result (Option Value) UpdateError) → found p (Some (document d)) ≡ r → AreFaithful (opened keeps p d (found_in r))
  opened_faithful (Err e) is = kept_faithful keeps d f
  opened_faithful (Ok None) is = kept_faithful keeps d f
  opened_faithful (Ok (Some (array vs))) is = array_faithful vs is
  opened_faithful (Ok (Some v)) is = kept_faithful (not (is_null v) || keeps) d f

pub unwound_faithful : (u : Unwinding) (d : Members) → IsFaithful (document d) → AreFaithful (unwound u d)
unwound_faithful u d f = opened_faithful u.keeps (path_of u.path.items) d f (found (path_of u.path.items) (Some (document d))) refl

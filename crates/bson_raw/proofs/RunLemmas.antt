-- Whole runs of the iterators.
use Rattle.std.proofs.Common.{◌≡◌, ℕ, suc, ◌+◌, ◌/◌, ◌≤◌, List, [], ◌∷◌, length, Option, Some, None, Result, Ok, Err, refl, sym, ap, ◌∙◌, subst, arith}
use Rattle.std.specs.Iterator.{Yields}
use Rattle.std.specs.List.{AllZip}
use Rattle.bson_frame.specs.declared.error.ErrorKind.{ErrorKind}
use Rattle.bson_frame.specs.declared.error.Error.{Error}
use Rattle.bson_frame.specs.Frame.{Element}
use Rattle.bson_raw.specs.declared.element.RawElement.{RawElement}
use Rattle.bson_raw.specs.declared.bson_ref.RawBsonRef.{RawBsonRef}
use Rattle.bson_raw.specs.declared.raw_iter.RawIter.{RawIter}
use Rattle.bson_raw.specs.View.{parts_of, left_of}
use Rattle.bson_raw.specs.ReadValue.{ReadsElement}
use Rattle.bson_raw.specs.Walk.{IsWalk, walk_items, IsItem, IsNext, steps_from, raw_steps, items_left}
use Rattle.bson_raw.specs.Read.{IsItemRead, ReadsNext}
use Rattle.bson_raw.proofs.WalkLemmas.{frame_len}

-- each item leaves fewer to come
fewer : (s t : Option (List ℕ)) (x : Result RawElement Error) → steps_from s (Some x) t → suc (items_left t) ≤ items_left s
fewer None t x h = let bad = h.0 in absurd cc
fewer (Some bytes) t (Ok e) h =
    let left : items_left t ≡ length e.frame.rest.now / 2 + 1 = ap items_left h.1 in
    omega (arith, left, frame_len bytes (parts_of e) e.frame.rest.now h.0)
fewer (Some bytes) t (Err e) h =
    let left : items_left t ≡ 0 = ap items_left h.3 in
    omega (arith, left)

-- the walk that a run followed, and how its items correspond to those that came
abbrev pub Walked : {T : Type 0} → (Result Element ErrorKind → T → Type 0) → List ℕ → List T → Type 0
Walked R bytes items = (elements : List Element) × (fault : Option ErrorKind) × IsWalk bytes elements fault × AllZip R (walk_items elements fault) items

-- an iterator whose calls take one step of the walk each
module _ {S T : Type 0} (steps : S → Option T → S → Type 0) (left : S → Option (List ℕ)) (R : Result Element ErrorKind → T → Type 0)
    (reads : (s : S) (item : Option T) (t : S) → steps s item t → (raw : Option (Result RawElement Error)) × steps_from (left s) raw (left t) × ReadsNext R raw item) where
  count_step : (s t : Option (List ℕ)) (raw : Option (Result RawElement Error)) (x : T) → steps_from s raw t → ReadsNext R raw (Some x) → suc (items_left t) ≤ items_left s
  count_step s t None x h r = absurd r
  count_step s t (Some z) x h r = fewer s t z h

  pub run_ends : (items : List T) (s t : S) → Yields steps s items t → length items ≤ items_left (left s)
  run_ends [] s t y = omega arith
  run_ends (x ∷ items) s t y =
      let step = reads s (Some x) y.0 y.1 in
      omega (arith, run_ends items y.0 t y.2, count_step (left s) (left y.0) step.0 x step.1 step.2)

  first_step : (bytes : List ℕ) (x : T) (items : List T) (raw : Option (Result RawElement Error)) (after : Option (List ℕ)) → IsNext bytes raw after → ReadsNext R raw (Some x)
      → ((rest : List ℕ) → after ≡ Some rest → Walked R rest items) → (after ≡ None → items ≡ []) → Walked R bytes (x ∷ items)
  first_step bytes x items None after n r others ends = absurd r
  first_step bytes x items (Some (Ok e)) after n r others ends =
      let w = others e.frame.rest.now n.1 in
      (parts_of e ∷ w.0, w.1, (e.frame.rest.now, n.0, w.2), (r, w.3))
  first_step bytes x items (Some (Err e)) after n r others ends =
      ([], Some e.kind, (n.0, n.1), subst (λ (xs : List T). AllZip R (Err e.kind ∷ []) (x ∷ xs)) (sym (ends n.3)) (r, tt))

  last_step : (bytes : List ℕ) (raw : Option (Result RawElement Error)) (after : Option (List ℕ)) → IsNext bytes raw after → ReadsNext R raw None → bytes ≡ 0 ∷ []
  last_step bytes None after n r = n.0
  last_step bytes (Some x) after n r = absurd r

  -- after the end nothing comes
  none_after : (items : List T) (s t : S) → left s ≡ None → Yields steps s items t → items ≡ []
  none_after [] s t e y = refl
  none_after (x ∷ items) s t e y =
      let bound = run_ends (x ∷ items) s t y in
      let none : items_left (left s) ≡ 0 = ap items_left e in
      absurd (omega (arith, bound, none))

  pub run_walks : (items : List T) (bytes : List ℕ) (s t u : S) → left s ≡ Some bytes → Yields steps s items t → steps t None u → Walked R bytes items
  run_walks [] bytes s t u e y h =
      let stop = reads t None u h in
      let at_t : left t ≡ Some bytes = ap left (sym y) ∙ e in
      ([], None, last_step bytes stop.0 (left u) (subst (λ (x : Option (List ℕ)). steps_from x stop.0 (left u)) at_t stop.1) stop.2, tt)
  run_walks (x ∷ items) bytes s t u e y h =
      let step = reads s (Some x) y.0 y.1 in
      first_step bytes x items step.0 (left y.0) (subst (λ (z : Option (List ℕ)). steps_from z step.0 (left y.0)) e step.1) step.2
      (λ rest after. run_walks items rest y.0 t u after y.2 h)
      (λ after. none_after items y.0 t after y.2)

-- the iterator over elements gives each item as it is
reads_itself : (s t : Option (List ℕ)) (item : Option (Result RawElement Error)) → steps_from s item t → ReadsNext IsItem item item
reads_itself None t item h = subst (λ (x : Option (Result RawElement Error)). ReadsNext IsItem x x) (sym h.0) tt
reads_itself (Some bytes) t None h = tt
reads_itself (Some bytes) t (Some (Ok e)) h = refl
reads_itself (Some bytes) t (Some (Err e)) h = (refl, h.2)

pub raw_reads : (s : RawIter) (item : Option (Result RawElement Error)) (t : RawIter) → raw_steps s item t → (raw : Option (Result RawElement Error)) × steps_from (left_of s) raw (left_of t) × ReadsNext IsItem raw item
raw_reads s item t h = (item, h, reads_itself (left_of s) (left_of t) item h)

-- an element that came, read
pub element_read : (s t : Option (List ℕ)) (e : RawElement) (result : Result RawBsonRef Error) → steps_from s (Some (Ok e)) t → ReadsElement (parts_of e) result → IsItemRead (Ok (parts_of e)) result
element_read None t e result h a = let bad = h.0 in absurd cc
element_read (Some bytes) t e (Ok v) h a = a
element_read (Some bytes) t e (Err x) h a = a

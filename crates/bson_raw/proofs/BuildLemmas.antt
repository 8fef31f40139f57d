-- Buffers that are built of several values.
use Rattle.std.proofs.Common.{◌≡◌, ℕ, List, [], ◌∷◌, inl, inr, refl, sym, subst}
use Rattle.bson_bytes.specs.Writing.{IsWriteRefusal, RefusesWriting}
use Rattle.bson_frame.specs.declared.error.Error.{Error}
use Rattle.bson_frame.specs.declared.error.ErrorKind.{ErrorKind}
use Rattle.bson_frame.specs.declared.error.ErrorKind.TheVariants.{OutOfMemory}
use Rattle.bson_frame.specs.View.{IsBare}
use Rattle.bson_raw.specs.Append.{element_for, with_element, CanTake, AllTaken, StopsAt, empty_bytes}
use Rattle.bson_raw.specs.Raw.{RawValue}

-- what comes of the pairs that are left comes of all
pub record OnTheWay (all left : List (List ℕ × RawValue)) (bytes : List ℕ) : Type 0 where
  pub taken : (new : List ℕ) → AllTaken bytes left new → AllTaken empty_bytes all new
  pub stopped : (e : Error) → StopsAt bytes left e → StopsAt empty_bytes all e

pub begins : (all : List (List ℕ × RawValue)) (bytes : List ℕ) → bytes ≡ empty_bytes → OnTheWay all all bytes
begins all bytes e = record {
  taken = λ new h. subst (λ (x : List ℕ). AllTaken x all new) e h;
  stopped = λ f h. subst (λ (x : List ℕ). StopsAt x all f) e h;
}

pub goes_on : (all : List (List ℕ × RawValue)) (p : List ℕ × RawValue) (left : List (List ℕ × RawValue)) (bytes new : List ℕ) → OnTheWay all (p ∷ left) bytes
    → CanTake bytes p.0 p.1 × (new ≡ with_element bytes (element_for p.0 p.1)) → OnTheWay all left new
goes_on all p left bytes new way h = record {
  taken = λ end t. way.taken end (h.0, subst (λ (x : List ℕ). AllTaken x left end) h.1 t);
  stopped = λ e t. way.stopped e (inr (h.0, subst (λ (x : List ℕ). StopsAt x left e) h.1 t));
}

pub stops : (all : List (List ℕ × RawValue)) (p : List ℕ × RawValue) (left : List (List ℕ × RawValue)) (bytes : List ℕ) (e : Error) → OnTheWay all (p ∷ left) bytes
    → IsWriteRefusal (CanTake bytes p.0 p.1 → ⊥) e → StopsAt empty_bytes all e
stops all p left bytes e way h = way.stopped e (inl h)

pub ends : (all left : List (List ℕ × RawValue)) (bytes : List ℕ) → OnTheWay all left bytes → left ≡ [] → AllTaken empty_bytes all bytes
ends all left bytes way e = way.taken bytes (subst (λ (x : List (List ℕ × RawValue)). AllTaken bytes x bytes) (sym e) refl)

want_for : (P : Type 0) (k : ErrorKind) → k ≡ OutOfMemory → RefusesWriting P k
want_for P k e = subst (λ (x : ErrorKind). RefusesWriting P x) (sym e) tt

pub no_memory : (bytes : List ℕ) (all : List (List ℕ × RawValue)) (e : Error) → IsBare OutOfMemory e → StopsAt bytes all e
no_memory bytes [] e b = b
no_memory bytes (p ∷ pairs) e b = inl (want_for (CanTake bytes p.0 p.1 → ⊥) e.kind b.0, b.1)

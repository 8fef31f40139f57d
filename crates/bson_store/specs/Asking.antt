-- What a question reads of a collection.
use Rattle.std.specs.Prelude.{◌≡◌, ◌≢◌, ◌++◌, ◌∷◌, [], ℕ, ℤ, Bool, true, List, map, filter, find, Result, IsTrue, IfOk, IfErr}
use Rattle.std.specs.List.{AllByRecursion}
use Rattle.bson_base.specs.Value.{Members}
use Rattle.bson_bytes.specs.Encode.{encode}
use Rattle.store_model.specs.State.{IsKept}
use Rattle.store_table.specs.Moves.{body_if_in}
use Rattle.store_table.specs.Rows.{TableRow, is_at, is_in}
use Rattle.store_table.specs.declared.fault.Fault.{Fault}
use Rattle.store_table.specs.declared.fault.Fault.TheVariants.{Places}

-- the test passes each row of whose document P holds
abbrev pub Spares : (TableRow → Bool) → (Members → Type 0) → List TableRow → Type 0
Spares test P = AllByRecursion (λ (d : TableRow). (m : Members) → IsKept m → d.body ≡ encode m → P m → test d ≡ true)

-- the bodies of the rows of a collection that pass a test, in order of place
abbrev pub bodies_by : (TableRow → Bool) → List ℕ → List TableRow → List (List ℕ)
bodies_by test coll docs = map (λ (d : TableRow). d.body) (filter test (filter (is_in coll) docs))

-- bodies of a collection were taken in order, and none passed over of whose document P holds: all of them, or a beginning
pub record TookAsked {V : Type 0} (took : V → List (List ℕ) → Type 0) (last : V) (coll : List ℕ) (P : Members → Type 0) (docs : List TableRow) (all : Bool) : Type 0 where
  pub test : TableRow → Bool
  pub spares : Spares test P (filter (is_in coll) docs)
  pub taken : List (List ℕ)
  pub rest : List (List ℕ)
  pub split : taken ++ rest ≡ bodies_by test coll docs
  pub whole : IsTrue all → rest ≡ []
  pub given : took last taken

-- a visitor has taken the bodies of a collection of whose documents P may hold
pub record VisitsAsked {V : Type 0} (took : V → List (List ℕ) → Type 0) (first last : V) (coll : List ℕ) (P : Members → Type 0) (result : Result Bool Fault) (docs after : List TableRow) : Type 0 where
  pub same : after ≡ docs
  pub taken : took first [] → IfOk result (TookAsked took last coll P docs)
  pub faults : IfErr result (λ e. e ≢ Places)

-- ---- at some places

-- the bodies of the rows of a collection at some places, in the order of these
abbrev pub bodies_at : List ℕ → List ℤ → List TableRow → List (List ℕ)
bodies_at coll [] docs = []
bodies_at coll (p ∷ places) docs = body_if_in coll (find (is_at p) docs) ++ bodies_at coll places docs

pub record TookPlaces {V : Type 0} (took : V → List (List ℕ) → Type 0) (last : V) (coll : List ℕ) (places : List ℤ) (docs : List TableRow) (all : Bool) : Type 0 where
  pub taken : List (List ℕ)
  pub rest : List (List ℕ)
  pub split : taken ++ rest ≡ bodies_at coll places docs
  pub whole : IsTrue all → rest ≡ []
  pub given : took last taken

pub record VisitsPlaces {V : Type 0} (took : V → List (List ℕ) → Type 0) (first last : V) (coll : List ℕ) (places : List ℤ) (result : Result Bool Fault) (docs after : List TableRow) : Type 0 where
  pub same : after ≡ docs
  pub taken : took first [] → IfOk result (TookPlaces took last coll places docs)
  pub faults : IfErr result (λ e. e ≢ Places)

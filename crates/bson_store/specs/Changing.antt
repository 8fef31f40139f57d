-- What changes do to the rows and the indexes.
use Rattle.std.specs.Prelude.{◌≡◌, ◌≢◌, ℕ, ℤ, List, [], ◌∷◌, find, Option, option_map, Result, IfOk, IfErr, OnOk, OnErr, Vec}
use Rattle.std.specs.declared.alloc.Global.{Global}
use Rattle.std.specs.List.{AllByRecursion}
use Rattle.bson_store.specs.Find.{Misses}
use Rattle.bson_store.specs.declared.indexed.indexes.Indexes.{Indexes}
use Rattle.store_table.specs.Rows.{TableRow, is_at, with_body_at}
use Rattle.store_table.specs.declared.change.Change.{Change}
use Rattle.store_table.specs.declared.change.Change.TheVariants.{Add, Rewrite, Remove}
use Rattle.store_table.specs.declared.fault.Fault.{Fault}
use Rattle.store_table.specs.declared.fault.Fault.TheVariants.{Places}

-- the row at a place gets another body, and its collection is found; or the call is refused
pub record Rewrites (place : ℤ) (body : List ℕ) (result : Result (Option (Vec ℕ Global)) Fault) (docs after : List TableRow) : Type 0 where
  pub done : OnOk result (after ≡ with_body_at place body docs)
  pub found : IfOk result (λ c. option_map (λ (v : Vec ℕ Global). v.items) c ≡ option_map (λ (d : TableRow). d.coll) (find (is_at place) docs))
  pub refused : OnErr result (after ≡ docs)
  pub faults : IfErr result (λ e. e ≢ Places)

-- ---- lists of changes

abbrev pub place_of : Change → ℤ
place_of (Add place coll idkey body) = place
place_of (Rewrite place old body) = place
place_of (Remove place old) = place

-- a change gives a body to the row at this place
abbrev pub GivesBody : ℤ → Change → Type 0
GivesBody p (Add place coll idkey body) = place ≡ p
GivesBody p (Rewrite place old body) = place ≡ p
GivesBody p (Remove place old) = ⊥

-- none of the changes does
abbrev pub NoneGives : ℤ → List Change → Type 0
NoneGives p = AllByRecursion (λ (c : Change). GivesBody p c → ⊥)

-- no index has the place of a row that a change removes under a mark of its body
abbrev pub Forgets : Change → Indexes → Type 0
Forgets (Add place coll idkey body) ixs = Unit {0}
Forgets (Rewrite place old body) ixs = Unit {0}
Forgets (Remove place old) ixs = Misses ixs place old.items

-- so with each row that the changes remove, unless a later one gives a body to a row at its place
abbrev pub ForgetsRemoved : List Change → Indexes → Type 0
ForgetsRemoved [] ixs = Unit {0}
ForgetsRemoved (c ∷ cs) ixs = (NoneGives (place_of c) cs → Forgets c ixs) × ForgetsRemoved cs ixs

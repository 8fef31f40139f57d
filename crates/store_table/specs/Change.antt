-- Lists of changes of the rows, one change after the other.
use Rattle.std.specs.Prelude.{◌≡◌, ◌≢◌, ◌++◌, ◌∷◌, [], List, ℤ, Result, IfOk, IfErr, OnOk, string_bytes}
use Rattle.store_table.specs.Rows.{TableRow, IsRising, without_place, with_body_at, last_place}
use Rattle.store_table.specs.declared.change.Change.{Change}
use Rattle.store_table.specs.declared.change.Change.TheVariants.{Add, Rewrite, Remove}
use Rattle.store_table.specs.declared.fault.Fault.{Fault}
use Rattle.store_table.specs.declared.fault.Fault.TheVariants.{Places}

abbrev pub with_change : Change → List TableRow → List TableRow
with_change (Add place coll idkey body) docs = docs ++ record { place = place; coll = string_bytes coll; idkey = idkey.items; body = body.items } ∷ []
with_change (Rewrite place old body) docs = with_body_at place body.items docs
with_change (Remove place old) docs = without_place place docs

-- the first change first
abbrev pub with_changes : List Change → List TableRow → List TableRow
with_changes [] docs = docs
with_changes (c ∷ cs) docs = with_changes cs (with_change c docs)

-- the greatest place is found, or 0; the rows are in order of place
pub record FindsLast (result : Result ℤ Fault) (docs after : List TableRow) : Type 0 where
  pub same : after ≡ docs
  pub place : IfOk result (λ p. p ≡ last_place docs)
  pub rising : OnOk result (IsRising docs)
  pub faults : IfErr result (λ e. e ≢ Places)

-- A read of the table and then a change of its rows.
use Rattle.std.proofs.Common.{◌≡◌, ℕ, ℤ, List, Option, Ok, Err, Vec, Global, ap, subst, ◌∙◌, arith}
use Rattle.sqlite.specs.State.{State, HasCleanDisk, Survives}
use Rattle.sqlite.specs.Tree.{Trees}
use Rattle.sqlite.proofs.StateLemmas.{survives_then}
use Rattle.store_table.specs.Moves.{Moves, WasOpen, MayLeave, Settles, Changes, FindsCollection}
use Rattle.store_table.specs.Rows.{TableRow, HasRows, with_body_at}
use Rattle.store_table.specs.declared.fault.Fault.{Fault}
use Rattle.store_table.proofs.OthersLemmas.{shows_then}
use Rattle.bson_store.specs.Changing.{Rewrites}
use Rattle.bson_store.proofs.MoveLemmas.{Relation, moved, moved_twice}

module _ (old mid new : State) (P : Relation) (one : Moves old mid P) (same : (docs after : List TableRow) → P docs after → after ≡ docs) where
  pub read_then_leaves : (change : List TableRow → List TableRow) → Survives old mid (λ _. ⊥) → Survives mid new (MayLeave change mid) → Survives old new (MayLeave change old)
  read_then_leaves change before later =
      survives_then old mid new (λ _. ⊥) (MayLeave change mid) (MayLeave change old) (λ _ db none. absurd none)
      (λ clean db leaves first docs beside stands.
      let early : HasCleanDisk mid = omega (arith, clean, later.clean) in
      let x = (one early).1 docs stands in
      subst (λ (ds : List TableRow). HasRows first db (change ds)) (same docs x.0 x.2) (leaves first x.0 (shows_then first old mid beside x.3) x.1)) before later

  pub read_then_settles : {A : Type 0} (change : List TableRow → List TableRow) (a : A) (Q : Trees → Type 0) → Survives mid new Q → Settles {A = Unit {0}} change mid new (Ok tt) → Settles change old new (Ok a)
  read_then_settles change a Q later settled clean first docs beside stands =
      let early : HasCleanDisk mid = omega (arith, clean, later.clean) in
      let x = (one early).1 docs stands in
      subst (λ (ds : List TableRow). (db : Trees) → new.may_leave db → HasRows first db (change ds)) (same docs x.0 x.2) (settled clean first x.0 (shows_then first old mid beside x.3) x.1)

  pub read_then_open : {A : Type 0} (a : A) (Q : Trees → Type 0) → Survives mid new Q → WasOpen {A = A} {E = Fault} old mid (Ok a) → WasOpen {A = Unit {0}} {E = Fault} mid new (Ok tt) → WasOpen {A = A} {E = Fault} old new (Ok a)
  read_then_open a Q later was then clean docs stands =
      let early : HasCleanDisk mid = omega (arith, clean, later.clean) in
      let x = (one early).1 docs stands in
      ((was early docs stands).0, (then clean x.0 x.1).1)

-- ---- a row gets another body

module _ (old mid new : State) (place : ℤ) (body : List ℕ) (c : Option (Vec ℕ Global)) (one : Moves old mid (FindsCollection place (Ok c))) where
  pub rewrites : Moves mid new (Changes (with_body_at place body) (Ok tt)) → Moves old new (Rewrites place body (Ok c))
  rewrites two = moved_twice old mid new (FindsCollection place (Ok c)) (Changes (with_body_at place body) (Ok tt)) (Rewrites place body (Ok c)) one two
      (λ docs now after h k. record { done = k.done ∙ ap (with_body_at place body) h.same; found = h.found; refused = tt; faults = tt })

  pub rewrites_not : (x : Fault) → Moves mid new (Changes (with_body_at place body) (Err x)) → Moves old new (Rewrites place body (Err x))
  rewrites_not x two = moved_twice old mid new (FindsCollection place (Ok c)) (Changes (with_body_at place body) (Err x)) (Rewrites place body (Err x)) one two
      (λ docs now after h k. record { done = tt; found = tt; refused = k.refused ∙ h.same; faults = k.faults })

pub found_not : (old mid : State) (place : ℤ) (body : List ℕ) (x : Fault) → Moves old mid (FindsCollection place (Err x)) → Moves old mid (Rewrites place body (Err x))
found_not old mid place body x one = moved old mid (FindsCollection place (Err x)) (Rewrites place body (Err x)) one (λ docs after h. record { done = tt; found = tt; refused = h.same; faults = h.faults })

-- What waits of finds, and the numbers of those that wait.
use Rattle.std.specs.Prelude.{◌≢◌, ◌<◌, ℤ, ℕ, nat_abs, List, map, Vec, string_bytes}
use Rattle.std.specs.Coded.{le_prop}
use Rattle.std.specs.List.{AllByRecursion, AllByRecursion-prop}
use Rattle.std.specs.declared.alloc.Global.{Global}
use Rattle.fallowtime_messages.specs.declared.keeping.Cursor.{Cursor}

-- of one find: its number, the collection behind its database, what it counts, and its documents that weren't told yet
pub record Wait : Type 0 where
  pub id : ℤ
  pub space : List ℕ
  pub cost : ℕ
  pub rest : List (List ℕ)

abbrev pub bodies_of : List (Vec ℕ Global) → List (List ℕ)
bodies_of bs = map (λ (b : Vec ℕ Global). b.items) bs

abbrev pub wait : ℤ → List ℕ → ℕ → List (List ℕ) → Wait
wait id space cost rest = record { id = id; space = space; cost = cost; rest = rest }

abbrev pub wait_of : Cursor → Wait
wait_of c = wait c.id (string_bytes c.space) c.cost (bodies_of c.rest.items)

-- no find that waits has this number
abbrev pub IsNew : ℤ → List Wait → Type 0
IsNew id ws = AllByRecursion (λ w. w.id ≢ id) ws

-- the numbers of all that wait are below the next one
abbrev pub AreBelow : ℕ → List Wait → Type 0
AreBelow next ws = AllByRecursion (λ w. nat_abs w.id < next) ws

pub AreBelow-prop : (next : ℕ) (ws : List Wait) → IsProp (AreBelow next ws)
AreBelow-prop next ws = AllByRecursion-prop (λ w. nat_abs w.id < next) (λ w. le_prop) ws

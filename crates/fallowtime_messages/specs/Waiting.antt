-- What waits of what was found, and what is told of it (MongoDB's manual, "find", "getMore", "killCursors").
use Rattle.std.specs.Prelude.{◌≡◌, ◌≢◌, ◌-◌, ◌+◌, ℤ, pos, ℕ, suc, Bool, true, false, nat_le, if◌then◌else◌, List, [], ◌∷◌, ◌++◌, length, map, Option, Some, None, Result, Ok, Err}
use Rattle.std.specs.List.{AllByRecursion}
use Rattle.std.specs.declared.alloc.AllocError.{AllocError}
use Rattle.fallowtime_messages.specs.declared.batch.Batch.{Batch}
use Rattle.fallowtime_messages.specs.declared.cursors.Cursors.{Cursors}
pub use Rattle.fallowtime_messages.specs.Waits.{AreBelow, IsNew, Wait, bodies_of, wait, wait_of}

-- ---- what waits

-- of all finds, the oldest first
abbrev pub waiting : Cursors → List Wait
waiting cs = map wait_of cs.waiting.items

-- ---- batches

-- how many of these documents are in a batch: no more than are asked for, and none behind those that fill this room
abbrev pub taken : ℕ → ℕ → List (List ℕ) → ℕ
taken (suc n) (suc room) (b ∷ bs) = suc (taken n (suc room - length b) bs)
taken n room bs = 0

-- the room of a batch: 16 MiB, as of MongoDB's
abbrev pub room : ℕ
room = 16777216

-- what is in a batch, and what is left, are all of them, in their order
abbrev pub IsBatch : ℕ → List (List ℕ) → List (List ℕ) → List (List ℕ) → Type 0
IsBatch size all batch left = (all ≡ batch ++ left) × (length batch ≡ taken size room all)

-- ---- what is let go

abbrev pub total : List (List ℕ) → ℕ
total [] = 0
total (b ∷ bs) = length b + total bs

-- a find counts as 256 KiB, and as all bytes that it returned
abbrev pub cost_of : List (List ℕ) → ℕ
cost_of bs = 262144 + total bs

abbrev pub fit : ℕ → List Wait → Bool
fit left [] = true
fit left (w ∷ ws) = if nat_le w.cost left then fit (left - w.cost) ws else false

-- 256 MiB wait, so 1024 finds at the most: the newest ones that fit, or the newest alone
abbrev pub kept : List Wait → List Wait
kept [] = []
kept (w ∷ []) = w ∷ []
kept (w ∷ v ∷ ws) = if fit 268435456 (w ∷ v ∷ ws) then w ∷ v ∷ ws else kept (v ∷ ws)

-- ---- what is told

-- A first batch, behind which these are left: they wait under a number that isn't 0 and that no other find has which waits, unless there
-- are none or they aren't wanted, and then its number is 0.
abbrev pub Waits : Bool → List ℕ → List (List ℕ) → List (List ℕ) → ℤ → List Wait → List Wait → Type 0
Waits true space all left id old new = (id ≡ pos 0) × (new ≡ old)
Waits false space all [] id old new = (id ≡ pos 0) × (new ≡ old)
Waits false space all (b ∷ bs) id old new = (id ≢ pos 0) × IsNew id old × (new ≡ kept (old ++ wait id space (cost_of all) (b ∷ bs) ∷ []))

-- the first batch of a find; if there is no memory or no number for it, nothing waits that didn't
abbrev pub BatchTold : Bool → ℕ → List ℕ → List (List ℕ) → Result Batch AllocError → List Wait → List Wait → Type 0
BatchTold single size space all (Ok b) old new = (left : List (List ℕ)) × IsBatch size all (bodies_of b.bodies.items) left × Waits single space all left b.id old new
BatchTold single size space all (Err e) old new = new ≡ old

-- the number is that of this find
abbrev pub IsOf : ℤ → List ℕ → Wait → Type 0
IsOf id space w = (w.id ≡ id) × (w.space ≡ space)

abbrev pub IsGone : ℤ → List ℕ → List Wait → Type 0
IsGone id space ws = AllByRecursion (λ w. IsOf id space w → ⊥) ws

-- one of them is taken out, which has this number
abbrev pub TakesOut : ℤ → List ℕ → Wait → List Wait → List Wait → Type 0
TakesOut id space w old new = (before after : List Wait) × (old ≡ before ++ w ∷ after) × (new ≡ before ++ after) × IsOf id space w

-- what is left of it waits as the newest
abbrev pub Stays : Wait → ℤ → List (List ℕ) → List Wait → List Wait → Type 0
Stays w next [] ws new = (next ≡ pos 0) × (new ≡ ws)
Stays w next (b ∷ bs) ws new = (next ≡ w.id) × (new ≡ ws ++ wait w.id w.space w.cost (b ∷ bs) ∷ [])

-- A further batch of the find with this number, if that waits. If there is no memory, it is let go, so that no document is left out.
abbrev pub MoreTold : ℕ → ℤ → List ℕ → Result (Option Batch) AllocError → List Wait → List Wait → Type 0
MoreTold size id space (Ok None) old new = (new ≡ old) × IsGone id space old
MoreTold size id space (Ok (Some b)) old new =
    (w : Wait) × (ws : List Wait) × (left : List (List ℕ)) × TakesOut id space w old ws × IsBatch size w.rest (bodies_of b.bodies.items) left × Stays w b.id left ws new
MoreTold size id space (Err e) old new = (w : Wait) × TakesOut id space w old new

-- the find with this number is let go, if it waits
abbrev pub ClosedTold : ℤ → List ℕ → Bool → List Wait → List Wait → Type 0
ClosedTold id space true old new = (w : Wait) × TakesOut id space w old new
ClosedTold id space false old new = (new ≡ old) × IsGone id space old

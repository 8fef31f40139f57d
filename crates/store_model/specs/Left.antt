-- What a crash may leave after commands. What it leaves, a disk or a database, is of any type X; Holds says which
-- states it holds.
use Rattle.std.specs.Prelude.{◌≡◌, ◌⊎◌, ℕ, suc, List, [], ◌∷◌}
use Rattle.store_model.specs.State.{State, Command, Reply, refused, Step}
use Rattle.store_model.specs.Run.{Denials, Run}
use Rattle.store_model.specs.declared.error.ErrorKind.TheVariants.{Memory, Database}

module _ {X : Type 0} (Holds : X → State → Type 0) where
  -- it holds a state that the command makes of s with this reply
  abbrev pub HoldsAfter : State → Command → Reply → X → Type 0
  HoldsAfter s c r x = (t : State) × Step s c r t × Holds x t

  -- After an accepted command a crash leaves the state after it and no other. After a refused one it leaves what it
  -- might leave before; if memory ran out or the database refused, also a state that a step makes of s.
  abbrev pub LeftBy : (X → Type 0) → State → Command → Reply → X → Type 0
  LeftBy Before s c (refused Memory i) x = Before x ⊎ ((r : Reply) × HoldsAfter s c r x)
  LeftBy Before s c (refused Database i) x = Before x ⊎ ((r : Reply) × HoldsAfter s c r x)
  LeftBy Before s c (refused k i) x = Before x
  LeftBy Before s c r x = HoldsAfter s c r x

  -- The same along a run: each command begins with what a crash may leave after the one before it.
  abbrev pub LeftAlong : (X → Type 0) → (w : Denials) (i : ℕ) (s : State) (cs : List Command) (rs : List Reply) (t : State) → Run w i s cs rs t → X → Type 0
  LeftAlong Before w i s [] [] t run = Before
  LeftAlong Before w i s (c ∷ cs) (r ∷ rs) t (u, turn, run) = LeftAlong (LeftBy Before s c r) w (suc i) u cs rs t run
  LeftAlong Before w i s [] (r ∷ rs) t run = Before
  LeftAlong Before w i s (c ∷ cs) [] t run = Before

-- one of the commands
abbrev pub IsOneOf : List Command → Command → Type 0
IsOneOf [] c = ⊥
IsOneOf (d ∷ cs) c = (c ≡ d) ⊎ IsOneOf cs c

-- x is the state t, or that which one of the commands makes of it
abbrev pub IsEndOrOneMore : List Command → State → State → Type 0
IsEndOrOneMore cs t x = (x ≡ t) ⊎ ((c : Command) × IsOneOf cs c × (r : Reply) × Step t c r x)

-- it holds such a state
abbrev pub HoldsEndOrOneMore : {X : Type 0} → (X → State → Type 0) → List Command → State → X → Type 0
HoldsEndOrOneMore Holds cs t x = (y : State) × Holds x y × IsEndOrOneMore cs t y

-- states themselves, as what a crash leaves
abbrev pub Is : State → State → Type 0
Is x s = x ≡ s

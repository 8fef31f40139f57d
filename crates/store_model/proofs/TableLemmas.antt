-- A run through tables is a run of the states that they represent, and what is decided before anything grows isn't
-- denied there.
use Rattle.std.proofs.Common.{◌≡◌, ℕ, suc, List, [], ◌∷◌, Option, Some, None, refl, ap}
use Rattle.std.specs.FinMap.{get}
use Rattle.store_model.specs.State.{Command, Reply}
use Rattle.store_model.specs.Run.{Denial, memory, database, places, Denials, Run, IsDecided, SparesDecided}
use Rattle.store_model.specs.Table.{DocumentTable, state_of, MayBeDenied, RunThrough}

spared : (o : Option Denial) (a : DocumentTable) (c : Command) → MayBeDenied o a c → IsDecided c → o ≡ None
spared None a c h d = refl
spared (Some places) a c h d = absurd (h.0 d)
spared (Some memory) a c h d = absurd (h d)
spared (Some database) a c h d = absurd (h d)

pub run_of_states : (w : Denials) (i : ℕ) (a b : DocumentTable) (cs : List Command) (rs : List Reply) → RunThrough w i a cs rs b → Run w i (state_of a) cs rs (state_of b)
run_of_states w i a b [] [] h = ap state_of h
run_of_states w i a b (c ∷ cs) (r ∷ rs) (m, t, h) = (state_of m, t.0, run_of_states w (suc i) m b cs rs h)
run_of_states w i a b [] (r ∷ rs) h = absurd h
run_of_states w i a b (c ∷ cs) [] h = absurd h

pub run_spares : (w : Denials) (i : ℕ) (a b : DocumentTable) (cs : List Command) (rs : List Reply) → RunThrough w i a cs rs b → SparesDecided w i cs
run_spares w i a b [] [] h = tt
run_spares w i a b (c ∷ cs) (r ∷ rs) (m, t, h) = (spared (get w i) a c t.2, run_spares w (suc i) m b cs rs h)
run_spares w i a b [] (r ∷ rs) h = absurd h
run_spares w i a b (c ∷ cs) [] h = absurd h

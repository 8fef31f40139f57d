-- Indexes that are made and dropped.
use Rattle.std.proofs.Common.{ℕ, List, Result, refl}
use Rattle.sqlite.specs.State.{State}
use Rattle.store_table.specs.Moves.{Moves}
use Rattle.store_model.specs.declared.error.StoreError.{StoreError}
use Rattle.bson_store.proofs.MoveLemmas.{moved}
use Rattle.bson_store.specs.Questions.{Indexed}
use Rattle.bson_store.specs.Refusals.{as_done, reply_by}
use Rattle.fallowtime_commands.specs.Performing.{Indexes}

-- what the store's call does, as a request's reply
pub indexed : (n : List ℕ) (s t : State) (outcome : Result (Unit {0}) StoreError) → Moves s t (Indexed n outcome) → Moves s t (Indexes n (reply_by as_done outcome))
indexed n s t outcome moves = moved s t (Indexed n outcome) (Indexes n (reply_by as_done outcome)) moves (λ docs after h. (outcome, refl, h))

-- What a crash leaves of a command of the program.
use Rattle.std.specs.Prelude.{◌⊎◌, Bool, true, false, List, Result, Ok, Err, IsTrue, MatchBool}
use Rattle.sqlite.specs.State.{State, HasCleanDisk, Survives}
use Rattle.store_table.specs.Moves.{Moves, Stands}
use Rattle.store_table.specs.Rows.{TableRow}
use Rattle.store_model.specs.State.{Command, Reply, refused}
use Rattle.store_model.specs.Table.{IsRefusal}
use Rattle.store_model.specs.declared.error.ErrorKind.TheVariants.{Writer}
use Rattle.store_model.specs.declared.error.StoreError.{StoreError}
use Rattle.bson_store.specs.Calls.{Does}
use Rattle.bson_store.specs.Left.{Leaves}
use Rattle.cli_commands.specs.declared.call.Call.{Call}
use Rattle.cli_commands.specs.declared.call.Call.TheVariants.{Insert, Replace, Set, Unset, Remove, Import, Load}
use Rattle.cli_commands.specs.Execute.{Asked, CommandLine, IsFailure, Streams}
use Rattle.cli_commands.specs.declared.stop.Failure.{Failure}
use Rattle.cli_commands.specs.declared.stop.Failure.TheVariants.{Words, Refused}

-- the call may change the store
abbrev pub is_change : Call → Bool
is_change Insert = true
is_change Replace = true
is_change Set = true
is_change Unset = true
is_change Remove = true
is_change Import = true
is_change Load = true
is_change _ = false

-- on a disk that returns what was written, the connection was open and is
abbrev pub StaysOpen : State → State → Type 0
StaysOpen old new = HasCleanDisk new → (docs : List TableRow) → Stands old docs → IsTrue old.is_open × IsTrue new.is_open

-- a command of those that are meant was accepted, on an open connection; what it did to the rows and what a crash leaves
-- of it are both stated for this command
pub record Settled (Meant : Command → Type 0) (old new : State) : Type 0 where
  pub command : Command
  pub meant : Meant command
  pub reply : Reply
  pub accepted : IsRefusal reply → ⊥
  pub stays : StaysOpen old new
  pub moves : Moves old new (Does command reply)
  pub crash : Leaves old new command reply

-- what a crash leaves of such a command that was refused
abbrev pub LeavesRefused : (Command → Type 0) → StoreError → State → State → Type 0
LeavesRefused Meant e old new = (c : Command) × Meant c × Leaves old new c (refused e.kind e.document)

-- If a command was accepted and its answer printed, a crash leaves what it leaves of that command. If it was refused, a
-- crash leaves only what it could leave before, or what it leaves of a refused command; or the refusal is that of the
-- output, and the command was accepted. If a text can't be read, a crash leaves only what it could leave before.
abbrev pub LeavesBy : {A : Type 0} → (Command → Type 0) → (StoreError → Type 0) → Result A Failure → State → State → Type 0
LeavesBy Meant Unprinted (Ok x) old new = Settled Meant old new
LeavesBy Meant Unprinted (Err (Refused e)) old new = Survives old new (λ _. ⊥) ⊎ (LeavesRefused Meant e old new ⊎ (Unprinted e × Settled Meant old new))
LeavesBy Meant Unprinted (Err (Words w)) old new = Survives old new (λ _. ⊥)

-- after a call that changes nothing, a crash leaves only what it could leave before
abbrev pub LeavesCall : CommandLine → Streams → Result (Unit {0}) Failure → State → State → Type 0
LeavesCall l d outcome old new = MatchBool (is_change l.call) (LeavesBy (Asked l d) (IsFailure Writer d.before.failures d.behind.failures) outcome old new) (Survives old new (λ _. ⊥))

-- What a command of the program comes to.
use Rattle.std.specs.Prelude.{Result}
use Rattle.sqlite.specs.State.{State}
use Rattle.store_table.specs.Moves.{Moves, WasOpen}
use Rattle.cli_commands.specs.declared.words.Words.{Words as Wording}
use Rattle.cli_commands.specs.Execute.{Executes, ReportsFailures, Streams, line_of}
use Rattle.cli_commands.specs.Leaving.{LeavesCall}
use Rattle.cli_commands.specs.declared.stop.Failure.{Failure}

-- The command of the words had this outcome: that is what the rows show, what a crash leaves, and which device is
-- reported. One that was accepted was done on an open connection, which stays open.
pub record HasOutcome (w : Wording) (d : Streams) (outcome : Result (Unit {0}) Failure) (old new : State) : Type 0 where
  pub moves : Moves old new (Executes w d outcome)
  pub stays : WasOpen old new outcome
  pub crash : LeavesCall (line_of w) d outcome old new
  pub devices : ReportsFailures w.call outcome d.fed.failures d.left.failures d.before.failures d.behind.failures

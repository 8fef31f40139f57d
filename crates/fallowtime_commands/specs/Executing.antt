-- What becomes of a request, and of what is printed of it.
use Rattle.std.specs.Prelude.{ℕ, List, Result}
use Rattle.sqlite.specs.State.{State}
use Rattle.bson_base.specs.Device.{Tally}
use Rattle.store_model.specs.declared.error.StoreError.{StoreError}
use Rattle.store_table.specs.Moves.{Moves, WasOpen}
use Rattle.fallowtime_commands.specs.Left.{LeavesRequest}
use Rattle.fallowtime_commands.specs.Performing.{Performs, reply_of}
use Rattle.fallowtime_commands.specs.Printing.{Tells}
use Rattle.fallowtime_commands.specs.declared.answer.Answer.{Answer}
use Rattle.fallowtime_commands.specs.declared.printing.Form.{Form}
use Rattle.fallowtime_commands.specs.declared.refusal.Refusal.{Refusal}
use Rattle.fallowtime_requests.specs.declared.request.Request.{Request}

-- The request was done on the collection n, with one outcome: that is what is printed or refused, what the rows show,
-- and what a crash leaves. One that was accepted was done on an open connection, which stays open.
pub record Executes (n : List ℕ) (q : Request) (f : Form) (before after : Tally) (result : Result (Unit {0}) Refusal) (old new : State) : Type 0 where
  pub outcome : Result Answer StoreError
  pub told : Tells f outcome before after result
  pub moves : Moves old new (Performs n q outcome)
  pub crash : LeavesRequest n q (reply_of outcome) old new
  pub stays : WasOpen old new outcome

-- What a crash leaves of a request that was done in pages, and what becomes of it.
use Rattle.std.specs.Prelude.{ℕ, List, Result}
use Rattle.sqlite_disk.specs.declared.Disk.{Ghosts}
use Rattle.sqlite_pool.specs.Stored.{Keeps}
use Rattle.bson_base.specs.Device.{Tally}
use Rattle.bson_base.specs.Value.{Members, Value}
use Rattle.store_model.specs.Reading.{Reading}
use Rattle.store_model.specs.State as model
use Rattle.store_model.specs.Table.{state_of as lists_of}
use Rattle.store_model.specs.declared.error.StoreError.{StoreError}
use Rattle.store_table.specs.Writer.{size_of, state_of}
use Rattle.store_table.specs.declared.pages.writer.Writer.{Writer}
use Rattle.fallowtime_front.specs.Changes.{Along, HoldState, IsLeftBy, Turns}
use Rattle.fallowtime_commands.specs.Left.{OfPut, OfRequest, OfSet, OfStored, Ways}
use Rattle.fallowtime_commands.specs.Performing.{Performs, reply_of}
use Rattle.fallowtime_commands.specs.Printing.{Tells}
use Rattle.fallowtime_commands.specs.declared.answer.Answer.{Answer}
use Rattle.fallowtime_commands.specs.declared.printing.Form.{Form}
use Rattle.fallowtime_commands.specs.declared.refusal.Refusal.{Refusal}
use Rattle.fallowtime_requests.specs.declared.request.Request.{Request}

module _ {D : Type 0} {g : Ghosts D} where
  -- such a way, of whatever a crash leaves now, in the words of fallowtime_commands; there are no lists of changes and no transfers
  abbrev pub LeavesIn : Writer D g → Writer D g → List ℕ → model.Reply → Ways → Type 0
  LeavesIn old new n r P =
      Along old new (λ first a left. P (λ b call. IsLeftBy new (model.on n call) r first b left) (λ b xs. ⊥) (λ t. ⊥) (HoldState first (size_of new) left (lists_of a)) a)

  -- no more than before
  abbrev pub Unmoved : Writer D g → Writer D g → Type 0
  Unmoved old new = Keeps (state_of old) (state_of new)

  abbrev pub LeavesStored : Writer D g → Writer D g → List ℕ → (Reading → model.Call) → Members → model.Reply → Type 0
  LeavesStored old new n call e r = OfStored (Unmoved old new) (LeavesIn old new n r) n r call e

  abbrev pub LeavesPut : Writer D g → Writer D g → List ℕ → Members → model.Reply → Type 0
  LeavesPut old new n e r = OfPut (Unmoved old new) (LeavesIn old new n r) n r e

  abbrev pub LeavesSet : Writer D g → Writer D g → List ℕ → Value → List ℕ → Value → model.Reply → Type 0
  LeavesSet old new n id k v r = OfSet (Unmoved old new) (LeavesIn old new n r) n r id k v

  abbrev pub LeavesRequest : Writer D g → Writer D g → List ℕ → Request → model.Reply → Type 0
  LeavesRequest old new n q r = OfRequest (Unmoved old new) (LeavesIn old new n r) n r q

  -- The request was done on the collection n, with one outcome: that is what is printed or refused, what becomes of the
  -- rows, and what a crash leaves.
  pub record ExecutesInPages (n : List ℕ) (q : Request) (f : Form) (before after : Tally) (result : Result (Unit {0}) Refusal) (old new : Writer D g) : Type 0 where
    pub outcome : Result Answer StoreError
    pub told : Tells f outcome before after result
    pub turns : Turns old new outcome (Performs n q outcome)
    pub crash : LeavesRequest old new n q (reply_of outcome)

-- Messages that are read one after the other, and what is written for them.
use Rattle.std.specs.Prelude.{◌≡◌, ◌⊎◌, ◌≤◌, ◌^◌, ◌-◌, ◌%◌, ℕ, ◌+◌, List, [], ◌∷◌, ◌++◌, length, Option, Some, None, Result, Ok, Err, Vec}
use Rattle.std.specs.declared.alloc.AllocError.{AllocError}
use Rattle.std.specs.declared.alloc.Global.{Global}
use Rattle.bson_base.specs.Device.{Feed, Tally, Took, TookAll}
use Rattle.bson_message.specs.Taking.{AreDeclared, TakesMessage}
use Rattle.bson_message.specs.declared.fault.ReadFault.{ReadFault}
use Rattle.bson_message.specs.declared.fault.ReadFault.TheVariants as fault
use Rattle.store_model.specs.declared.error.ErrorKind.{ErrorKind}
use Rattle.store_model.specs.declared.error.ErrorKind.TheVariants.{BadLength, EndInside, Memory, Reader}
use Rattle.fallowtime_commands.specs.Deeds.{Deed}
use Rattle.fallowtime_commands.specs.Sessions.{Sends}
use Rattle.fallowtime_messages.specs.Waiting.{Wait}
use Rattle.fallowtime_messages.specs.Serving.{Serves}

-- a message, the number of its answer, what waits of finds before and behind it, what is sent for it, and what was done
pub record Exchange : Type 0 where
  pub message : List ℕ
  pub number : ℕ
  pub before : List Wait
  pub after : List Wait
  pub sent : Result (Option (Vec ℕ Global)) AllocError
  pub deeds : List Deed

-- behind n messages, this one was read, and what it asks was done; the numbers of answers begin anew after 2 ^ 32 of them
pub record Reads (database : List ℕ) (n : ℕ) (x : Exchange) (fed left : Feed) : Type 0 where
  pub numbered : x.number ≡ n % 2 ^ 32
  pub took : Took fed left x.message
  pub declared : AreDeclared x.message
  pub served : Serves database x.number x.message x.before x.after x.sent x.deeds

-- what is sent was written, if anything is
abbrev pub Writes : Result (Option (Vec ℕ Global)) AllocError → Result (Unit {0}) ErrorKind → Tally → Tally → Type 0
Writes (Ok (Some answer)) r old new = Sends r answer.items old new
Writes (Ok None) r old new = (r ≡ Ok tt) × (new ≡ old)
Writes (Err e) r old new = (r ≡ Err Memory) × (new ≡ old)

-- Behind n messages, these were read, done and answered, each before the next was read, and what waited of finds behind the one before it
-- waited for it.
abbrev pub Answers : List ℕ → ℕ → List Exchange → Feed → Feed → Tally → Tally → List Wait → List Wait → Type 0
Answers database n [] fed left old new ws vs = (left ≡ fed) × (new ≡ old) × (vs ≡ ws)
Answers database n (x ∷ xs) fed left old new ws vs =
    (mid : Feed) × (told : Tally) × (x.before ≡ ws) × Reads database n x fed mid × Writes x.sent (Ok tt) old told × Answers database (n + 1) xs mid left told new x.after vs

abbrev pub deeds_of : List Exchange → List Deed
deeds_of [] = []
deeds_of (x ∷ xs) = x.deeds ++ deeds_of xs

-- why no further message was taken
abbrev pub kind_of : ReadFault → ErrorKind
kind_of fault.Reader = Reader
kind_of fault.EndInside = EndInside
kind_of fault.BadLength = BadLength
kind_of fault.Memory = Memory

-- no further message could be taken; or what is sent for the next one wasn't written, or there was no memory for it; or there were too many
abbrev pub Breaks : List ℕ → ErrorKind → List Exchange → Feed → Feed → Tally → Tally → List Wait → List Deed → Type 0
Breaks database kind xs fed left old new ws ds =
    ((e : ReadFault) × (bytes : List ℕ) × TakesMessage fed left bytes (Err e) × (kind ≡ kind_of e) × (new ≡ old) × (ds ≡ []))
    ⊎ ((x : Exchange) × (x.before ≡ ws) × Reads database (length xs) x fed left × Writes x.sent (Err kind) old new × (ds ≡ x.deeds))
    ⊎ ((kind ≡ Reader) × (2 ^ 64 - 1 ≤ length xs) × (left ≡ fed) × (new ≡ old) × (ds ≡ []))

-- how it ends: with the input, once all messages were answered; or behind those that were
abbrev pub Ends : List ℕ → Result (Unit {0}) ErrorKind → Feed → Feed → Tally → Tally → List Deed → Type 0
Ends database (Ok x) fed left old new ds = (xs : List Exchange) × (mid : Feed) × (ws : List Wait) × Answers database 0 xs fed mid old new [] ws × TookAll mid left [] × (ds ≡ deeds_of xs)
Ends database (Err kind) fed left old new ds =
    (xs : List Exchange) × (mid : Feed) × (told : Tally) × (ws : List Wait) × Answers database 0 xs fed mid old told [] ws
    × ((last : List Deed) × Breaks database kind xs mid left told new ws last × (ds ≡ deeds_of xs ++ last))

-- ---- its parts

-- a message was done, and what is sent for it written; or that failed
abbrev pub Exchanges : List ℕ → ℕ → List ℕ → List Wait → List Wait → Result (Unit {0}) ErrorKind → Tally → Tally → List Deed → Type 0
Exchanges database number message ws vs r old new ds = (sent : Result (Option (Vec ℕ Global)) AllocError) × Serves database number message ws vs sent ds × Writes sent r old new

-- Runs of commands on plain lists, in which some may be denied what they need.
use Rattle.std.specs.Prelude.{◌≡◌, ◌⊎◌, ℕ, suc, List, [], ◌∷◌, if◌then◌else◌, Option, Some, None}
use Rattle.std.specs.Str.{bytes_eq}
use Rattle.std.specs.Ordering.{nat_cmp}
use Rattle.std.specs.FinMap.{FinMap, get}
use Rattle.store_model.specs.Reading.{Reading, unreadable}
use Rattle.store_model.specs.State.{State, Form, in_bytes, in_json, Call, insert, replace, set, unset, Command, on, collections, Reply, refused, IsFreeKey, IsName, Step}
use Rattle.store_model.specs.declared.error.ErrorKind.{ErrorKind}
use Rattle.store_model.specs.declared.error.ErrorKind.TheVariants.{NotAnObject, Memory, Database, Places}

-- what a command may be denied whatever it asks
pub data Denial : Type 0 where
  memory : Denial
  database : Denial
  places : Denial

abbrev pub kind_of_denial : Denial → ErrorKind
kind_of_denial memory = Memory
kind_of_denial database = Database
kind_of_denial places = Places

-- what is denied at which positions of a list of commands
abbrev pub Denials : Type 0
Denials = FinMap nat_cmp Denial

-- a command that is denied something is refused with that kind and changes nothing; every other makes a step
abbrev pub Turn : Option Denial → State → Command → Reply → State → Type 0
Turn None s c r t = Step s c r t
Turn (Some x) s c r t = (r ≡ refused (kind_of_denial x) None) × (t ≡ s)

-- the commands from the position i on, one after the other
abbrev pub Run : Denials → ℕ → State → List Command → List Reply → State → Type 0
Run w i s [] [] t = t ≡ s
Run w i s (c ∷ cs) (r ∷ rs) t = (u : State) × Turn (get w i) s c r u × Run w (suc i) u cs rs t
Run w i s [] (r ∷ rs) t = ⊥
Run w i s (c ∷ cs) [] t = ⊥

-- ---- what is decided before anything grows

-- bytes that can't be read, and a JSON tree that is no object
abbrev pub IsUnread : Form → Reading → Type 0
IsUnread in_bytes (unreadable k) = Unit {0}
IsUnread in_json (unreadable NotAnObject) = Unit {0}
IsUnread _ _ = ⊥

-- a call is decided before anything grows: by what can't be read, or by a key that can't be set
abbrev pub IsDecidedCall : Call → Type 0
IsDecidedCall (insert f a) = IsUnread f a
IsDecidedCall (replace f a) = IsUnread f a
IsDecidedCall (set id k a) = IsFreeKey k → ⊥
IsDecidedCall (unset id k) = IsFreeKey k → ⊥
IsDecidedCall _ = ⊥

-- a command is decided before anything grows: by a bad name, or by its call
abbrev pub IsDecided : Command → Type 0
IsDecided (on n call) = (IsName n → ⊥) ⊎ IsDecidedCall call
IsDecided collections = ⊥

-- nothing is denied to a command that is decided before anything grows
abbrev pub SparesDecided : Denials → ℕ → List Command → Type 0
SparesDecided w i [] = Unit {0}
SparesDecided w i (c ∷ cs) = (IsDecided c → get w i ≡ None) × SparesDecided w (suc i) cs

-- ---- one collection

-- the calls to a name, with what is denied to them
abbrev pub calls_of : List ℕ → Denials → ℕ → List Command → List (Option Denial × Call)
calls_of n w i [] = []
calls_of n w i (on m call ∷ cs) = if bytes_eq n m then (get w i, call) ∷ calls_of n w (suc i) cs else calls_of n w (suc i) cs
calls_of n w i (collections ∷ cs) = calls_of n w (suc i) cs

-- the replies to them
abbrev pub replies_of : List ℕ → List Command → List Reply → List Reply
replies_of n (on m call ∷ cs) (r ∷ rs) = if bytes_eq n m then r ∷ replies_of n cs rs else replies_of n cs rs
replies_of n (collections ∷ cs) (r ∷ rs) = replies_of n cs rs
replies_of n _ _ = []

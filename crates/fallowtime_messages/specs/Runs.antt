-- What becomes of the statements of a command.
use Rattle.std.specs.Prelude.{◌≡◌, ◌⊎◌, pos, ℕ, ◌+◌, Bool, true, false, ◌&&◌, List, [], ◌∷◌, ◌++◌, length, map, Some, Result, Ok, Err, IfOk, string_bytes}
use Rattle.std.specs.declared.alloc.AllocError.{AllocError}
use Rattle.bson_base.specs.Value.{Value}
use Rattle.sqlite.specs.State.{State}
use Rattle.bson_model.specs.View.{view}
use Rattle.store_model.specs.Refusal.{kind_name}
use Rattle.store_model.specs.declared.error.StoreError.{StoreError}
use Rattle.fallowtime_commands.specs.Performing.{IsAnswerTo}
use Rattle.fallowtime_commands.specs.Reports.{update_name}
use Rattle.fallowtime_commands.specs.declared.answer.Answer.{Answer}
use Rattle.fallowtime_commands.specs.declared.answer.Answer.TheVariants as answer
use Rattle.fallowtime_commands.specs.Deeds.{Deed, Did}
use Rattle.fallowtime_messages.specs.Answers.{upserted, write_error}
use Rattle.fallowtime_statements.specs.Codes.{code_of, update_code}
use Rattle.fallowtime_statements.specs.declared.statement.Statement.{Statement}
use Rattle.fallowtime_messages.specs.declared.writing.Written.{Written}

-- ---- deeds

-- the statement was done, with this outcome
abbrev pub deed_of : Statement → Result Answer StoreError → Deed
deed_of s r = record { name = string_bytes s.name; request = s.request; outcome = r }

-- what was done was this statement, and what the store returned is an answer to it
abbrev pub IsDeedOf : Statement → Deed → Type 0
IsDeedOf s d = (d.name ≡ string_bytes s.name) × (d.request ≡ s.request) × IfOk d.outcome (IsAnswerTo s.request)

-- ---- outcomes

-- whether a change isn't made
abbrev pub is_refused : Result Answer StoreError → Bool
is_refused (Ok (answer.NotUpdated i e)) = true
is_refused (Ok (answer.NotUpserted e)) = true
is_refused (Ok a) = false
is_refused (Err e) = true

-- how many documents it was of, one that was put in among them
abbrev pub count_of : Result Answer StoreError → ℕ
count_of (Ok (answer.Number n)) = n
count_of (Ok (answer.Updated m c)) = m
count_of (Ok (answer.Upserted v)) = 1
count_of r = 0

-- and how many of them are other ones now
abbrev pub changed_of : Result Answer StoreError → ℕ
changed_of (Ok (answer.Updated m c)) = c
changed_of r = 0

-- the `_id` of the document that it put in, of the statement at a place
abbrev pub ids_of : ℕ → Result Answer StoreError → List Value
ids_of i (Ok (answer.Upserted v)) = upserted (pos i) (view v) ∷ []
ids_of i r = []

-- why it isn't made, of the statement at a place
abbrev pub errors_of : ℕ → Result Answer StoreError → List Value
errors_of i (Ok (answer.NotUpdated j e)) = write_error (pos i) (update_code e) (update_name e) ∷ []
errors_of i (Ok (answer.NotUpserted e)) = write_error (pos i) (update_code e) (update_name e) ∷ []
errors_of i (Ok a) = []
errors_of i (Err e) = write_error (pos i) (code_of e.kind) (kind_name e.kind) ∷ []

-- ---- statements

-- each statement was done, and none of them stops those behind it
abbrev pub AllGoOn : Bool → List Statement → List Deed → Type 0
AllGoOn stops [] ds = ds ≡ []
AllGoOn stops (s ∷ ss) [] = ⊥
AllGoOn stops (s ∷ ss) (d ∷ ds) = IsDeedOf s d × ((stops && is_refused d.outcome) ≡ false) × AllGoOn stops ss ds

-- all up to this one were done, which is refused, and stops those behind it
abbrev pub StopsAtOne : Bool → List Statement → List Deed → Type 0
StopsAtOne stops [] ds = ⊥
StopsAtOne stops (s ∷ ss) [] = ⊥
StopsAtOne stops (s ∷ ss) (d ∷ ds) = IsDeedOf s d × (((ds ≡ []) × ((stops && is_refused d.outcome) ≡ true)) ⊎ StopsAtOne stops ss ds)

-- statements were done one after the other; if a refusal stops them, none behind the first that was refused
abbrev pub AreRun : Bool → List Statement → List Deed → Type 0
AreRun stops ss ds = AllGoOn stops ss ds ⊎ StopsAtOne stops ss ds

-- some of them were, from the first on
abbrev pub Begin : List Statement → List Deed → Type 0
Begin ss [] = Unit {0}
Begin [] (d ∷ ds) = ⊥
Begin (s ∷ ss) (d ∷ ds) = IsDeedOf s d × Begin ss ds

-- ---- sums

abbrev pub counts : List Deed → ℕ
counts [] = 0
counts (d ∷ ds) = count_of d.outcome + counts ds

abbrev pub changes : List Deed → ℕ
changes [] = 0
changes (d ∷ ds) = changed_of d.outcome + changes ds

abbrev pub ids_from : ℕ → List Deed → List Value
ids_from i [] = []
ids_from i (d ∷ ds) = ids_of i d.outcome ++ ids_from (i + 1) ds

abbrev pub errors_from : ℕ → List Deed → List Value
errors_from i [] = []
errors_from i (d ∷ ds) = errors_of i d.outcome ++ errors_from (i + 1) ds

-- what is kept of what was done
pub record Sums (ds : List Deed) (w : Written) : Type 0 where
  pub place : w.place ≡ length ds
  pub count : w.count ≡ counts ds
  pub changed : w.changed ≡ changes ds
  pub ids : map view w.ids.items ≡ ids_from 0 ds
  pub errors : map view w.errors.items ≡ errors_from 0 ds

-- the statements were run, and this is kept; or memory ran out for it
abbrev pub RunsTo : Bool → List Statement → Result Written AllocError → List Deed → Type 0
RunsTo stops ss (Ok w) ds = AreRun stops ss ds × Sums ds w
RunsTo stops ss (Err e) ds = Begin ss ds

-- ---- its parts

-- one outcome more is kept
pub record Adds (r : Result Answer StoreError) (old new : Written) : Type 0 where
  pub place : new.place ≡ old.place + 1
  pub count : new.count ≡ old.count + count_of r
  pub changed : new.changed ≡ old.changed + changed_of r
  pub ids : map view new.ids.items ≡ map view old.ids.items ++ ids_of old.place r
  pub errors : map view new.errors.items ≡ map view old.errors.items ++ errors_of old.place r

-- a statement was done, and its outcome is kept, and whether those behind it aren't done; or memory ran out for that
abbrev pub Keeps : Bool → Written → Written → Result Bool AllocError → Result Answer StoreError → Type 0
Keeps stops old new (Ok is_last) r = Adds r old new × (is_last ≡ (stops && is_refused r))
Keeps stops old new (Err e) r = Unit {0}

abbrev pub WritesOne : Bool → Statement → Written → Written → Result Bool AllocError → State → State → Type 0
WritesOne stops s old new result t u = (d : Deed) × IsDeedOf s d × Keeps stops old new result d.outcome × Did (Some d) t u

-- What the statement that puts a key is under any schema, and what it makes of the database.
use Rattle.std.proofs.Common.{◌≡◌, inl, inr, ℕ, ℤ, ◌+◌, ◌<◌, suc, zero, List, [], ◌∷◌, codes, take, length, get_or, Option, Some, None, Result, Ok, Err, IfOk, OnOk, IsTrue, false, refl, sym, ap, subst, subst₂, ◌∙◌, arith}
use Rattle.std.proofs.lemmas.Bool.{cases_Bool}
use Rattle.sqlite.specs.declared.types.Value.TheVariants.{Int, Blob}
use Rattle.sqlite.specs.declared.error.Error.{Error}
use Rattle.sqlite.specs.Schema.{Schema}
use Rattle.sqlite.specs.Command.{Command}
use Rattle.sqlite.specs.Command.TheVariants.{Update}
use Rattle.sqlite_schema.specs.declared.program.Program.{Program}
use Rattle.sqlite_schema.specs.declared.command.Returning.{Returning}
use Rattle.sqlite_syntax.specs.declared.statement.Parsed.{Parsed}
use Rattle.sqlite_resolve.specs.declared.compiled.Compiled.{Compiled}
use Rattle.sqlite_resolve.specs.declared.error.CompileError.{CompileError}
use Rattle.sqlite_resolve.specs.Lowering.{Checked, and_then}
use Rattle.sqlite_resolve.specs.Compile.{first, compiled, planned, meaning, returning, timed, command, shows, target, update, with_command}
use Rattle.sqlite_resolve.specs.Body.{table_at}
use Rattle.sqlite_resolve.specs.Write.{updated}
use Rattle.sqlite_resolve.specs.Program.{program as typed}
use Rattle.sqlite_draft.specs.declared.query.Draft.{Draft}
use Rattle.sqlite.specs.Table.{Table}
use Rattle.sqlite.specs.Does.{Does}
use Rattle.sqlite.specs.Effect.{Database}
use Rattle.sqlite.specs.Listing.{understood, reads_listing, listing_schema}
use Rattle.sqlite.specs.State.{State, Executes, ExecutesIn, ExecutesInside, KeepsCounts, text_of, Shows as Sees}
use Rattle.sqlite.proofs.Callers.{IsPlain, command_of, statement_of, runs_as}
use Rattle.store_table.specs.declared.row.NewKey.{NewKey}
use Rattle.store_table.specs.Open.{HasCommitted}
use Rattle.store_table.specs.Keys.{rekey_text, keys_enforced, PutsKey, PutsKeys}
use Rattle.store_table.proofs.FilterLemmas.{parameter, place_test}
use Rattle.store_table.proofs.CommandLemmas.{update_statement}
use Rattle.store_table.proofs.MeansLemmas.{ParsesAs, rekey_parses}
use Rattle.store_table.proofs.PlainLemmas.{Bare, same_compiled, if_select_is}

-- ---- under any schema it is an UPDATE

abbrev IsUpdate : Command → Type 0
IsUpdate k = (at : ℕ) × (q : Program) × (k ≡ Update at q)

then_ok : {A B : Type 0} (x : Checked A) (f : A → Checked B) (P : B → Type 0) → ((a : A) → IfOk (f a) P) → IfOk (and_then x f) P
then_ok (Ok a) f P h = h a
then_ok (Err e) f P h = tt

updates_at : (at : ℕ) (x : Checked Program) → IfOk (and_then x (λ p. Ok (Update at p))) IsUpdate
updates_at at (Ok p) = (at, p, refl)
updates_at at (Err e) = tt

abbrev put_command : Schema → Checked Command
put_command schema = update schema (codes "documents") ((codes "idkey", parameter 2) ∷ []) (Some place_test)

abbrev of_draft : Schema → ℕ → Draft → Checked Command
of_draft schema at d = and_then (typed schema [] d) (λ p. Ok (Update at p))

abbrev of_table : Schema → ℕ → Table → Checked Command
of_table schema at table = and_then (updated schema at table ((codes "idkey", parameter 2) ∷ []) (Some place_test)) (of_draft schema at)

abbrev of_place : Schema → ℕ → Checked Command
of_place schema at = and_then (table_at schema at) (of_table schema at)

is_update : (schema : Schema) → IfOk (put_command schema) IsUpdate
unfolding update
is_update schema = then_ok (target schema (codes "documents")) (of_place schema) IsUpdate (λ at. then_ok (table_at schema at) (of_table schema at) IsUpdate
    (λ table. then_ok (updated schema at table ((codes "idkey", parameter 2) ∷ []) (Some place_test)) (of_draft schema at) IsUpdate (λ d. updates_at at (typed schema [] d))))

compiled_so : (schema : Schema) (f : Checked Parsed) → first rekey_text ≡ f → ParsesAs (update_statement (codes "idkey")) f → (c : Compiled) → compiled schema rekey_text ≡ Ok c → IsUpdate c.command × Bare c
unfolding compiled planned meaning returning shows timed command
compiled_so schema (Err e) is read c k = absurd read
compiled_so schema (Ok p) is read c k = go (put_command schema) (is_update schema) (rw (is, read.0, read.1) at k)
  where
    go : (x : Checked Command) → IfOk x IsUpdate → ◌≡◌ {A = Result Compiled CompileError} (and_then (and_then (and_then x (λ m. Ok (m, None))) (λ found. Ok ([], found))) (λ plan. Ok (with_command p plan))) (Ok c) → IsUpdate c.command × Bare c
    go (Err e) f k = absurd (cc)
    go (Ok it) f k = let e = same_compiled k in subst (λ (d : Compiled). IsUpdate d.command × Bare d) e (f, (refl, refl))

rekey_so : (schema : Schema) (c : Compiled) → understood schema rekey_text ≡ Ok c → IsUpdate c.command × Bare c
unfolding understood
rekey_so schema c h = elim (cases_Bool (reads_listing schema rekey_text)) [
  | inl hit ↦ compiled_so listing_schema (first rekey_text) refl rekey_parses c (if_select_is _ c (rw hit at h))
  | inr miss ↦ compiled_so schema (first rekey_text) refl rekey_parses c (rw miss at h)
]

-- ---- what it makes of the database

puts : (p : ℤ) (idkey : List ℕ) (old new : State) (count : ℕ) → Executes rekey_text (Int p ∷ Blob idkey ∷ []) old new (Ok count) → PutsKey old.step_limit p idkey old.now new.now
unfolding ExecutesIn
puts p idkey old new count ran =
    let c = ran.0 in
    let known = ran.1.is in
    let so = rekey_so old.now.schema c known in
    let w = runs_as rekey_text (Int p ∷ Blob idkey ∷ []) old new old.now.schema refl (Update so.0.0 so.0.1) (ap command_of known ∙ so.0.2) (subst IsPlain (sym known) so.1) count ran in
    let does : (text : List ℕ) → Option Returning → Command → Type 0 = λ text returning command. Does old.step_limit keys_enforced (Int p ∷ Blob idkey ∷ []) old.now text returning command (Ok (w.tally, new.now)) in
    (c, known, w.tally, subst (λ k. does (text_of rekey_text c) c.returning k) (sym so.0.2) (subst (λ r. does (text_of rekey_text c) r (Update so.0.0 so.0.1)) (sym so.1.0) (subst (λ r. does (statement_of rekey_text r) None (Update so.0.0 so.0.1)) known w.changed)))

pub puts_done : (p : ℤ) (idkey : List ℕ) (old new : State) (r : Result ℕ Error) → ExecutesInside 0 rekey_text (Int p ∷ Blob idkey ∷ []) old new r → OnOk r (PutsKey old.step_limit p idkey old.now new.now)
puts_done p idkey old new (Ok count) ran = puts p idkey old new count ran.0
puts_done p idkey old new (Err e) ran = tt

-- ---- one key after the other

pub same_put : (l m : Option ℕ) (p q : ℤ) (k i : List ℕ) (a b : Database) → l ≡ m → p ≡ q → k ≡ i → PutsKey l p k a b → PutsKey m q i a b
same_put l m p q k i a b limit place key h = subst (λ x. PutsKey x q i a b) limit (subst₂ (λ x y. PutsKey l x y a b) place key h)

pub puts_on : (limit : Option ℕ) (keys : List NewKey) (i : ℕ) (k : NewKey) (a b c : Database) → i < length keys → k ≡ get_or keys i k → PutsKeys limit (take i keys) a b → PutsKey limit k.place k.idkey.items b c → PutsKeys limit (take (i + 1) keys) a c
puts_on limit [] i k a b c low is h put = absurd (omega (arith, low))
puts_on limit (x ∷ keys) zero k a b c low is h put = (c, subst₂ (λ (y : NewKey) d. PutsKey limit y.place y.idkey.items d c) is h put, refl)
puts_on limit (x ∷ keys) (suc i) k a b c low is h put =
    let e : suc i + 1 ≡ suc (i + 1) = omega arith in
    subst (λ n. PutsKeys limit (take n (x ∷ keys)) a c) (sym e) (h.0, h.1, puts_on limit keys i k h.0 b c (omega (arith, low)) is h.2 put)

-- the commit
pub puts_committed : (old last new : State) (keys : List NewKey) (r : Result (Unit {0}) Error) → HasCommitted old last → PutsKeys old.step_limit keys old.now last.now
    → OnOk r (IsTrue last.in_transaction × Sees last new last.now last.now false × KeepsCounts last new × (new.marks ≡ [])) → OnOk r (Sees old new new.now new.now false × PutsKeys old.step_limit keys old.now new.now)
puts_committed old last new keys (Err e) was h k = tt
puts_committed old last new keys (Ok u) was h k = (
  record { was_open = (was k.1.was_open).0; is_open = k.1.is_open; now_is = refl; committed_is = k.1.committed_is ∙ sym k.1.now_is; mode = k.1.mode },
  subst (λ d. PutsKeys old.step_limit keys old.now d) (sym k.1.now_is) h,
)

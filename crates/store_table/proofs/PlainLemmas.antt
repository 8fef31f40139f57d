-- A text that is a SELECT is plain under each schema.
use Rattle.std.proofs.Common.{◌≡◌, inl, inr, ℕ, ◌+◌, List, [], true, Option, None, Result, Ok, Err, IsSome, refl, sym, ap, subst, ◌∙◌}
use Rattle.std.proofs.lemmas.Bool.{cases_Bool}
use Rattle.sqlite_resolve.specs.Lowering.{and_then}
use Rattle.sqlite.specs.Clock.{timed as clocked}
use Rattle.sqlite.specs.Order.{Row}
use Rattle.sqlite.specs.Schema.{Schema}
use Rattle.sqlite.specs.Command.{Command}
use Rattle.sqlite.specs.Command.TheVariants.{Select, Rows}
use Rattle.sqlite_ast.specs.declared.Statement.{Statement}
use Rattle.sqlite_ast.specs.declared.Statement.TheVariants as written
use Rattle.sqlite_syntax.specs.declared.statement.Parsed.{Parsed}
use Rattle.sqlite_resolve.specs.declared.compiled.Compiled.{Compiled}
use Rattle.sqlite_resolve.specs.declared.error.CompileError.{CompileError}
use Rattle.sqlite_resolve.specs.Compile.{first, compiled, planned, meaning, returning, timed, command, with_command, small}
use Rattle.sqlite_tied.specs.Compute.{everything}
use Rattle.sqlite.specs.declared.error.Error.{Error}
use Rattle.sqlite.specs.declared.error.Error.TheVariants.{SqlInputError}
use Rattle.sqlite.specs.Effect.{Database, RefusesToRead}
use Rattle.sqlite.specs.Listing.{understood, reads_listing, if_select, is_select, listing_schema}
use Rattle.sqlite.specs.State.{State, Shown, ShowsRows, CommitsShowing, FailsToQuery, FailsToShow, IsNotRun, IsUnchanged, Survives, store_error}
use Rattle.sqlite.proofs.StateLemmas.{survives_weaker}
pub use Rattle.store_table.specs.Visit.{asks, AsksForRows}
use Rattle.store_table.proofs.StatementLemmas.{undone_keeps, unchanged_keeps}
use Rattle.store_table.specs.Open.{all_text, IsSettled, KeepsAll}

abbrev pub Bare : Compiled → Type 0
Bare c = (c.returning ≡ None) × (c.formats ≡ [])

timed_none : (schema : Schema) (formats : List (List ℕ)) (s : Statement) → asks s ≡ true → formats ≡ [] → timed schema formats s ≡ []
unfolding timed
timed_none schema formats (written.Select s) h k = k
timed_none schema formats _ h k = absurd (cc)

shows_none : (schema : Schema) (base : ℕ) (s : Statement) → asks s ≡ true → returning schema base s ≡ Ok None
unfolding returning
shows_none schema base (written.Select s) h = refl
shows_none schema base _ h = absurd (cc)

pub same_compiled : {a b : Compiled} → ◌≡◌ {A = Result Compiled CompileError} (Ok a) (Ok b) → a ≡ b
same_compiled e = cc

pub bare_if : (schema : Schema) (text : List ℕ) (f : Result Parsed CompileError) → first text ≡ f → AsksForRows f → (c : Compiled) → compiled schema text ≡ Ok c → Bare c
unfolding compiled planned meaning
bare_if schema text (Err e) is h c k = absurd h
bare_if schema text (Ok p) is h c k =
    let formats = timed_none schema p.formats p.statement h.0 h.1 in
    let none = shows_none schema (small p.names + small (timed schema p.formats p.statement)) p.statement h.0 in
    go (command schema p.formats (small p.names + small (timed schema p.formats p.statement)) p.statement) formats (rw (is, none) at k)
  where
    go : (x : Result Command CompileError) → timed schema p.formats p.statement ≡ []
        → and_then (and_then (and_then x (λ c. Ok (c, None))) (λ found. Ok (timed schema p.formats p.statement, found))) (λ plan. Ok (with_command p plan)) ≡ Ok c → Bare c
    go (Err e) f k = absurd (cc)
    go (Ok it) f k = let e = same_compiled k in subst Bare e (refl, f)

pub all_asks : AsksForRows (first all_text)
unfolding everything
all_asks = (refl, refl)

pub if_select_is : (x : Result Compiled CompileError) (c : Compiled) → if_select x ≡ Ok c → x ≡ Ok c
if_select_is (Err e) c h = absurd (cc)
if_select_is (Ok d) c h = elim (cases_Bool (is_select d.command)) [ inl hit ↦ rw hit at h | inr miss ↦ absurd (let e = rw miss at h in cc) ]

pub all_bare : (schema : Schema) (c : Compiled) → understood schema all_text ≡ Ok c → Bare c
unfolding understood
all_bare schema c h = elim (cases_Bool (reads_listing schema all_text)) [
  | inl hit ↦ bare_if listing_schema all_text (first all_text) refl all_asks c (if_select_is _ c (rw hit at h))
  | inr miss ↦ bare_if schema all_text (first all_text) refl all_asks c (rw miss at h)
]

-- so it changes nothing
pub listed_same : (old new : State) (rows : List Row) → Shown all_text [] old new rows → IsUnchanged old new
unfolding Shown
listed_same old new rows h = (subst (λ k. ShowsRows old new all_text h.0 (clocked [] h.0.formats h.1.now) rows k) (all_bare old.now.schema h.0 h.1.is).0 h.2).3

pub listing_leaves : (old new : State) → Survives old new (CommitsShowing all_text [] old) → Survives old new (λ _. ⊥)
unfolding CommitsShowing
listing_leaves old new = survives_weaker old new _ _ (λ _ db h. absurd (let e = subst IsSome (all_bare old.now.schema h.0 h.1.is).0 h.2 in cc))

no_input_read : (limit : Option ℕ) (command : Command) (db : Database) (params : Row) (f : CompileError) → RefusesToRead limit command db params (SqlInputError f) → ⊥
no_input_read limit (Select q names) db params f (inl h) = absurd (let e = h.0 in cc)
no_input_read limit (Select q names) db params f (inr (inl h)) = absurd (let e = h.0 in cc)
no_input_read limit (Select q names) db params f (inr (inr h)) = absurd (let e = h.0 in cc)
no_input_read limit (Rows values width names) db params f h = absurd (let e = h.0 in cc)
no_input_read limit _ db params f h = absurd (cc)

no_store_error : (k : Rattle.sqlite_trees.specs.declared.error.StoreError.StoreError) (f : CompileError) → SqlInputError f ≡ store_error k → ⊥
no_store_error Rattle.sqlite_trees.specs.declared.error.StoreError.TheVariants.OutOfMemory f h = cc
no_store_error Rattle.sqlite_trees.specs.declared.error.StoreError.TheVariants.Io f h = cc
no_store_error Rattle.sqlite_trees.specs.declared.error.StoreError.TheVariants.Corrupt f h = cc
no_store_error Rattle.sqlite_trees.specs.declared.error.StoreError.TheVariants.Full f h = cc
no_store_error Rattle.sqlite_trees.specs.declared.error.StoreError.TheVariants.Broken f h = cc
no_store_error Rattle.sqlite_trees.specs.declared.error.StoreError.TheVariants.Unstorable f h = cc

same_fault : {a b : CompileError} → SqlInputError a ≡ SqlInputError b → a ≡ b
same_fault e = cc

-- a text that the schema does not understand
pub not_understood : (old new : State) (f : CompileError) → FailsToQuery all_text [] old new (SqlInputError f) → (understood old.now.schema all_text ≡ Err f) × IsUnchanged old new
unfolding FailsToQuery IsNotRun
not_understood old new f (inl (inl (inl why, same))) = (why.1 ∙ ap Err (sym (same_fault why.2)), same)
not_understood old new f (inl (inl (inr why, same))) = absurd (elim why.2 [ inl a ↦ let e = a.1 in cc | inr b ↦ elim b [ inl x ↦ let e = x.1 in cc | inr y ↦ let e = y.1 in cc ] ])
not_understood old new f (inl (inr failed)) = absurd (no_store_error failed.0 f failed.1)
not_understood old new f (inr ran) =
    let it = subst (λ k. FailsToShow old new all_text ran.0 (clocked [] ran.0.formats ran.1.now) (SqlInputError f) k) (all_bare old.now.schema ran.0 ran.1.is).0 ran.2 in
    absurd (no_input_read _ ran.0.command it.0 _ f it.2)

-- nor does a refused one
pub unread_keeps : (old new : State) (e : Error) → FailsToQuery all_text [] old new e → IsSettled old → KeepsAll old new
unfolding FailsToQuery IsNotRun
unread_keeps old new e (inl (inl not_run)) h = unchanged_keeps old new not_run.1
unread_keeps old new e (inl (inr failed)) h = undone_keeps old new h failed.3
unread_keeps old new e (inr ran) h =
    unchanged_keeps old new (subst (λ k. FailsToShow old new all_text ran.0 (clocked [] ran.0.formats ran.1.now) e k) (all_bare old.now.schema ran.0 ran.1.is).0 ran.2).3

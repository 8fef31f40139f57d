-- What the CREATE TABLE does, whatever the database has.
use Rattle.std.proofs.Common.{◌≡◌, inl, inr, if◌then◌else◌, ◌+◌, ◌++◌, ◌∷◌, [], ℕ, List, Bool, true, false, not, ◌&&◌, ◌==◌, length, is_some, slice_range, append-nil, None, Ok, Err, Option, Result, OnOk, refl, sym, ap, subst, subst₂, ◌∙◌}
use Rattle.std.proofs.lemmas.Bool.{cases_Bool}
use Rattle.std.specs.List.{AllByRecursion}
use Rattle.sqlite_resolve.specs.Lowering.{and_then}
use Rattle.sqlite_ast.specs.declared.Statement.{Statement}
use Rattle.sqlite_ast.specs.declared.Statement.TheVariants as written
use Rattle.sqlite_syntax.specs.declared.statement.Parsed.{Parsed}
use Rattle.sqlite_resolve.specs.declared.compiled.Compiled.{Compiled}
use Rattle.sqlite_resolve.specs.declared.error.CompileError.{CompileError}
use Rattle.sqlite_resolve.specs.declared.error.CompileError.TheVariants.{Exists, Misuse, Unsupported}
use Rattle.sqlite_resolve.specs.Compile.{first, compiled, planned, meaning, returning, timed, command, with_command, small, create_table, creates, is_attached, is_reserved}
use Rattle.sqlite_resolve.specs.Define as define
use Rattle.sqlite_schema.specs.Names.{table_named, view_named, index_named}
use Rattle.std.specs.Option.{option_or}
use Rattle.sqlite_tied.specs.Compute.{everything}
use Rattle.sqlite.specs.Tree.{Trees}
use Rattle.sqlite.specs.Table.{Table}
use Rattle.sqlite.specs.Schema.{Schema}
use Rattle.sqlite.specs.Command.{Command}
use Rattle.sqlite.specs.Command.TheVariants.{CreateTable, Nothing}
use Rattle.sqlite_catalog.specs.Change.{created, next_tree, KeepsRows}
use Rattle.sqlite.specs.Clock.{timed as clocked}
use Rattle.sqlite.specs.Does.{Tally, Does, lacks_sequence, MakesSequence}
use Rattle.sqlite.specs.Effect.{Database, IsDatabase, SparesFrozen}
use Rattle.sqlite.specs.declared.run.Mode.{Mode}
use Rattle.sqlite.specs.declared.error.Error.{Error}
use Rattle.sqlite.specs.Listing.{understood, reads_listing, listing_schema}
use Rattle.sqlite.specs.State.{State, mode_of, text_of, shows_rows, Executes, ExecutesIn, CommitsBy, MayCommit, Runs, Writes, Shows as Sees}
use Rattle.store_table.specs.Schema.{documents}
use Rattle.store_table.specs.Beside.{AddsCounts, AddsTable, StandsBeside, AreBeside}
use Rattle.store_table.proofs.InsertLemmas.{went, same_value}
use Rattle.store_table.proofs.PlainLemmas.{if_select_is, same_compiled}
use Rattle.store_table.proofs.TextLemmas.{create_text, create_defines}

-- ---- what the text means

-- a CREATE TABLE without IF NOT EXISTS
abbrev makes : Statement → Bool
makes (written.CreateTable def) = not def.if_missing
makes _ = false

abbrev MakesOne : List ℕ → Result Parsed CompileError → Type 0
MakesOne text (Ok p) = (makes p.statement ≡ true) × (slice_range text p.start p.end ≡ text)
MakesOne text (Err e) = ⊥

create_makes : MakesOne create_text (first create_text)
unfolding everything
create_makes = (refl, refl)

abbrev IsCreating : List ℕ → Compiled → Type 0
IsCreating text c = (c.command ≡ CreateTable) × (c.returning ≡ None) × (c.formats ≡ []) × (text_of text c ≡ text)

-- a name that is taken isn't passed over
spared : (reserved other same missing : Bool) → missing ≡ false → (if reserved then Err Misuse else (if other then Err Exists else (if same then (if missing then Ok false else Err Exists) else Ok true))) ≡ Ok false → ⊥
spared true other same missing none h = cc
spared false true same missing none h = cc
spared false false true true none h = cc
spared false false true false none h = cc
spared false false false missing none h = cc

settles : (attached : Bool) (x : Result Bool CompileError) → (x ≡ Ok false → ⊥) → (t : Result Table CompileError) (fits : Table → Bool) (k : Command)
    → (if attached then Err Unsupported else and_then x (λ is_new. if is_new then and_then t (λ table. if fits table then Ok CreateTable else Err Unsupported) else Ok Nothing)) ≡ Ok k → k ≡ CreateTable
settles true x none t fits k h = cc
settles false (Err e) none t fits k h = cc
settles false (Ok false) none t fits k h = absurd (none refl)
settles false (Ok true) none (Err e) fits k h = cc
settles false (Ok true) none (Ok table) fits k h = by (fits table) h
  where
    by : (b : Bool) → (if b then Ok CreateTable else Err Unsupported) ≡ Ok k → k ≡ CreateTable
    by true e = cc
    by false e = cc

command_made : (schema : Schema) (formats : List (List ℕ)) (base : ℕ) (s : Statement) → makes s ≡ true → (k : Command) → command schema formats base s ≡ Ok k → k ≡ CreateTable
unfolding command create_table creates
command_made schema formats base (written.CreateTable def) h k is =
    let same = option_or (table_named schema def.name) (view_named schema def.name) in
    let other = index_named schema def.name in
    settles (is_attached schema def.name) (creates def.if_missing def.name same other) (λ none. spared (is_reserved def.name) (is_some other) (is_some same) def.if_missing (not_so def.if_missing h) none) (define.table formats def)
    (λ (t : Table). length t.computed == length t.stamps.places && not def.resolves) k is
  where
    not_so : (b : Bool) → not b ≡ true → b ≡ false
    not_so true e = cc
    not_so false e = refl
command_made schema formats base _ h k is = absurd (cc)

timed_none : (schema : Schema) (formats : List (List ℕ)) (s : Statement) → makes s ≡ true → timed schema formats s ≡ []
unfolding timed
timed_none schema formats (written.CreateTable def) h = refl
timed_none schema formats _ h = absurd (cc)

shows_none : (schema : Schema) (base : ℕ) (s : Statement) → makes s ≡ true → returning schema base s ≡ Ok None
unfolding returning
shows_none schema base (written.CreateTable def) h = refl
shows_none schema base _ h = absurd (cc)

made_if : (schema : Schema) (text : List ℕ) (f : Result Parsed CompileError) → first text ≡ f → MakesOne text f → (c : Compiled) → compiled schema text ≡ Ok c → IsCreating text c
unfolding compiled planned meaning
made_if schema text (Err e) is h c k = absurd h
made_if schema text (Ok p) is h c k =
    let base = small p.names + small (timed schema p.formats p.statement) in
    let none = shows_none schema base p.statement h.0 in
    go (command schema p.formats base p.statement) (λ it made. command_made schema p.formats base p.statement h.0 it made) (timed_none schema p.formats p.statement h.0) (rw (is, none) at k)
  where
    go : (x : Result Command CompileError) → ((it : Command) → x ≡ Ok it → it ≡ CreateTable) → timed schema p.formats p.statement ≡ []
        → and_then (and_then (and_then x (λ c. Ok (c, None))) (λ found. Ok (timed schema p.formats p.statement, found))) (λ plan. Ok (with_command p plan)) ≡ Ok c → IsCreating text c
    go (Err e) makes f k = absurd (cc)
    go (Ok it) makes f k = let e = same_compiled k in subst (IsCreating text) e (makes it refl, refl, f, h.1)

create_understood : (schema : Schema) (c : Compiled) → understood schema create_text ≡ Ok c → IsCreating create_text c
unfolding understood
create_understood schema c h = elim (cases_Bool (reads_listing schema create_text)) [
  | inl hit ↦ made_if listing_schema create_text (first create_text) refl create_makes c (if_select_is _ c (rw hit at h))
  | inr miss ↦ made_if schema create_text (first create_text) refl create_makes c (rw miss at h)
]

-- ---- what it does

kept_front : {X : Type 0} (P : X → Type 0) (xs ys : List X) → AllByRecursion P (xs ++ ys) → AllByRecursion P xs × AllByRecursion P ys
kept_front P [] ys h = (tt, h)
kept_front P (x ∷ xs) ys h = let rest = kept_front P xs ys h.1 in ((h.0, rest.0), rest.1)

kept_then : (tables : List Table) (a b c : Trees) → KeepsRows tables a b → KeepsRows tables b c → KeepsRows tables a c
kept_then [] a b c h k = tt
kept_then (t ∷ tables) a b c h k = (k.0 ∙ h.0, kept_then tables a b c h.1 k.1)

-- the table, and that of the counts after it
adds_counts : (old mid new : Database) → mid.schema ≡ created old.schema documents → mid.trees (next_tree old.schema) ≡ [] → KeepsRows old.schema.tables old.trees mid.trees
    → MakesSequence mid (Ok new) → AddsCounts mid.schema new.schema × (new.trees (next_tree old.schema) ≡ []) × KeepsRows old.schema.tables old.trees new.trees
adds_counts old mid new is empty rows h = elim (cases_Bool (lacks_sequence mid.schema)) [
  | inl lacks ↦
      let made = rw lacks at h in
      let others = kept_front _ old.schema.tables _ (subst (λ (s : Schema). KeepsRows s.tables mid.trees new.trees) is made.others) in
      (rw lacks (made.table, made.defined, made.is), others.1.0 ∙ empty, kept_then old.schema.tables old.trees mid.trees new.trees rows others.0)
  | inr has ↦
      let same : new ≡ mid = same_value (rw has at h) in
      (rw has (ap (λ (d : Database). d.schema) same), ap (λ (d : Database). d.trees (next_tree old.schema)) same ∙ empty, subst (λ (d : Database). KeepsRows old.schema.tables old.trees d.trees) (sym same) rows)
]

adds_table : (limit : Option ℕ) (mode : Mode) (db : Database) (tally : Tally) (after : Database) → Does limit mode [] db create_text None CreateTable (Ok (tally, after)) → IsDatabase after → SparesFrozen db after → AddsTable db after
adds_table limit mode db tally after h sound rest =
    let all = went h in
    let first = went all.1 in
    let made = first.1 in
    let both : Ok made.table ≡ Ok documents = sym made.defined ∙ create_defines in
    let same : made.table ≡ documents = cc in
    let schema : first.0.schema ≡ created db.schema documents = made.is ∙ ap (created db.schema) same in
    let now : after ≡ all.0 = ap (λ (p : Tally × Database). p.1) (same_value all.2) in
    let counts = adds_counts db first.0 all.0 schema made.empty made.others first.2 in
    record {
      schema = subst (λ (d : Database). AddsCounts (created db.schema documents) d.schema) (sym now) (subst (λ (s : Schema). AddsCounts s all.0.schema) schema counts.0);
      empty = ap (λ (d : Database). d.trees (next_tree db.schema)) now ∙ counts.1;
      rows = subst (λ (d : Database). KeepsRows db.schema.tables db.trees d.trees) (sym now) counts.2;
      sound = sound;
      rest = rest;
    }

module _ (old new : State) (auto : old.in_transaction ≡ false) where
  creates_beside : (count : ℕ) → Executes create_text [] old new (Ok count) → StandsBeside old new
  unfolding ExecutesIn
  creates_beside count h =
      let it = create_understood old.now.schema h.0 h.1.is in
      let ran : Runs old new h.0.returning h.0.command (text_of create_text h.0) (clocked [] h.0.formats h.1.now) count = elim (cases_Bool (shows_rows false h.0)) [
        | inl shows ↦ absurd (let e = (rw shows at h.2).0 in cc)
        | inr runs ↦ rw runs at h.2
      ] in
      let w : Writes old new None CreateTable create_text [] count = subst₂ (λ k t. Runs old new None k t [] count) it.0 it.3 (rw (it.1, it.2, append-nil []) at ran) in
      (subst (λ (b : Bool). Sees old new new.now (if b then old.committed else new.now) b) auto w.shown, adds_table old.step_limit (mode_of old) old.now w.tally new.now w.changed w.sound w.frozen)

  pub create_beside : (r : Result ℕ Error) → Executes create_text [] old new r → OnOk r (StandsBeside old new)
  create_beside (Err e) ran = tt
  create_beside (Ok count) ran = creates_beside count ran

pub beside_commits : (old : State) (db : Trees) → CommitsBy create_text [] old db → AreBeside old.now db
unfolding CommitsBy
beside_commits old db h =
    let it = create_understood old.now.schema h.0 h.1.is in
    let may : MayCommit old None h.0.command (text_of create_text h.0) [] db = rw (it.1, it.2, append-nil []) at h.2 in
    elim (subst₂ (λ k t. MayCommit old None k t [] db) it.0 it.3 may) [
      | inl ends ↦ absurd (elim ends.0 [ inl c ↦ let e = c in cc | inr r ↦ let e = r.2 in cc ])
      | inr made ↦ (made.2, adds_table old.step_limit (mode_of old) old.now made.1 made.2 made.3 made.4 made.6, made.5)
    ]

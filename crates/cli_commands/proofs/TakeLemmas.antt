-- Imports and loads as commands of the program.
use Rattle.std.proofs.Common.{◌≡◌, inl, inr, ℕ, List, [], Option, None, Result, Ok, Err, refl, sym, subst}
use Rattle.sqlite.specs.State.{State as Connected}
use Rattle.bson_base.specs.Device.{Feed, TookAll}
use Rattle.store_table.specs.Rows.{TableRow}
use Rattle.store_table.specs.Moves.{Moves}
use Rattle.store_model.specs.Reading.{Documents, ReadsStream}
use Rattle.store_model.specs.State.{import, Command, on, number, refused, IsName}
use Rattle.store_model.specs.Table.{DocumentTable}
use Rattle.store_model.specs.declared.error.ErrorKind.{ErrorKind}
use Rattle.store_model.specs.declared.error.ErrorKind.TheVariants as kind
use Rattle.bson_store.specs.Shown.{Represents}
use Rattle.bson_store.specs.Many.{DoesMany, ImportRefused, Imports, TakesStream}
use Rattle.bson_store.specs.Refusals.{reply_by, as_number}
use Rattle.store_model.specs.Refusal.{refusal}
use Rattle.store_model.specs.declared.error.StoreError.{StoreError}
use Rattle.bson_store.proofs.MoveLemmas.{moved, rests}
use Rattle.bson_store.proofs.ServeLemmas.{bad_name}
use Rattle.cli_commands.specs.declared.lines.UsageError.{UsageError}
use Rattle.cli_commands.specs.declared.lines.UsageError.TheVariants as complaints
use Rattle.cli_commands.specs.Answers.{answer_by}
use Rattle.cli_commands.specs.Answers as answers
use Rattle.cli_commands.specs.declared.call.Call.TheVariants.{Load}
use Rattle.cli_commands.specs.Commands.{AsksFor, Complains, HasBadLine, IsOfStream}
use Rattle.cli_commands.specs.Execute.{Accepts, Comes, IsFault, IsUnasked, Performs, IsRefusedBy}
use Rattle.cli_commands.specs.Loading.{StopsLines}
use Rattle.cli_commands.specs.declared.answer.Answer.{Answer}
use Rattle.cli_commands.specs.declared.stop.Failure.{Failure}
use Rattle.cli_commands.specs.declared.stop.Failure.TheVariants.{Refused, Words}
use Rattle.cli_commands.proofs.AcceptLemmas.{refused_same, served_same}

-- the words mean every import that is read so
abbrev pub Allows : (Command → Type 0) → List ℕ → (Documents → Option ErrorKind → Type 0) → Type 0
Allows Meant n Reads = (ds : Documents) (stop : Option ErrorKind) → Reads ds stop → Meant (on n (import ds stop))

many_taken : (Meant : Command → Type 0) (n : List ℕ) (Reads : Documents → Option ErrorKind → Type 0) (i : ℕ) (docs after : List TableRow) → Allows Meant n Reads → DoesMany n Reads (number i) docs after → Comes (Accepts Meant (λ r. r ≡ number i)) docs after
many_taken Meant n Reads i docs after allows (ds, stop, reads, does) a shown = let y = does a shown in (y.0, y.1, (on n (import ds stop), allows ds stop reads, number i, refl, (λ no. no), y.2))

-- what a refused command leaves
abbrev Refuse : (Command → Type 0) → StoreError → DocumentTable → DocumentTable → Type 0
Refuse Meant e a b = (b ≡ a) × IsRefusedBy Meant e a

many_refused : (Meant : Command → Type 0) (n : List ℕ) (Reads : Documents → Option ErrorKind → Type 0) (e : StoreError) (docs after : List TableRow) → Allows Meant n Reads → DoesMany n Reads (refused e.kind e.document) docs after → Comes (Refuse Meant e) docs after
many_refused Meant n Reads e docs after allows (ds, stop, reads, does) a shown = let y = does a shown in (y.0, y.1, refused_same Meant e a y.0 (on n (import ds stop)) (allows ds stop reads) y.2)

module _ (s t : Connected) (n : List ℕ) (fed left : Feed) where
  abbrev Loads : Result Answer Failure → List TableRow → List TableRow → Type 0
  Loads = Performs (AsksFor Load n [] fed left) (IsUnasked Load n [] fed left) (Complains Load [] fed left)

  unfed : (e : StoreError) → IsFault kind.Reader fed.failures left.failures e → Moves s s (Loads (Err (Refused e)))
  unfed e why = rests s (Loads (Err (Refused e))) (λ docs a shown. (a, shown, (refl, inr (refl, why))))

  unworded : (i : ℕ) → HasBadLine fed left i → Moves s s (Loads (Err (Words (complaints.Line i))))
  unworded i bad = rests s (Loads (Err (Words (complaints.Line i)))) (λ docs a shown. (a, shown, (refl, (refl, bad))))

  -- the lines of the input weren't read
  pub unlined : (stop : Failure) → StopsLines fed left stop → Moves s s (Loads (Err stop))
  unlined (Words (complaints.Line i)) h = unworded i h
  unlined (Words complaints.Usage) h = absurd h
  unlined (Words complaints.Json) h = absurd h
  unlined (Words complaints.Id) h = absurd h
  unlined (Words complaints.Filter) h = absurd h
  unlined (Refused e) h = unfed e h

  loaded : (Reads : Documents → Option ErrorKind → Type 0) (outcome : Result ℕ StoreError) → Allows (AsksFor Load n [] fed left) n Reads
      → Moves s t (DoesMany n Reads (reply_by as_number outcome)) → Moves s t (Loads (answer_by answers.number_answer outcome))
  loaded Reads (Ok i) allows m = moved s t (DoesMany n Reads (number i)) (Loads (Ok (answers.number_answer i))) m (λ docs after h. many_taken (AsksFor Load n [] fed left) n Reads i docs after allows h)
  loaded Reads (Err e) allows m = moved s t (DoesMany n Reads (refused e.kind e.document)) (Loads (Err (Refused e))) m
      (λ docs after h a shown. let y = many_refused (AsksFor Load n [] fed left) n Reads e docs after allows h a shown in (y.0, y.1, (y.2.0, inl y.2.1)))

  pub load_performs : (Reads : Documents → Option ErrorKind → Type 0) (outcome : Result ℕ StoreError) (result : Result Answer Failure) → Allows (AsksFor Load n [] fed left) n Reads
      → result ≡ answer_by answers.number_answer outcome → Moves s t (DoesMany n Reads (reply_by as_number outcome)) → Moves s t (Loads result)
  load_performs Reads outcome result allows is m = subst (λ p. Moves s t (Loads p)) (sym is) (loaded Reads outcome allows m)

-- no bytes read as no document
nothing_read : ReadsStream [] [] None
nothing_read = ([], None, refl, refl)

module _ (s t : Connected) (n : List ℕ) (fed left : Feed) where
  -- why an import wasn't asked of the store
  abbrev pub IsUnfed : StoreError → Type 0
  IsUnfed e = IsName n × IsFault kind.Reader fed.failures left.failures e

  -- no text of an import is read
  abbrev pub NoText : UsageError → Type 0
  NoText w = ⊥

  allowed : (bytes : List ℕ) → IsName n → TookAll fed left bytes → Allows (IsOfStream n fed left) n (ReadsStream bytes)
  allowed bytes good took ds stop reads = (bytes, ds, stop, inl (good, took), reads, refl)

  abbrev Ends : StoreError → List TableRow → List TableRow → Type 0
  Ends e = Performs (IsOfStream n fed left) IsUnfed NoText (Err (Refused e))

  unnamed : (docs after : List TableRow) → (IsName n → ⊥) → left ≡ fed → after ≡ docs → Ends (refusal kind.BadName) docs after
  unnamed docs after bad same rows a shown =
      let c = on n (import [] None) in
      (a, subst (λ d. Represents d a) (sym rows) shown, (refl, inl (c, ([], [], None, inr (bad, same), nothing_read, refl), served_same docs a c kind.BadName None (bad_name docs n (import [] None) bad a shown))))

  starved : (docs after : List TableRow) (e : StoreError) → IsUnfed e → after ≡ docs → Ends e docs after
  starved docs after e why rows a shown = (a, subst (λ d. Represents d a) (sym rows) shown, (refl, inr why))

  refused_here : (docs after : List TableRow) (k : ErrorKind) (i : Option ℕ) → TakesStream n fed left (refused k i) docs after → Ends (record { kind = k; document = i }) docs after
  refused_here docs after k i (good, (bytes, took, many)) a shown =
      let e : StoreError = record { kind = k; document = i } in
      let y = many_refused (IsOfStream n fed left) n (ReadsStream bytes) e docs after (allowed bytes good took) many a shown in
      (y.0, y.1, (y.2.0, inl y.2.1))

  at_none : (k : ErrorKind) (i : Option ℕ) (docs after : List TableRow) → i ≡ None → Ends (refusal k) docs after → Ends (record { kind = k; document = i }) docs after
  at_none k i docs after none h = subst (λ (j : Option ℕ). Ends (record { kind = k; document = j }) docs after) (sym none) h

  import_refused : (k : ErrorKind) (i : Option ℕ) (docs after : List TableRow) → ImportRefused n fed left k i docs after → Ends (record { kind = k; document = i }) docs after
  import_refused kind.BadName i docs after h = at_none kind.BadName i docs after h.1 (unnamed docs after h.0 h.2 h.3)
  import_refused kind.Reader i docs after h = at_none kind.Reader i docs after h.1 (starved docs after (refusal kind.Reader) (h.0, inl (refl, h.2)) h.3)
  import_refused kind.Memory i docs after h = at_none kind.Memory i docs after h.1 (starved docs after (refusal kind.Memory) (h.0, inr (refl, h.2.1.0)) h.3)
  import_refused k i docs after h = refused_here docs after k i h

  imported : (outcome : Result ℕ StoreError) → Moves s t (Imports n fed left outcome) → Moves s t (Performs (IsOfStream n fed left) IsUnfed NoText (answer_by answers.number_answer outcome))
  imported (Ok i) m = moved s t (Imports n fed left (Ok i)) (Performs (IsOfStream n fed left) IsUnfed NoText (Ok (answers.number_answer i))) m
      (λ docs after h. many_taken (IsOfStream n fed left) n (ReadsStream h.1.0) i docs after (allowed h.1.0 h.0 h.1.1) h.1.2)
  imported (Err e) m = moved s t (Imports n fed left (Err e)) (Ends e) m (λ docs after h. import_refused e.kind e.document docs after h)

  pub import_performs : (outcome : Result ℕ StoreError) (result : Result Answer Failure) → result ≡ answer_by answers.number_answer outcome
      → Moves s t (Imports n fed left outcome) → Moves s t (Performs (IsOfStream n fed left) IsUnfed NoText result)
  import_performs outcome result is m = subst (λ p. Moves s t (Performs (IsOfStream n fed left) IsUnfed NoText p)) (sym is) (imported outcome m)

-- Exports and dumps as commands of the program, which print for themselves.
use Rattle.std.proofs.Common.{◌≡◌, ◌⊎◌, inl, inr, ℕ, List, [], Bool, false, Option, None, Result, Ok, Err, refl, sym, ap, ◌∙◌, subst}
use Rattle.std.specs.List.{flat_map}
use Rattle.std.specs.Io.KnownBytes.{Appends}
use Rattle.sqlite.specs.State.{State as Connected}
use Rattle.serde_json.specs.Data.{Data}
use Rattle.bson_base.specs.Device.{Feed, Tally}
use Rattle.bson_bytes.specs.Encode.{encode}
use Rattle.store_table.specs.Rows.{TableRow}
use Rattle.store_table.specs.Moves.{Moves}
use Rattle.store_table.specs.declared.fault.Fault.TheVariants as faults
use Rattle.store_model.specs.State.{export, dump, on, bytes, json_list, refused, trees_of, trees_reply, IsName}
use Rattle.store_model.specs.Table.{DocumentTable, state_of, documents_of, Serves}
use Rattle.store_model.specs.declared.error.ErrorKind.{ErrorKind}
use Rattle.store_model.specs.declared.error.ErrorKind.TheVariants as kind
use Rattle.store_model.proofs.RowLemmas.{list_of-state_of}
use Rattle.store_model.specs.Reading.{Documents}
use Rattle.bson_store.specs.Dump.{ChecksTrees, HandsTrees, Stops}
use Rattle.bson_store.specs.Export.{ExportRefused, SendsCollection}
use Rattle.bson_store.specs.Refusals.{IsDenied}
use Rattle.store_model.specs.Refusal.{refusal}
use Rattle.bson_store.specs.Shown.{Represents}
use Rattle.store_model.specs.declared.error.StoreError.{StoreError}
use Rattle.bson_store.proofs.MoveLemmas.{moved, moved_twice}
use Rattle.bson_store.proofs.ServeLemmas.{bad_name, denied, memory_other, stay, undecided}
use Rattle.cli_commands.specs.declared.call.Call.TheVariants as words
use Rattle.cli_commands.specs.Execute.{Comes, IsFault}
use Rattle.cli_commands.specs.Printing.{Prints}
use Rattle.cli_commands.specs.declared.stop.Failure.{Failure}
use Rattle.cli_commands.specs.declared.stop.Failure.TheVariants.{Refused}
use Rattle.cli_commands.proofs.AcceptLemmas.{served_same}
use Rattle.cli_commands.proofs.FailureLemmas.{no_fault, fault, misprinted, other_fault}
use Rattle.cli_commands.proofs.EndLemmas.{Did}
use Rattle.cli_commands.proofs.KindLemmas.{no_device}

module _ (n : List ℕ) (f : Feed) (old new : Tally) where
  -- ---- exports

  abbrev Sent : Result (Unit {0}) Failure → DocumentTable → DocumentTable → Type 0
  Sent outcome = Did words.Export n [] f f old new outcome

  went : (docs : List TableRow) (a : DocumentTable) → IsName n → Represents docs a → Serves a (on n export) (bytes (flat_map encode (documents_of a n))) a
  went docs a good shown = stay a n export (bytes (flat_map encode (documents_of a n))) good (refl, refl)

  unsent : (docs : List TableRow) (k : ErrorKind) (i : Option ℕ) (a : DocumentTable) → Represents docs a → i ≡ None → ExportRefused (state_of a) n old new k → Sent (Err (Refused (record { kind = k; document = i }))) a a
  unsent docs kind.BadName i a shown none h =
      let e : StoreError = record { kind = kind.BadName; document = i } in
      let serves = subst (λ (j : Option ℕ). Serves a (on n export) (refused kind.BadName j) a) (sym none) (served_same docs a (on n export) kind.BadName None (bad_name docs n export h.0 a shown)) in
      record { ended = inl (refl, inl (on n export, (refl, refl), serves)); reader = no_fault kind.Reader e f.failures f.failures tt (λ x. x) refl; writer = no_fault kind.Writer e old.failures new.failures tt (λ x. x) (ap (λ (t : Tally). t.failures) h.1); sent = (none, h) }
  unsent docs kind.Memory i a shown none h =
      let e : StoreError = record { kind = kind.Memory; document = i } in
      let serves = subst (λ (j : Option ℕ). Serves a (on n export) (refused kind.Memory j) a) (sym none) (served_same docs a (on n export) kind.Memory None (denied docs (on n export) faults.Memory memory_other (undecided n export h.0 (λ x. x)) a shown)) in
      record { ended = inl (refl, inl (on n export, (refl, refl), serves)); reader = no_fault kind.Reader e f.failures f.failures tt (λ x. x) refl; writer = no_fault kind.Writer e old.failures new.failures tt (λ x. x) h.1.0; sent = (none, h) }
  unsent docs kind.Database i a shown none h =
      let e : StoreError = record { kind = kind.Database; document = i } in
      let serves = subst (λ (j : Option ℕ). Serves a (on n export) (refused kind.Database j) a) (sym none) (served_same docs a (on n export) kind.Database None (denied docs (on n export) faults.Database (λ x. cc) (undecided n export h.0 (λ x. x)) a shown)) in
      record { ended = inl (refl, inl (on n export, (refl, refl), serves)); reader = no_fault kind.Reader e f.failures f.failures tt (λ x. x) refl; writer = no_fault kind.Writer e old.failures new.failures tt (λ x. x) h.1.0; sent = (none, h) }
  unsent docs kind.Writer i a shown none h =
      let e : StoreError = record { kind = kind.Writer; document = i } in
      let why : IsFault kind.Writer old.failures new.failures e = inl (ap (λ (j : Option ℕ). record { kind = kind.Writer; document = j }) none, h.1.0) in
      record { ended = inr (misprinted old.failures new.failures e a why, (on n export, (refl, refl), bytes (flat_map encode (documents_of a n)), tt, (λ no. no), went docs a h.0 shown)); reader = other_fault kind.Writer kind.Reader e old.failures new.failures f.failures f.failures tt (λ x. cc) why refl; writer = fault kind.Writer e old.failures new.failures tt why; sent = (none, h) }
  unsent docs _ i a shown none h = absurd h.1

  pub sent_all : (s t : Connected) → Moves s t (SendsCollection n old new (Ok tt)) → Moves s t (Comes (Sent (Ok tt)))
  sent_all s t m = moved s t (SendsCollection n old new (Ok tt)) (Comes (Sent (Ok tt))) m (λ docs after h a shown.
      let x = h.exports a shown in (
        a,
        subst (λ d. Represents d a) (sym h.same) shown,
        record { ended = (on n export, (refl, refl), bytes (flat_map encode (documents_of a n)), (x.1.0, (flat_map encode (documents_of a n), refl, subst (λ (ds : Documents). Appends old.taken new.taken (flat_map encode ds)) (list_of-state_of a n) x.1.1)), (λ no. no), went docs a x.0 shown); reader = refl; writer = x.1.0; sent = x },
      ))

  pub not_sent : (s t : Connected) (e : StoreError) → Moves s t (SendsCollection n old new (Err e)) → Moves s t (Comes (Sent (Err (Refused e))))
  not_sent s t e m = moved s t (SendsCollection n old new (Err e)) (Comes (Sent (Err (Refused e)))) m (λ docs after h a shown.
      let x = h.exports a shown in (a, subst (λ d. Represents d a) (sym h.same) shown, unsent docs e.kind e.document a shown x.0 x.1))

  -- ---- dumps

  abbrev Dumped : Result (Unit {0}) Failure → DocumentTable → DocumentTable → Type 0
  Dumped outcome = Did words.Dump n [] f f old new outcome

  -- the store refuses the trees, and no write failed
  undumped : (e : StoreError) (a : DocumentTable) → new.failures ≡ old.failures → Serves a (on n dump) (refused e.kind e.document) a → Dumped (Err (Refused e)) a a
  undumped e a same serves =
      let none = no_device a a (on n dump) e.kind e.document tt serves in
      record { ended = inl (refl, inl (on n dump, (refl, refl), serves)); reader = no_fault kind.Reader e f.failures f.failures tt none refl; writer = no_fault kind.Writer e old.failures new.failures tt none same; sent = tt }

  bad_dump : (docs : List TableRow) (e : StoreError) (a : DocumentTable) → Represents docs a → (IsName n → ⊥) → e ≡ refusal kind.BadName → Serves a (on n dump) (refused e.kind e.document) a
  bad_dump docs e a shown bad is = rw is (served_same docs a (on n dump) kind.BadName None (bad_name docs n dump bad a shown))

  denied_dump : (docs : List TableRow) (e : StoreError) (a : DocumentTable) → Represents docs a → IsName n → IsDenied e → Serves a (on n dump) (refused e.kind e.document) a
  denied_dump docs e a shown good (faults.Memory, other, is) = rw is (served_same docs a (on n dump) kind.Memory None (denied docs (on n dump) faults.Memory other (undecided n dump good (λ x. x)) a shown))
  denied_dump docs e a shown good (faults.Database, other, is) = rw is (served_same docs a (on n dump) kind.Database None (denied docs (on n dump) faults.Database other (undecided n dump good (λ x. x)) a shown))
  denied_dump docs e a shown good (faults.Places, other, is) = absurd (other refl)

  without_tree : (docs : List TableRow) (e : StoreError) (a : DocumentTable) → IsName n → trees_reply (trees_of 0 (documents_of a n)) ≡ refused e.kind e.document → Serves a (on n dump) (refused e.kind e.document) a
  without_tree docs e a good h = stay a n dump (refused e.kind e.document) good (sym h, refl)

  -- the first pass was refused
  pub unchecked : (s t : Connected) (e : StoreError) → new.failures ≡ old.failures → Moves s t (ChecksTrees n (Err e)) → Moves s t (Comes (Dumped (Err (Refused e))))
  unchecked s t e same m = moved s t (ChecksTrees n (Err e)) (Comes (Dumped (Err (Refused e)))) m (λ docs after h a shown.
      (a, subst (λ d. Represents d a) (sym h.same) shown, by docs a shown (h.checked a shown)))
    where
      by : (docs : List TableRow) (a : DocumentTable) → Represents docs a → ((IsName n → ⊥) × (e ≡ refusal kind.BadName)) ⊎ (IsName n × (IsDenied e ⊎ (trees_reply (trees_of 0 (documents_of a n)) ≡ refused e.kind e.document))) → Dumped (Err (Refused e)) a a
      by docs a shown (inl (bad, is)) = undumped e a same (bad_dump docs e a shown bad is)
      by docs a shown (inr (good, inl d)) = undumped e a same (denied_dump docs e a shown good d)
      by docs a shown (inr (good, inr h)) = undumped e a same (without_tree docs e a good h)

  module _ {U N : Type 0} (s t u : Connected) (name : U → N) (failed : U → Bool) (tally : U → Tally) (first : N) where
    -- what the printer took: its output is the one that it had, and no write failed
    abbrev Printed : U → List Data → Type 0
    Printed y js = (first ≡ name y) × (failed y ≡ false) × Prints (json_list js) old (tally y)

    -- or one did
    abbrev Stopped : U → List Data → StoreError → Type 0
    Stopped y js e = (first ≡ name y) × IsFault kind.Writer old.failures (tally y).failures e

    -- all trees were printed
    pub dumped : (y : U) → Moves s t (ChecksTrees n (Ok tt)) → Moves t u (HandsTrees Printed Stopped n (Ok y)) → (first ≡ name y → new ≡ tally y) → Moves s u (Comes (Dumped (Ok tt)))
    dumped y m k back = moved_twice s t u (ChecksTrees n (Ok tt)) (HandsTrees Printed Stopped n (Ok y)) (Comes (Dumped (Ok tt))) m k (λ docs mid after h l a shown.
        let here : Represents mid a = subst (λ d. Represents d a) (sym h.same) shown in
        let r = l.handed a here in (
          a,
          subst (λ d. Represents d a) (sym l.same) here,
          record { ended = (on n dump, (refl, refl), json_list r.1.0, subst (Prints (json_list r.1.0) old) (sym (back r.1.2.0)) r.1.2.2, (λ no. no), stay a n dump (json_list r.1.0) r.0 (sym (ap trees_reply r.1.1), refl)); reader = refl; writer = ap (λ (t : Tally). t.failures) (back r.1.2.0) ∙ r.1.2.2.0; sent = tt },
        ))

    -- not all were
    pub not_dumped : (y : U) (e : StoreError) → Moves s t (ChecksTrees n (Ok tt)) → Moves t u (HandsTrees Printed Stopped n (Err (e, y))) → (first ≡ name y → new ≡ tally y) → Moves s u (Comes (Dumped (Err (Refused e))))
    not_dumped y e m k back = moved_twice s t u (ChecksTrees n (Ok tt)) (HandsTrees Printed Stopped n (Err (e, y))) (Comes (Dumped (Err (Refused e)))) m k (λ docs mid after h l a shown.
        let here : Represents mid a = subst (λ d. Represents d a) (sym h.same) shown in
        let r = h.checked a shown in
        (a, subst (λ d. Represents d a) (sym l.same) here, by mid a here r.0 r.1 (l.handed a here)))
      where
        by : (docs : List TableRow) (a : DocumentTable) → Represents docs a → IsName n → (js : List Data) × (trees_of 0 (documents_of a n) ≡ Ok js) → ((IsName n → ⊥) × (e ≡ refusal kind.BadName) × Printed y []) ⊎ (IsName n × Stops (Printed y) (Stopped y) (documents_of a n) e) → Dumped (Err (Refused e)) a a
        by docs a shown good all (inl (bad, is, none)) = absurd (bad good)
        by docs a shown good all (inr (named, (js, are, inl (same, why)))) =
            let fails : IsFault kind.Writer old.failures new.failures e = subst (λ (t : Tally). IsFault kind.Writer old.failures t.failures e) (sym (back same)) why in
            record { ended = inr (misprinted old.failures new.failures e a fails, (on n dump, (refl, refl), json_list all.0, tt, (λ no. no), stay a n dump (json_list all.0) good (sym (ap trees_reply all.1), refl))); reader = other_fault kind.Writer kind.Reader e old.failures new.failures f.failures f.failures tt (λ z. cc) fails refl; writer = fault kind.Writer e old.failures new.failures tt fails; sent = tt }
        by docs a shown good all (inr (named, (js, are, inr (took, inl d)))) = undumped e a (ap (λ (t : Tally). t.failures) (back took.0) ∙ took.2.0) (denied_dump docs e a shown good d)
        by docs a shown good all (inr (named, (js, are, inr (took, inr h)))) = undumped e a (ap (λ (t : Tally). t.failures) (back took.0) ∙ took.2.0) (without_tree docs e a good h)

-- Trees that come one after the other, after those that were judged.
use Rattle.std.proofs.Common.{◌≡◌, inl, ℕ, suc, ◌+◌, zero-add, List, [], ◌∷◌, ◌++◌, length, append_assoc, true, false, Option, Some, None, is_some, Ok, Err, Vec, Global, refl, ap, sym, ◌∙◌, subst, arith}
use Rattle.std.specs.Prelude.{MatchOption}
use Rattle.std.proofs.lemmas.List.{append-nil}
use Rattle.serde_json.specs.Data.{Data}
use Rattle.store_model.specs.Reading.{Documents, ReadsTree, ReadsTrees}
use Rattle.store_model.specs.State.{refusal_of, or_later, first_refusal}
use Rattle.store_model.specs.declared.error.ErrorKind.{ErrorKind}
use Rattle.store_model.specs.declared.error.ErrorKind.TheVariants.{Memory}
use Rattle.store_model.specs.declared.error.StoreError.{StoreError}
use Rattle.store_model.specs.Refusal.{refusal, refusal_at}
use Rattle.store_documents.specs.declared.write.KeptRow.{KeptRow}
use Rattle.store_documents.specs.Judging.{AnswersRow, AreWrittenRows, Judges}
use Rattle.store_documents.proofs.ManyLemmas.{judged_refused, tree_refused}
use Rattle.store_documents.proofs.JudgeLemmas.{SoFar, so_far_done, so_far_pushed}
use Rattle.store_documents.proofs.StreamLemmas.{any_trees, trees_end, trees_more}

-- ---- more trees

-- after trees that can all be read
read_on : (js : List Data) (ds : Documents) (more : List Data) (es : Documents) (stop : Option ErrorKind) → ReadsTrees js ds None → ReadsTrees more es stop → ReadsTrees (js ++ more) (ds ++ es) stop
read_on [] [] more es stop h behind = behind
read_on [] (d ∷ ds) more es stop h behind = absurd h
read_on (j ∷ js) [] more es stop h behind = absurd h
read_on (j ∷ js) (d ∷ ds) more es stop h behind = (h.0, read_on js ds more es stop h.1 behind)

-- after documents that can all be kept
kept_on : (i : ℕ) (ds more : Documents) (stop : Option ErrorKind) → first_refusal i ds None ≡ None → first_refusal i (ds ++ more) stop ≡ first_refusal (i + length ds) more stop
kept_on i [] more stop h = ap (λ (n : ℕ). first_refusal n more stop) (omega arith)
kept_on i (d ∷ ds) more stop h = by (refusal_of d) h (kept_on (suc i) ds more stop)
  where
    by : (o : Option ErrorKind) → ◌≡◌ {A = Option (ErrorKind × ℕ)} (or_later o i (first_refusal (suc i) ds None)) None
        → (first_refusal (suc i) ds None ≡ None → first_refusal (suc i) (ds ++ more) stop ≡ first_refusal (suc i + length ds) more stop)
        → or_later o i (first_refusal (suc i) (ds ++ more) stop) ≡ first_refusal (i + suc (length ds)) more stop
    by None h next = next h ∙ ap (λ (n : ℕ). first_refusal n more stop) (omega arith)
    by (Some k) h next = cc

as_long : (rows : List KeptRow) (ds : Documents) → AreWrittenRows rows ds → length rows ≡ length ds
as_long [] [] h = refl
as_long (r ∷ rows) (d ∷ ds) h = ap suc (as_long rows ds h.2)
as_long [] (d ∷ ds) h = absurd h
as_long (r ∷ rows) [] h = absurd h

-- trees that were judged, with these to come
so_far : (js rest : List Data) (rows : Vec KeptRow Global) → Judges (ReadsTrees js) (Ok rows) → SoFar (ReadsTrees (js ++ rest)) (ReadsTrees rest) rows.items (length rows.items)
so_far js rest rows (ds, reads, read, fits, are) = record {
  done = ds;
  reads = λ more stop h. read_on js ds rest more stop reads h;
  kept = λ more stop. kept_on 0 ds more stop fits ∙ ap (λ (n : ℕ). first_refusal n more stop) (zero-add (length ds) ∙ sym (as_long rows.items ds are));
  read = read;
  are_rows = are;
}

-- ---- one tree more

-- its document is kept
pub taken : (js : List Data) (j : Data) (rows new : Vec KeptRow Global) (w : KeptRow) → Judges (ReadsTrees js) (Ok rows) → AnswersRow (ReadsTree j) (Ok w) → new.items ≡ rows.items ++ w ∷ [] → Judges (ReadsTrees (js ++ j ∷ [])) (Ok new)
taken js j rows new w h a pushed =
    let whole = ReadsTrees (js ++ j ∷ []) in
    let more = so_far_pushed whole (ReadsTrees (j ∷ [])) (ReadsTrees []) rows.items new.items a.0 w (so_far js (j ∷ []) rows h) (λ ds stop reads. trees_more j [] a.0 ds stop a.1 reads) a.2 a.3 a.4 a.5 pushed in
    so_far_done whole (ReadsTrees []) new (length new.items) more trees_end

-- it is refused, whatever comes after it
pub refused : (js : List Data) (j : Data) (rows : Vec KeptRow Global) (k : ErrorKind) (i : ℕ) (e : StoreError) → Judges (ReadsTrees js) (Ok rows) → AnswersRow (ReadsTree j) (Err k) → i ≡ length rows.items → e ≡ refusal_at k i
    → (more : List Data) → Judges (ReadsTrees ((js ++ j ∷ []) ++ more)) (Err e)
refused js j rows k i e h a place is more =
    let told = judged_refused (ReadsTrees (js ++ j ∷ more)) (ReadsTrees (j ∷ more)) rows.items (length rows.items) k (so_far js (j ∷ more) rows h) (any_trees (j ∷ more)) (tree_refused j more k a) in
    let here : Judges (ReadsTrees (js ++ j ∷ more)) (Err e) = subst (λ (x : StoreError). Judges (ReadsTrees (js ++ j ∷ more)) (Err x)) (sym (is ∙ ap (refusal_at k) place)) told in
    subst (λ (l : List Data). Judges (ReadsTrees l) (Err e)) (sym (append_assoc js (j ∷ []) more)) here

-- out of memory
pub wanted : (js more : List Data) (e : StoreError) → e ≡ refusal Memory → Judges (ReadsTrees (js ++ more)) (Err e)
wanted js more e is = let any = any_trees (js ++ more) in (any.0, any.1, any.2, inl is)

-- ---- once something is refused

stays : (js : List Data) (j : Data) (e : StoreError) → ((more : List Data) → Judges (ReadsTrees (js ++ more)) (Err e)) → (more : List Data) → Judges (ReadsTrees ((js ++ j ∷ []) ++ more)) (Err e)
stays js j e h more = subst (λ (l : List Data). Judges (ReadsTrees l) (Err e)) (sym (append_assoc js (j ∷ []) more)) (h (j ∷ more))

-- what is reported of a refusal, whatever trees come after these
abbrev Refuses : List Data → StoreError → Type 0
Refuses js e = (more : List Data) → Judges (ReadsTrees (js ++ more)) (Err e)

pub refusal_stays : (js : List Data) (j : Data) (P Q : Type 0) (o : Option StoreError) → is_some o ≡ true → MatchOption o P (Refuses js) → MatchOption o Q (Refuses (js ++ j ∷ []))
refusal_stays js j P Q None some h = absurd (cc)
refusal_stays js j P Q (Some e) some h = stays js j e h

pub no_refusal : (P : Type 0) (Q : StoreError → Type 0) (o : Option StoreError) → is_some o ≡ false → MatchOption o P Q → P
no_refusal P Q None none h = h
no_refusal P Q (Some e) none h = absurd (cc)

pub refusal_told : (js : List Data) (P : Type 0) (o : Option StoreError) (e : StoreError) → o ≡ Some e → MatchOption o P (Refuses js) → Judges (ReadsTrees js) (Err e)
refusal_told js P o e is h =
    let refuses = subst (λ x. MatchOption x P (Refuses js)) is h in
    subst (λ (l : List Data). Judges (ReadsTrees l) (Err e)) (append-nil js) (refuses [])

-- Many documents that go into a collection, and what is reported if they don't.
use Rattle.std.proofs.Common.{◌≡◌, ◌≢◌, inl, inr, ℕ, ◌+◌, pos, ◌+ℤ◌, suc, max, ◌<◌, ◌≤◌, List, [], ◌∷◌, ◌++◌, length, map, Option, Some, None, Ok, Err, refl, ap, ◌∙◌, sym, subst, arith}
use Rattle.std.specs.List.{AllZip}
use Rattle.std.specs.Prelude.{MatchOption, IsUtf8}
use Rattle.std.proofs.lemmas.Slice.Zip.{AllZip-long}
use Rattle.store_table.specs.Rows.{TableRow, docs_from}
use Rattle.store_table.specs.Rows as table
use Rattle.store_table.specs.Moves.{AddsRows as PutsRows, IsRoomFor, with_rows}
use Rattle.store_table.specs.declared.fault.Fault.{Fault}
use Rattle.store_table.specs.declared.fault.Fault.TheVariants as faults
use Rattle.store_table.specs.declared.row.NewRow.{NewRow}
use Rattle.store_documents.specs.declared.write.KeptRow.{KeptRow}
use Rattle.store_model.specs.Reading.{Documents, AreRead}
use Rattle.store_model.specs.State.{list_of, store, import, on, Reply, number, refused, first_refusal, Appends, Answers, IsName, AreKept, Step}
use Rattle.store_model.specs.Run.{places, IsDecided}
use Rattle.store_model.specs.Table.{DocumentRow, DocumentTable, state_of, documents_of, greatest, greatest_place, AreOf, TakePlaces}
use Rattle.store_model.specs.declared.error.ErrorKind.{ErrorKind}
use Rattle.store_model.specs.declared.error.ErrorKind.TheVariants.{DuplicateId, Places}
use Rattle.store_model.proofs.KeyLemmas.{rows_are_a_state}
use Rattle.store_model.proofs.RowLemmas.{list_of-state_of, rows_last}
use Rattle.store_documents.specs.Judging.{AreWrittenRows}
use Rattle.store_documents.specs.Keys.{first_taken, keys_of, keys_of_rows}
use Rattle.store_documents.proofs.AppendLemmas.{all_accepted, appending_all}
use Rattle.bson_store.specs.Shown.{AreRowsOf, Rises, Represents}
use Rattle.bson_store.specs.Calls.{Does}
use Rattle.bson_store.specs.Many.{AddsAll, FindsTaken, IsAddFault, Lends, keys_in}
use Rattle.bson_store.specs.Refusals.{kind_of_fault}
use Rattle.store_model.specs.Refusal.{refusal, refusal_at}
use Rattle.store_model.specs.declared.error.StoreError.{StoreError}
use Rattle.bson_store.proofs.KeyLemmas.{keys_are, row_keys_are}
use Rattle.bson_store.proofs.TableLemmas.{greater, last_greatest, each_more, rows_after}
use Rattle.bson_store.proofs.ServeLemmas.{answers_stay, denied, undecided, memory_other, next_place, stays, room_is, full_is}

-- ---- rows to come

-- the documents at the places after g
abbrev rows_at : ℕ → List ℕ → Documents → DocumentTable
rows_at g n [] = []
rows_at g n (d ∷ ds) = record { place = suc g; name = n; document = d } ∷ rows_at (suc g) n ds

all_named : (g : ℕ) (n : List ℕ) (ds : Documents) → AreOf n (rows_at g n ds)
all_named g n [] = tt
all_named g n (d ∷ ds) = (refl, all_named (suc g) n ds)

documents_back : (g : ℕ) (n : List ℕ) (ds : Documents) → map (λ (r : DocumentRow). r.document) (rows_at g n ds) ≡ ds
documents_back g n [] = refl
documents_back g n (d ∷ ds) = ap (λ x. d ∷ x) (documents_back (suc g) n ds)

take_places : (g : ℕ) (n : List ℕ) (ds : Documents) → g + length ds ≤ greatest_place → TakePlaces g (rows_at g n ds)
take_places g n [] h = tt
take_places g n (d ∷ ds) h = (refl, omega (arith, h), take_places (suc g) n ds (omega (arith, h)))

rises_at : (g : ℕ) (n : List ℕ) (ds : Documents) → Rises g (rows_at g n ds)
rises_at g n [] = tt
rises_at g n (d ∷ ds) = (omega arith, rises_at (suc g) n ds)

rises_all : (m : ℕ) (rs : DocumentTable) (n : List ℕ) (ds : Documents) → Rises m rs → Rises m (rs ++ rows_at (max m (greatest rs)) n ds)
rises_all m [] n ds rises = let e : m ≡ max m 0 = omega arith in subst (λ (g : ℕ). Rises m (rows_at g n ds)) e (rises_at m n ds)
rises_all m (q ∷ rs) n ds rises = (rises.0, subst (λ (g : ℕ). Rises q.place (rs ++ rows_at g n ds)) (greater m q.place (greatest rs) rises.0) (rises_all q.place rs n ds rises.1))

each_all : (g : ℕ) (n : List ℕ) (rs : List NewRow) (ws : List KeptRow) (ds : Documents) → IsUtf8 n → AllZip Lends rs ws → AreWrittenRows ws ds → AreRowsOf (rows_at g n ds) (docs_from (pos (suc g)) n rs)
each_all g n [] [] [] text lent h = tt
each_all g n [] [] (d ∷ ds) text lent h = absurd h
each_all g n (r ∷ rs) (w ∷ ws) [] text lent h = absurd h
each_all g n (r ∷ rs) (w ∷ ws) (d ∷ ds) text lent h = (
  record { place = refl; name = refl; text = text; key = lent.0.0 ∙ h.1; body = lent.0.1 ∙ h.0 },
  subst (λ z. AreRowsOf (rows_at (suc g) n ds) (docs_from z n rs)) (sym (next_place (suc g))) (each_all (suc g) n rs ws ds text lent.1 h.2),
)
each_all g n [] (w ∷ ws) ds text lent h = absurd lent
each_all g n (r ∷ rs) [] ds text lent h = absurd lent

written_many : (ws : List KeptRow) (ds : Documents) → AreWrittenRows ws ds → length ws ≡ length ds
written_many [] [] h = refl
written_many [] (d ∷ ds) h = absurd h
written_many (w ∷ ws) [] h = absurd h
written_many (w ∷ ws) (d ∷ ds) h = ap suc (written_many ws ds h.2)

as_many : (rs : List NewRow) (ws : List KeptRow) (ds : Documents) → AllZip Lends rs ws → AreWrittenRows ws ds → length rs ≡ length ds
as_many rs ws ds lent h = sym (AllZip-long Lends rs ws lent) ∙ written_many ws ds h

-- ---- documents that were judged, and their rows

pub record Come (ds : Documents) (ws : List KeptRow) : Type 0 where
  pub read : AreRead ds
  pub fit : first_refusal 0 ds None ≡ None
  pub rows : AreWrittenRows ws ds

kept_all : (ds : Documents) (ws : List KeptRow) → Come ds ws → AreKept ds
kept_all ds ws c = all_accepted 0 ds c.read c.fit

pub kept_there : (docs : List TableRow) (a : DocumentTable) (n : List ℕ) → Represents docs a → AreKept (documents_of a n)
kept_there docs a n s = subst AreKept (list_of-state_of a n) ((rows_are_a_state a s.good).kept n)

-- the place of the first that is taken, by the keys of the rows, is that by the keys of the documents
taken_as : (docs : List TableRow) (a : DocumentTable) (n : List ℕ) (ds : Documents) (ws : List KeptRow) (o : Option ℕ) → Represents docs a → Come ds ws → o ≡ first_taken 0 (keys_in n docs) (keys_of_rows ws) → first_taken 0 (keys_of (documents_of a n)) (keys_of ds) ≡ o
taken_as docs a n ds ws o s c h = sym (h ∙ ap (λ k. first_taken 0 k (keys_of_rows ws)) (keys_are n a docs s.each) ∙ ap (first_taken 0 (keys_of (documents_of a n))) (row_keys_are ws ds c.rows))

abbrev Told : Documents → Documents → Option ℕ → Type 0
Told l ds o = MatchOption o (Appends 0 l l ds (number (length ds)) (l ++ ds)) (λ i. Appends 0 l l ds (refused DuplicateId (Some i)) l)

told : (docs : List TableRow) (a : DocumentTable) (n : List ℕ) (ds : Documents) (ws : List KeptRow) (o : Option ℕ) → Represents docs a → Come ds ws → o ≡ first_taken 0 (keys_in n docs) (keys_of_rows ws) → Told (documents_of a n) ds o
told docs a n ds ws o s c h = subst (Told (documents_of a n) ds) (taken_as docs a n ds ws o s c h) (appending_all (documents_of a n) ds (kept_there docs a n s) (kept_all ds ws c))

answers_by : (l ds : Documents) (r : Reply) (es : Documents) → first_refusal 0 ds None ≡ None → Appends 0 l l ds r es → Answers (import ds None) l r es
answers_by l ds r es fit h = rw fit h

pub import_open : (n : List ℕ) (ds : Documents) (stop : Option ErrorKind) → IsName n → IsDecided (on n (import ds stop)) → ⊥
import_open n ds stop good = undecided n (import ds stop) good (λ x. x)

-- ---- all go in

step_all : (docs : List TableRow) (a : DocumentTable) (n : List ℕ) (ds : Documents) (ws : List KeptRow) → IsName n → Represents docs a → Come ds ws → None ≡ first_taken 0 (keys_in n docs) (keys_of_rows ws)
    → Step (state_of a) (on n (import ds None)) (number (length ds)) (state_of (a ++ rows_at (greatest a) n ds))
step_all docs a n ds ws good s c free =
    let l = list_of (state_of a) n in
    inl (
      good,
      (
        l ++ ds,
        subst (λ k. Answers (import ds None) k (number (length ds)) (k ++ ds)) (sym (list_of-state_of a n)) (answers_by (documents_of a n) ds (number (length ds)) (documents_of a n ++ ds) c.fit (told docs a n ds ws None s c free)),
        rows_last a (rows_at (greatest a) n ds) n (all_named (greatest a) n ds) ∙ ap (λ e. store (state_of a) n (l ++ e)) (documents_back (greatest a) n ds),
      ),
    )

-- what the rows make of the state, whether there are places for them or not
pub rows_make : (docs : List TableRow) (n : List ℕ) (ds : Documents) (rs : List NewRow) (ws : List KeptRow) → AllZip Lends rs ws → IsName n → IsUtf8 n → Come ds ws → None ≡ first_taken 0 (keys_in n docs) (keys_of_rows ws)
    → (a : DocumentTable) → Represents docs a → (q : Reply) × (b : DocumentTable) × Represents (with_rows n rs docs) b × Step (state_of a) (on n (import ds None)) q (state_of b)
rows_make docs n ds rs ws lent good text c free a s =
    let g = greatest a in
    let new = rows_at g n ds in
    let last = last_greatest a docs s in
    let first : table.last_place docs +ℤ pos 1 ≡ pos (suc g) = ap (λ z. z +ℤ pos 1) last ∙ next_place g in
    let step = step_all docs a n ds ws good s c free in
    let all : max 0 g ≡ g = omega arith in (
      number (length ds),
      a ++ new,
      record {
        each = each_more a new docs (docs_from (table.last_place docs +ℤ pos 1) n rs) s.each (subst (λ z. AreRowsOf new (docs_from z n rs)) (sym first) (each_all g n rs ws ds text lent c.rows));
        good = rows_after a (a ++ new) (on n (import ds None)) (number (length ds)) s.good (c.read, tt) step;
        rising = subst (λ (k : ℕ). Rises 0 (a ++ rows_at k n ds)) all (rises_all 0 a n ds s.rising);
      },
      step,
    )

go_in : (docs : List TableRow) (n : List ℕ) (ds : Documents) (rs : List NewRow) (ws : List KeptRow) → AllZip Lends rs ws → IsName n → IsUtf8 n → Come ds ws → None ≡ first_taken 0 (keys_in n docs) (keys_of_rows ws) → IsRoomFor (length rs) docs
    → Does (on n (import ds None)) (number (length ds)) docs (with_rows n rs docs)
go_in docs n ds rs ws lent good text c free room a s =
    let g = greatest a in
    let new = rows_at g n ds in
    let last = last_greatest a docs s in
    let first : table.last_place docs +ℤ pos 1 ≡ pos (suc g) = ap (λ z. z +ℤ pos 1) last ∙ next_place g in
    let step = step_all docs a n ds ws good s c free in
    let below : g + length ds ≤ greatest_place = room_is (table.last_place docs) g (length ds) last (subst (λ k. IsRoomFor k docs) (as_many rs ws ds lent c.rows) room) in
    let all : max 0 g ≡ g = omega arith in (
      a ++ new,
      record {
        each = each_more a new docs (docs_from (table.last_place docs +ℤ pos 1) n rs) s.each (subst (λ z. AreRowsOf new (docs_from z n rs)) (sym first) (each_all g n rs ws ds text lent c.rows));
        good = rows_after a (a ++ new) (on n (import ds None)) (number (length ds)) s.good (c.read, tt) step;
        rising = subst (λ (k : ℕ). Rises 0 (a ++ rows_at k n ds)) all (rises_all 0 a n ds s.rising);
      },
      (None, (step, inl (new, refl, take_places g n ds below), tt)),
    )

no_places : (docs : List TableRow) (n : List ℕ) (ds : Documents) (rs : List NewRow) (ws : List KeptRow) → AllZip Lends rs ws → IsName n → Come ds ws → None ≡ first_taken 0 (keys_in n docs) (keys_of_rows ws) → (IsRoomFor (length rs) docs → ⊥)
    → Does (on n (import ds None)) (refused Places None) docs docs
no_places docs n ds rs ws lent good c free full a s =
    let g : greatest_place < greatest a + length ds = full_is (table.last_place docs) (greatest a) (length ds) (last_greatest a docs s) (λ room. full (subst (λ k. IsRoomFor k docs) (sym (as_many rs ws ds lent c.rows)) room)) in
    (a, s, (Some places, ((refl, refl), stays a, (import_open n ds None good, (g, number (length ds), state_of (a ++ rows_at (greatest a) n ds), step_all docs a n ds ws good s c free, λ x. x)))))

-- ---- exits

-- what a call that was denied something is refused for
fault_does : (docs : List TableRow) (n : List ℕ) (ds : Documents) (x : Fault) → IsName n → x ≢ faults.Places → Does (on n (import ds None)) (refused (kind_of_fault x) None) docs docs
fault_does docs n ds x good other = denied docs (on n (import ds None)) x other (import_open n ds None good)

is_fault : (e : StoreError) (x : Fault) → e ≡ refusal (kind_of_fault x) → IsAddFault e
is_fault e x is = inl (x, is)

-- it couldn't be found out which keys are taken
pub unadded : (docs after : List TableRow) (n : List ℕ) (ws : List KeptRow) (e : StoreError) → IsName n → FindsTaken n ws (Err e) docs after → AddsAll n ws (Err e) docs after
unadded docs after n ws e good h = record {
  same = h.same;
  fault = is_fault e h.denied.0 h.denied.2;
  does = λ ds read fit rows. rw (h.same, h.denied.2) (fault_does docs n ds h.denied.0 good h.denied.1);
}

-- a key is there already
pub add_refused : (docs after : List TableRow) (n : List ℕ) (ws : List KeptRow) (o : Option ℕ) (i : ℕ) (e : StoreError) → IsName n → o ≡ Some i → e ≡ refusal_at DuplicateId i → FindsTaken n ws (Ok o) docs after → AddsAll n ws (Err e) docs after
add_refused docs after n ws o i e good some is h = record {
  same = h.same;
  fault = inr (i, is);
  does = λ ds read fit rows. rw (h.same, is) (answers_stay docs n (import ds None) (refused DuplicateId (Some i)) good
      (λ a s. answers_by (documents_of a n) ds (refused DuplicateId (Some i)) (documents_of a n) fit (told docs a n ds ws (Some i) s (record { read = read; fit = fit; rows = rows }) (sym some ∙ h.place))));
}

-- out of memory for the rows
pub add_wants : (docs after : List TableRow) (n : List ℕ) (ws : List KeptRow) (o : Option ℕ) (e : StoreError) → IsName n → e ≡ refusal (kind_of_fault faults.Memory) → FindsTaken n ws (Ok o) docs after → AddsAll n ws (Err e) docs after
add_wants docs after n ws o e good is h = record {
  same = h.same;
  fault = is_fault e faults.Memory is;
  does = λ ds read fit rows. rw (h.same, is) (fault_does docs n ds faults.Memory good memory_other);
}

-- the table refuses the rows
pub not_added : (docs mid after : List TableRow) (n : List ℕ) (rs : List NewRow) (ws : List KeptRow) (o : Option ℕ) (x : Fault) (e : StoreError) → AllZip Lends rs ws → IsName n → o ≡ None → e ≡ refusal (kind_of_fault x) → FindsTaken n ws (Ok o) docs mid
    → PutsRows (length rs) (with_rows n rs) (Err x) mid after → AddsAll n ws (Err e) docs after
not_added docs mid after n rs ws o x e lent good none is h p = record {
  same = p.refused ∙ h.same;
  fault = is_fault e x is;
  does = λ ds read fit rows. rw (p.refused, h.same, is) (by ds x p.full (record { read = read; fit = fit; rows = rows }));
}
  where
    by : (ds : Documents) (y : Fault) → (y ≡ faults.Places → IsRoomFor (length rs) mid → ⊥) → Come ds ws → Does (on n (import ds None)) (refused (kind_of_fault y) None) docs docs
    by ds faults.Memory full c = fault_does docs n ds faults.Memory good memory_other
    by ds faults.Database full c = fault_does docs n ds faults.Database good (λ e. cc)
    by ds faults.Places full c = no_places docs n ds rs ws lent good c (sym none ∙ h.place) (λ room. full refl (subst (IsRoomFor (length rs)) (sym h.same) room))

pub added : (docs mid after : List TableRow) (n : List ℕ) (rs : List NewRow) (ws : List KeptRow) (o : Option ℕ) (k : ℕ) → AllZip Lends rs ws → IsName n → IsUtf8 n → o ≡ None → k ≡ length rs → FindsTaken n ws (Ok o) docs mid
    → PutsRows (length rs) (with_rows n rs) (Ok tt) mid after → AddsAll n ws (Ok k) docs after
added docs mid after n rs ws o k lent good text none many h p = record {
  same = tt;
  fault = tt;
  does = λ ds read fit rows. rw (p.done, h.same, many ∙ as_many rs ws ds lent rows)
      (go_in docs n ds rs ws lent good text (record { read = read; fit = fit; rows = rows }) (sym none ∙ h.place) (subst (IsRoomFor (length rs)) h.same p.room));
}

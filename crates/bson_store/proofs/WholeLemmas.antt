-- Lists of changes, one change after the other.
use Rattle.std.proofs.Common.{◌≡◌, ◌⊎◌, inl, inr, ℕ, ℤ, pos, ◌+ℤ◌, ◌≤◌, zero, suc, ◌<◌, List, [], ◌∷◌, ◌++◌, length, take, drop, get_or, Some, None, Result, Ok, Err, String, Vec, Global, string_bytes, refl, sym, ap, subst, ◌∙◌, arith}
use Rattle.sqlite.specs.State.{State, HasCleanDisk, Survives}
use Rattle.sqlite.specs.Effect.{Database}
use Rattle.sqlite_trees.specs.Tree.{Trees}
use Rattle.bson_model.specs.View.{view}
use Rattle.bson_model.specs.declared.bson.Bson.{Bson}
use Rattle.std.proofs.lemmas.Int.{ints}
use Rattle.store_table.specs.Change.{FindsLast, with_changes}
use Rattle.store_table.specs.Moves.{Changes, MayLeave, Moves, Settles}
use Rattle.store_table.specs.Rows.{TableRow, AreBelow, HasRows, IsRising}
use Rattle.store_table.specs.declared.change.Change.{Change}
use Rattle.store_table.specs.declared.fault.Fault.{Fault}
use Rattle.store_table.proofs.OthersLemmas.{shows_then}
use Rattle.bson_store.specs.Draft.{AreApart}
use Rattle.bson_store.specs.Drafted.{IsOver, changes_of, drafted}
use Rattle.bson_store.specs.declared.draft.Draft.{Draft}
use Rattle.store_model.specs.Reading.{Reading, ReadsBytes, readable, unreadable}
use Rattle.store_model.specs.Run.{Denial, IsDecided, IsUnread, database, kind_of_denial, memory, places}
use Rattle.store_model.specs.State as model
use Rattle.store_model.specs.Table.{DocumentTable, Serves, greatest, state_of}
use Rattle.store_model.specs.Refusal.{refusal}
use Rattle.store_model.specs.declared.error.ErrorKind.{ErrorKind}
use Rattle.store_model.specs.declared.error.ErrorKind.TheVariants.{Database as Broken, DuplicateId, Memory, NotFound, Places}
use Rattle.store_model.specs.declared.error.StoreError.{StoreError}
use Rattle.store_model.proofs.ManyLemmas.{bytes_alike}
use Rattle.bson_store.specs.Refusals.{kind_of_fault}
use Rattle.bson_store.specs.Shown.{AreRowsOf, Represents}
use Rattle.bson_store.proofs.CrashLemmas.{step_of}
use Rattle.bson_store.proofs.TableLemmas.{last_greatest}
use Rattle.bson_store.specs.Drafting.{BeginsDraft, EditsBy, EditsBytes, EditsKept, EditsPut, EditsTo, KeepBy, MakesDrafted, PutBy, SettlesDrafted}
use Rattle.bson_store.specs.Whole.{Accepted, DoesAll, DraftsAll, EditBy, EditsAll, EditsOne, HoldsDone, IsDecidedBytes, IsDecidedEdit, IsDone, LeavesWhole}
use Rattle.bson_store.specs.declared.edit.DraftedEdits.{DraftedEdits}
use Rattle.bson_store.specs.declared.edit.Edit.{Edit}
use Rattle.bson_store.specs.declared.edit.Edit.TheVariants.{InsertRaw, ReplaceRaw, PutRaw, KeepRaw, Remove}
use Rattle.bson_store.specs.declared.edit.ListRefusal.{ListRefusal}
use Rattle.bson_store.proofs.DraftedLemmas.{shown_apart}

-- ---- one change

module _ (On On_more : DocumentTable → model.Reply → DocumentTable → Type 0) (In In_more : model.State → model.Reply → model.State → Type 0) (Decided Decided_more : Type 0) (on_more : (a t : DocumentTable) → On a model.done t → On_more a model.done t) (in_more : (s : model.State) (r : model.Reply) → In s r s → In_more s r s)
    (decided : Decided_more → Decided) where
  pub edits_more : (r : Result (Unit {0}) StoreError) (old new : Draft) (docs after : List TableRow) → EditsTo On In Decided r old new docs after → EditsTo On_more In_more Decided_more r old new docs after
  edits_more (Ok x) old new docs after h = record {
    same = h.same;
    done = λ over.
        let it = h.done over in
        record { goes = λ a s. let g = it.goes a s in record { rows = g.rows; there = g.there; shown = g.shown; to = on_more a g.there g.to; b = g.b; seen = g.seen; same = g.same }; over = it.over };
    refused = tt;
  }
  edits_more (Err e) old new docs after h = record {
    same = h.same;
    done = tt;
    refused = λ over a s. elim (h.refused over a s) [ inl one ↦ inl (in_more (state_of a) (model.refused e.kind e.document) one) | inr fault ↦ inr (fault.0, λ d. fault.1 (decided d)) ];
  }

-- what is decided is so by its name, or by what its bytes read as
unread_so : (b : List ℕ) (x : Reading) (k : ErrorKind) → ReadsBytes b x → ReadsBytes b (unreadable k) → IsUnread model.in_bytes x
unread_so b (unreadable j) k reads told = tt
unread_so b (readable d) k reads told = let same : unreadable k ≡ readable d = bytes_alike b d (unreadable k) reads told in cc

decided_so : (n b : List ℕ) (x : Reading) → ReadsBytes b x → IsDecidedBytes n b → (model.IsName n → ⊥) ⊎ IsUnread model.in_bytes x
decided_so n b x reads (inl bad) = inl bad
decided_so n b x reads (inr (k, told)) = inr (unread_so b x k reads told)

module _ (name : String Global) (bytes : Vec ℕ Global) (r : Result (Unit {0}) StoreError) (old new : Draft) (docs after : List TableRow) where
  pub one_inserted : EditsBytes (λ x. EditsBy (model.on (string_bytes name) (model.insert model.in_bytes x))) bytes.items r old new docs after → EditsOne (InsertRaw name bytes) r old new docs after
  one_inserted (x, reads, h) = edits_more (λ a q b. Serves a (model.on (string_bytes name) (model.insert model.in_bytes x)) q b) (EditBy Serves (InsertRaw name bytes)) (λ s q t. model.Step s (model.on (string_bytes name) (model.insert model.in_bytes x)) q t) (EditBy model.Step (InsertRaw name bytes)) (IsDecided (model.on (string_bytes name) (model.insert model.in_bytes x))) (IsDecidedEdit (InsertRaw name bytes)) (λ a t one. (x, reads, one)) (λ s q one. (x, reads, one)) (decided_so (string_bytes name) bytes.items x reads) r old new docs after h

  pub one_replaced : EditsBytes (λ x. EditsBy (model.on (string_bytes name) (model.replace model.in_bytes x))) bytes.items r old new docs after → EditsOne (ReplaceRaw name bytes) r old new docs after
  one_replaced (x, reads, h) = edits_more (λ a q b. Serves a (model.on (string_bytes name) (model.replace model.in_bytes x)) q b) (EditBy Serves (ReplaceRaw name bytes)) (λ s q t. model.Step s (model.on (string_bytes name) (model.replace model.in_bytes x)) q t) (EditBy model.Step (ReplaceRaw name bytes)) (IsDecided (model.on (string_bytes name) (model.replace model.in_bytes x))) (IsDecidedEdit (ReplaceRaw name bytes)) (λ a t one. (x, reads, one)) (λ s q one. (x, reads, one)) (decided_so (string_bytes name) bytes.items x reads) r old new docs after h

  pub one_put : EditsBytes (EditsPut (string_bytes name)) bytes.items r old new docs after → EditsOne (PutRaw name bytes) r old new docs after
  one_put (x, reads, h) = edits_more (PutBy Serves (string_bytes name) x) (EditBy Serves (PutRaw name bytes)) (PutBy model.Step (string_bytes name) x) (EditBy model.Step (PutRaw name bytes)) (IsDecided (model.on (string_bytes name) (model.replace model.in_bytes x))) (IsDecidedEdit (PutRaw name bytes)) (λ a t one. (x, reads, one)) (λ s q one. (x, reads, one)) (decided_so (string_bytes name) bytes.items x reads) r old new docs after h

  pub one_kept : EditsBytes (EditsKept (string_bytes name)) bytes.items r old new docs after → EditsOne (KeepRaw name bytes) r old new docs after
  one_kept (x, reads, h) = edits_more (KeepBy Serves (string_bytes name) x) (EditBy Serves (KeepRaw name bytes)) (KeepBy model.Step (string_bytes name) x) (EditBy model.Step (KeepRaw name bytes)) (IsDecided (model.on (string_bytes name) (model.insert model.in_bytes x))) (IsDecidedEdit (KeepRaw name bytes)) (λ a t one. (x, reads, one)) (λ s q one. (x, reads, one)) (decided_so (string_bytes name) bytes.items x reads) r old new docs after h

pub one_removed : (name : String Global) (id : Bson) (r : Result (Unit {0}) StoreError) (old new : Draft) (docs after : List TableRow) → EditsBy (model.on (string_bytes name) (model.remove (view id))) r old new docs after → EditsOne (Remove name id) r old new docs after
one_removed name id r old new docs after h =
    let c = model.on (string_bytes name) (model.remove (view id)) in
    edits_more (λ a q b. Serves a c q b) (EditBy Serves (Remove name id)) (λ s q t. model.Step s c q t) (EditBy model.Step (Remove name id)) (IsDecided c) (IsDecidedEdit (Remove name id)) (λ a t one. one) (λ s q one. one) (λ bad. inl bad) r old new docs after h

-- what was found to be so of tables is so of their states
step_found : (a b : DocumentTable) (c : model.Command) (k : ErrorKind) → (k ≡ DuplicateId) ⊎ (k ≡ NotFound) → Serves a c (model.refused k None) b → model.Step (state_of a) c (model.refused k None) (state_of b)
step_found a b c k other (None, turn) = turn.0
step_found a b c k other (Some x, turn) = absurd (by x other turn.0.0)
  where
    by : (x : Denial) → (k ≡ DuplicateId) ⊎ (k ≡ NotFound) → model.refused k None ≡ model.refused (kind_of_denial x) None → ⊥
    by memory (inl is) e = let no : DuplicateId ≡ Memory = sym is ∙ cc in cc
    by database (inl is) e = let no : DuplicateId ≡ Broken = sym is ∙ cc in cc
    by places (inl is) e = let no : DuplicateId ≡ Places = sym is ∙ cc in cc
    by memory (inr is) e = let no : NotFound ≡ Memory = sym is ∙ cc in cc
    by database (inr is) e = let no : NotFound ≡ Broken = sym is ∙ cc in cc
    by places (inr is) e = let no : NotFound ≡ Places = sym is ∙ cc in cc

edit_steps : (x : Edit) (a b : DocumentTable) → EditBy Serves x a model.done b → EditBy model.Step x (state_of a) model.done (state_of b)
edit_steps (InsertRaw name bytes) a b (y, reads, served) = (y, reads, step_of a _ model.done b (λ e. e) served)
edit_steps (ReplaceRaw name bytes) a b (y, reads, served) = (y, reads, step_of a _ model.done b (λ e. e) served)
edit_steps (PutRaw name bytes) a b (y, reads, inl (had, served)) = (y, reads, inl (had, step_of a _ model.done b (λ e. e) served))
edit_steps (PutRaw name bytes) a b (y, reads, inr (m, none, served)) = (y, reads, inr (state_of m, step_found a m _ NotFound (inr refl) none, step_of m _ model.done b (λ e. e) served))
edit_steps (KeepRaw name bytes) a b (y, reads, inl (had, served)) = (y, reads, inl (had, step_of a _ model.done b (λ e. e) served))
edit_steps (KeepRaw name bytes) a b (y, reads, inr (is, taken)) = (y, reads, inr (is, step_found a b _ DuplicateId (inl refl) taken))
edit_steps (Remove name id) a b served = step_of a _ model.done b (λ e. e) served

-- ---- no change yet

low_rows : (m : ℕ) (a : DocumentTable) (docs : List TableRow) → AreRowsOf a docs → greatest a ≤ m → AreBelow (pos m +ℤ pos 1) docs
low_rows m [] [] each h = tt
low_rows m [] (d ∷ docs) each h = absurd each
low_rows m (r ∷ rs) [] each h = absurd each
low_rows m (r ∷ rs) (d ∷ docs) each h = (omega (arith, ints, each.0.place, h), low_rows m rs docs each.1 (omega (arith, h)))

pub begun : (draft : Draft) (last : ℤ) (docs mid : List TableRow) → changes_of draft ≡ [] → ((ds : List TableRow) → AreApart ds → IsRising ds → AreBelow (last +ℤ pos 1) ds → (n : ℕ) → last ≡ pos n → IsOver draft ds) → FindsLast (Ok last) docs mid → BeginsDraft (Ok (record { draft = draft })) docs mid
begun draft last docs mid none over h = record {
  same = h.same;
  begun = (
    ap (λ cs. with_changes cs docs) none,
    λ a shown.
        let at : last ≡ pos (greatest a) = h.place ∙ last_greatest a docs shown in
        over docs (shown_apart a docs shown) h.rising (subst (λ p. AreBelow (p +ℤ pos 1) docs) (sym at) (low_rows (greatest a) a docs shown.each (omega arith))) (greatest a) at,
  );
  denied = tt;
}

pub take_none : {A : Type 0} (xs : List A) → take 0 xs ≡ []
take_none [] = refl
take_none (x ∷ xs) = refl

pub none_yet : (draft : Draft) (edits : List Edit) (docs : List TableRow) → EditsAll (take 0 edits) (Ok tt) draft draft docs docs
none_yet draft edits docs = subst (λ xs. EditsAll xs (Ok tt) draft draft docs docs) (sym (take_none edits)) (record {
  same = refl;
  told = λ over a shown. record { over = over; all = record { b = a; shown = shown; run = refl } };
})

-- ---- one more

accepted_last : (s : model.State) (xs : List Edit) (t : model.State) (x : Edit) (u : model.State) → Accepted s xs t → EditBy model.Step x t model.done u → Accepted s (xs ++ x ∷ []) u
accepted_last s [] t x u h step = (u, subst (λ q. EditBy model.Step x q model.done u) h step, refl)
accepted_last s (y ∷ xs) t x u h step = (h.0, h.1, accepted_last h.0 xs t x u h.2 step)

pub split_at : {A : Type 0} (xs : List A) (i : ℕ) (x : A) → i < length xs → x ≡ get_or xs i x → xs ≡ take i xs ++ x ∷ drop (suc i) xs
split_at [] i x low is = absurd (omega (arith, low))
split_at (y ∷ xs) zero x low is = ap (λ z. z ∷ xs) (sym is)
split_at (y ∷ xs) (suc i) x low is = ap (λ zs. y ∷ zs) (split_at xs i x (omega (arith, low)) is)

pub length_take : {A : Type 0} (xs : List A) (i : ℕ) → i < length xs → length (take i xs) ≡ i
length_take [] i low = absurd (omega (arith, low))
length_take (y ∷ xs) zero low = refl
length_take (y ∷ xs) (suc i) low = ap suc (length_take xs i (omega (arith, low)))

on_same : (x : Edit) (r : Result (Unit {0}) StoreError) (old new : Draft) (docs mid after : List TableRow) → mid ≡ docs → EditsOne x r old new mid after → EditsOne x r old new docs after
on_same x r old new docs mid after is h = subst (λ ds. EditsOne x r old new ds after) is h

pub one_more : (xs : List Edit) (x : Edit) (first old new : Draft) (docs mid after : List TableRow) → EditsAll xs (Ok tt) first old docs mid → EditsOne x (Ok tt) old new mid after → EditsAll (xs ++ x ∷ []) (Ok tt) first new docs after
one_more xs x first old new docs mid after h one =
    let k = on_same x (Ok tt) old new docs mid after h.same one in
    record {
      same = k.same;
      told = λ fresh a shown.
          let f = h.told fresh a shown in
          let t = k.done f.over in
          let g = t.goes f.all.b f.all.shown in
          record {
            over = t.over;
            all = record {
              b = g.b;
              shown = g.seen;
              run = accepted_last (state_of a) xs (state_of f.all.b) x (state_of g.b) f.all.run (subst (λ u. EditBy model.Step x (state_of f.all.b) model.done u) (sym g.same) (edit_steps x f.all.b g.there g.to));
            };
          };
    }

pub stops : (edits xs : List Edit) (x : Edit) (back : List Edit) (i : ℕ) (e : StoreError) (first old new : Draft) (docs mid after : List TableRow) → edits ≡ xs ++ x ∷ back → length xs ≡ i → EditsAll xs (Ok tt) first old docs mid → EditsOne x (Err e) old new mid after
    → EditsAll edits (Err (record { position = Some i; error = e })) first new docs after
stops edits xs x back i e first old new docs mid after split at h one =
    let k = on_same x (Err e) old new docs mid after h.same one in
    record {
      same = k.same;
      told = λ fresh a shown.
          let f = h.told fresh a shown in
          record {
            front = xs;
            x = x;
            back = back;
            split = split;
            at = at;
            s = state_of f.all.b;
            run = f.all.run;
            refuses = k.refused f.over f.all.b f.all.shown;
          };
    }

-- ---- the whole

on_rows : (edits : List Edit) (r : Result (Unit {0}) ListRefusal) (old new : Draft) (docs mid after : List TableRow) → mid ≡ docs → EditsAll edits r old new mid after → EditsAll edits r old new docs after
on_rows edits r old new docs mid after is h = subst (λ ds. EditsAll edits r old new ds after) is h

pub all_drafted : (edits : List Edit) (x : DraftedEdits) (draft : Draft) (docs mid after : List TableRow) → BeginsDraft (Ok x) docs mid → EditsAll edits (Ok tt) x.draft draft mid after → DraftsAll edits draft docs after
all_drafted edits x draft docs mid after h each =
    let k = on_rows edits (Ok tt) x.draft draft docs mid after h.same each in
    record { same = k.same; far = λ a shown. k.told (h.begun.1 a shown) a (subst (λ ds. Represents ds a) (sym h.begun.0) shown) }

pub one_refused : (edits : List Edit) (r : ListRefusal) (x : DraftedEdits) (draft : Draft) (docs mid after : List TableRow) → BeginsDraft (Ok x) docs mid → EditsAll edits (Err r) x.draft draft mid after → DoesAll edits (Err r) docs after
one_refused edits r x draft docs mid after h each =
    let k = on_rows edits (Err r) x.draft draft docs mid after h.same each in
    record { same = k.same; told = λ a shown. k.told (h.begun.1 a shown) a (subst (λ ds. Represents ds a) (sym h.begun.0) shown) }

pub all_done : (edits : List Edit) (draft : Draft) (docs mid after : List TableRow) → DraftsAll edits draft docs mid → MakesDrafted draft (Ok tt) mid after → DoesAll edits (Ok tt) docs after
all_done edits draft docs mid after h k = record { same = tt; told = λ a shown. subst (IsDone a edits) (sym (k.done ∙ ap (drafted draft) h.same)) (h.far a shown).all }

pub none_done : (edits : List Edit) (draft : Draft) (e : StoreError) (docs mid after : List TableRow) → DraftsAll edits draft docs mid → MakesDrafted draft (Err e) mid after → DoesAll edits (Err (record { position = None; error = e })) docs after
none_done edits draft e docs mid after h k = record { same = k.refused ∙ h.same; told = λ a shown. (k.denied.0, k.denied.2) }

pub none_begun : (edits : List Edit) (e : StoreError) (docs after : List TableRow) → BeginsDraft (Err e) docs after → DoesAll edits (Err (record { position = None; error = e })) docs after
none_begun edits e docs after k = record { same = k.same; told = λ a shown. (k.denied.0, k.denied.2) }

pub not_begun : (x : Fault) (docs mid : List TableRow) → FindsLast (Err x) docs mid → BeginsDraft (Err (refusal (kind_of_fault x))) docs mid
not_begun x docs mid h = record { same = h.same; begun = tt; denied = (x, h.faults, refl) }

-- the table's changes are those of the draft
pub made : (draft : Draft) (changes : List Change) (docs after : List TableRow) → changes ≡ changes_of draft → Changes (with_changes changes) (Ok tt) docs after → MakesDrafted draft (Ok tt) docs after
made draft changes docs after is h = record { done = h.done ∙ ap (λ cs. with_changes cs docs) is; refused = tt; denied = tt }

module _ (s t : State) (draft : Draft) (changes : List Change) (is : changes ≡ changes_of draft) where
  pub made_survives : Survives s t (MayLeave (with_changes changes) s) → Survives s t (MayLeave (drafted draft) s)
  made_survives h = subst (λ cs. Survives s t (MayLeave (with_changes cs) s)) is h

  pub made_settles : Settles {A = Unit {0}} (with_changes changes) s t (Ok tt) → SettlesDrafted draft s t
  made_settles h = subst (λ cs. Settles {A = Unit {0}} (with_changes cs) s t (Ok tt)) is h

pub unmade : (draft : Draft) (change : List TableRow → List TableRow) (x : Fault) (docs after : List TableRow) → Changes change (Err x) docs after → MakesDrafted draft (Err (refusal (kind_of_fault x))) docs after
unmade draft change x docs after h = record { done = tt; refused = h.refused; denied = (x, h.faults, refl) }

-- ---- what a crash leaves

holds_done : (first : Database) (edits : List Edit) (draft : Draft) (docs mid : List TableRow) (a : DocumentTable) (db : Trees) → DraftsAll edits draft docs mid → Represents docs a → HasRows first db (drafted draft mid) → HoldsDone first a edits db
holds_done first edits draft docs mid a db h shown rows =
    let f = h.far a shown in
    record { t = state_of f.all.b; run = f.all.run; holds = inl (drafted draft docs, subst (HasRows first db) (ap (drafted draft) h.same) rows, (f.all.b, f.all.shown, refl)) }

module _ (s m t : State) (edits : List Edit) (draft : Draft) (moves : Moves s m (DraftsAll edits draft)) (before : Survives s m (λ _. ⊥)) (later : Survives m t (MayLeave (drafted draft) m)) where
  pub done_leaves : Settles {A = Unit {0}} (drafted draft) m t (Ok tt) → LeavesWhole edits (Ok tt) s t
  done_leaves settled clean first docs beside stands a shown db may =
      let y = (moves (omega (arith, clean, later.clean))).1 docs stands in
      holds_done first edits draft docs y.0 a db y.2 shown (settled clean first y.0 (shows_then first s m beside y.3) y.1 db may)

  pub refused_leaves : (e : StoreError) → LeavesWhole edits (Err (record { position = None; error = e })) s t
  refused_leaves e clean first docs beside stands a shown db may =
      let early : HasCleanDisk m = omega (arith, clean, later.clean) in
      let y = (moves early).1 docs stands in
      elim (later.crash clean db may) [
        | inl mid ↦ inl (elim (before.crash early db mid) [ inl was ↦ was | inr none ↦ absurd none ])
        | inr made ↦ inr (refl, holds_done first edits draft docs y.0 a db y.2 shown (made first y.0 (shows_then first s m beside y.3) y.1))
      ]

-- only reads were done
pub read_leaves : (s t : State) (edits : List Edit) (r : ListRefusal) → Survives s t (λ _. ⊥) → LeavesWhole edits (Err r) s t
read_leaves s t edits r survives clean first docs beside stands a shown db may = inl (elim (survives.crash clean db may) [ inl was ↦ was | inr none ↦ absurd none ])

-- Exits of calls that leave the rows, and of inserts: each takes the table that the rows showed to the one that they show.
use Rattle.std.proofs.lemmas.Int.{ints}
use Rattle.std.specs.Cow.{cow_slice_items}
use Rattle.std.proofs.Math.Dec.{leb}
use Rattle.std.proofs.lemmas.Bool.Decides.{leb_tells}
use Rattle.std.proofs.Common.{◌≡◌, ◌≢◌, ◌⊎◌, inl, inr, ℕ, ◌+◌, ℤ, pos, ◌+ℤ◌, ◌<ℤ◌, ◌^◌, suc, ◌<◌, ◌≤◌, List, [], ◌∷◌, ◌++◌, Bool, true, false, cond, Option, Some, None, Ok, Err, is_some, nat_lt, refl, ap, ◌∙◌, sym, subst, arith, append-nil}
use Rattle.std.specs.Prelude.{IsUtf8}
use Rattle.std.specs.List.{find}
use Rattle.std.specs.Option.{option_map}
use Rattle.std.proofs.lemmas.Bool.{le-ltb}
use Rattle.bson_base.specs.Value.{Value, Members, look_up, has_key}
use Rattle.bson_bytes.specs.Encode.{encode, size}
use Rattle.bson_frame.specs.Frame.{size_limit}
use Rattle.bson_meaning.specs.Meaning.{key}
use Rattle.bson_meaning.proofs.NowLemmas.{same_itself}
use Rattle.store_table.specs.Rows.{TableRow, is_row_named}
use Rattle.store_table.specs.Rows as table
use Rattle.store_table.specs.Moves.{FindsPlace, AddsRows, IsRoomFor, with_row}
use Rattle.store_table.specs.declared.fault.Fault.{Fault}
use Rattle.store_table.specs.declared.fault.Fault.TheVariants as faults
use Rattle.store_documents.specs.Bodies.{IsKeyOf, AnswersWritten}
use Rattle.store_documents.specs.declared.write.KeptRow.{KeptRow}
use Rattle.store_model.specs.Reading.{Documents, readable, IsRead}
use Rattle.store_model.specs.State.{id_key, list_of, store, HasId, SomeHasId, NoneHasId, Form, in_bytes, in_json, Call, insert, Command, on, Reply, done, refused, refusal_of, Answers, IsName, IsKept, Step}
use Rattle.store_model.specs.Run.{memory, database, places, IsDecided, IsDecidedCall, IsUnread}
use Rattle.store_model.specs.Table.{DocumentRow, DocumentTable, state_of, documents_of, greatest, greatest_place, Follows, Serves}
use Rattle.store_model.specs.declared.error.ErrorKind.{ErrorKind}
use Rattle.store_model.specs.declared.error.ErrorKind.TheVariants.{BadName, NoId, TooLong, DuplicateId, Memory, Places}
use Rattle.store_model.specs.declared.error.StoreError.{StoreError}
use Rattle.store_model.specs.Refusal.{refusal, refusal_at}
use Rattle.store_model.proofs.RowLemmas.{rows_not_empty, list_of-state_of, rows_last}
use Rattle.store_model.proofs.StateLemmas.{stored_again}
use Rattle.store_model.proofs.IdLemmas.{own_is, own_of, has_written}
use Rattle.bson_store.specs.Shown.{IsRowOf, Represents}
use Rattle.bson_store.specs.Calls.{Does, DoesRead}
use Rattle.bson_store.specs.Refusals.{kind_of_fault}
use Rattle.bson_store.proofs.TableLemmas.{last_greatest, shows_more, rows_after, absent, found, stands_at}

pub stays : (a : DocumentTable) → Follows a a
stays a = inl ([], sym (append-nil a), tt)

pub bad_name : (docs : List TableRow) (n : List ℕ) (c : Call) → (IsName n → ⊥) → Does (on n c) (refused BadName None) docs docs
bad_name docs n c bad a s = (a, s, (None, (inr (bad, (refl, refl)), stays a, tt)))

-- a call that leaves the list of its name
pub stay : (a : DocumentTable) (n : List ℕ) (c : Call) (r : Reply) → IsName n → Answers c (documents_of a n) r (documents_of a n) → Serves a (on n c) r a
stay a n c r good answers = (None, (inl (good, (list_of (state_of a) n, subst (λ l. Answers c l r l) (sym (list_of-state_of a n)) answers, sym (stored_again (state_of a) n (rows_not_empty a)))), stays a, tt))

pub answers_stay : (docs : List TableRow) (n : List ℕ) (c : Call) (r : Reply) → IsName n → ((a : DocumentTable) → Represents docs a → Answers c (documents_of a n) r (documents_of a n)) → Does (on n c) r docs docs
answers_stay docs n c r good answers a s = (a, s, stay a n c r good (answers a s))

pub memory_other : faults.Memory ≢ faults.Places
memory_other e = cc

-- the refusal of the document at a place has the place, or it is out of memory
pub at_place : (k : ErrorKind) (i : ℕ) (e : StoreError) → e ≡ refusal_at k i → (e ≡ refusal Memory) ⊎ (e ≡ record { kind = k; document = Some i })
at_place Memory i e is = inl is
at_place _ i e is = inr is

-- out of memory, or the database refused
pub denied : (docs : List TableRow) (c : Command) (x : Fault) → x ≢ faults.Places → (IsDecided c → ⊥) → Does c (refused (kind_of_fault x) None) docs docs
denied docs c faults.Memory other undecided a s = (a, s, (Some memory, ((refl, refl), stays a, undecided)))
denied docs c faults.Database other undecided a s = (a, s, (Some database, ((refl, refl), stays a, undecided)))
denied docs c faults.Places other undecided a s = absurd (other refl)

pub undecided : (n : List ℕ) (c : Call) → IsName n → (IsDecidedCall c → ⊥) → IsDecided (on n c) → ⊥
undecided n c good call (inl bad) = bad good
undecided n c good call (inr d) = call d

pub read_open : (f : Form) (d : Members) → IsUnread f (readable d) → ⊥
read_open in_bytes d x = x
read_open in_json d x = x

-- ---- documents that were written

-- a document that was read, with the key of its id and its written form, and that is kept if there is room
pub record Fits (d : Members) (k b : List ℕ) : Type 0 where
  pub read : IsRead d
  pub id : Value
  pub has : look_up id_key d ≡ Some id
  pub short : size d ≤ size_limit
  pub key : IsKeyOf k id
  pub body : b ≡ encode d

refused_short : (d : Members) → refusal_of d ≡ None → (has_key id_key d ≡ true) × (size d ≤ size_limit)
refused_short d h = by (has_key id_key d) refl h
  where
    small : (b : Bool) → nat_lt size_limit (size d) ≡ b → cond b (Some TooLong) None ≡ None → size d ≤ size_limit
    small true e h = cc
    small false e h = le_of (size d) size_limit e
      where
        le_of : (m n : ℕ) → nat_lt n m ≡ false → m ≤ n
        le_of m n e = grind (arith, e)

    by : (b : Bool) → has_key id_key d ≡ b → cond b (cond (nat_lt size_limit (size d)) (Some TooLong) None) (Some NoId) ≡ None → (b ≡ true) × (size d ≤ size_limit)
    by true e h = (refl, small (nat_lt size_limit (size d)) refl h)
    by false e h = cc

id_in : (d : Members) → has_key id_key d ≡ true → (id : Value) × (look_up id_key d ≡ Some id)
id_in d h = by (look_up id_key d) refl h
  where
    by : (o : Option Value) → look_up id_key d ≡ o → is_some o ≡ true → (id : Value) × (look_up id_key d ≡ Some id)
    by None e h = cc
    by (Some id) e h = (id, e)

pub written_fits : (d : Members) (w : KeptRow) → IsRead d → AnswersWritten d (Ok w) → Fits d w.key.items (cow_slice_items w.body)
written_fits d w read h =
    let s = refused_short d h.0 in
    let i = id_in d s.0 in
    let kept : IsKept d = record { read = read; identified = s.0; small = s.1 } in
    let own = own_of d i.0 kept i.1 in
    let has : HasId i.0 d = rw i.1 (same_itself i.0 own.sound) in
    let is = has_written d i.0 kept own.sound has in
    record {
      read = read;
      id = i.0;
      has = i.1;
      short = s.1;
      key = record { sound = own.sound; plain = is.plain; short = omega (arith, is.short); key = h.1 ∙ sym is.keys };
      body = h.2;
    }

-- ---- inserts

some_behind : (id : Value) (front : Documents) (d : Members) (back : Documents) → HasId id d → SomeHasId id (front ++ d ∷ back)
some_behind id [] d back h = inl h
some_behind id (c ∷ front) d back h = inr (some_behind id front d back h)

none_not_some : (id : Value) (l : Documents) → NoneHasId id l → SomeHasId id l → ⊥
none_not_some id [] n s = s
none_not_some id (d ∷ l) n (inl h) = n.0 h
none_not_some id (d ∷ l) n (inr h) = none_not_some id l n.1 h

unfit_answers : (f : Form) (d : Members) (k : ErrorKind) (l : Documents) → refusal_of d ≡ Some k → Answers (insert f (readable d)) l (refused k None) l
unfit_answers f d k l is = rw is (refl, refl)

pub insert_unwritten : (docs : List TableRow) (n : List ℕ) (d : Members) (k : ErrorKind) → IsName n → AnswersWritten d (Err k) → DoesRead n insert d (refused k None) docs docs
insert_unwritten docs n d k good (inl is) f = answers_stay docs n (insert f (readable d)) (refused k None) good (λ a s. unfit_answers f d k (documents_of a n) is)
insert_unwritten docs n d k good (inr is) f = rw is (denied docs (on n (insert f (readable d))) faults.Memory memory_other (undecided n (insert f (readable d)) good (read_open f d)))

pub insert_denied : (docs : List TableRow) (n : List ℕ) (d : Members) (x : Fault) → IsName n → x ≢ faults.Places → DoesRead n insert d (refused (kind_of_fault x) None) docs docs
insert_denied docs n d x good other f = denied docs (on n (insert f (readable d))) x other (undecided n (insert f (readable d)) good (read_open f d))

pub insert_unfound : (docs after : List TableRow) (n k : List ℕ) (d : Members) (x : Fault) → IsName n → FindsPlace n k (Err x) docs after → DoesRead n insert d (refused (kind_of_fault x) None) docs after
insert_unfound docs after n k d x good h = rw h.same (insert_denied docs n d x good h.faults)

duplicate_answers : (f : Form) (d : Members) (id : Value) (l : Documents) → look_up id_key d ≡ Some id → size d ≤ size_limit → SomeHasId id l → Answers (insert f (readable d)) l (refused DuplicateId None) l
duplicate_answers f d id l has short taken = rw (has, le-ltb size_limit (size d) short) (inl (taken, (refl, refl)))

pub some_is : (o : Option TableRow) (x : ℤ) → Some x ≡ option_map (λ (d : TableRow). d.place) o → (e : TableRow) × (o ≡ Some e) × (x ≡ e.place)
some_is None x h = cc
some_is (Some e) x h = (e, refl, cc)

pub none_is : (o : Option TableRow) → None ≡ option_map (λ (d : TableRow). d.place) o → o ≡ None
none_is None h = refl
none_is (Some e) h = cc

pub duplicate_of : (docs : List TableRow) (n k b : List ℕ) (d : Members) (e : TableRow) → IsName n → Fits d k b → find (is_row_named n k) docs ≡ Some e → DoesRead n insert d (refused DuplicateId None) docs docs
duplicate_of docs n k b d e good fits is f =
    answers_stay docs n (insert f (readable d)) (refused DuplicateId None) good
    (λ a s. let p = found n k fits.id docs a e fits.key s.each s.good is in
    let q = stands_at n k fits.id docs a e p in
    duplicate_answers f d fits.id (documents_of a n) fits.has fits.short (subst (SomeHasId fits.id) (sym q.split) (some_behind fits.id (documents_of p.front n) p.r.document (documents_of p.back n) q.has)))

pub duplicate : (docs after : List TableRow) (n k b : List ℕ) (d : Members) (x : ℤ) → IsName n → Fits d k b → FindsPlace n k (Ok (Some x)) docs after → DoesRead n insert d (refused DuplicateId None) docs after
duplicate docs after n k b d x good fits h =
    let e = some_is (find (is_row_named n k) docs) x h.found in
    rw h.same (duplicate_of docs n k b d e.0 good fits e.1)

insert_answers : (f : Form) (d : Members) (id : Value) (l : Documents) → look_up id_key d ≡ Some id → size d ≤ size_limit → (SomeHasId id l → ⊥) → Answers (insert f (readable d)) l done (l ++ d ∷ [])
insert_answers f d id l has short free = rw (has, le-ltb size_limit (size d) short) (inr (free, (refl, refl)))

pub step_in : (f : Form) (docs : List TableRow) (n k b : List ℕ) (d : Members) (a : DocumentTable) (r : DocumentRow) → IsName n → Fits d k b → find (is_row_named n k) docs ≡ None → Represents docs a → r.name ≡ n → r.document ≡ d
    → Step (state_of a) (on n (insert f (readable d))) done (state_of (a ++ r ∷ []))
step_in f docs n k b d a r good h free s name is =
    let l = list_of (state_of a) n in
    let none = absent n k h.id docs a h.key s.each s.good free in
    inl (
      good,
      (
        l ++ d ∷ [],
        insert_answers f d h.id l h.has h.short (λ some. none_not_some h.id (documents_of a n) none (subst (SomeHasId h.id) (list_of-state_of a n) some)),
        rows_last a (r ∷ []) n (name, tt) ∙ ap (λ e. store (state_of a) n (l ++ e ∷ [])) is,
      ),
    )

pub next_place : (g : ℕ) → pos g +ℤ pos 1 ≡ pos (suc g)
next_place g = ap pos (omega arith)

-- room for so many rows after the greatest place, or none
pub room_is : (l : ℤ) (g k : ℕ) → l ≡ pos g → (l +ℤ pos k) <ℤ pos (2 ^ 63) → g + k ≤ greatest_place
room_is l g k e h = let i = subst (λ z. (z +ℤ pos k) <ℤ pos (2 ^ 63)) e h in omega (arith, ints, i)

pub full_is : (l : ℤ) (g k : ℕ) → l ≡ pos g → ((l +ℤ pos k) <ℤ pos (2 ^ 63) → ⊥) → greatest_place < g + k
full_is l g k e h = by (leb_tells (g + k) greatest_place)
  where
    by : ((leb (g + k) greatest_place ≡ true) × (g + k ≤ greatest_place)) ⊎ ((leb (g + k) greatest_place ≡ false) × (greatest_place < g + k)) → greatest_place < g + k
    by (inl i) = let low : (l +ℤ pos k) <ℤ pos (2 ^ 63) = omega (arith, ints, e, i.1) in absurd (h low)
    by (inr i) = i.1

-- the row of a document that goes in, after the greatest place
abbrev pub next_row : DocumentTable → List ℕ → Members → DocumentRow
next_row a n d = record { place = suc (greatest a); name = n; document = d }

pub row_in : (f : Form) (docs : List TableRow) (n k b : List ℕ) (d : Members) (a : DocumentTable) → IsName n → IsUtf8 n → Fits d k b → find (is_row_named n k) docs ≡ None → IsRoomFor 1 docs → Represents docs a
    → Represents (with_row n k b docs) (a ++ next_row a n d ∷ []) × Serves a (on n (insert f (readable d))) done (a ++ next_row a n d ∷ [])
row_in f docs n k b d a good text h free room s =
    let r : DocumentRow = next_row a n d in
    let last = last_greatest a docs s in
    let below : greatest a < greatest_place = omega (arith, room_is (table.last_place docs) (greatest a) 1 last room) in
    let step = step_in f docs n k b d a r good h free s refl refl in
    let one : IsRowOf r (record { place = table.last_place docs +ℤ pos 1; coll = n; idkey = k; body = b }) = record {
      place = ap (λ z. z +ℤ pos 1) last ∙ next_place (greatest a);
      name = refl;
      text = text;
      key = h.key.key ∙ ap key (sym (own_is d h.id h.has));
      body = h.body;
    } in (
      shows_more docs a r _ s one refl (rows_after a (a ++ r ∷ []) (on n (insert f (readable d))) done s.good h.read step),
      (None, (step, inl (r ∷ [], refl, (refl, omega (arith, below), tt)), tt)),
    )

goes_in : (f : Form) (docs : List TableRow) (n k b : List ℕ) (d : Members) → IsName n → IsUtf8 n → Fits d k b → find (is_row_named n k) docs ≡ None → IsRoomFor 1 docs → Does (on n (insert f (readable d))) done docs (with_row n k b docs)
goes_in f docs n k b d good text h free room a s = let x = row_in f docs n k b d a good text h free room s in (a ++ next_row a n d ∷ [], x.0, x.1)

no_place : (f : Form) (docs : List TableRow) (n k b : List ℕ) (d : Members) → IsName n → Fits d k b → find (is_row_named n k) docs ≡ None → (IsRoomFor 1 docs → ⊥) → Does (on n (insert f (readable d))) (refused Places None) docs docs
no_place f docs n k b d good h free full a s =
    let r : DocumentRow = record { place = suc (greatest a); name = n; document = d } in
    let g : greatest_place < greatest a + 1 = full_is (table.last_place docs) (greatest a) 1 (last_greatest a docs s) full in
    (a, s, (Some places, ((refl, refl), stays a, (undecided n (insert f (readable d)) good (read_open f d), (g, done, state_of (a ++ r ∷ []), step_in f docs n k b d a r good h free s refl refl, λ x. x)))))

-- what a row more makes of the state, whether there is a place for it or not
pub row_makes : (f : Form) (docs mid : List TableRow) (n k b : List ℕ) (d : Members) → IsName n → IsUtf8 n → Fits d k b → FindsPlace n k (Ok None) docs mid
    → (a : DocumentTable) → Represents docs a → (q : Reply) × (e : DocumentTable) × Represents (with_row n k b docs) e × Step (state_of a) (on n (insert f (readable d))) q (state_of e)
row_makes f docs mid n k b d good text h none a s =
    let r : DocumentRow = record { place = suc (greatest a); name = n; document = d } in
    let last = last_greatest a docs s in
    let step = step_in f docs n k b d a r good h (none_is (find (is_row_named n k) docs) none.found) s refl refl in
    let one : IsRowOf r (record { place = table.last_place docs +ℤ pos 1; coll = n; idkey = k; body = b }) = record {
      place = ap (λ z. z +ℤ pos 1) last ∙ next_place (greatest a);
      name = refl;
      text = text;
      key = h.key.key ∙ ap key (sym (own_is d h.id h.has));
      body = h.body;
    } in
    (done, a ++ r ∷ [], shows_more docs a r _ s one refl (rows_after a (a ++ r ∷ []) (on n (insert f (readable d))) done s.good h.read step), step)

pub put_in : (docs mid after : List TableRow) (n k b : List ℕ) (d : Members) → IsName n → IsUtf8 n → Fits d k b → FindsPlace n k (Ok None) docs mid → AddsRows 1 (with_row n k b) (Ok tt) mid after → DoesRead n insert d done docs after
put_in docs mid after n k b d good text fits none h f =
    let room = subst (IsRoomFor 1) none.same h.room in
    rw (h.done, none.same) (goes_in f docs n k b d good text fits (none_is (find (is_row_named n k) docs) none.found) room)

-- the table refuses a row more
pub not_put_in : (docs mid after : List TableRow) (n k b : List ℕ) (d : Members) (x : Fault) → IsName n → Fits d k b → FindsPlace n k (Ok None) docs mid → AddsRows 1 (with_row n k b) (Err x) mid after → DoesRead n insert d (refused (kind_of_fault x) None) docs after
not_put_in docs mid after n k b d faults.Memory good fits none h f = rw (h.refused, none.same) (insert_denied docs n d faults.Memory good memory_other f)
not_put_in docs mid after n k b d faults.Database good fits none h f = rw (h.refused, none.same) (insert_denied docs n d faults.Database good (λ e. cc) f)
not_put_in docs mid after n k b d faults.Places good fits none h f =
    rw (h.refused, none.same) (no_place f docs n k b d good fits (none_is (find (is_row_named n k) docs) none.found) (λ room. h.full refl (subst (IsRoomFor 1) (sym none.same) room)))

-- What calls over pages do, in the words of the store.
use Rattle.std.proofs.Common.{◌≡◌, ◌≢◌, ◌⊎◌, inl, inr, ℕ, List, [], ◌∷◌, ◌++◌, map, Bool, true, false, Option, Some, None, Result, Ok, Err, Vec, Global, String, append-nil, refl, ap, ap₂, ◌∙◌, sym, subst, subst₂, arith}
use Rattle.std.specs.Prelude.{IfErr, IfOk, IsTrue, IsUtf8, MatchOption, bytes_eq, string_bytes}
use Rattle.std.specs.Cmp.Lexicographic.{slice_cmp}
use Rattle.std.specs.List.{find, flat_map, list_any}
use Rattle.std.specs.Option.{option_map}
use Rattle.std.specs.Ordering.{is_lt, nat_cmp}
use Rattle.std.specs.declared.cmp.Ordering.{Ordering}
use Rattle.std.specs.declared.cmp.Ordering.TheVariants.{Less, Equal, Greater}
use Rattle.bson_base.specs.Value.{Members, Value, document}
use Rattle.bson_bytes.specs.Encode.{encode}
use Rattle.sqlite_btree.specs.Cut.{Ascends, Each}
use Rattle.sqlite_pages.specs.Calls.{IsClean}
use Rattle.sqlite_pages.specs.Outcome.{doubt}
use Rattle.sqlite_wal.specs.Recovery.{Image}
use Rattle.sqlite_pages.specs.declared.pages.Pages.{Ghosts}
use Rattle.store_table.specs.Moves.{bodies_of, parts_of_row, Visits}
use Rattle.store_table.specs.Names.{has_name}
use Rattle.store_table.specs.Rows.{TableRow, is_in, is_row_named}
use Rattle.store_table.specs.declared.fault.Fault.{Fault}
use Rattle.store_table.specs.declared.fault.Fault.TheVariants as faults
use Rattle.store_table.specs.declared.row.Found.{Found}
use Rattle.store_table.specs.Documents.{AreDocuments, Doc, of_collection}
use Rattle.store_table.specs.PageNames.{is_before, names_in}
use Rattle.store_table.specs.PageRows.{HandsOn}
use Rattle.store_table.specs.Bridge.{ShowsRows, as_doc}
use Rattle.store_table.proofs.CleanLemmas.{clean_zero, zero_clean}
use Rattle.store_table.proofs.CallLemmas.{bodies_alike, bodies_parted}
use Rattle.store_documents.specs.Bodies.{IsKeyOf}
use Rattle.store_question.specs.Filters.{filter_of}
use Rattle.bson_store.specs.Asking.{VisitsAsked}
use Rattle.store_model.specs.Reading.{Documents}
use Rattle.store_model.specs.Refusal.{refusal}
use Rattle.store_model.specs.Filter.{Filter, Selects}
use Rattle.store_model.specs.Run.{IsDecidedCall}
use Rattle.store_model.specs.State.{AllAfter, Answers, AreAscending, Call, IsName, Picks, Reply, bytes, collections, export, get_raw, holds, on, refused}
use Rattle.store_model.specs.Table.{documents_of}
use Rattle.store_model.specs.declared.error.ErrorKind.TheVariants.{Database, Memory, NotFound}
use Rattle.store_model.specs.declared.error.StoreError.{StoreError}
use Rattle.bson_store.specs.Calls.{Does}
use Rattle.bson_store.specs.Export.{bytes_of_each}
use Rattle.bson_store.specs.Questions.{GivesPicked, IsSettled, Picked, PickedFrom, as_names}
use Rattle.bson_store.specs.Refusals.{IsDenied, kind_of_fault, reply_by}
use Rattle.bson_store.specs.declared.picking.FilterVisitor.{FilterVisitor}
use Rattle.bson_store.proofs.ExportLemmas.{bodies_are}
use Rattle.bson_store.proofs.NameLemmas.{has_bytes, holds_is, texts_in}
use Rattle.bson_store.proofs.FindLemmas.{found_looks, got, not_there, there, unlooked}
use Rattle.bson_store.proofs.SelectLemmas.{Took, picked_of, refused_one, taken}
use Rattle.bson_store.proofs.ServeLemmas.{answers_stay, denied, memory_other, stays, undecided}
use Rattle.store_model.proofs.RowLemmas.{list_of-state_of}
use Rattle.bson_store.proofs.AskLemmas.{scanned}
use Rattle.store_asked.specs.Reads.{FindsBody, OfFiles, Reads, Stays}
use Rattle.store_asked.specs.declared.store.ReadOnlyStore.{ReadOnlyStore}
use Rattle.store_asked.specs.declared.joining.Joined.{Joined}
use Rattle.store_asked.specs.declared.selecting.SelectVisitor.{SelectVisitor}

-- ---- one document

abbrev Body : Type 0
Body = Vec ℕ Global

-- the body of the first row of a name is that of the row that the store finds
body_found : (docs : List TableRow) (n k : List ℕ) (id : Value) (v : Body) → IsKeyOf k id → Some v.items ≡ option_map (λ (d : TableRow). d.body) (find (is_row_named n k) docs) → FindsBody n id (Ok (Some v)) docs docs
body_found docs n k id v w told = by (find (is_row_named n k) docs) refl told
  where
    by : (o : Option TableRow) → find (is_row_named n k) docs ≡ o → Some v.items ≡ option_map (λ (d : TableRow). d.body) o → FindsBody n id (Ok (Some v)) docs docs
    by None e h = cc
    by (Some d) e h =
        let same : v.items ≡ d.body = cc in
        let f : Found = record { place = d.place; body = v } in
        (f, refl, found_looks docs docs n k id (Some f) w (record { same = refl; found = ap (λ b. Some (d.place, b)) same ∙ ap (option_map parts_of_row) (sym e); faults = tt }))

body_absent : (docs : List TableRow) (n k : List ℕ) (id : Value) → IsKeyOf k id → None ≡ option_map (λ (d : TableRow). d.body) (find (is_row_named n k) docs) → FindsBody n id (Ok None) docs docs
body_absent docs n k id w told = by (find (is_row_named n k) docs) refl told
  where
    by : (o : Option TableRow) → find (is_row_named n k) docs ≡ o → None ≡ option_map (λ (d : TableRow). d.body) o → FindsBody n id (Ok None) docs docs
    by None e h = found_looks docs docs n k id None w (record { same = refl; found = ap (option_map parts_of_row) (sym e); faults = tt })
    by (Some d) e h = cc

-- the same, of a name and a key that are these
pub found_as : (docs : List TableRow) (n m k j : List ℕ) (id : Value) (o : Option Body) (v : Body) → IsKeyOf k id → option_map (λ (x : Body). x.items) o ≡ option_map (λ (d : TableRow). d.body) (find (is_row_named m j) docs) → o ≡ Some v → m ≡ n → j ≡ k → FindsBody n id (Ok (Some v)) docs docs
found_as docs n m k j id o v w told one is same = body_found docs n k id v w (sym (ap (option_map (λ (x : Body). x.items)) one) ∙ told ∙ ap₂ (λ a b. option_map (λ (d : TableRow). d.body) (find (is_row_named a b) docs)) is same)

pub absent_as : (docs : List TableRow) (n m k j : List ℕ) (id : Value) (o : Option Body) → IsKeyOf k id → option_map (λ (x : Body). x.items) o ≡ option_map (λ (d : TableRow). d.body) (find (is_row_named m j) docs) → o ≡ None → m ≡ n → j ≡ k → FindsBody n id (Ok None) docs docs
absent_as docs n m k j id o w told none is same = body_absent docs n k id w (sym (ap (option_map (λ (x : Body). x.items)) none) ∙ told ∙ ap₂ (λ a b. option_map (λ (d : TableRow). d.body) (find (is_row_named a b) docs)) is same)

body_denied : (docs : List TableRow) (n : List ℕ) (id : Value) (e : StoreError) → IsDenied e → FindsBody n id (Err e) docs docs
body_denied docs n id e h = record { same = refl; found = tt; denied = h }

pub database_denied : (docs : List TableRow) (n : List ℕ) (id : Value) → FindsBody n id (Err (refusal Database)) docs docs
database_denied docs n id = body_denied docs n id (refusal Database) (faults.Database, (λ e. cc), refl)

-- the body that was found is the answer
pub got_body : (docs : List TableRow) (n nb : List ℕ) (id : Value) (o : Option Body) (v : Body) → nb ≡ n → IsName n → o ≡ Some v → FindsBody nb id (Ok o) docs docs → Does (on n (get_raw id)) (bytes v.items) docs docs
got_body docs n nb id o v is good some h =
    let k = subst (λ m. FindsBody m id (Ok (Some v)) docs docs) is (subst (λ x. FindsBody nb id (Ok x) docs docs) some h) in
    subst (λ (b : Body). Does (on n (get_raw id)) (bytes b.items) docs docs) k.1 (there docs docs n id k.0 (get_raw id) (bytes k.0.body.items) good (λ x. x) k.2 (got id k.0))

pub got_none : (docs : List TableRow) (n nb : List ℕ) (id : Value) (o : Option Body) → nb ≡ n → IsName n → o ≡ None → FindsBody nb id (Ok o) docs docs → Does (on n (get_raw id)) (refused NotFound None) docs docs
got_none docs n nb id o is good none h =
    let k = subst (λ m. FindsBody m id (Ok None) docs docs) is (subst (λ x. FindsBody nb id (Ok x) docs docs) none h) in
    not_there docs docs n id (get_raw id) good (λ a away. inr (away, (refl, refl))) k

pub not_got : (docs : List TableRow) (n nb : List ℕ) (id : Value) (e : StoreError) → nb ≡ n → IsName n → FindsBody nb id (Err e) docs docs → Does (on n (get_raw id)) (refused e.kind e.document) docs docs
not_got docs n nb id e is good h = unlooked docs docs n id (get_raw id) e good (λ x. x) (subst (λ m. FindsBody m id (Err e) docs docs) is h)

-- ---- all bodies of a collection

-- the bytes of bodies, one after the other
abbrev flat : List (List ℕ) → List ℕ
flat = flat_map (λ (b : List ℕ). b)

flat_encoded : (ds : Documents) → flat (map encode ds) ≡ flat_map encode ds
flat_encoded [] = refl
flat_encoded (d ∷ ds) = ap (λ l. encode d ++ l) (flat_encoded ds)

all_joined : (docs : List TableRow) (n : List ℕ) (b : List ℕ) → IsName n → b ≡ flat (bodies_of n docs) → Does (on n export) (bytes b) docs docs
all_joined docs n b good is = answers_stay docs n export (bytes b) good (λ a s. (ap bytes (is ∙ ap flat (bodies_are n a docs s.each) ∙ flat_encoded (documents_of a n)), refl))

-- the call is denied
denied_call : (docs : List TableRow) (n : List ℕ) (e : StoreError) (c : Call) → IsName n → (IsDecidedCall c → ⊥) → IsDenied e → Does (on n c) (refused e.kind e.document) docs docs
denied_call docs n e c good open_call h = rw h.2 (denied docs (on n c) h.0 h.1 (undecided n c good open_call))

-- what was joined since the first visitor
abbrev pub TookJoined : Joined → Joined → List (List ℕ) → Type 0
TookJoined first v bodies = MatchOption v.fault (v.bytes.items ≡ first.bytes.items ++ flat bodies) IsDenied

module _ (docs : List TableRow) (n : List ℕ) (first last : Joined) (good : IsName n) (empty : first.bytes.items ≡ []) (clear : first.fault ≡ None) where
  none_joined : TookJoined first first []
  none_joined = subst (λ o. MatchOption o (first.bytes.items ≡ first.bytes.items ++ []) IsDenied) (sym clear) (sym (append-nil first.bytes.items))

  joined : (all : Bool) → last.fault ≡ None → (all ≡ false → last.fault ≢ None) → Visits (TookJoined first) first last n (Ok all) docs docs → Does (on n export) (bytes last.bytes.items) docs docs
  joined false whole stopped h = absurd (stopped refl whole)
  joined true whole stopped h =
      let is : last.bytes.items ≡ first.bytes.items ++ flat (bodies_of n docs) = subst (λ o. MatchOption o (last.bytes.items ≡ first.bytes.items ++ flat (bodies_of n docs)) IsDenied) whole (h.whole none_joined refl) in
      all_joined docs n last.bytes.items good (is ∙ ap (λ l. l ++ flat (bodies_of n docs)) empty)

  join_refused : (all : Bool) (e : StoreError) → last.fault ≡ Some e → Visits (TookJoined first) first last n (Ok all) docs docs → Does (on n export) (refused e.kind e.document) docs docs
  join_refused all e is h =
      let s = h.some none_joined in
      denied_call docs n e export good (λ d. d) (subst (λ o. MatchOption o (last.bytes.items ≡ first.bytes.items ++ flat s.0) IsDenied) is s.3)

unjoined : (docs : List TableRow) (n : List ℕ) (x : Fault) → IsName n → x ≢ faults.Places → Does (on n export) (refused (kind_of_fault x) None) docs docs
unjoined docs n x good other = denied docs (on n export) x other (undecided n export good (λ d. d))

-- the same of a name that is this one, and of an outcome that is this one
pub joined_as : (docs : List TableRow) (n m : List ℕ) (first last : Joined) (r : Result Bool Fault) (all : Bool) → IsName n → first.bytes.items ≡ [] → first.fault ≡ None → m ≡ n → r ≡ Ok all → last.fault ≡ None → IfOk r (λ b. b ≡ false → last.fault ≢ None) → Visits (TookJoined first) first last m r docs docs
    → Does (on n export) (bytes last.bytes.items) docs docs
joined_as docs n m first last r all good empty clear is ok whole stopped h =
    joined docs n first last good empty clear all whole (subst (λ o. IfOk o (λ b. b ≡ false → last.fault ≢ None)) ok stopped) (subst₂ (λ x o. Visits (TookJoined first) first last x o docs docs) is ok h)

pub refused_as : (docs : List TableRow) (n m : List ℕ) (first last : Joined) (r : Result Bool Fault) (all : Bool) (e : StoreError) → IsName n → first.bytes.items ≡ [] → first.fault ≡ None → m ≡ n → r ≡ Ok all → last.fault ≡ Some e → Visits (TookJoined first) first last m r docs docs
    → Does (on n export) (refused e.kind e.document) docs docs
refused_as docs n m first last r all e good empty clear is ok one h = join_refused docs n first last good empty clear all e one (subst₂ (λ x o. Visits (TookJoined first) first last x o docs docs) is ok h)

pub unjoined_as : (docs : List TableRow) (n m : List ℕ) (first last : Joined) (r : Result Bool Fault) (x : Fault) → IsName n → r ≡ Err x → Visits (TookJoined first) first last m r docs docs → Does (on n export) (refused (kind_of_fault x) None) docs docs
unjoined_as docs n m first last r x good is h = unjoined docs n x good (subst (λ o. IfErr o (λ e. e ≢ faults.Places)) is h.faults)

-- ---- what a filter selects

-- the visitor, as one of the store's
abbrev seen : {T : Type 0} → SelectVisitor T → FilterVisitor T
seen v = record { filter = v.filter; taker = v.taker; fault = v.fault }

-- the body of a row
abbrev pub in_row : Doc → List ℕ
in_row d = d.body

abbrev pub Gave : {T : Type 0} → (T → T → Documents → Type 0) → SelectVisitor T → SelectVisitor T → List (List ℕ) → Type 0
Gave took first v bodies = (v.filter.now ≡ first.filter.now) × GivesPicked (took first.taker v.taker) (filter_of v.filter.now) bodies v.fault

-- what was handed on are the bodies of the rows
pub visited : {P T : Type 0} (took : T → T → Documents → Type 0) (first last : SelectVisitor T) (n : List ℕ) (docs : List TableRow) (g : Ghosts P) (early late : P) (table index : ℕ) (all : Bool) → IsClean g late → AreDocuments (g.size early) (g.pages early) table index (map as_doc docs)
    → (IsClean g late → (ds : List Doc) → AreDocuments (g.size early) (g.pages early) table index ds → Gave took first first [] → IsTrue all → Gave took first last (map in_row (of_collection n ds)))
    → (Gave took first first [] → HandsOn g early late table index n (λ ds. Gave took first last (map in_row ds)))
    → Visits (Gave took first) first last n (Ok all) docs docs
visited took first last n docs g early late table index all clean are whole some = record {
  same = refl;
  whole = λ none is. subst (Gave took first last) (bodies_alike n docs) (whole clean (map as_doc docs) are none is);
  some = λ none.
      let s = some none in
      let rest = s.2 clean (map as_doc docs) are in
      (map in_row s.0, map in_row rest.0, bodies_parted n docs s.0 rest.0 rest.1, s.1);
  faults = tt;
}

module _ {T : Type 0} (took : T → T → Documents → Type 0) (first last : SelectVisitor T) (n : List ℕ) (docs : List TableRow) (start : took first.taker first.taker []) (faultless : first.fault ≡ None) where
  abbrev Selected : Members → Type 0
  Selected d = Selects (filter_of first.filter.now) (document d)

  asked : (r : Result Bool Fault) → Visits (Gave took first) first last n r docs docs → VisitsAsked (Took took (seen first)) (seen first) (seen last) n Selected r docs docs
  asked r h = scanned (Took took (seen first)) (seen first) (seen last) n Selected r docs docs (record { same = h.same; whole = h.whole; some = h.some; faults = h.faults })

  pub all_selected : (all : Bool) → last.fault ≡ None → (all ≡ false → (last.fault ≢ None) ⊎ ((t : T) → IsSettled (took t last.taker))) → Visits (Gave took first) first last n (Ok all) docs docs → Picked (took first.taker) n (filter_of first.filter.now) (Ok last.taker) docs docs
  all_selected all whole stopped h = picked_of (took first.taker) n Selected (filter_of first.filter.now) docs docs (Ok last.taker) (λ d selected. selected) (taken took Selected (seen first) (seen last) n docs docs start faultless all whole stopped (asked (Ok all) h))

  pub one_refused : (all : Bool) (e : StoreError) → last.fault ≡ Some e → Visits (Gave took first) first last n (Ok all) docs docs → Picked (took first.taker) n (filter_of first.filter.now) (Err e) docs docs
  one_refused all e is h = picked_of (took first.taker) n Selected (filter_of first.filter.now) docs docs (Err e) (λ d selected. selected) (refused_one took Selected (seen first) (seen last) n docs docs start faultless all e is (asked (Ok all) h))

module _ {T : Type 0} (took : T → Documents → Type 0) (docs : List TableRow) where
  pub untaken : (n : List ℕ) (f : Filter) (e : StoreError) → IsDenied e → Picked took n f (Err e) docs docs
  untaken n f e h = record { same = refl; taken = λ a s. tt; denied = λ a s. h }

  -- the same said of any name
  pub picked_from : (n nb : List ℕ) (f : Filter) (r : Result T StoreError) → nb ≡ n → IsName n → Picked took nb f r docs docs → PickedFrom took n f r docs docs
  picked_from n nb f r is good h = inl (good, subst (λ x. Picked took x f r docs docs) is h)

  -- what is made of what was selected
  pub picked : (n nb : List ℕ) (f : Filter) (t : T) (c : Call) (q : Reply) → nb ≡ n → IsName n → ((l out : Documents) → Picks f l out → took t out → Answers c l q l) → Picked took nb f (Ok t) docs docs → Does (on n c) q docs docs
  picked n nb f t c q is good answers h =
      let k = subst (λ m. Picked took m f (Ok t) docs docs) is h in
      answers_stay docs n c q good (λ a s. let p = k.taken a s in answers (documents_of a n) p.0 p.1 p.2)

  pub unpicked : (n nb : List ℕ) (f : Filter) (e : StoreError) (c : Call) → nb ≡ n → IsName n → (IsDecidedCall c → ⊥) → Picked took nb f (Err e) docs docs → Does (on n c) (refused e.kind e.document) docs docs
  unpicked n nb f e c is good open_call h a s = let d = h.denied a s in rw d.2 (denied docs (on n c) d.0 d.1 (undecided n c good open_call) a s)

-- ---- the names of the collections

less : (o : Ordering) → is_lt o ≡ true → o ≡ Less
less Less h = refl
less Equal h = cc
less Greater h = cc

all_after : (x : List ℕ) (xs : List (List ℕ)) → Each (λ y. is_before x y ≡ true) xs → AllAfter x xs
all_after x [] h = tt
all_after x (y ∷ xs) h = (less (slice_cmp nat_cmp x y) h.0, all_after x xs h.1)

in_order : (xs : List (List ℕ)) → Ascends is_before xs → AreAscending xs
in_order [] h = tt
in_order (x ∷ xs) h = (all_after x xs h.0, in_order xs h.1)

pub named : (docs : List TableRow) (names : List Body) (r : Result (Vec (String Global) Global) StoreError) → IfOk r (λ v. map string_bytes v.items ≡ bytes_of_each names) → (((n : List ℕ) → IsTrue (has_name names n) → IsUtf8 n) → IfErr r (λ e. e ≡ refusal Memory))
    → ((c : List ℕ) → has_name names c ≡ list_any (is_in c) docs) → Ascends is_before (names_in names) → Does collections (reply_by as_names r) docs docs
named docs found (Ok v) same refuses have rising a s =
    let each : (n : List ℕ) → list_any (bytes_eq n) (map string_bytes v.items) ≡ list_any (is_in n) docs = λ n. ap (list_any (bytes_eq n)) same ∙ has_bytes n found ∙ have n in
    let asc : AreAscending (map string_bytes v.items) = subst AreAscending (sym same) (in_order (names_in found) rising) in (
      a,
      s,
      (None, (((map string_bytes v.items, record { ascending = asc; each = λ n. each n ∙ holds_is n a docs s.each ∙ ap holds (sym (list_of-state_of a n)) }, refl), refl), stays a, tt)),
    )
named docs found (Err e) same refuses have rising a s = rw (refuses (λ n t. texts_in n a docs s.each (subst IsTrue (have n) t))) (denied docs collections faults.Memory memory_other (λ d. d) a s)

pub unnamed : (docs : List TableRow) (x : Fault) → x ≢ faults.Places → Does collections (refused (kind_of_fault x) None) docs docs
unnamed docs x other = denied docs collections x other (λ d. d)

-- ---- the files

-- what is said of the rows that the pages show, said of the rows of a database that the files hold
pub of_files : {P : Type 0} (g : Ghosts P) (old new : ReadOnlyStore P) (image : Image) (R : List TableRow → List TableRow → Type 0)
    → (IsTrue (g.is_clean old.pages) → ShowsRows image (g.size old.pages) (g.pages old.pages) old.roots.table old.roots.index) → Stays g old new → Reads g old new R → IsTrue (g.is_clean new.pages) → OfFiles image R
of_files g old new image R opened same reads clean trees first docs held has =
    let zero = clean_zero (g.is_clean new.pages) clean in
    let before : doubt (g.is_clean old.pages) ≡ 0 = omega (arith, zero, same.0.clean) in
    reads zero docs (opened (zero_clean (g.is_clean old.pages) before) trees first docs held has)

-- The written keys of a collection, and the rows whose key is there already.
use Rattle.std.proofs.Common.{◌≡◌, ℕ, ℤ, ◌+◌, ◌<◌, ◌≤◌, List, [], ◌∷◌, length, get_or, map, filter, Bool, true, false, not, ◌||◌, ◌&&◌, cond, IsTrue, Result, Option, Some, None, is_some, Ok, Err, refl, ap, ◌∙◌, sym, subst, arith}
use Rattle.std.specs.List.{list_any, find}
use Rattle.std.proofs.lemmas.List.{length-map}
use Rattle.std.specs.Option.{option_map}
use Rattle.std.specs.Str.{bytes_eq}
use Rattle.bson_meaning.specs.Meaning.{key}
use Rattle.store_table.specs.Rows.{TableRow, is_in, is_row_named}
use Rattle.store_table.specs.Moves.{FindsNone, FindsPlace}
use Rattle.store_table.specs.declared.fault.Fault.{Fault}
use Rattle.store_table.specs.declared.fault.Fault.TheVariants as faults
use Rattle.store_documents.specs.declared.write.KeptRow.{KeptRow}
use Rattle.store_model.specs.Reading.{Documents}
use Rattle.store_model.specs.Table.{DocumentTable, documents_of, own_id}
use Rattle.store_model.specs.declared.error.ErrorKind.TheVariants.{Memory}
use Rattle.store_documents.specs.declared.keys.Keys.{Keys}
use Rattle.store_documents.specs.Judging.{AreWrittenRows}
use Rattle.store_documents.specs.Keys.{first_taken, has_met, keys_of, keys_of_rows}
use Rattle.store_documents.proofs.TakenLemmas.{key_at, rows_below, ComeTo, come_start, come_more, come_there, come_again, come_end}
use Rattle.bson_store.specs.Shown.{AreRowsOf}
use Rattle.bson_store.specs.Many.{Meets, FindsTaken, keys_in}
use Rattle.bson_store.specs.Refusals.{kind_of_fault}
use Rattle.store_model.specs.Refusal.{refusal}
use Rattle.store_model.specs.declared.error.StoreError.{StoreError}
use Rattle.bson_store.proofs.ServeLemmas.{memory_other, none_is, some_is}
use Rattle.bson_base.proofs.MemberLemmas.{key_turned}

-- ---- keys

-- a key is in the collection if its row is found
pub named_there : (n k : List ℕ) (docs : List TableRow) → is_some (find (is_row_named n k) docs) ≡ list_any (bytes_eq k) (keys_in n docs)
named_there n k [] = refl
named_there n k (d ∷ docs) = by (bytes_eq d.coll n) (named_there n k docs)
  where
    at : (b : Bool) → is_some (find (is_row_named n k) docs) ≡ list_any (bytes_eq k) (keys_in n docs) → is_some (cond b (Some d) (find (is_row_named n k) docs)) ≡ b || list_any (bytes_eq k) (keys_in n docs)
    at true rest = refl
    at false rest = rest

    by : (b : Bool) → is_some (find (is_row_named n k) docs) ≡ list_any (bytes_eq k) (keys_in n docs)
        → is_some (cond (b && bytes_eq d.idkey k) (Some d) (find (is_row_named n k) docs)) ≡ list_any (bytes_eq k) (map (λ (x : TableRow). x.idkey) (cond b (d ∷ filter (is_in n) docs) (filter (is_in n) docs)))
    by true rest = at (bytes_eq d.idkey k) rest ∙ ap (λ b. b || list_any (bytes_eq k) (keys_in n docs)) (key_turned d.idkey k)
    by false rest = rest

-- the keys of a collection are those of its documents
pub keys_are : (n : List ℕ) (a : DocumentTable) (docs : List TableRow) → AreRowsOf a docs → keys_in n docs ≡ keys_of (documents_of a n)
keys_are n [] [] each = refl
keys_are n [] (d ∷ docs) each = absurd each
keys_are n (r ∷ rs) [] each = absurd each
keys_are n (r ∷ rs) (d ∷ docs) each =
    ap (λ b. map (λ (x : TableRow). x.idkey) (cond b (d ∷ filter (is_in n) docs) (filter (is_in n) docs))) (ap (λ m. bytes_eq m n) each.0.name ∙ key_turned r.name n)
    ∙ by (bytes_eq n r.name) (keys_are n rs docs each.1)
  where
    by : (b : Bool) → keys_in n docs ≡ keys_of (documents_of rs n)
        → map (λ (x : TableRow). x.idkey) (cond b (d ∷ filter (is_in n) docs) (filter (is_in n) docs)) ≡ keys_of (cond b (r.document ∷ documents_of rs n) (documents_of rs n))
    by true rest = ap (λ k. k ∷ keys_in n docs) each.0.key ∙ ap (λ ks. key (own_id r.document) ∷ ks) rest
    by false rest = rest

pub row_keys_are : (ws : List KeptRow) (ds : Documents) → AreWrittenRows ws ds → keys_of_rows ws ≡ keys_of ds
row_keys_are [] [] h = refl
row_keys_are [] (d ∷ ds) h = absurd h
row_keys_are (w ∷ ws) [] h = absurd h
row_keys_are (w ∷ ws) (d ∷ ds) h = ap (λ k. k ∷ keys_of_rows ws) h.1 ∙ ap (λ ks. key (own_id d) ∷ ks) (row_keys_are ws ds h.2)

-- ---- one key

pub meets_unfound : (n k : List ℕ) (met : Keys) (x : Fault) (docs after : List TableRow) → FindsPlace n k (Err x) docs after → Meets n k met (Err (refusal (kind_of_fault x))) docs after
meets_unfound n k met x docs after h = record { same = h.same; there = tt; denied = (x, h.faults, refl) }

some_named : (n k : List ℕ) (x : ℤ) (docs : List TableRow) → Some x ≡ option_map (λ (d : TableRow). d.place) (find (is_row_named n k) docs) → list_any (bytes_eq k) (keys_in n docs) ≡ true
some_named n k x docs h = sym (named_there n k docs) ∙ ap is_some (some_is (find (is_row_named n k) docs) x h).1

none_named : (n k : List ℕ) (docs : List TableRow) → None ≡ option_map (λ (d : TableRow). d.place) (find (is_row_named n k) docs) → list_any (bytes_eq k) (keys_in n docs) ≡ false
none_named n k docs h = sym (named_there n k docs) ∙ ap is_some (none_is (find (is_row_named n k) docs) h)

pub meets_found : (n k : List ℕ) (met : Keys) (f : Option ℤ) (x : ℤ) (docs after : List TableRow) → f ≡ Some x → FindsPlace n k (Ok f) docs after → Meets n k met (Ok true) docs after
meets_found n k met f x docs after is h =
    let e = some_named n k x docs (subst (λ o. o ≡ option_map (λ (d : TableRow). d.place) (find (is_row_named n k) docs)) is h.found) in
    record { same = h.same; there = sym (ap (λ b. b || has_met met k) e); denied = tt }

pub meets_memory : (n k : List ℕ) (met : Keys) (f : Option ℤ) (docs after : List TableRow) → FindsPlace n k (Ok f) docs after → Meets n k met (Err (refusal Memory)) docs after
meets_memory n k met f docs after h = record { same = h.same; there = tt; denied = (faults.Memory, memory_other, refl) }

not_twice : (b c : Bool) → b ≡ not c → not b ≡ c
not_twice b true e = ap not e
not_twice b false e = ap not e

pub meets_new : (n k : List ℕ) (met : Keys) (f : Option ℤ) (is_new : Bool) (docs after : List TableRow) → f ≡ None → is_new ≡ not (has_met met k) → FindsPlace n k (Ok f) docs after → Meets n k met (Ok (not is_new)) docs after
meets_new n k met f is_new docs after is fresh h =
    let e = none_named n k docs (subst (λ o. o ≡ option_map (λ (d : TableRow). d.place) (find (is_row_named n k) docs)) is h.found) in
    record { same = h.same; there = not_twice is_new (has_met met k) fresh ∙ sym (ap (λ b. b || has_met met k) e); denied = tt }

-- ---- one key after the other

-- no row before the place has a key that is there, and the keys of those rows were met
pub record ComesTo (n : List ℕ) (rows : List KeptRow) (met : Keys) (at : ℕ) (docs after : List TableRow) : Type 0 where
  pub same : after ≡ docs
  pub come : ComeTo (keys_in n docs) (keys_of_rows rows) met at

pub comes_first : (n : List ℕ) (rows : List KeptRow) (met : Keys) (docs : List TableRow) → ((k : List ℕ) → has_met met k ≡ false) → ComesTo n rows met 0 docs docs
comes_first n rows met docs none = record { same = refl; come = come_start (keys_in n docs) (keys_of_rows rows) met none }

either_false : (a b : Bool) → false ≡ a || b → (a ≡ false) × (b ≡ false)
either_false true b e = cc
either_false false b e = (refl, sym e)

pub comes_more : (n : List ℕ) (rows : List KeptRow) (old new : Keys) (at : ℕ) (w : KeptRow) (b : Bool) (docs mid after : List TableRow) → at < length rows → w ≡ get_or rows at w → b ≡ false
    → ((k : List ℕ) → has_met new k ≡ bytes_eq k w.key.items || has_met old k) → ComesTo n rows old at docs mid → Meets n w.key.items old (Ok b) mid after → ComesTo n rows new (at + 1) docs after
comes_more n rows old new at w b docs mid after h is other added c m =
    let there : b ≡ list_any (bytes_eq w.key.items) (keys_in n docs) || has_met old w.key.items = subst (λ ds. b ≡ list_any (bytes_eq w.key.items) (keys_in n ds) || has_met old w.key.items) c.same m.there in
    let neither = either_false (list_any (bytes_eq w.key.items) (keys_in n docs)) (has_met old w.key.items) (sym other ∙ there) in
    record {
      same = m.same ∙ c.same;
      come = come_more (keys_in n docs) (keys_of_rows rows) old new at w.key.items c.come (rows_below rows at h) (key_at rows at w h is) neither.0 neither.1 added;
    }

pub taken_here : (n : List ℕ) (rows : List KeptRow) (met : Keys) (at : ℕ) (w : KeptRow) (b : Bool) (docs mid after : List TableRow) → at < length rows → w ≡ get_or rows at w → b ≡ true
    → ComesTo n rows met at docs mid → Meets n w.key.items met (Ok b) mid after → FindsTaken n rows (Ok (Some at)) docs after
taken_here n rows met at w b docs mid after h is told c m =
    let there : b ≡ list_any (bytes_eq w.key.items) (keys_in n docs) || has_met met w.key.items = subst (λ ds. b ≡ list_any (bytes_eq w.key.items) (keys_in n ds) || has_met met w.key.items) c.same m.there in
    record {
      same = m.same ∙ c.same;
      place = sym (by (list_any (bytes_eq w.key.items) (keys_in n docs)) refl (sym there ∙ told));
      denied = tt;
    }
  where
    by : (t : Bool) → list_any (bytes_eq w.key.items) (keys_in n docs) ≡ t → t || has_met met w.key.items ≡ true → first_taken 0 (keys_in n docs) (keys_of_rows rows) ≡ Some at
    by true e i = come_there (keys_in n docs) (keys_of_rows rows) met at w.key.items c.come (rows_below rows at h) (key_at rows at w h is) e
    by false e i = come_again (keys_in n docs) (keys_of_rows rows) met at w.key.items c.come (rows_below rows at h) (key_at rows at w h is) i

pub taken_denied : (n : List ℕ) (rows : List KeptRow) (met : Keys) (at : ℕ) (k : List ℕ) (e : StoreError) (docs mid after : List TableRow) → ComesTo n rows met at docs mid → Meets n k met (Err e) mid after → FindsTaken n rows (Err e) docs after
taken_denied n rows met at k e docs mid after c m = record { same = m.same ∙ c.same; place = tt; denied = m.denied }

pub none_taken : (n : List ℕ) (rows : List KeptRow) (met : Keys) (at : ℕ) (docs after : List TableRow) → length rows ≤ at → ComesTo n rows met at docs after → FindsTaken n rows (Ok None) docs after
none_taken n rows met at docs after h c = record {
  same = c.same;
  place = sym (come_end (keys_in n docs) (keys_of_rows rows) met at c.come (omega (arith, h, length-map rows (λ (w : KeptRow). w.key.items))));
  denied = tt;
}

-- ---- whether there is a row at all

pub taken_unknown : (n : List ℕ) (rows : List KeptRow) (x : Fault) (docs after : List TableRow) → FindsNone (Err x) docs after → FindsTaken n rows (Err (refusal (kind_of_fault x))) docs after
taken_unknown n rows x docs after h = record { same = h.same; place = tt; denied = (x, h.faults, refl) }

pub repeats_unknown : (n : List ℕ) (rows : List KeptRow) (b : Bool) (docs after : List TableRow) → FindsNone (Ok b) docs after → FindsTaken n rows (Err (refusal Memory)) docs after
repeats_unknown n rows b docs after h = record { same = h.same; place = tt; denied = (faults.Memory, memory_other, refl) }

pub taken_of_none : (n : List ℕ) (rows : List KeptRow) (b : Bool) (o : Option ℕ) (docs after : List TableRow) → IsTrue b → o ≡ first_taken 0 [] (keys_of_rows rows) → FindsNone (Ok b) docs after → FindsTaken n rows (Ok o) docs after
taken_of_none n rows b o docs after is place h = record {
  same = h.same;
  place = place ∙ ap (λ ds. first_taken 0 (keys_in n ds) (keys_of_rows rows)) (sym (h.none.0 is));
  denied = tt;
}

pub taken_later : (n : List ℕ) (rows : List KeptRow) (b : Bool) (r : Result (Option ℕ) StoreError) (docs mid after : List TableRow) → FindsNone (Ok b) docs mid → FindsTaken n rows r mid after → FindsTaken n rows r docs after
taken_later n rows b r docs mid after h m = subst (λ ds. FindsTaken n rows r ds after) h.same m

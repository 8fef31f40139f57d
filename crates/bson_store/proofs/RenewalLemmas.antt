-- Rows under current keys or keys from before, and the table of documents that they show.
use Rattle.std.proofs.Common.{◌≡◌, inl, inr, ◌<ℤ◌, ℕ, ℤ, pos, List, [], ◌∷◌, ◌++◌, Bool, true, false, ◌||◌, refl, sym, ap, subst, ◌∙◌, arith}
use Rattle.std.proofs.lemmas.Int.{ints}
use Rattle.std.specs.List.{list_any}
use Rattle.bson_base.specs.Value.{Members}
use Rattle.bson_bytes.specs.Encode.{encode}
use Rattle.bson_meaning.specs.Before.{key as key_before}
use Rattle.bson_meaning.specs.Meaning.{key}
use Rattle.store_table.specs.Rows.{TableRow, is_row_named}
use Rattle.store_table.specs.Rows as table
use Rattle.store_table.specs.Check.{AreGoodAfter, AreGood}
use Rattle.store_table.specs.Renewal.{IsOwn, IsRenewed, AreRenewed}
use Rattle.store_documents.specs.Bodies.{IsRow, IsRowOnce, TellsKey}
use Rattle.store_documents.specs.declared.row.RowKey.TheVariants.{Neither}
use Rattle.store_model.proofs.RestoreLemmas.{written_reads}
use Rattle.store_model.specs.Reading.{Reading, ReadsBytes, readable}
use Rattle.store_model.specs.State.{IsKept, IsName}
use Rattle.store_model.specs.Table.{DocumentRow, DocumentTable, AreRows, IsAlone, own_id}
use Rattle.bson_store.specs.Shown.{IsRowOf, AreRowsOf, Rises, Represents, IsRowOnceOf, AreRowsOnceOf, RepresentsOnce}
use Rattle.bson_store.specs.Opening.{IsRowUnder, RepresentsSome, StandFor}
use Rattle.bson_store.proofs.OpenedRowLemmas.{good_rows, last_of}
use Rattle.bson_store.proofs.TableLemmas.{named_is}

-- ---- current keys

-- a row under its own key is one that the store can have written
own_rows : (seen docs : List TableRow) → AreGoodAfter (IsOwn IsRowUnder) seen docs → AreGoodAfter IsRow seen docs
own_rows seen [] h = tt
own_rows seen (d ∷ docs) h = (record { above = h.0.above; fresh = h.0.fresh; accepted = h.0.accepted.0 }, own_rows (seen ++ d ∷ []) docs h.1)

same_read : (a b : Members) → ◌≡◌ {A = Reading} (readable a) (readable b) → a ≡ b
same_read a b e = cc

-- kept documents with one written form are one
same_written : (a b : Members) → IsKept a → IsKept b → encode a ≡ encode b → a ≡ b
same_written a b k l e = same_read a b ((written_reads b l (readable a)).0 (subst (λ x. ReadsBytes x (readable a)) e ((written_reads a k (readable a)).1 refl)))

-- ---- one row

module _ (r : DocumentRow) (d e : TableRow) (kept : IsKept r.document) (h : IsRenewed IsRowUnder d e) where
  -- the document of the row is the one that its body is of
  its_document : d.body ≡ encode r.document → h.key.0.document ≡ r.document
  its_document body = same_written h.key.0.document r.document h.key.0.kept kept (sym h.key.0.body ∙ body)

  row_now : IsRowOnceOf r d → IsRowOf r e
  row_now is = record {
    place = h.place ∙ is.place;
    name = h.coll ∙ is.name;
    text = is.text;
    key = h.key.0.key ∙ ap (λ m. key (own_id m)) (its_document is.body);
    body = h.body ∙ is.body;
  }

  row_before : IsRowOf r e → IsRowOnceOf r d
  row_before is =
      let body : d.body ≡ encode r.document = sym h.body ∙ is.body in
      record {
        place = sym h.place ∙ is.place;
        name = sym h.coll ∙ is.name;
        text = is.text;
        key = elim h.key.1 [ inl same ↦ inl (same ∙ is.key) | inr old ↦ inr (old ∙ ap (λ m. key_before (own_id m)) (its_document body)) ];
        body = body;
      }

-- ---- all rows

rows_now : (t : DocumentTable) (docs after : List TableRow) → AreRows t → AreRenewed IsRowUnder docs after → AreRowsOnceOf t docs → AreRowsOf t after
rows_now [] [] [] good h each = tt
rows_now [] [] (e ∷ after) good h each = absurd h
rows_now [] (d ∷ docs) after good h each = absurd each
rows_now (r ∷ t) [] after good h each = absurd each
rows_now (r ∷ t) (d ∷ docs) [] good h each = absurd h
rows_now (r ∷ t) (d ∷ docs) (e ∷ after) good h each = (row_now r d e good.1 h.0 each.0, rows_now t docs after good.3 h.1 each.1)

rows_before : (t : DocumentTable) (docs after : List TableRow) → AreRows t → AreRenewed IsRowUnder docs after → AreRowsOf t after → AreRowsOnceOf t docs
rows_before [] [] [] good h each = tt
rows_before [] [] (e ∷ after) good h each = absurd h
rows_before [] (d ∷ docs) [] good h each = absurd h
rows_before [] (d ∷ docs) (e ∷ after) good h each = absurd each
rows_before (r ∷ t) docs [] good h each = absurd each
rows_before (r ∷ t) [] (e ∷ after) good h each = absurd h
rows_before (r ∷ t) (d ∷ docs) (e ∷ after) good h each = (row_before r d e good.1 h.0 each.0, rows_before t docs after good.3 h.1 each.1)

-- what the rows showed is shown under the current keys
pub shown_now : (docs after : List TableRow) → AreRenewed IsRowUnder docs after → (t : DocumentTable) → RepresentsOnce docs t → Represents after t
shown_now docs after h t s = record { each = rows_now t docs after s.good h s.each; good = s.good; rising = s.rising }

pub stand_for : (docs after : List TableRow) → AreRenewed IsRowUnder docs after → AreGood (IsOwn IsRowUnder) after → StandFor docs after
stand_for docs after h good =
    let some = good_rows after (own_rows [] after good) in
    ((some.0, record { each = rows_before some.0 docs after some.1.good h some.1.each; good = some.1.good; rising = some.1.rising }, some.1), shown_now docs after h)

row_once : (r : DocumentRow) (d : TableRow) → IsRowOf r d → IsRowOnceOf r d
row_once r d is = record { place = is.place; name = is.name; text = is.text; key = inl is.key; body = is.body }

rows_once : (t : DocumentTable) (docs : List TableRow) → AreRowsOf t docs → AreRowsOnceOf t docs
rows_once [] [] each = tt
rows_once [] (d ∷ docs) each = absurd each
rows_once (r ∷ t) [] each = absurd each
rows_once (r ∷ t) (d ∷ docs) each = (row_once r d each.0, rows_once t docs each.1)

pub shown_once : (docs : List TableRow) (t : DocumentTable) → Represents docs t → RepresentsOnce docs t
shown_once docs t s = record { each = rows_once t docs s.each; good = s.good; rising = s.rising }

-- ---- rows that show a table are good under their own keys

-- no row of the table has the name and the key of this one
abbrev IsNew : DocumentRow → DocumentTable → Type 0
IsNew q [] = Unit {0}
IsNew q (b ∷ before) = (q.name ≡ b.name → key (own_id q.document) ≡ key (own_id b.document) → ⊥) × IsNew q before

abbrev AreNew : DocumentTable → DocumentTable → Type 0
AreNew [] before = Unit {0}
AreNew (q ∷ rs) before = IsNew q before × AreNew rs before

new_on : (q r : DocumentRow) (before : DocumentTable) → IsNew q before → (q.name ≡ r.name → key (own_id q.document) ≡ key (own_id r.document) → ⊥) → IsNew q (before ++ r ∷ [])
new_on q r [] h k = (k, tt)
new_on q r (b ∷ before) h k = (h.0, new_on q r before h.1 k)

all_new_on : (rs : DocumentTable) (r : DocumentRow) (before : DocumentTable) → AreNew rs before → IsAlone r rs → AreNew rs (before ++ r ∷ [])
all_new_on [] r before h alone = tt
all_new_on (q ∷ rs) r before h alone = (new_on q r before h.0 alone.0, all_new_on rs r before h.1 alone.1)

each_on : (before : DocumentTable) (seen : List TableRow) (r : DocumentRow) (d : TableRow) → AreRowsOf before seen → IsRowOf r d → AreRowsOf (before ++ r ∷ []) (seen ++ d ∷ [])
each_on [] [] r d each is = (is, tt)
each_on [] (e ∷ seen) r d each is = absurd each
each_on (b ∷ before) [] r d each is = absurd each
each_on (b ∷ before) (e ∷ seen) r d each is = (each.0, each_on before seen r d each.1 is)

fresh : (q : DocumentRow) (d : TableRow) (before : DocumentTable) (seen : List TableRow) → IsRowOf q d → AreRowsOf before seen → IsNew q before → list_any (is_row_named d.coll d.idkey) seen ≡ false
fresh q d [] [] is each h = refl
fresh q d [] (e ∷ seen) is each h = absurd each
fresh q d (b ∷ before) [] is each h = absurd each
fresh q d (b ∷ before) (e ∷ seen) is each h = by (is_row_named d.coll d.idkey e) refl (fresh q d before seen is each.1 h.1)
  where
    by : (c : Bool) → is_row_named d.coll d.idkey e ≡ c → list_any (is_row_named d.coll d.idkey) seen ≡ false → (c || list_any (is_row_named d.coll d.idkey) seen) ≡ false
    by true hit rest = absurd (let n = named_is d.coll d.idkey e hit in h.0 (sym is.name ∙ sym n.0 ∙ each.0.name) (sym is.key ∙ sym n.1 ∙ each.0.key))
    by false miss rest = rest

good_after : (n : ℕ) (before rs : DocumentTable) (seen docs : List TableRow) → table.last_place seen ≡ pos n → Rises n rs → AreRowsOf before seen → AreRowsOf rs docs → AreRows rs → AreNew rs before → AreGoodAfter (IsOwn IsRowUnder) seen docs
good_after n before [] seen [] last up was each good new = tt
good_after n before [] seen (d ∷ docs) last up was each good new = absurd each
good_after n before (r ∷ rs) seen [] last up was each good new = absurd each
good_after n before (r ∷ rs) seen (d ∷ docs) last up was each good new =
    let is = each.0 in
    let row : IsRow d.coll d.idkey d.body = record { name = subst IsName (sym is.name) good.0; utf8 = subst Rattle.std.specs.Prelude.IsUtf8 (sym is.name) is.text; document = r.document; kept = good.1; key = is.key; body = is.body } in
    let low = up.0 in
    let above : table.last_place seen <ℤ d.place = subst (λ (z : ℤ). z <ℤ d.place) (sym last) (subst (λ (z : ℤ). pos n <ℤ z) (sym is.place) (omega (arith, ints, low))) in (
      record { above = above; fresh = fresh r d before seen is was new.0; accepted = (row, inl refl) },
      good_after r.place (before ++ r ∷ []) rs (seen ++ d ∷ []) docs (last_of seen d ∙ is.place) up.1 (each_on before seen r d was is) each.1 good.3 (all_new_on rs r before new.1 good.2),
    )

all_new : (rs : DocumentTable) → AreNew rs []
all_new [] = tt
all_new (r ∷ rs) = (tt, all_new rs)

pub shown_good : (docs : List TableRow) → RepresentsSome docs → AreGood (IsOwn IsRowUnder) docs
shown_good docs some = good_after 0 [] some.0 [] docs refl some.1.rising tt some.1.each some.1.good (all_new some.0)

-- ---- the test of a row

pub old_told : (coll k body now : List ℕ) → IsRowOnce coll k body now → IsRowUnder coll k body now × IsRowUnder coll now body now
old_told coll k body now h = ((h.row, inr h.old), (h.row, inl refl))

pub none_told : (coll k body : List ℕ) → TellsKey coll k body Neither → (now : List ℕ) → IsRowUnder coll k body now → ⊥
none_told coll k body h now x = elim x.1 [ inl own ↦ (h now x.0).0 own | inr old ↦ (h now x.0).1 old ]

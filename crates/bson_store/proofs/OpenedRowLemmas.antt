-- Rows that a store can have written show a table of documents.
use Rattle.std.proofs.Common.{◌≡◌, ℕ, ℤ, pos, negsuc, ◌<ℤ◌, ◌<◌, List, [], ◌∷◌, ◌++◌, Bool, true, false, ◌||◌, refl, ap, ◌∙◌, sym, subst, arith, append_assoc}
use Rattle.std.proofs.lemmas.Int.{ints}
use Rattle.std.specs.List.{list_any}
use Rattle.store_table.specs.Rows.{TableRow, is_row_named}
use Rattle.store_table.specs.Rows as table
use Rattle.store_table.specs.Check.{AreGoodAfter, AreGood}
use Rattle.store_documents.specs.Bodies.{IsRow}
use Rattle.store_model.specs.Table.{DocumentRow, DocumentTable, IsAlone}
use Rattle.bson_store.specs.Shown.{IsRowOf, AreRowsOf, Rises}
use Rattle.bson_store.specs.Opening.{RepresentsSome}
use Rattle.bson_store.proofs.TableLemmas.{is_named_so}

-- a row whose collection and key the later ones don't have
abbrev Apart : TableRow → List TableRow → Type 0
Apart d [] = Unit {0}
Apart d (e ∷ docs) = (is_row_named e.coll e.idkey d ≡ false) × Apart d docs

none_in : (p : TableRow → Bool) (a : List TableRow) (d : TableRow) (b : List TableRow) → list_any p (a ++ d ∷ b) ≡ false → p d ≡ false
none_in p [] d b h = by (p d) h
  where
    by : (c : Bool) → (c || list_any p b) ≡ false → c ≡ false
    by true h = cc
    by false h = refl
none_in p (x ∷ a) d b h = by (p x) h (none_in p a d b)
  where
    by : (c : Bool) → (c || list_any p (a ++ d ∷ b)) ≡ false → (list_any p (a ++ d ∷ b) ≡ false → p d ≡ false) → p d ≡ false
    by true h rest = cc
    by false h rest = rest h

apart : (d : TableRow) (seen a b docs : List TableRow) → seen ≡ a ++ d ∷ b → AreGoodAfter IsRow seen docs → Apart d docs
apart d seen a b [] split good = tt
apart d seen a b (e ∷ docs) split good = (
  none_in (is_row_named e.coll e.idkey) a d b (subst (λ s. list_any (is_row_named e.coll e.idkey) s ≡ false) split good.0.fresh),
  apart d (seen ++ e ∷ []) a (b ++ e ∷ []) docs (ap (λ s. s ++ e ∷ []) split ∙ append_assoc a (d ∷ b) (e ∷ [])) good.1,
)

alone : (r : DocumentRow) (d : TableRow) (rs : DocumentTable) (docs : List TableRow) → IsRowOf r d → AreRowsOf rs docs → Apart d docs → IsAlone r rs
alone r d [] docs is each h = tt
alone r d (q ∷ rs) [] is each h = absurd each
alone r d (q ∷ rs) (e ∷ docs) is each h = (here, alone r d rs docs is each.1 h.1)
  where
    here : q.name ≡ r.name → Rattle.bson_meaning.specs.Meaning.key (Rattle.store_model.specs.Table.own_id q.document) ≡ Rattle.bson_meaning.specs.Meaning.key (Rattle.store_model.specs.Table.own_id r.document) → ⊥
    here name keys =
        let yes = is_named_so e.coll e.idkey d (is.name ∙ sym name ∙ sym each.0.name) (is.key ∙ sym keys ∙ sym each.0.key) in
        let no : true ≡ false = sym yes ∙ h.0 in
        cc

place_of : (z : ℤ) (n : ℕ) → pos n <ℤ z → (p : ℕ) × (z ≡ pos p) × (n < p)
place_of (pos p) n h = (p, refl, omega (arith, ints, h))
place_of (negsuc m) n h = absurd (omega (arith, ints, h))

pub last_of : (seen : List TableRow) (d : TableRow) → table.last_place (seen ++ d ∷ []) ≡ d.place
last_of [] d = refl
last_of (x ∷ []) d = refl
last_of (x ∷ (y ∷ seen)) d = last_of (y ∷ seen) d

record ShowAfter (n : ℕ) (docs : List TableRow) : Type 0 where
  pub t : DocumentTable
  pub each : AreRowsOf t docs
  pub good : Rattle.store_model.specs.Table.AreRows t
  pub rising : Rises n t

show_after : (n : ℕ) (seen docs : List TableRow) → table.last_place seen ≡ pos n → AreGoodAfter IsRow seen docs → ShowAfter n docs
show_after n seen [] last good = record { t = []; each = tt; good = tt; rising = tt }
show_after n seen (d ∷ docs) last good =
    let p = place_of d.place n (subst (λ z. z <ℤ d.place) last good.0.above) in
    let rest = show_after p.0 (seen ++ d ∷ []) docs (last_of seen d ∙ p.1) good.1 in
    let w = good.0.accepted in
    let r : DocumentRow = record { place = p.0; name = d.coll; document = w.document } in
    let one : IsRowOf r d = record { place = p.1; name = refl; text = w.utf8; key = w.key; body = w.body } in
    record {
      t = r ∷ rest.t;
      each = (one, rest.each);
      good = (w.name, w.kept, alone r d rest.t docs one rest.each (apart d (seen ++ d ∷ []) seen [] docs refl good.1), rest.good);
      rising = (p.2, rest.rising);
    }

pub good_rows : (docs : List TableRow) → AreGood IsRow docs → RepresentsSome docs
good_rows docs good = let h = show_after 0 [] docs refl good in (h.t, record { each = h.each; good = h.good; rising = h.rising })

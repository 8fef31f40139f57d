-- Rows that a draft would make.
use Rattle.std.proofs.Common.{◌≡◌, inl, ℕ, ℤ, pos, ◌<ℤ◌, ◌^◌, ◌<◌, List, [], ◌∷◌, ◌++◌, Bool, true, false, cond, filter, find, map, Ok, Some, None, Vec, Global, refl, sym, ap, subst, ◌∙◌, arith}
use Rattle.std.specs.Prelude.{IsUtf8}
use Rattle.std.proofs.lemmas.Int.{ints}
use Rattle.bson_base.specs.Value.{Members}
use Rattle.bson_bytes.specs.Encode.{encode}
use Rattle.bson_meaning.specs.Meaning.{key}
use Rattle.store_table.specs.Rows.{TableRow, AreBelow, is_in, is_row_named}
use Rattle.bson_store.specs.Draft.{AreApart, ShowRows, parts_of}
use Rattle.bson_store.specs.Drafted.{drafted}
use Rattle.bson_store.specs.declared.draft.Draft.{Draft}
use Rattle.store_model.specs.Reading.{readable}
use Rattle.store_model.specs.State.{Form, insert, on, done, IsName}
use Rattle.store_model.specs.Table.{DocumentRow, DocumentTable, AreRows, IsAlone, documents_of, greatest}
use Rattle.store_model.proofs.RowLemmas.{rows_last}
use Rattle.store_table.specs.Moves.{IsRoomFor, parts_of_row, with_row}
use Rattle.store_table.specs.declared.row.Found.{Found}
use Rattle.store_model.proofs.IdLemmas.{own_is}
use Rattle.bson_store.specs.Shown.{IsRowOf, AreRowsOf, Rises, Represents}
use Rattle.bson_store.proofs.ServeLemmas.{Fits, next_row, row_in, step_in}
use Rattle.bson_store.proofs.TableLemmas.{each_more, last_greatest, named_is, rows_after}
use Rattle.bson_store.specs.Drafting.{Goes, HoldsDrafted, HoldsRows}
use Rattle.bson_store.specs.Export.{bytes_of_each}
use Rattle.bson_store.proofs.ExportLemmas.{bodies_are}

-- ---- rows of a table are apart

none_named : (r : DocumentRow) (rs : DocumentTable) (d : TableRow) (docs : List TableRow) → IsRowOf r d → AreRowsOf rs docs → IsAlone r rs → find (is_row_named d.coll d.idkey) docs ≡ None
none_named r [] d [] is each alone = refl
none_named r [] d (e ∷ docs) is each alone = absurd each
none_named r (q ∷ rs) d [] is each alone = absurd each
none_named r (q ∷ rs) d (e ∷ docs) is each alone = by (is_row_named d.coll d.idkey e) refl (none_named r rs d docs is each.1 alone.1)
  where
    by : (b : Bool) → is_row_named d.coll d.idkey e ≡ b → find (is_row_named d.coll d.idkey) docs ≡ None → cond b (Some e) (find (is_row_named d.coll d.idkey) docs) ≡ None
    by true h rest = let p = named_is d.coll d.idkey e h in absurd (alone.0 (sym each.0.name ∙ p.0 ∙ is.name) (sym each.0.key ∙ p.1 ∙ is.key))
    by false h rest = rest

apart_rows : (a : DocumentTable) (docs : List TableRow) → AreRowsOf a docs → AreRows a → AreApart docs
apart_rows [] [] each good = tt
apart_rows [] (d ∷ docs) each good = absurd each
apart_rows (r ∷ rs) [] each good = absurd each
apart_rows (r ∷ rs) (d ∷ docs) each good = (none_named r rs d docs each.0 each.1 good.2, apart_rows rs docs each.1 good.3)

pub shown_apart : (a : DocumentTable) (docs : List TableRow) → Represents docs a → AreApart docs
shown_apart a docs s = apart_rows a docs s.each s.good

-- ---- a row more, at a place above all

rises_above : (n : ℕ) (rs : DocumentTable) (ds : List TableRow) (r : DocumentRow) → AreRowsOf rs ds → Rises n rs → AreBelow (pos r.place) ds → n < r.place → Rises n (rs ++ r ∷ [])
rises_above n [] [] r each rises below h = (h, tt)
rises_above n [] (d ∷ ds) r each rises below h = absurd each
rises_above n (q ∷ rs) [] r each rises below h = absurd each
rises_above n (q ∷ rs) (d ∷ ds) r each rises below h = (rises.0, rises_above q.place rs ds r each.1 rises.1 below.1 (omega (arith, ints, each.0.place, below.0)))

greatest_below : (m : ℕ) (a : DocumentTable) (docs : List TableRow) → AreRowsOf a docs → AreBelow (pos m) docs → 0 < m → greatest a < m
greatest_below m [] [] each below up = up
greatest_below m [] (d ∷ docs) each below up = absurd each
greatest_below m (r ∷ rs) [] each below up = absurd each
greatest_below m (r ∷ rs) (d ∷ docs) each below up =
    let rest = greatest_below m rs docs each.1 below.1 up in
    omega (arith, ints, rest, each.0.place, below.0)

-- there is a place after the greatest
room_below : (m : ℕ) (p : ℤ) (a : DocumentTable) (docs : List TableRow) → Represents docs a → AreBelow p docs → p ≡ pos m → 0 < m → p <ℤ pos (2 ^ 63) → IsRoomFor 1 docs
room_below m p a docs s below is up room =
    let low = greatest_below m a docs s.each (subst (λ q. AreBelow q docs) is below) up in
    let last = last_greatest a docs s in
    omega (arith, ints, low, last, is, room)

pub goes_in_at : (f : Form) (v : List TableRow) (n k b : List ℕ) (d : Members) (m : ℕ) (p : ℤ) → IsName n → IsUtf8 n → Fits d k b → find (is_row_named n k) v ≡ None → AreBelow p v → p ≡ pos m → 0 < m → p <ℤ pos (2 ^ 63)
    → Goes (on n (insert f (readable d))) v (v ++ record { place = p; coll = n; idkey = k; body = b } ∷ [])
goes_in_at f v n k b d m p good text h free below is up room a s =
    let r : DocumentRow = record { place = m; name = n; document = d } in
    let q : DocumentRow = next_row a n d in
    let step = step_in f v n k b d a r good h free s refl refl in
    let one : IsRowOf r (record { place = p; coll = n; idkey = k; body = b }) = record {
      place = is;
      name = refl;
      text = text;
      key = h.key.key ∙ ap key (sym (own_is d h.id h.has));
      body = h.body;
    } in
    let next = row_in f v n k b d a good text h free (room_below m p a v s below is up room) s in
    record {
      rows = with_row n k b v;
      there = a ++ q ∷ [];
      shown = next.0;
      to = next.1;
      b = a ++ r ∷ [];
      seen = record {
        each = each_more a (r ∷ []) v (record { place = p; coll = n; idkey = k; body = b } ∷ []) s.each (one, tt);
        good = rows_after a (a ++ r ∷ []) (on n (insert f (readable d))) done s.good h.read step;
        rising = rises_above 0 a v r s.each s.rising (subst (λ z. AreBelow z v) is below) up;
      };
      same = rows_last a (r ∷ []) n (refl, tt) ∙ sym (rows_last a (q ∷ []) n (refl, tt));
    }

-- ---- all bodies of a collection

row_bodies : (rows : List Found) → bytes_of_each (map (λ (f : Found). f.body) rows) ≡ map (λ (r : ℤ × List ℕ). r.1) (parts_of rows)
row_bodies [] = refl
row_bodies (f ∷ rows) = ap (λ l. f.body.items ∷ l) (row_bodies rows)

placed_bodies : (docs : List TableRow) → map (λ (r : ℤ × List ℕ). r.1) (map parts_of_row docs) ≡ map (λ (d : TableRow). d.body) docs
placed_bodies [] = refl
placed_bodies (d ∷ docs) = ap (λ l. d.body ∷ l) (placed_bodies docs)

shown_bodies : (n : List ℕ) (bodies : List (Vec ℕ Global)) (rows : List Found) (docs : List TableRow) (a : DocumentTable) → bodies ≡ map (λ (f : Found). f.body) rows → ShowRows n rows docs → Represents docs a → bytes_of_each bodies ≡ map encode (documents_of a n)
shown_bodies n bodies rows docs a are shows s = ap bytes_of_each are ∙ row_bodies rows ∙ ap (map (λ (r : ℤ × List ℕ). r.1)) shows ∙ placed_bodies (filter (is_in n) docs) ∙ bodies_are n a docs s.each

pub held_drafted : (draft : Draft) (n coll : List ℕ) (first rows : Vec Found Global) (bodies : Vec (Vec ℕ Global) Global) (docs after : List TableRow) → coll ≡ n → IsName n → ((ds : List TableRow) → ShowRows coll first.items ds → ShowRows coll rows.items (drafted draft ds))
    → bodies.items ≡ map (λ (f : Found). f.body) rows.items → HoldsRows coll (Ok first) docs after → HoldsDrafted draft n (Ok bodies) docs after
held_drafted draft n coll first rows bodies docs after named good changes are h =
    inl (good, record { same = h.same; bodies = λ a s. shown_bodies n bodies.items rows.items (drafted draft docs) a are (subst (λ (c : List ℕ). ShowRows c rows.items (drafted draft docs)) named (changes docs h.rows)) s; denied = tt })

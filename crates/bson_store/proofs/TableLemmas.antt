-- Tables of documents, and the rows of bytes that show them.
use Rattle.std.proofs.Common.{◌≡◌, ℕ, pos, suc, ◌<◌, max, List, [], ◌∷◌, ◌++◌, Bool, true, false, cond, Some, None, refl, ap, ◌∙◌, sym, subst, arith, ◌&&◌}
use Rattle.std.specs.Prelude.{bytes_eq}
use Rattle.std.specs.List.{find}
use Rattle.bson_base.specs.Value.{Value}
use Rattle.store_model.specs.Reading.{Documents}
use Rattle.store_model.specs.State.{IsKept, HasId, NoneHasId, StandsAt, Command, IsCommand, Reply, Step}
use Rattle.store_model.specs.Table.{DocumentRow, DocumentTable, state_of, documents_of, greatest, AreRows}
use Rattle.store_model.proofs.IdLemmas.{has_written, written_has}
use Rattle.store_model.proofs.RowLemmas.{documents_of-append}
use Rattle.store_model.proofs.KeyLemmas.{rows_are_a_state, a_state_has_rows}
use Rattle.store_model.proofs.KeptLemmas.{step_good}
use Rattle.store_table.specs.Rows.{TableRow, is_row_named}
use Rattle.store_table.specs.Rows as table
use Rattle.store_documents.specs.Bodies.{IsKeyOf}
use Rattle.bson_store.specs.Shown.{IsRowOf, AreRowsOf, Rises, Represents}
use Rattle.bson_base.proofs.MemberLemmas.{equal_keys, same_key}
use Rattle.std.proofs.lemmas.Bool.{and_parts}

-- ---- places

pub greater : (n m g : ℕ) → n < m → max m g ≡ max n (max m g)
greater n m g h = omega (arith, h)

last_is : (r : DocumentRow) (d : TableRow) (rs : DocumentTable) (ds : List TableRow) → IsRowOf r d → AreRowsOf rs ds → Rises r.place rs → table.last_place (d ∷ ds) ≡ pos (max r.place (greatest rs))
last_is r d [] [] is each rises = is.place ∙ ap pos (omega arith)
last_is r d [] (e ∷ ds) is each rises = absurd each
last_is r d (q ∷ rs) [] is each rises = absurd each
last_is r d (q ∷ rs) (e ∷ ds) is each rises = last_is q e rs ds each.0 each.1 rises.1 ∙ ap pos (greater r.place q.place (greatest rs) rises.0)

first_is : (rs : DocumentTable) (ds : List TableRow) → AreRowsOf rs ds → Rises 0 rs → table.last_place ds ≡ pos (greatest rs)
first_is [] [] each rises = refl
first_is [] (d ∷ ds) each rises = absurd each
first_is (r ∷ rs) [] each rises = absurd each
first_is (r ∷ rs) (d ∷ ds) each rises = last_is r d rs ds each.0 each.1 rises.1

-- the last place is the greatest
pub last_greatest : (rs : DocumentTable) (ds : List TableRow) → Represents ds rs → table.last_place ds ≡ pos (greatest rs)
last_greatest rs ds s = first_is rs ds s.each s.rising

rises_more : (n : ℕ) (rs : DocumentTable) (r : DocumentRow) → Rises n rs → r.place ≡ suc (max n (greatest rs)) → Rises n (rs ++ r ∷ [])
rises_more n [] r rises is = (omega (arith, is), tt)
rises_more n (q ∷ rs) r rises is = (rises.0, rises_more q.place rs r rises.1 (is ∙ ap suc (sym (greater n q.place (greatest rs) rises.0))))

-- ---- rows that are there

pub each_more : (rs ss : DocumentTable) (ds es : List TableRow) → AreRowsOf rs ds → AreRowsOf ss es → AreRowsOf (rs ++ ss) (ds ++ es)
each_more [] ss [] es h k = k
each_more [] ss (d ∷ ds) es h k = absurd h
each_more (r ∷ rs) ss [] es h k = absurd h
each_more (r ∷ rs) ss (d ∷ ds) es h k = (h.0, each_more rs ss ds es h.1 k)

-- rows after a step are rows as they are kept
pub rows_after : (a b : DocumentTable) (c : Command) (r : Reply) → AreRows a → IsCommand c → Step (state_of a) c r (state_of b) → AreRows b
rows_after a b c r good is step = a_state_has_rows b (step_good (state_of a) c r (state_of b) (rows_are_a_state a good) is step)

-- a row more
pub shows_more : (ds : List TableRow) (a : DocumentTable) (r : DocumentRow) (d : TableRow) → Represents ds a → IsRowOf r d → r.place ≡ suc (greatest a) → AreRows (a ++ r ∷ []) → Represents (ds ++ d ∷ []) (a ++ r ∷ [])
shows_more ds a r d s is place good = record {
  each = each_more a (r ∷ []) ds (d ∷ []) s.each (is, tt);
  good = good;
  rising = rises_more 0 a r s.rising (omega (arith, place));
}

-- ---- looking up by name and key

pub named_is : (n k : List ℕ) (d : TableRow) → is_row_named n k d ≡ true → (d.coll ≡ n) × (d.idkey ≡ k)
named_is n k d h = let p = and_parts (bytes_eq d.coll n) (bytes_eq d.idkey k) h in (equal_keys d.coll n p.0, equal_keys d.idkey k p.1)

pub is_named_so : (n k : List ℕ) (d : TableRow) → d.coll ≡ n → d.idkey ≡ k → is_row_named n k d ≡ true
is_named_so n k d h i = ap (λ m. bytes_eq m n && bytes_eq d.idkey k) h ∙ ap (λ b. b && bytes_eq d.idkey k) (same_key n) ∙ ap (λ m. bytes_eq m k) i ∙ same_key k

-- if a row of the name has the id, the row of bytes is named
has_named : (n k : List ℕ) (id : Value) (r : DocumentRow) (d : TableRow) → IsKeyOf k id → IsKept r.document → IsRowOf r d → n ≡ r.name → HasId id r.document → is_row_named n k d ≡ true
has_named n k id r d w kept is name has =
    is_named_so n k d (is.name ∙ sym name) (is.key ∙ sym (has_written r.document id kept w.sound has).keys ∙ sym w.key)

-- no row of bytes of the name and key: no document with the id
pub absent : (n k : List ℕ) (id : Value) (ds : List TableRow) (a : DocumentTable) → IsKeyOf k id → AreRowsOf a ds → AreRows a → find (is_row_named n k) ds ≡ None → NoneHasId id (documents_of a n)
absent n k id [] [] w each good none = tt
absent n k id (d ∷ ds) [] w each good none = absurd each
absent n k id [] (r ∷ rs) w each good none = absurd each
absent n k id (d ∷ ds) (r ∷ rs) w each good none = here (is_row_named n k d) refl none (absent n k id ds rs w each.1 good.3)
  where
    by : (b : Bool) → bytes_eq n r.name ≡ b → is_row_named n k d ≡ false → NoneHasId id (documents_of rs n) → NoneHasId id (cond b (r.document ∷ documents_of rs n) (documents_of rs n))
    by true e other rest = (λ has. let passes = has_named n k id r d w good.1 each.0 (equal_keys n r.name e) has in cc, rest)
    by false e other rest = rest

    here : (b : Bool) → is_row_named n k d ≡ b → cond b (Some d) (find (is_row_named n k) ds) ≡ None → (find (is_row_named n k) ds ≡ None → NoneHasId id (documents_of rs n)) → NoneHasId id (documents_of (r ∷ rs) n)
    here true e h rest = cc
    here false e h rest = by (bytes_eq n r.name) refl e (rest h)

-- the row of bytes d is the first of the name and key, and r is its row of the table
pub record Stands (n k : List ℕ) (id : Value) (ds : List TableRow) (a : DocumentTable) (d : TableRow) : Type 0 where
  pub front : DocumentTable
  pub r : DocumentRow
  pub back : DocumentTable
  pub before : List TableRow
  pub behind : List TableRow
  pub split : a ≡ front ++ r ∷ back
  pub parted : ds ≡ before ++ d ∷ behind
  pub front_each : AreRowsOf front before
  pub each : IsRowOf r d
  pub back_each : AreRowsOf back behind
  pub name : r.name ≡ n
  pub has : HasId id r.document
  pub none : NoneHasId id (documents_of front n)

pub found : (n k : List ℕ) (id : Value) (ds : List TableRow) (a : DocumentTable) (d : TableRow) → IsKeyOf k id → AreRowsOf a ds → AreRows a → find (is_row_named n k) ds ≡ Some d → Stands n k id ds a d
found n k id [] [] d w each good h = cc
found n k id (e ∷ ds) [] d w each good h = absurd each
found n k id [] (r ∷ rs) d w each good h = absurd each
found n k id (e ∷ ds) (r ∷ rs) d w each good h = here (is_row_named n k e) refl h (found n k id ds rs d w each.1 good.3)
  where
    same : Some e ≡ Some d → e ≡ d
    same h = cc

    at_once : is_row_named n k e ≡ true → e ≡ d → Stands n k id (e ∷ ds) (r ∷ rs) d
    at_once passes is =
        let p = named_is n k e passes in
        record {
          front = [];
          r = r;
          back = rs;
          before = [];
          behind = ds;
          split = refl;
          parted = ap (λ x. x ∷ ds) is;
          front_each = tt;
          each = subst (IsRowOf r) is each.0;
          back_each = each.1;
          name = sym each.0.name ∙ p.0;
          has = written_has r.document id good.1 w.sound w.plain w.short (sym w.key ∙ sym p.1 ∙ each.0.key);
          none = tt;
        }

    by : (b : Bool) → bytes_eq n r.name ≡ b → is_row_named n k e ≡ false → (fs : DocumentTable) → NoneHasId id (documents_of fs n) → NoneHasId id (cond b (r.document ∷ documents_of fs n) (documents_of fs n))
    by true i other fs rest = (λ has. let passes = has_named n k id r e w good.1 each.0 (equal_keys n r.name i) has in cc, rest)
    by false i other fs rest = rest

    later : is_row_named n k e ≡ false → Stands n k id ds rs d → Stands n k id (e ∷ ds) (r ∷ rs) d
    later other s = record {
      front = r ∷ s.front;
      r = s.r;
      back = s.back;
      before = e ∷ s.before;
      behind = s.behind;
      split = ap (λ x. r ∷ x) s.split;
      parted = ap (λ x. e ∷ x) s.parted;
      front_each = (each.0, s.front_each);
      each = s.each;
      back_each = s.back_each;
      name = s.name;
      has = s.has;
      none = by (bytes_eq n r.name) refl other s.front s.none;
    }

    here : (b : Bool) → is_row_named n k e ≡ b → cond b (Some e) (find (is_row_named n k) ds) ≡ Some d → (find (is_row_named n k) ds ≡ Some d → Stands n k id ds rs d) → Stands n k id (e ∷ ds) (r ∷ rs) d
    here true i h rest = at_once i (same h)
    here false i h rest = later i (rest h)

same_names : (r : DocumentRow) (n : List ℕ) (x y : Documents) → r.name ≡ n → cond (bytes_eq n r.name) x y ≡ x
same_names r n x y e = ap (λ m. cond (bytes_eq n m) x y) e ∙ ap (λ b. cond b x y) (same_key n)

-- so the document with the id is in the list of the name
pub stands_at : (n k : List ℕ) (id : Value) (ds : List TableRow) (a : DocumentTable) (d : TableRow) (s : Stands n k id ds a d) → StandsAt id (documents_of a n) (documents_of s.front n) s.r.document (documents_of s.back n)
stands_at n k id ds a d s = record {
  split = ap (λ t. documents_of t n) s.split ∙ documents_of-append s.front (s.r ∷ s.back) n ∙ ap (λ x. documents_of s.front n ++ x) (same_names s.r n (s.r.document ∷ documents_of s.back n) (documents_of s.back n) s.name);
  before = s.none;
  has = s.has;
}

-- What is read by an index is all that a question selects.
use Rattle.std.proofs.Common.{◌≡◌, ◌≢◌, ◌⊎◌, inl, inr, ◌∷◌, [], ℕ, ℤ, List, map, filter, Bool, true, false, cond, Result, Ok, Err, OnOk, IsTrue, append-nil, refl, sym, ap, subst, ◌∙◌}
use Rattle.std.proofs.Math.Logic.{∥∥₁_elim}
use Rattle.std.proofs.Props.{props}
use Rattle.std.specs.Coded.{×_prop, Unit-prop}
use Rattle.bson_base.specs.Value.{Members}
use Rattle.bson_base.proofs.MemberLemmas.{equal_keys}
use Rattle.bson_bytes.specs.Encode.{encode}
use Rattle.sqlite.specs.State.{State, HasCleanDisk}
use Rattle.bson_store.specs.Find.{Finds}
use Rattle.bson_store.specs.Lists.{Ascends, is_among}
use Rattle.bson_store.specs.Serving.{Covers}
use Rattle.bson_store.specs.declared.indexed.indexes.Indexes.{Indexes}
use Rattle.store_model.specs.State.{IsKept}
use Rattle.store_table.specs.Moves.{Moves, Stands, Visits, WasOpen, bodies_of}
use Rattle.store_table.specs.Rows.{TableRow, HoldsRows, is_in}
use Rattle.store_table.specs.declared.fault.Fault.{Fault}
use Rattle.store_table.specs.declared.fault.Fault.TheVariants.{Places}
use Rattle.store_table.proofs.StatementLemmas.{seen}
use Rattle.store_table.proofs.UniqueLemmas.{one_list}
use Rattle.bson_store.specs.Asking.{Spares, VisitsAsked, VisitsPlaces}
use Rattle.bson_store.specs.Kept.{FindsRows, HasKept}
use Rattle.bson_store.proofs.KeepLemmas.{none_find}
use Rattle.bson_store.proofs.MoveLemmas.{rests}
use Rattle.bson_store.proofs.PlaceLemmas.{in_order}

-- ---- what the indexes find

covered : (ixs : Indexes) (coll : List ℕ) (P : Members → Type 0) (places : List ℤ) (docs : List TableRow) → Covers ixs coll P places → FindsRows ixs docs → Spares (λ (d : TableRow). is_among d.place places) P (filter (is_in coll) docs)
covered ixs coll P places [] covers h = tt
covered ixs coll P places (d ∷ docs) covers h = by (is_in coll d) refl (covered ixs coll P places docs covers h.1)
  where
    by : (b : Bool) → is_in coll d ≡ b → Spares (λ (e : TableRow). is_among e.place places) P (filter (is_in coll) docs) → Spares (λ (e : TableRow). is_among e.place places) P (cond b (d ∷ filter (is_in coll) docs) (filter (is_in coll) docs))
    by true e rest = (λ m kept is selected. covers d.place d.body m (subst (λ c. Finds ixs c d.place d.body) (equal_keys d.coll coll e) h.0) kept is selected, rest)
    by false e rest = rest

pub found_rows : {shown : Bool} (s : State) (ixs : Indexes) (docs : List TableRow) → HasCleanDisk s → HoldsRows s docs → HasKept s shown ixs → FindsRows ixs docs
found_rows {shown} s ixs docs clean holds k = by (k clean)
  where
    by : ((shown ≡ false) × (ixs.list.items ≡ [])) ⊎ ((them : List TableRow) × Stands s them × FindsRows ixs them) → FindsRows ixs docs
    by (inl (not_shown, e)) = none_find ixs docs e
    by (inr (them, stands, h)) = subst (FindsRows ixs) (one_list s.now them docs (stands holds.is_open).table holds.table) h

-- the test of one row has one proof at most
spared_row : (test : TableRow → Bool) (P : Members → Type 0) (d : TableRow) → IsProp ((m : Members) → IsKept m → d.body ≡ encode m → P m → test d ≡ true)
spared_row test P d = hlevel props

spares_prop : (test : TableRow → Bool) (P : Members → Type 0) (rows : List TableRow) → IsProp (Spares test P rows)
spares_prop test P [] = Unit-prop
spares_prop test P (d ∷ rows) = ×_prop (spared_row test P d) (spares_prop test P rows)

spared : {shown : Bool} (s : State) (ixs : Indexes) (coll : List ℕ) (P : Members → Type 0) (places : List ℤ) (docs : List TableRow) → ∥ HasKept s shown ixs ∥₁ → HasCleanDisk s → HoldsRows s docs → Covers ixs coll P places
    → Spares (λ (d : TableRow). is_among d.place places) P (filter (is_in coll) docs)
spared s ixs coll P places docs k clean holds covers =
    ∥∥₁_elim k (spares_prop (λ (d : TableRow). is_among d.place places) P (filter (is_in coll) docs)) (λ h. covered ixs coll P places docs covers (found_rows s ixs docs clean holds h))

-- ---- by an index

module _ {V : Type 0} (took : V → List (List ℕ) → Type 0) (first last : V) (coll : List ℕ) (P : Members → Type 0) where
  pub asked_moves : {shown : Bool} (old new : State) (ixs : Indexes) (places : List ℤ) (r : Result Bool Fault) → ∥ HasKept old shown ixs ∥₁ → Covers ixs coll P places → Ascends places → WasOpen old new r
      → Moves old new (VisitsPlaces took first last coll places r) → Moves old new (VisitsAsked took first last coll P r)
  asked_moves {shown} old new ixs places r k covers up was moves clean =
      let m = moves clean in (
        m.0,
        λ docs stands. let x = m.1 docs stands in (x.0, x.1, go docs x.0 stands m.0 r (was clean docs stands) x.2, x.3),
      )
    where
      go : (docs after : List TableRow) → Stands old docs → HasCleanDisk old → (o : Result Bool Fault) → OnOk o (IsTrue old.is_open × IsTrue new.is_open) → VisitsPlaces took first last coll places o docs after → VisitsAsked took first last coll P o docs after
      go docs after stands early (Ok all) both h =
          let holds = stands both.0 in
          record {
            same = h.same;
            taken = λ t.
                let w = h.taken t in
                record {
                  test = λ (d : TableRow). is_among d.place places;
                  spares = spared old ixs coll P places docs k early holds covers;
                  taken = w.taken;
                  rest = w.rest;
                  split = w.split ∙ in_order coll places docs up (seen holds.table).rising;
                  whole = w.whole;
                  given = w.given;
                };
            faults = tt;
          }
      go docs after stands early (Err e) both h = record { same = h.same; taken = λ t. tt; faults = h.faults }

  -- ---- by a scan

  all_pass : (rows : List TableRow) → filter (λ (_ : TableRow). true) rows ≡ rows
  all_pass [] = refl
  all_pass (d ∷ rows) = ap (λ ds. d ∷ ds) (all_pass rows)

  none_missed : (rows : List TableRow) → Spares (λ _. true) P rows
  none_missed [] = tt
  none_missed (d ∷ rows) = (λ m kept is selected. refl, none_missed rows)

  pub scanned : (r : Result Bool Fault) (docs after : List TableRow) → Visits took first last coll r docs after → VisitsAsked took first last coll P r docs after
  scanned (Err e) docs after h = record { same = h.same; taken = λ t. tt; faults = h.faults }
  scanned (Ok true) docs after h = record {
    same = h.same;
    taken = λ t. record {
      test = λ _. true;
      spares = none_missed (filter (is_in coll) docs);
      taken = bodies_of coll docs;
      rest = [];
      split = append-nil (bodies_of coll docs) ∙ sym (ap (map (λ (d : TableRow). d.body)) (all_pass (filter (is_in coll) docs)));
      whole = λ _. refl;
      given = h.whole t refl;
    };
    faults = tt;
  }
  scanned (Ok false) docs after h = record {
    same = h.same;
    taken = λ t.
        let w = h.some t in
        record {
          test = λ _. true;
          spares = none_missed (filter (is_in coll) docs);
          taken = w.0;
          rest = w.1;
          split = w.2 ∙ sym (ap (map (λ (d : TableRow). d.body)) (all_pass (filter (is_in coll) docs)));
          whole = λ never. absurd (cc);
          given = w.3;
        };
    faults = tt;
  }

  -- memory was refused before anything was read
  pub refused : (s : State) (e : Fault) → e ≢ Places → Moves s s (VisitsAsked took first last coll P (Err e))
  refused s e other = rests s (VisitsAsked took first last coll P (Err e)) (λ docs. record { same = refl; taken = λ t. tt; faults = other })

-- Visits of the rows at some places, one after the other.
use Rattle.std.proofs.Common.{◌≡◌, append-nil, append_assoc, ◌≤◌, ℕ, ℤ, ◌+◌, ◌<◌, List, [], ◌∷◌, ◌++◌, take, drop, get_or, length, Bool, true, false, find, Ok, Err, refl, sym, ap, ◌∙◌, subst}
use Rattle.std.proofs.lemmas.List.{take_more, take_all, take-append-drop}
use Rattle.store_table.specs.Rows.{TableRow, is_at}
use Rattle.store_table.specs.Moves.{FindsNone, VisitsAt, body_if_in}
use Rattle.store_table.specs.declared.fault.Fault.{Fault}
use Rattle.bson_store.specs.Asking.{VisitsPlaces, bodies_at}

-- a visitor has come so far
pub record ComesAt {V : Type 0} (took : V → List (List ℕ) → Type 0) (now : V) (coll : List ℕ) (ps : List ℤ) (start : Type 0) (docs after : List TableRow) : Type 0 where
  pub same : after ≡ docs
  pub taken : start → took now (bodies_at coll ps docs)

bodies_then : (coll : List ℕ) (ps qs : List ℤ) (docs : List TableRow) → bodies_at coll (ps ++ qs) docs ≡ bodies_at coll ps docs ++ bodies_at coll qs docs
bodies_then coll [] qs docs = refl
bodies_then coll (p ∷ ps) qs docs = ap (λ bs. body_if_in coll (find (is_at p) docs) ++ bs) (bodies_then coll ps qs docs) ∙ sym (append_assoc (body_if_in coll (find (is_at p) docs)) (bodies_at coll ps docs) (bodies_at coll qs docs))

module _ {V : Type 0} (took : V → V → List (List ℕ) → Type 0) (first : V) (coll : List ℕ) (ps : List ℤ) where
  abbrev pub Comes : V → List ℤ → List TableRow → List TableRow → Type 0
  Comes v qs = ComesAt (took first) v coll qs (took first first [])

  pub comes_first : (b : Bool) (docs after : List TableRow) → FindsNone (Ok b) docs after → Comes first (take 0 ps) docs after
  comes_first b docs after h = record { same = h.same; taken = λ t. t }

  one_more : (i : ℕ) (d : ℤ) (docs : List TableRow) → i < length ps → bodies_at coll (take (i + 1) ps) docs ≡ bodies_at coll (take i ps) docs ++ body_if_in coll (find (is_at (get_or ps i d)) docs)
  one_more i d docs low = ap (λ qs. bodies_at coll qs docs) (take_more ps i d low) ∙ bodies_then coll (take i ps) (get_or ps i d ∷ []) docs ∙ ap (λ bs. bodies_at coll (take i ps) docs ++ bs) (append-nil (body_if_in coll (find (is_at (get_or ps i d)) docs)))

  pub comes_on : (v w : V) (i : ℕ) (d : ℤ) (more : Bool) (docs mid after : List TableRow) → i < length ps → Comes v (take i ps) docs mid → VisitsAt took v w coll (get_or ps i d) (Ok more) mid after → Comes w (take (i + 1) ps) docs after
  comes_on v w i d more docs mid after low c m = record {
    same = m.same ∙ c.same;
    taken = λ t. subst (took first w) (sym (one_more i d docs low)) (subst (λ (ds : List TableRow). took first w (bodies_at coll (take i ps) docs ++ body_if_in coll (find (is_at (get_or ps i d)) ds))) c.same (m.on first (bodies_at coll (take i ps) docs) (c.taken t)));
  }

  -- all were taken
  pub comes_last : (v : V) (i : ℕ) (docs after : List TableRow) → length ps ≤ i → Comes v (take i ps) docs after → VisitsPlaces (took first) first v coll ps (Ok true) docs after
  comes_last v i docs after le c = record {
    same = c.same;
    taken = λ t. record {
      taken = bodies_at coll ps docs;
      rest = [];
      split = append-nil (bodies_at coll ps docs);
      whole = λ _. refl;
      given = subst (λ qs. took first v (bodies_at coll qs docs)) (take_all i ps le) (c.taken t);
    };
    faults = tt;
  }

  -- the visitor asks for no more
  pub comes_to : (w : V) (i : ℕ) (docs after : List TableRow) → Comes w (take i ps) docs after → VisitsPlaces (took first) first w coll ps (Ok false) docs after
  comes_to w i docs after c = record {
    same = c.same;
    taken = λ t. record {
      taken = bodies_at coll (take i ps) docs;
      rest = bodies_at coll (drop i ps) docs;
      split = sym (bodies_then coll (take i ps) (drop i ps) docs) ∙ ap (λ qs. bodies_at coll qs docs) (take-append-drop i ps);
      whole = λ never. absurd (cc);
      given = c.taken t;
    };
    faults = tt;
  }

  pub refused_at : (v w : V) (qs : List ℤ) (p : ℤ) (x : Fault) (docs mid after : List TableRow) → Comes v qs docs mid → VisitsAt took v w coll p (Err x) mid after → VisitsPlaces (took first) first w coll ps (Err x) docs after
  refused_at v w qs p x docs mid after c m = record { same = m.same ∙ c.same; taken = λ t. tt; faults = m.faults }

  pub refused_first : (w : V) (x : Fault) (docs after : List TableRow) → FindsNone (Err x) docs after → VisitsPlaces (took first) first w coll ps (Err x) docs after
  refused_first w x docs after h = record { same = h.same; taken = λ t. tt; faults = h.faults }

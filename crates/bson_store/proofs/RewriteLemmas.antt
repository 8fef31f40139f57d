-- The row of a document that was looked up by its id gets another body.
use Rattle.std.proofs.Common.{◌≡◌, inl, inr, ℕ, ℤ, pos, ◌≤◌, List, [], ◌∷◌, ◌++◌, cond, Some, None, Ok, refl, ap, ◌∙◌, sym, subst, arith}
use Rattle.bson_base.specs.Kinds.{IsSound}
use Rattle.bson_base.specs.Value.{Value, Members}
use Rattle.bson_bytes.specs.Encode.{encode}
use Rattle.bson_meaning.specs.Meaning.{key}
use Rattle.store_table.specs.Rows.{TableRow, with_body_at}
use Rattle.store_table.specs.Moves.{Changes}
use Rattle.store_table.specs.declared.row.Found.{Found}
use Rattle.store_model.specs.Reading.{Documents}
use Rattle.store_model.specs.State.{store, StandsAt, Call, on, Reply, Answers, IsName, IsKept, IsCall, Step}
use Rattle.store_model.specs.Table.{DocumentRow, DocumentTable, state_of, documents_of, own_id, with_document}
use Rattle.store_model.proofs.RowLemmas.{list_of-state_of, row_changed}
use Rattle.bson_store.specs.Shown.{IsRowOf, AreRowsOf, Rises}
use Rattle.bson_store.specs.Calls.{Does, FindsIn, Looks}
use Rattle.bson_store.proofs.TableLemmas.{found, stands_at, each_more, rows_after}
use Rattle.bson_store.proofs.FindLemmas.{at_place, at_other, above, kept_at}

-- rows of which none is at the place stay
same_below : (b : List ℕ) (m : ℕ) (z : ℤ) (p : ℕ) (rs : DocumentTable) (ds : List TableRow) → AreRowsOf rs ds → Rises m rs → z ≡ pos p → p ≤ m → with_body_at z b ds ≡ ds
same_below b m z p [] [] each rises is h = refl
same_below b m z p [] (d ∷ ds) each rises is h = absurd each
same_below b m z p (r ∷ rs) [] each rises is h = absurd each
same_below b m z p (r ∷ rs) (d ∷ ds) each rises is h =
    ap (λ t. cond t (record { place = d.place; coll = d.coll; idkey = d.idkey; body = b }) d ∷ with_body_at z b ds) (at_other d r z p each.0.place is (λ e. omega (arith, e, h, rises.0)))
    ∙ ap (λ x. d ∷ x) (same_below b r.place z p rs ds each.1 rises.1 is (omega (arith, h, rises.0)))

new_body : List ℕ → TableRow → TableRow
new_body b d = record { place = d.place; coll = d.coll; idkey = d.idkey; body = b }

changed : (b : List ℕ) (m : ℕ) (front : DocumentTable) (r : DocumentRow) (back : DocumentTable) (before : List TableRow) (d : TableRow) (behind : List TableRow) → AreRowsOf front before → IsRowOf r d → AreRowsOf back behind → Rises m (front ++ r ∷ back)
    → with_body_at d.place b (before ++ d ∷ behind) ≡ before ++ new_body b d ∷ behind
unfolding new_body
changed b m [] r back [] d behind fronts is backs rises =
    ap (λ t. cond t (record { place = d.place; coll = d.coll; idkey = d.idkey; body = b }) d ∷ with_body_at d.place b behind) (at_place d d.place refl)
    ∙ ap (λ x. record { place = d.place; coll = d.coll; idkey = d.idkey; body = b } ∷ x) (same_below b r.place d.place r.place back behind backs rises.1 is.place (omega arith))
changed b m [] r back (e ∷ before) d behind fronts is backs rises = absurd fronts
changed b m (q ∷ front) r back [] d behind fronts is backs rises = absurd fronts
changed b m (q ∷ front) r back (e ∷ before) d behind fronts is backs rises =
    let up = above q.place front r back rises.1 in
    ap (λ t. cond t (record { place = e.place; coll = e.coll; idkey = e.idkey; body = b }) e ∷ with_body_at d.place b (before ++ d ∷ behind)) (at_other e q d.place r.place fronts.0.place is.place (λ x. omega (arith, x, up)))
    ∙ ap (λ x. e ∷ x) (changed b q.place front r back before d behind fronts.1 is backs rises.1)

rises_with : (m : ℕ) (front : DocumentTable) (r : DocumentRow) (d : Members) (back : DocumentTable) → Rises m (front ++ r ∷ back) → Rises m (front ++ with_document d r ∷ back)
rises_with m [] r d back rises = rises
rises_with m (q ∷ front) r d back rises = (rises.0, rises_with q.place front r d back rises.1)

change_step : (n : List ℕ) (c : Call) (q : Reply) (a front : DocumentTable) (r : DocumentRow) (d : Members) (back : DocumentTable) → IsName n → a ≡ front ++ r ∷ back → r.name ≡ n
    → Answers c (documents_of a n) q (documents_of front n ++ d ∷ documents_of back n) → Step (state_of a) (on n c) q (state_of (front ++ with_document d r ∷ back))
change_step n c q a front r d back good split name answers =
    inl (
      good,
      (
        documents_of front n ++ d ∷ documents_of back n,
        subst (λ l. Answers c l q (documents_of front n ++ d ∷ documents_of back n)) (sym (list_of-state_of a n)) answers,
        row_changed front r back d ∙ ap (λ m. store (state_of (front ++ r ∷ back)) m (documents_of front m ++ d ∷ documents_of back m)) name ∙ ap (λ t. store (state_of t) n (documents_of front n ++ d ∷ documents_of back n)) (sym split),
      ),
    )

-- what a call has to show of the document whose body it changes to b
abbrev pub Remakes : Value → Call → Reply → Found → List ℕ → Type 0
Remakes id c q f b = (l front : Documents) (old : Members) (back : Documents) → f.body.items ≡ encode old → IsKept old → StandsAt id l front old back
    → (d : Members) × (b ≡ encode d) × Answers c l q (front ++ d ∷ back) × (key (own_id d) ≡ key (own_id old))

rewritten_at : (ds : List TableRow) (n : List ℕ) (id : Value) (f : Found) (c : Call) (q : Reply) (b : List ℕ) → IsName n → (IsSound id → IsCall c) → FindsIn ds n id (Some f) → Remakes id c q f b → Does (on n c) q ds (with_body_at f.place b ds)
unfolding new_body
rewritten_at ds n id f c q b good call h changes a s =
    let p = found n h.0 id ds a h.1 h.2 s.each s.good h.3 in
    let is_kept : IsKept p.r.document = kept_at a p.front p.r p.back p.split s.good in
    let was : f.body.items ≡ encode p.r.document = ap (λ x. x.1) h.4 ∙ p.each.body in
    let k = changes (documents_of a n) (documents_of p.front n) p.r.document (documents_of p.back n) was is_kept (stands_at n h.0 id ds a h.1 p) in
    let step = change_step n c q a p.front p.r k.0 p.back good p.split p.name k.2 in
    let rises = subst (Rises 0) p.split s.rising in
    let place : f.place ≡ h.1.place = ap (λ x. x.0) h.4 in
    let left : with_body_at f.place b ds ≡ p.before ++ new_body b h.1 ∷ p.behind = ap (λ z. with_body_at z b ds) place ∙ ap (with_body_at h.1.place b) p.parted ∙ changed b 0 p.front p.r p.back p.before h.1 p.behind p.front_each p.each p.back_each rises in
    let one : IsRowOf (with_document k.0 p.r) (new_body b h.1) = record { place = p.each.place; name = p.each.name; text = p.each.text; key = p.each.key ∙ sym k.3; body = k.1 } in
    let t = p.front ++ with_document k.0 p.r ∷ p.back in (
      t,
      record {
        each = subst (AreRowsOf t) (sym left) (each_more p.front (with_document k.0 p.r ∷ p.back) p.before (new_body b h.1 ∷ p.behind) p.front_each (one, p.back_each));
        good = rows_after a t (on n c) q s.good (call h.2.sound) step;
        rising = rises_with 0 p.front p.r k.0 p.back rises;
      },
      (None, (step, inr (p.front, p.r, p.back, p.split, inr (k.0, refl)), tt)),
    )

pub rewritten : (docs mid after : List TableRow) (n : List ℕ) (id : Value) (f : Found) (c : Call) (q : Reply) (b : List ℕ) → IsName n → (IsSound id → IsCall c) → Looks n id (Ok (Some f)) docs mid → Remakes id c q f b
    → Changes (with_body_at f.place b) (Ok tt) mid after → Does (on n c) q docs after
rewritten docs mid after n id f c q b good call look remakes h = rw (h.done, look.same) (rewritten_at docs n id f c q b good call look.found remakes)

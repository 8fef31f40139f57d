-- The first of all documents that a question keeps, by those of them that lie in a range.
use Rattle.std.proofs.Common.{◌≡◌, ◌∙◌, ◌⊎◌, inl, inr, ℕ, suc, ℤ, ◌+◌, ◌-◌, ◌≤◌, List, [], ◌∷◌, length, take, Bool, true, false, Option, Some, None, Result, Ok, Err, Vec, if◌then◌else◌, refl, sym, ap, subst, arith}
use Rattle.std.specs.Prelude.{◌≤ℤ◌, IfSome, IsSomeAnd, IsTrue, slice_index_or}
use Rattle.std.specs.declared.alloc.Global.{Global}
use Rattle.std.specs.Ordering.{is_ge, is_le, is_lt, ordering_reverse, ordering_then}
use Rattle.std.specs.declared.cmp.Ordering.{Ordering}
use Rattle.std.specs.declared.cmp.Ordering.TheVariants.{Less, Equal, Greater}
use Rattle.std.proofs.lemmas.Int.{ints}
use Rattle.std.proofs.lemmas.List.{length-take}
use Rattle.bson_base.specs.Value.{Members, Value, document, no_members, value_kind}
use Rattle.bson_order.specs.Order.{order, rank}
use Rattle.store_model.specs.Filter.{at}
use Rattle.store_model.specs.Reading.{Documents}
use Rattle.store_model.specs.Refusal.{refusal}
use Rattle.store_model.specs.State.{IsName}
use Rattle.store_model.specs.Table.{documents_of}
use Rattle.store_model.specs.declared.error.ErrorKind.TheVariants.{BadName}
use Rattle.store_model.specs.declared.error.StoreError.{StoreError}
use Rattle.store_table.specs.Rows.{TableRow}
use Rattle.store_question.specs.Asked.{Answers, Asked}
use Rattle.store_question.specs.Keeps.{Keeps}
use Rattle.store_question.specs.Filters.{path_of}
use Rattle.store_question.specs.Reads.{Form, Reads, form_of}
use Rattle.store_pipeline.specs.Bodies.{AreBodies, IsBody, key_of, keys_of}
use Rattle.store_pipeline.specs.Held.{Holds, top_bodies, top_keys, top_limit}
use Rattle.store_pipeline.specs.Order.{Key, cut, goes_before, order_by, turned}
use Rattle.store_pipeline.specs.declared.sorted.arrangement.Arrangement.{Arrangement}
use Rattle.store_pipeline.specs.declared.sorted.first.TopN.{TopN}
use Rattle.store_pipeline.specs.declared.sorted.keys.SortKey.{SortKey}
use Rattle.store_pipeline.proofs.KeyLemmas.{weak}
use Rattle.store_pipeline.proofs.PlaceLemmas.{rises_of, sorted_take, zip_long}
use Rattle.store_pipeline.proofs.SortLemmas.{some_list}
use Rattle.bson_store.specs.Fronts.{LiesIn, LiesInAll}
use Rattle.bson_store.specs.Marks.{IsWide, is_wide_kind}
use Rattle.bson_store.specs.Questions.{PassedFrom, Spared}
use Rattle.bson_store.proofs.DecideLemmas.{Told}
use Rattle.bson_store.specs.Parts.{part}
use Rattle.bson_store.specs.declared.indexed.range.Range.{Range}
use Rattle.bson_store.proofs.PartLemmas.{parts_falls, parts_rises}
use Rattle.store_asked.specs.Fronts.{Bounds}
use Rattle.store_asked.specs.Arranged.{AreArranged}
use Rattle.store_asked.specs.Asking.{AnsweredFrom, AskedFrom}
use Rattle.store_asked.specs.Keeps.{TookAnswers, TookFirst}
use Rattle.store_asked.specs.declared.answering.Answering.{Answering}
use Rattle.store_asked.specs.declared.first.First.{First}
use Rattle.store_asked.proofs.AskLemmas.{refused_by}
use Rattle.store_asked.proofs.GatherLemmas.{first_arranged}
use Rattle.store_asked.specs.Near.{AnsweredNear, AreFirst, AskedNear, Ends, GoesBehind, IsBeyond, IsInside, LeavesOut, MayTell, value_by}
use Rattle.store_asked.proofs.AnswerLemmas.{answers_told}
use Rattle.store_asked.proofs.BehindLemmas.{all_before, first_of_all}
use Rattle.store_asked.proofs.PlainKeyLemmas.{sorted_alone}

-- ---- what is left out

-- what a question keeps of documents, and what of that is left
abbrev Parted : Asked → (Members → Type 0) → Documents → Documents → Type 0
Parted q R ds out = (kept : Documents) × Keeps q ds kept × LeavesOut (λ d. Answers q (Some (document d)) × R d) kept out

came_first : (q : Asked) (R : Members → Type 0) (ds rest out : Documents) (d : Members) → ((es : Documents) → Keeps q rest es → Parted q R ds es) → Keeps q (d ∷ rest) out → Parted q R (d ∷ ds) out
came_first q R ds rest out d more (inl h) = let on = more h.1.0 h.1.2 in (d ∷ on.0, inl (h.0, (on.0, refl, on.1)), inl (h.1.0, h.1.1, on.2))
came_first q R ds rest out d more (inr h) = let on = more out h.1 in (on.0, inr (h.0, on.1), on.2)

stayed_out : (q : Asked) (R : Members → Type 0) (ds out : Documents) (d : Members) → R d → Parted q R ds out → Told (Answers q (Some (document d))) → Parted q R (d ∷ ds) out
stayed_out q R ds out d r on (inl answers) = (d ∷ on.0, inl (answers, (on.0, refl, on.1)), inr ((answers, r), on.2))
stayed_out q R ds out d r on (inr never) = (on.0, inr (never, on.1), on.2)

-- of documents of which some were left out, of which P doesn't hold
left_out : (q : Asked) (P R : Members → Type 0) (ds came out : Documents) → ((d : Members) → (P d → ⊥) → R d) → Spared P ds came → Keeps q came out → Parted q R ds out
left_out q P R [] came out tells s k = ([], refl, subst (λ l. Keeps q l out) s k)
left_out q P R (d ∷ ds) came out tells (inl s) k = came_first q R ds s.0 out d (λ es h. left_out q P R ds s.0 es tells s.2 h) (subst (λ l. Keeps q l out) s.1 k)
left_out q P R (d ∷ ds) came out tells (inr s) k = stayed_out q R ds out d (tells d s.0) (left_out q P R ds came out tells s.1 k) (answers_told q (Some (document d)))

module _ {T : Type 0} (took : T → T → Documents → Type 0) (first : Answering T) (P : Members → Type 0) (r : Range) (tells : (d : Members) → (P d → ⊥) → LiesIn r d → ⊥) (n : List ℕ) (docs after : List TableRow) where
  pub near_taken : (t : Answering T) → PassedFrom (TookAnswers took first) n P (Ok t) docs after → AskedNear (took first.taker) n (form_of first.question.now) r (Ok t.taker) docs after
  near_taken t (inl h) q reads =
      inl (
        h.0,
        record {
          same = h.1.same;
          taken = λ a shows.
              let p = h.1.taken a shows in
              let k = p.2.1 q (subst (λ x. Reads (form_of x) q) (sym p.2.0) reads) in
              let l = left_out q P (λ d. LiesIn r d → ⊥) (documents_of a n) p.0 k.0 tells p.1 k.1 in
              (l.0, k.0, l.1, l.2, k.2);
          denied = λ a shows. tt;
        },
      )
  near_taken t (inr h) q reads = let no : Ok t ≡ Err (refusal BadName) = h.1 in absurd (cc)

  pub near_refused : (e : StoreError) → PassedFrom (TookAnswers took first) n P (Err e) docs after → AskedNear (took first.taker) n (form_of first.question.now) r (Err e) docs after
  near_refused e (inl h) q reads = inl (h.0, record { same = h.1.same; taken = λ a shows. tt; denied = h.1.denied })
  near_refused e (inr h) q reads = inr (h.0, ap (refused_by (Err e)) h.1, h.2)

-- ---- one value before another

module _ (r : Range) (w v : Value) (same : rank (value_kind w) ≡ rank (value_kind v)) (inside : IsInside r w) where
  less_up : (part v ≤ℤ r.high → ⊥) → (o : Ordering) → order w v ≡ o → order w v ≡ Less
  less_up behind Less e = e
  less_up behind Equal e = absurd (behind (let p = parts_falls w v same (ap is_ge e) in omega (arith, ints, p, inside.2)))
  less_up behind Greater e = absurd (behind (let p = parts_falls w v same (ap is_ge e) in omega (arith, ints, p, inside.2)))

  less_down : (r.low ≤ℤ part v → ⊥) → (o : Ordering) → order w v ≡ o → order w v ≡ Greater
  less_down behind Greater e = e
  less_down behind Equal e = absurd (behind (let p = parts_rises w v same (ap is_le e) in omega (arith, ints, p, inside.1)))
  less_down behind Less e = absurd (behind (let p = parts_rises w v same (ap is_le e) in omega (arith, ints, p, inside.1)))

  turned_less : (descending : Bool) → IsBeyond descending r v → turned descending (order w v) ≡ Less
  turned_less true behind = ap ordering_reverse (less_down behind (order w v) refl)
  turned_less false behind = less_up behind (order w v) refl

before_it : (r : Range) (k : SortKey) (ks : List Key) (e d : Members) → IsInside r (value_by k e) → GoesBehind r k d → goes_before (key_of k ∷ ks) e d ≡ true
before_it r k ks e d inside behind =
    ap (λ o. is_lt (ordering_then o (order_by ks e d))) (turned_less r (value_by k e) (value_by k d) (inside.0 ∙ sym behind.0) inside k.descending behind.1)

-- ---- those that are held

-- what is held of a part of the documents is held of all
pub held_of_all : (t : TopN) (r : Range) (k : SortKey) (ks : List Key) (Q : Members → Type 0) (kept out : Documents) → top_keys t ≡ key_of k ∷ ks → AreFirst (top_bodies t) (top_limit t) k r
    → LeavesOut Q kept out → ((d : Members) → Q d → GoesBehind r k d) → Holds t out → Holds t kept
held_of_all t r k ks Q kept out keyed are left behind holds =
    let all = some_list (top_keys t) kept in
    let first = take (top_limit t) holds.all in
    let long : length first ≡ top_limit t = sym (zip_long (λ (b : Vec ℕ Global) e. IsBody b.items e) (top_bodies t) first holds.are) ∙ are.0 in
    let few : top_limit t ≤ length holds.all = omega (arith, long, length-take (top_limit t) holds.all) in
    let lt = goes_before (top_keys t) in
    let rises = rises_of lt first (sorted_take lt (top_limit t) holds.all holds.sorts.ordered) in
    let one : length first ≡ suc (top_limit t - 1) = omega (arith, long, are.1) in
    let before : (d : Members) → Q d → lt (slice_index_or first (top_limit t - 1) no_members) d ≡ true = λ d q. subst (λ l. goes_before l (slice_index_or first (top_limit t - 1) no_members) d ≡ true) (sym keyed) (before_it r k ks (slice_index_or first (top_limit t - 1) no_members) d (are.2 first holds.are no_members) (behind d q)) in
    let same = first_of_all (top_keys t) Q (top_limit t) kept out all.0 holds.all left all.1 holds.sorts few (λ d q. all_before lt (weak (top_keys t)) Q (top_limit t - 1) first no_members d one rises (before d q)) in
    record { all = all.0; sorts = all.1; are = subst (AreBodies (top_bodies t)) (sym same) holds.are }

abbrev took : First → Result First StoreError
took f = Ok f

abbrev denied : StoreError → Result First StoreError
denied e = Err e

abbrev untold : Result (Option (Vec (Vec ℕ Global) Global)) StoreError
untold = Ok None

abbrev some : Vec (Vec ℕ Global) Global → Result (Option (Vec (Vec ℕ Global) Global)) StoreError
some bodies = Ok (Some bodies)

abbrev none_told : StoreError → Result (Option (Vec (Vec ℕ Global) Global)) StoreError
none_told e = Err e

-- what was taken of a part is told of all
module _ (a : Arrangement) (n : List ℕ) (form : Form) (r : Range) (k : SortKey) (first : First) (docs after : List TableRow) (ends : Ends form r k) where
  pub near_told : (f : First) (bodies window : Vec (Vec ℕ Global) Global) → (more : List SortKey) × (a.keys.items ≡ k ∷ more) → (limit : ℕ) × (a.limit ≡ Some limit) × (top_limit first.top ≡ a.skip + limit) → top_keys first.top ≡ keys_of a.keys.items → AreFirst (top_bodies f.top) (top_limit first.top) k r
      → bodies.items ≡ top_bodies f.top → window.items ≡ cut a.skip a.limit bodies.items → AskedNear (λ (g : First) ds. TookFirst first.top g.top ds) n form r (Ok f) docs after → MayTell (AreArranged a) n form (Ok (Some window)) docs after
  near_told f bodies window more limit keyed are held cuts asked q reads = inr (by (asked q reads))
    where
      by : (IsName n × AnsweredNear (λ (g : First) ds. TookFirst first.top g.top ds) n q r (Ok f) docs after) ⊎ ((IsName n → ⊥) × (took f ≡ Err (refusal BadName)) × (after ≡ docs)) → AnsweredFrom (λ (o : Option (Vec (Vec ℕ Global) Global)) ds. IfSome o (λ t. AreArranged a t ds)) n q (Ok (Some window)) docs after
      by (inl h) =
          inl (
            h.0,
            record {
              same = h.1.same;
              taken = λ t shows.
                  let (kept, out, keeps, leaves, now) = h.1.taken t shows in
                  let whole = held_of_all f.top r k (keys_of more.0) (λ d. Answers q (Some (document d)) × (LiesIn r d → ⊥)) kept out (now.0 ∙ keyed ∙ ap keys_of more.1) (subst (λ m. AreFirst (top_bodies f.top) m k r) (sym now.1) are) leaves (λ d answers. ends q reads d answers.0 answers.1) now.2 in
                  (kept, keeps, first_arranged a f kept bodies window (limit.0, limit.1, now.1 ∙ limit.2, now.0 ∙ keyed, whole) held cuts);
              denied = λ t shows. tt;
            },
          )
      by (inr h) = let no : Ok f ≡ Err (refusal BadName) = h.1 in absurd (cc)

  pub near_untold : (f : First) → AskedNear (λ (g : First) ds. TookFirst first.top g.top ds) n form r (Ok f) docs after → MayTell (AreArranged a) n form (Ok None) docs after
  near_untold f asked q reads = by (asked q reads)
    where
      by : (IsName n × AnsweredNear (λ (g : First) ds. TookFirst first.top g.top ds) n q r (Ok f) docs after) ⊎ ((IsName n → ⊥) × (took f ≡ Err (refusal BadName)) × (after ≡ docs)) → ((untold ≡ untold) × (after ≡ docs)) ⊎ AnsweredFrom (λ (o : Option (Vec (Vec ℕ Global) Global)) ds. IfSome o (λ t. AreArranged a t ds)) n q (Ok None) docs after
      by (inl h) = inl (refl, h.1.same)
      by (inr h) = let no : Ok f ≡ Err (refusal BadName) = h.1 in absurd (cc)

  pub near_denied : (e : StoreError) → AskedNear (λ (g : First) ds. TookFirst first.top g.top ds) n form r (Err e) docs after → MayTell (AreArranged a) n form (Err e) docs after
  near_denied e asked q reads = inr (by (asked q reads))
    where
      by : (IsName n × AnsweredNear (λ (g : First) ds. TookFirst first.top g.top ds) n q r (Err e) docs after) ⊎ ((IsName n → ⊥) × (denied e ≡ Err (refusal BadName)) × (after ≡ docs)) → AnsweredFrom (λ (o : Option (Vec (Vec ℕ Global) Global)) ds. IfSome o (λ t. AreArranged a t ds)) n q (Err e) docs after
      by (inl h) = inl (h.0, record { same = h.1.same; taken = λ t shows. tt; denied = h.1.denied })
      by (inr h) = inr (h.0, ap (refused_by (Err e)) h.1, h.2)

-- what may be told, and what is told of all
module _ (a : Arrangement) (n : List ℕ) (form : Form) where
  pub told_so : (bodies : Vec (Vec ℕ Global) Global) (docs after : List TableRow) → MayTell (AreArranged a) n form (Ok (Some bodies)) docs after → AskedFrom (AreArranged a) n form (Ok bodies) docs after
  told_so bodies docs after h q reads = by (h q reads)
    where
      by : (some bodies ≡ untold) × (after ≡ docs) ⊎ AnsweredFrom (λ (o : Option (Vec (Vec ℕ Global) Global)) ds. IfSome o (λ t. AreArranged a t ds)) n q (some bodies) docs after → AnsweredFrom (AreArranged a) n q (Ok bodies) docs after
      by (inl x) = let no : some bodies ≡ untold = x.0 in absurd (cc)
      by (inr (inl x)) = inl (x.0, record { same = x.1.same; taken = x.1.taken; denied = λ t shows. tt })
      by (inr (inr x)) = let no : some bodies ≡ Err (refusal BadName) = x.1 in absurd (cc)

  pub denied_so : (e : StoreError) (docs after : List TableRow) → MayTell (AreArranged a) n form (Err e) docs after → AskedFrom (AreArranged a) n form (Err e) docs after
  denied_so e docs after h q reads = by (h q reads)
    where
      by : (none_told e ≡ untold) × (after ≡ docs) ⊎ AnsweredFrom (λ (o : Option (Vec (Vec ℕ Global) Global)) ds. IfSome o (λ t. AreArranged a t ds)) n q (none_told e) docs after → AnsweredFrom (AreArranged a) n q (Err e) docs after
      by (inl x) = let no : none_told e ≡ untold = x.0 in absurd (cc)
      by (inr (inl x)) = inl (x.0, record { same = x.1.same; taken = λ t shows. tt; denied = x.1.denied })
      by (inr (inr x)) = inr (x.0, ap (refused_by (Err e)) x.1, x.2)

  pub then_all : (r : Result (Vec (Vec ℕ Global) Global) StoreError) (docs mid after : List TableRow) → MayTell (AreArranged a) n form untold docs mid → AskedFrom (AreArranged a) n form r mid after → AskedFrom (AreArranged a) n form r docs after
  then_all r docs mid after h asked q reads = by (h q reads)
    where
      by : (untold ≡ untold) × (mid ≡ docs) ⊎ AnsweredFrom (λ (o : Option (Vec (Vec ℕ Global) Global)) ds. IfSome o (λ t. AreArranged a t ds)) n q untold docs mid → AnsweredFrom (AreArranged a) n q r docs after
      by (inl x) = subst (λ rows. AnsweredFrom (AreArranged a) n q r rows after) x.1 (asked q reads)
      by (inr (inl x)) = subst (λ rows. AnsweredFrom (AreArranged a) n q r rows after) x.1.same (asked q reads)
      by (inr (inr x)) = let no : untold ≡ Err (refusal BadName) = x.1 in absurd (cc)

-- ---- what lies beyond the end of a range

beyond : (r near : Range) (k : SortKey) (end : ℤ) (d : Members) (o : Option Value) → at (document d) (path_of k.path.items) ≡ o → IsSomeAnd o (λ v. (rank (value_kind v) ≡ r.rank) × (r.low ≤ℤ part v) × (part v ≤ℤ r.high)) → path_of near.path.items ≡ path_of k.path.items → near.rank ≡ r.rank
    → near.low ≡ (if k.descending then end else r.low) → near.high ≡ (if k.descending then r.high else end) → (LiesIn near d → ⊥) → GoesBehind near k d
beyond r near k end d None is h path ranked low high out = absurd h
beyond r near k end d (Some v) is h path ranked low high out =
    let narrow : (n : ℕ) → IsSomeAnd (at (document d) (take n (path_of k.path.items))) (λ u. IsTrue (is_wide_kind (value_kind u))) → ⊥ = λ n s. out (inl (n, subst (λ p. IsSomeAnd (at (document d) (take n p)) (λ u. IsTrue (is_wide_kind (value_kind u)))) (sym path) s)) in
    let alone : value_by k d ≡ v = sorted_alone (path_of k.path.items) k.descending d v narrow is in
    let there : at (document d) (path_of near.path.items) ≡ Some v = ap (at (document d)) path ∙ is in
    let lies : near.low ≤ℤ part v → part v ≤ℤ near.high → ⊥ = λ l g. out (inr (subst (λ q. IsSomeAnd q (λ u. (rank (value_kind u) ≡ near.rank) × (near.low ≤ℤ part u) × (part u ≤ℤ near.high))) (sym there) (h.0 ∙ sym ranked, l, g))) in
    subst (λ u. (rank (value_kind u) ≡ near.rank) × IsBeyond k.descending near u) (sym alone) (h.0 ∙ sym ranked, by k.descending low high lies)
  where
    by : (b : Bool) → near.low ≡ (if b then end else r.low) → near.high ≡ (if b then r.high else end) → (near.low ≤ℤ part v → part v ≤ℤ near.high → ⊥) → IsBeyond b near v
    by true low high lies = λ l. lies l (subst (λ x. part v ≤ℤ x) (sym high) h.2)
    by false low high lies = λ g. lies (subst (λ x. x ≤ℤ part v) (sym low) h.1) g

-- of what answers, all lies in a part of its range at one end, or behind that
pub ends_of : (form : Form) (ranges : List Range) (r near : Range) (k : SortKey) (end : ℤ) → Bounds form ranges → ((d : Members) → LiesInAll ranges d → LiesIn r d) → path_of r.path.items ≡ path_of k.path.items → path_of near.path.items ≡ path_of r.path.items → near.rank ≡ r.rank
    → near.low ≡ (if k.descending then end else r.low) → near.high ≡ (if k.descending then r.high else end) → Ends form near k
ends_of form ranges r near k end bounds among here path ranked low high q reads d answers out = by (among d (bounds q reads d answers))
  where
    by : LiesIn r d → GoesBehind near k d
    by (inl wide) = absurd (out (inl (subst (IsWide d) (sym (path)) wide)))
    by (inr some) = beyond r near k end d (at (document d) (path_of k.path.items)) refl (subst (λ p. IsSomeAnd (at (document d) p) (λ v. (rank (value_kind v) ≡ r.rank) × (r.low ≤ℤ part v) × (part v ≤ℤ r.high))) here some) (path ∙ here) ranked low high out

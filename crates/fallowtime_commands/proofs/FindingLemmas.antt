-- A document that is found by a look-up, and changed by a list of one change.
use Rattle.std.proofs.Common.{◌≡◌, ◌==◌, ◌≤◌, inl, inr, ℕ, zero, suc, List, [], ◌∷◌, length, map, take, drop, get_or, if◌then◌else◌, Bool, true, false, Option, Some, None, Result, Ok, Err, IfOk, Vec, Global, refl, sym, ap, subst, ◌∙◌, arith, eqb-true, eq-eqb, true≢false}
use Rattle.std.proofs.lemmas.List.Elements.{All-from_recursion, recursion_from_All}
use Rattle.std.proofs.lemmas.List.Sorted.{All-permutation}
use Rattle.std.specs.List.{AllByRecursion}
use Rattle.std.specs.declared.alloc.AllocError.{AllocError}
use Rattle.sqlite.specs.State.{State, Survives}
use Rattle.bson_base.specs.Value.{Members}
use Rattle.bson_bytes.specs.Encode.{encode}
use Rattle.bson_store.proofs.ManyLemmas.{kept_there}
use Rattle.bson_store.proofs.MoveLemmas.{moved, moved_twice}
use Rattle.bson_store.proofs.WholeLemmas.{take_none}
use Rattle.bson_store.specs.Export.{bytes_of_each}
use Rattle.bson_store.specs.Shown.{Represents}
use Rattle.bson_store.specs.Whole.{DoesAll, LeavesWhole}
use Rattle.bson_store.specs.declared.edit.Edit.{Edit}
use Rattle.bson_store.specs.declared.edit.Edit.TheVariants as edits
use Rattle.store_asked.proofs.AskLemmas.{answered_as, refused_as}
use Rattle.store_asked.specs.Arranged.{AreArranged}
use Rattle.store_asked.specs.Asking.{AnsweredFrom, AskedFrom}
use Rattle.store_question.specs.Keeps.{Keeps}
use Rattle.store_pipeline.specs.Views.{left_of}
use Rattle.store_pipeline.specs.declared.sorted.fields.Fields.{Fields}
use Rattle.store_model.specs.Reading.{Documents}
use Rattle.store_model.specs.Refusal.{refusal}
use Rattle.store_model.specs.State.{AreKept, IsKept, IsName, Reply}
use Rattle.store_model.specs.Table.{DocumentTable, documents_of, IsRefusal}
use Rattle.store_model.specs.declared.error.ErrorKind.TheVariants.{BadName}
use Rattle.store_model.specs.declared.error.StoreError.{StoreError}
use Rattle.store_question.specs.Asked.{Asked}
use Rattle.store_question.specs.Reads.{Form, Reads}
use Rattle.store_pipeline.specs.Bodies.{AreBodies, ArrangedBy, IsBody, OfBody}
use Rattle.store_pipeline.specs.Order.{cut}
use Rattle.store_pipeline.specs.declared.sorted.arrangement.Arrangement.{Arrangement}
use Rattle.store_table.proofs.OthersLemmas.{shows_then}
use Rattle.store_table.specs.Moves.{Moves}
use Rattle.store_table.specs.Rows.{TableRow}
use Rattle.fallowtime_requests.specs.declared.request.Wanted.{Wanted}
use Rattle.fallowtime_requests.specs.declared.request.Work.{Work}
use Rattle.fallowtime_requests.specs.declared.request.Work.TheVariants as work
use Rattle.fallowtime_commands.proofs.ChangeLemmas.{chosen_kept, keeps_kept}
use Rattle.fallowtime_commands.specs.Asking.{chosen}
use Rattle.fallowtime_commands.specs.Changing.{Becomes, CanBe, Exchanges, IsRemoval, IsReplacement, IsUnfound, IsUnmadeAt, outcome_of}
use Rattle.fallowtime_commands.specs.Finding.{AppliesOne, AreFirst, bytes_after, ChangesBody, ChangesOne, DraftsOne, FindsAndChanges, first_limit, first_of, IsAfter, IsFound, IsPartOf, IsReturned}
use Rattle.fallowtime_commands.specs.Left.{LeavesApplied, LeavesFound}
use Rattle.fallowtime_commands.specs.Performing.{reply_of}
use Rattle.fallowtime_commands.specs.declared.answer.Answer.{Answer}
use Rattle.fallowtime_commands.specs.declared.answer.Answer.TheVariants as answer
use Rattle.fallowtime_commands.specs.declared.changing.Unmade.{Unmade}
use Rattle.fallowtime_commands.specs.declared.changing.Unmade.TheVariants as unmade

abbrev Bodies : Type 0
Bodies = Vec (Vec ℕ Global) Global

-- ---- the first alone

module _ {X : Type 0} where
  one_taken : (xs : List X) → take 1 xs ≡ chosen false xs
  one_taken [] = refl
  one_taken (x ∷ xs) = ap (λ (l : List X). x ∷ l) (take_none xs)

  one_of_some : (b : Bool) (n : ℕ) (xs : List X) → (b ≡ true → n ≡ 0) → (b ≡ false → n ≡ 0 → ⊥) → take (if b then 0 else 1) xs ≡ chosen false (take n xs)
  one_of_some true n xs is other = take_none xs ∙ sym (ap (chosen false) (ap (λ (k : ℕ). take k xs) (is refl) ∙ take_none xs))
  one_of_some false zero xs is other = absurd (other refl refl)
  one_of_some false (suc n) [] is other = refl
  one_of_some false (suc n) (x ∷ xs) is other = ap (λ (l : List X). x ∷ l) (take_none xs)

  cut_some : (n skip : ℕ) (b : Bool) (xs : List X) → cut skip (if b then Some 0 else Some 1) xs ≡ take (if b then 0 else 1) (drop skip xs)
  cut_some n skip true xs = refl
  cut_some n skip false xs = refl

  first_cut : (skip : ℕ) (limit : Option ℕ) (xs : List X) → cut skip (first_limit limit) xs ≡ chosen false (cut skip limit xs)
  first_cut skip None xs = one_taken (drop skip xs)
  first_cut skip (Some n) xs = cut_some n skip (n == 0) xs ∙ one_of_some (n == 0) n (drop skip xs) (eqb-true n 0) (λ fails none. true≢false (sym (eq-eqb n 0 none) ∙ fails))

-- what the arrangement of the first has is the first of what the arrangement has
first_arranged : (g : Arrangement) (bodies : Bodies) (ds : Documents) → AreArranged (first_of g) bodies ds → AreFirst g bodies ds
first_arranged g bodies ds (es, arranged, are) = (
  cut g.skip g.limit arranged.all,
  record { all = arranged.all; sorts = arranged.sorts; part = refl },
  subst (AreBodies bodies.items) (arranged.part ∙ first_cut g.skip g.limit arranged.all) are,
)

-- so of what was found by it
pub first_asked : (n : List ℕ) (form : Form) (g : Arrangement) (r : Result Bodies StoreError) (docs after : List TableRow) → AskedFrom (AreArranged (first_of g)) n form r docs after → AskedFrom (AreFirst g) n form r docs after
first_asked n form g (Ok bodies) docs after h = answered_as (AreArranged (first_of g)) (AreFirst g) n form docs after bodies bodies (λ ds t. first_arranged g bodies ds t) h
first_asked n form g (Err e) docs after h = refused_as (AreArranged (first_of g)) (AreFirst g) n form docs after e h

-- ---- documents that are kept

module _ (P : Members → Type 0) where
  each_behind : (n : ℕ) (ds : Documents) → AllByRecursion P ds → AllByRecursion P (drop n ds)
  each_behind zero ds h = h
  each_behind (suc n) [] h = tt
  each_behind (suc n) (d ∷ ds) h = each_behind n ds h.1

  each_taken : (n : ℕ) (ds : Documents) → AllByRecursion P ds → AllByRecursion P (take n ds)
  each_taken zero [] h = tt
  each_taken zero (d ∷ ds) h = tt
  each_taken (suc n) [] h = tt
  each_taken (suc n) (d ∷ ds) h = (h.0, each_taken n ds h.1)

  each_cut : (skip : ℕ) (limit : Option ℕ) (ds : Documents) → AllByRecursion P ds → AllByRecursion P (cut skip limit ds)
  each_cut skip None ds h = each_behind skip ds h
  each_cut skip (Some n) ds h = each_taken n (drop skip ds) (each_behind skip ds h)

each_kept : (ds : Documents) → AreKept ds → AllByRecursion IsKept ds
each_kept [] h = tt
each_kept (d ∷ ds) h = (h.0, each_kept ds h.1)

all_kept : (ds : Documents) → AllByRecursion IsKept ds → AreKept ds
all_kept [] h = tt
all_kept (d ∷ ds) h = (h.0, all_kept ds h.1)

arranged_kept : (g : Arrangement) (ds es : Documents) → ArrangedBy g ds es → AreKept ds → AreKept es
arranged_kept g ds es arranged kept =
    let all = All-permutation IsKept ds arranged.all arranged.sorts.permutation (All-from_recursion IsKept ds (each_kept ds kept)) in
    subst AreKept (sym arranged.part) (all_kept (cut g.skip g.limit arranged.all) (each_cut IsKept g.skip g.limit arranged.all (recursion_from_All IsKept arranged.all all)))

bodies_written : (bodies : List (Vec ℕ Global)) (ds : Documents) → AreBodies bodies ds → bytes_of_each bodies ≡ map encode ds
bodies_written [] [] are = refl
bodies_written [] (d ∷ ds) are = absurd are
bodies_written (b ∷ bodies) [] are = absurd are
bodies_written (b ∷ bodies) (d ∷ ds) are = let rest = bodies_written bodies ds are.1 in let first = are.0.written in cc

-- ---- what is returned

replaced : (n : List ℕ) (e : Members) (x : Edit) (body : List ℕ) → IsReplacement n e x → bytes_after (Some x) body ≡ encode e
replaced n e (edits.ReplaceRaw name bytes) body puts = puts.1
replaced n e (edits.InsertRaw name bytes) body puts = absurd puts
replaced n e (edits.PutRaw name bytes) body puts = absurd puts
replaced n e (edits.KeepRaw name bytes) body puts = absurd puts
replaced n e (edits.Remove name id) body puts = absurd puts

exchanged : (n : List ℕ) (d e : Members) (change : Option Edit) (body : List ℕ) → body ≡ encode d → Exchanges n d e change → bytes_after change body ≡ encode e
exchanged n d e change body is (inl (same, none)) = subst (λ c. bytes_after c body ≡ encode e) (sym none) (is ∙ sym same)
exchanged n d e change body is (inr (other, (x, puts, there))) = subst (λ c. bytes_after c body ≡ encode e) (sym there) (replaced n e x body puts)

unmoved : (n : List ℕ) (d : Members) (x : Edit) (body : List ℕ) → IsRemoval n d x → bytes_after (Some x) body ≡ body
unmoved n d (edits.Remove name id) body removes = refl
unmoved n d (edits.ReplaceRaw name bytes) body removes = absurd removes
unmoved n d (edits.InsertRaw name bytes) body removes = absurd removes
unmoved n d (edits.PutRaw name bytes) body removes = absurd removes
unmoved n d (edits.KeepRaw name bytes) body removes = absurd removes

removed : (n : List ℕ) (d : Members) (x : Edit) (change : Option Edit) (body : List ℕ) → body ≡ encode d → IsRemoval n d x → change ≡ Some x → bytes_after change body ≡ encode d
removed n d x change body is removes there = subst (λ c. bytes_after c body ≡ encode d) (sym there) (unmoved n d x body removes ∙ is)

-- the bytes after a change are those of what the document is then
after_change : (n : List ℕ) (k : Work) (d : Members) (change : Option Edit) (body : List ℕ) → body ≡ encode d → Becomes n k d change → (e : Members) × IsAfter k d e × (bytes_after change body ≡ encode e)
after_change n (work.Update steps) d change body is (e, becomes, fit, exchanges) = (e, becomes, exchanged n d e change body is exchanges)
after_change n (work.Replace c) d change body is (e, becomes, fit, exchanges) = (e, becomes, exchanged n d e change body is exchanges)
after_change n work.Remove d change body is (x, removes, there) = (d, refl, removed n d x change body is removes there)

pub returned_so : (n : List ℕ) (k : Work) (after : Bool) (d : Members) (change : Option Edit) (body : List ℕ) → body ≡ encode d → Becomes n k d change
    → (e : Members) × IsReturned k after d e × ((if after then bytes_after change body else body) ≡ encode e)
returned_so n k true d change body is becomes = after_change n k d change body is becomes
returned_so n k false d change body is becomes = (d, refl, is)

-- a document that a store keeps comes back from its bytes
pub kept_body : (bytes : List ℕ) (e : Members) → bytes ≡ encode e → IsKept e → IsBody bytes e
kept_body bytes e is kept = record {
  written = is;
  back = record { clean = kept.read.clean; sound = kept.read.sound; short = let small = kept.small in omega (arith, small) };
  low = omega (arith, kept.read.shallow);
}

some_left : (f : Fields) (bytes left : List ℕ) (e : Members) → bytes ≡ encode e → OfBody bytes (λ d. IsBody left (left_of f d)) → IsPartOf (Some f) e left
some_left f bytes left e is h kept = (h e (kept_body bytes e is kept)).written

pub left_of_some : (f : Fields) (bytes : List ℕ) (r : Result (Vec ℕ Global) AllocError) (e : Members) → bytes ≡ encode e → OfBody bytes (λ d. IfOk r (λ left. IsBody left.items (left_of f d))) → IfOk r (λ left. IsPartOf (Some f) e left.items)
left_of_some f bytes (Ok left) e is h = some_left f bytes left.items e is h
left_of_some f bytes (Err x) e is h = tt

-- ---- a body

pub first_body : (bodies : List (Vec ℕ Global)) (x : Vec ℕ Global) (bytes : List ℕ) → 1 ≤ length bodies → x ≡ get_or bodies 0 x → bytes ≡ x.items → (rest : List (List ℕ)) × (bytes_of_each bodies ≡ bytes ∷ rest)
first_body [] x bytes some is same = absurd (omega (arith, some))
first_body (b ∷ bodies) x bytes some is same = (bytes_of_each bodies, ap (λ (first : List ℕ). first ∷ bytes_of_each bodies) (sym (same ∙ ap (λ (v : Vec ℕ Global). v.items) is)))

-- ---- what is found

-- the bodies are that of the document that is found, which is kept; the rows stay
record Found (n : List ℕ) (q : Asked) (g : Arrangement) (bodies : Bodies) (docs after : List TableRow) (a : DocumentTable) : Type 0 where
  same : after ≡ docs
  good : IsName n
  kept : Documents
  all : Documents
  keeps : Keeps q (documents_of a n) kept
  arranged : ArrangedBy g kept all
  are_kept : AreKept (chosen false all)
  are : bytes_of_each bodies.items ≡ map encode (chosen false all)

found_are : (n : List ℕ) (form : Form) (q : Asked) (g : Arrangement) (bodies : Bodies) (docs after : List TableRow) (a : DocumentTable) → Reads form q → Represents docs a → AskedFrom (AreFirst g) n form (Ok bodies) docs after
    → Found n q g bodies docs after a
found_are n form q g bodies docs after a reads shown h = by (h q reads)
  where
    by : AnsweredFrom (AreFirst g) n q (Ok bodies) docs after → Found n q g bodies docs after a
    by (inl (good, answered)) =
        let t = answered.taken a shown in
        record {
          same = answered.same;
          good = good;
          kept = t.0;
          all = t.2.0;
          keeps = t.1;
          arranged = t.2.1;
          are_kept = chosen_kept false t.2.0 (arranged_kept g t.0 t.2.0 t.2.1 (keeps_kept q (documents_of a n) t.0 (kept_there docs a n shown) t.1));
          are = bodies_written bodies.items (chosen false t.2.0) t.2.2;
        }
    by (inr (bad, is, stays)) = absurd (cc)

unfound_are : (n : List ℕ) (form : Form) (q : Asked) (g : Arrangement) (e : StoreError) (docs after : List TableRow) (a : DocumentTable) → Reads form q → Represents docs a → AskedFrom (AreFirst g) n form (Err e) docs after
    → IsUnfound n (Err e) × (after ≡ docs)
unfound_are n form q g e docs after a reads shown h = by (h q reads)
  where
    by : AnsweredFrom (AreFirst g) n q (Err e) docs after → IsUnfound n (Err e) × (after ≡ docs)
    by (inl (good, answered)) = ((e, refl, inr (answered.denied a shown)), answered.same)
    by (inr (bad, is, stays)) = let same : e ≡ refusal BadName = cc in ((e, refl, inl (bad, same)), stays)

-- of no body there is no document, and of one the document
none_there : (es : Documents) → [] ≡ map encode (chosen false es) → chosen false es ≡ []
none_there [] is = refl
none_there (e ∷ es) is = absurd cc

one_there : (es : Documents) (body : List ℕ) (rest : List (List ℕ)) → body ∷ rest ≡ map encode (chosen false es) → AreKept (chosen false es)
    → (d : Members) × (chosen false es ≡ d ∷ []) × IsKept d × (body ≡ encode d)
one_there [] body rest is kept = absurd cc
one_there (e ∷ es) body rest is kept = (e, refl, kept.0, cc)

-- ---- what comes of it

module _ (n : List ℕ) (form : Form) (w : Wanted) (k : Work) where
  abbrev Finding : Bodies → List TableRow → List TableRow → Type 0
  Finding bodies = AskedFrom (AreFirst w.arrangement) n form (Ok bodies)

  made_of_none : (d : Members) (why : Unmade) (docs : List TableRow) → IsUnmadeAt k d 0 why → ChangesOne n w k d (outcome_of why) docs docs
  made_of_none d (unmade.Update i e) docs h = (h, refl)
  made_of_none d (unmade.Store e) docs h = inl (h, refl)

  -- what was drafted of the document of a body
  abbrev pub Drafts : List ℕ → List Edit → Vec ℕ Global → Type 0
  Drafts body xs returned = (d : Members) → IsKept d → body ≡ encode d → DraftsOne n k w.after w.fields d xs returned

  abbrev pub Stops : List ℕ → Unmade → Type 0
  Stops body why = (d : Members) → IsKept d → body ≡ encode d → IsUnmadeAt k d 0 why

  applied : (d : Members) (xs : List Edit) (returned : Vec ℕ Global) (o : Result Answer StoreError) (docs after : List TableRow) → DraftsOne n k w.after w.fields d xs returned
      → AppliesOne xs returned o docs after → ChangesOne n w k d o docs after
  applied d xs returned (Ok x) docs after (change, e, becomes, listed_so, so, part) (is, does) =
      subst (λ y. ChangesOne n w k d (Ok y) docs after) (sym is) (change, e, returned, becomes, so, part, refl, subst (λ l. DoesAll l (Ok tt) docs after) listed_so does)
  applied d xs returned (Err x) docs after (change, e, becomes, listed_so, so, part) (r, is, does) =
      inr (change, r, becomes, is, subst (λ l. DoesAll l (Err r) docs after) listed_so does)

  -- ---- rows

  pub unfound_rows : (e : StoreError) (docs after : List TableRow) → AskedFrom (AreFirst w.arrangement) n form (Err e) docs after → FindsAndChanges n form w k (Err e) docs after
  unfound_rows e docs after h q reads a shown = inl (unfound_are n form q w.arrangement e docs after a reads shown h)

  pub none_rows : (bodies : Bodies) (docs after : List TableRow) → bytes_of_each bodies.items ≡ [] → Finding bodies docs after → FindsAndChanges n form w k (Ok (answer.Found None)) docs after
  none_rows bodies docs after none h q reads a shown =
      let x = found_are n form q w.arrangement bodies docs after a reads shown h in
      inr (x.good, ([], (x.kept, x.all, x.keeps, x.arranged, sym (none_there x.all (sym none ∙ x.are))), (refl, x.same)))

  pub changed_rows : (bodies : Bodies) (body : List ℕ) (o : Result Answer StoreError) (docs mid after : List TableRow) → (rest : List (List ℕ)) × (bytes_of_each bodies.items ≡ body ∷ rest) → Finding bodies docs mid → ChangesBody n w k body o mid after → FindsAndChanges n form w k o docs after
  changed_rows bodies body o docs mid after (rest, front) h changes q reads a shown =
      let x = found_are n form q w.arrangement bodies docs mid a reads shown h in
      let y = one_there x.all body rest (sym front ∙ x.are) x.are_kept in
      inr (x.good, (y.0 ∷ [], (x.kept, x.all, x.keeps, x.arranged, sym y.1), subst (λ (rows : List TableRow). ChangesOne n w k y.0 o rows after) x.same (changes y.0 y.2 y.3)))

  pub unmade_body : (body : List ℕ) (why : Unmade) (docs : List TableRow) → Stops body why → ChangesBody n w k body (outcome_of why) docs docs
  unmade_body body why docs stops d kept is = made_of_none d why docs (stops d kept is)

  pub applied_body : (body : List ℕ) (xs : List Edit) (returned : Vec ℕ Global) (o : Result Answer StoreError) (docs after : List TableRow) → Drafts body xs returned → AppliesOne xs returned o docs after → ChangesBody n w k body o docs after
  applied_body body xs returned o docs after drafts applies d kept is = applied d xs returned o docs after (drafts d kept is) applies

  pub unfound_moves : (s t : State) (e : StoreError) → Moves s t (AskedFrom (AreFirst w.arrangement) n form (Err e)) → Moves s t (FindsAndChanges n form w k (Err e))
  unfound_moves s t e m = moved s t (AskedFrom (AreFirst w.arrangement) n form (Err e)) (FindsAndChanges n form w k (Err e)) m (λ docs after h. unfound_rows e docs after h)

  pub none_moves : (s t : State) (bodies : Bodies) → bytes_of_each bodies.items ≡ [] → Moves s t (Finding bodies) → Moves s t (FindsAndChanges n form w k (Ok (answer.Found None)))
  none_moves s t bodies none m = moved s t (Finding bodies) (FindsAndChanges n form w k (Ok (answer.Found None))) m (λ docs after h. none_rows bodies docs after none h)

  pub unmade_moves : (s t : State) (bodies : Bodies) (body : List ℕ) (why : Unmade) → (rest : List (List ℕ)) × (bytes_of_each bodies.items ≡ body ∷ rest) → Stops body why → Moves s t (Finding bodies) → Moves s t (FindsAndChanges n form w k (outcome_of why))
  unmade_moves s t bodies body why front stops m =
      moved s t (Finding bodies) (FindsAndChanges n form w k (outcome_of why)) m (λ docs after h. changed_rows bodies body (outcome_of why) docs after after front h (unmade_body body why after stops))

  pub applied_moves : (s m t : State) (bodies : Bodies) (body : List ℕ) (xs : List Edit) (returned : Vec ℕ Global) (o : Result Answer StoreError) → (rest : List (List ℕ)) × (bytes_of_each bodies.items ≡ body ∷ rest) → Drafts body xs returned
      → Moves s m (Finding bodies) → Moves m t (AppliesOne xs returned o) → Moves s t (FindsAndChanges n form w k o)
  applied_moves s m t bodies body xs returned o front drafts first second =
      moved_twice s m t (Finding bodies) (AppliesOne xs returned o) (FindsAndChanges n form w k o) first second
      (λ docs mid after h applies. changed_rows bodies body o docs mid after front h (applied_body body xs returned o mid after drafts applies))

  -- ---- what a crash leaves

  pub refused_leaves : (s t : State) (r : Reply) → IsRefusal r → Survives s t (λ _. ⊥) → LeavesFound n form w k r s t
  refused_leaves s t r refusal survives clean first docs beside stands a shown db may q reads = inl (inl refusal, elim (survives.crash clean db may) [ inl was ↦ was | inr none ↦ absurd none ])

  pub none_leaves : (s t : State) (r : Reply) (bodies : Bodies) → bytes_of_each bodies.items ≡ [] → Moves s t (Finding bodies) → Survives s t (λ _. ⊥) → LeavesFound n form w k r s t
  none_leaves s t r bodies none moves survives clean first docs beside stands a shown db may q reads =
      let y = (moves clean).1 docs stands in
      let x = found_are n form q w.arrangement bodies docs y.0 a reads shown y.2 in
      inl (inr (x.kept, x.all, x.keeps, x.arranged, sym (none_there x.all (sym none ∙ x.are))), elim (survives.crash clean db may) [ inl was ↦ was | inr never ↦ absurd never ])

  pub applied_leaves : (s m t : State) (bodies : Bodies) (body : List ℕ) (xs : List Edit) (returned : Vec ℕ Global) (o : Result Answer StoreError) → (rest : List (List ℕ)) × (bytes_of_each bodies.items ≡ body ∷ rest) → Drafts body xs returned
      → Moves s m (Finding bodies) → Survives s m (λ _. ⊥) → Moves m t (AppliesOne xs returned o) → LeavesApplied xs o m t → LeavesFound n form w k (reply_of o) s t
  applied_leaves s m t bodies body xs returned (Ok z) (rest, front) drafts first_move survives second_move leaves clean first docs beside stands a shown db may q reads =
      let early = (second_move clean).0 in
      let y = (first_move early).1 docs stands in
      let x = found_are n form q w.arrangement bodies docs y.0 a reads shown y.2 in
      let there : Represents y.0 a = subst (λ (rows : List TableRow). Represents rows a) (sym x.same) shown in
      let v = one_there x.all body rest (sym front ∙ x.are) x.are_kept in
      let u = drafts v.0 v.2 v.3 in
      let listed_leaves = subst (λ l. LeavesWhole l (Ok tt) m t) u.3 leaves in
      inr (v.0, u.0, (x.kept, x.all, x.keeps, x.arranged, sym v.1), u.2, listed_leaves clean first y.0 (shows_then first s m beside y.3) y.1 a there db may)
  applied_leaves s m t bodies body xs returned (Err z) (rest, front) drafts first_move survives second_move (r, leaves) clean first docs beside stands a shown db may q reads =
      let early = (second_move clean).0 in
      let y = (first_move early).1 docs stands in
      let x = found_are n form q w.arrangement bodies docs y.0 a reads shown y.2 in
      let there : Represents y.0 a = subst (λ (rows : List TableRow). Represents rows a) (sym x.same) shown in
      let v = one_there x.all body rest (sym front ∙ x.are) x.are_kept in
      let u = drafts v.0 v.2 v.3 in
      let listed_leaves = subst (λ l. LeavesWhole l (Err r) m t) u.3 leaves in
      elim (listed_leaves clean first y.0 (shows_then first s m beside y.3) y.1 a there db may) [
        | inl before ↦ inl (inl tt, elim (survives.crash early db before) [ inl was ↦ was | inr none ↦ absurd none ])
        | inr done ↦ inr (v.0, u.0, (x.kept, x.all, x.keeps, x.arranged, sym v.1), u.2, done.1)
      ]

-- ---- the shape of the answer

found_is : (k : Work) (a : Answer) (body : Vec ℕ Global) → a ≡ answer.Found (Some body) → IsFound k a
found_is k a body is = subst (IsFound k) (sym is) tt

pub as_found : (k : Work) (body : Vec ℕ Global) (r : Result Answer StoreError) → IfOk r (λ a. a ≡ answer.Found (Some body)) → IfOk r (IsFound k)
as_found k body (Ok a) is = found_is k a body is
as_found k body (Err e) is = tt

pub unmade_is : (k : Work) (why : Unmade) → CanBe k why → IfOk (outcome_of why) (IsFound k)
unmade_is (work.Update steps) (unmade.Update i e) can = tt
unmade_is (work.Replace d) (unmade.Update i e) can = tt
unmade_is work.Remove (unmade.Update i e) can = absurd can
unmade_is k (unmade.Store e) can = tt

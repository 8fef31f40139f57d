-- A change of the documents that answer a question, by a look-up and one list of changes.
use Rattle.std.proofs.Common.{◌≡◌, ◌⊎◌, ◌<◌, ◌≤◌, ◌+◌, inl, inr, ℕ, zero, suc, List, [], ◌∷◌, ◌++◌, length, map, take, drop, get_or, Bool, true, false, Option, Some, Result, Ok, Err, IfOk, MatchResult, Vec, Global, refl, sym, ap, subst, ◌∙◌, arith, append_assoc, append-nil}
use Rattle.std.proofs.lemmas.List.{length-map, take_all, take_more}
use Rattle.sqlite.specs.State.{State, Survives}
use Rattle.bson_base.specs.Value.{Members}
use Rattle.bson_bytes.specs.Encode.{encode}
use Rattle.bson_model.specs.View.{content}
use Rattle.store_table.specs.Moves.{Moves, WasOpen}
use Rattle.store_table.specs.Rows.{TableRow}
use Rattle.store_table.proofs.OthersLemmas.{shows_then}
use Rattle.store_model.specs.Reading.{Documents}
use Rattle.store_model.specs.State.{AreKept, IsKept, IsName, Reply}
use Rattle.store_model.specs.Table.{DocumentTable, documents_of, IsRefusal}
use Rattle.store_model.specs.Refusal.{refusal, refusal_at}
use Rattle.store_model.specs.declared.error.ErrorKind.{ErrorKind}
use Rattle.store_model.specs.declared.error.ErrorKind.TheVariants.{BadName, Memory}
use Rattle.store_model.specs.declared.error.StoreError.{StoreError}
use Rattle.store_asked.specs.Asking.{AnsweredFrom, AskedFrom}
use Rattle.store_question.specs.Keeps.{Keeps}
use Rattle.store_question.specs.Asked.{Asked}
use Rattle.store_question.specs.Reads.{Form, Reads}
use Rattle.store_update.specs.declared.error.UpdateError.{UpdateError}
use Rattle.store_update.specs.declared.error.UpdateError.TheVariants as updates
use Rattle.fallowtime_commands.specs.Storing.{IsFit, IsUnkept}
use Rattle.store_question_read.specs.UpdateOutcome.{plans_of}
use Rattle.fallowtime_requests.specs.declared.request.Work.{Work}
use Rattle.fallowtime_requests.specs.declared.request.Work.TheVariants as work
use Rattle.bson_store.specs.Export.{bytes_of_each}
use Rattle.bson_store.specs.Shown.{Represents}
use Rattle.bson_store.specs.declared.edit.Edit.{Edit}
use Rattle.bson_store.proofs.ManyLemmas.{kept_there}
use Rattle.bson_store.proofs.MoveLemmas.{moved, moved_twice}
use Rattle.bson_store.proofs.WholeLemmas.{length_take, split_at, take_none}
use Rattle.fallowtime_commands.specs.Asking.{AreChosen, chosen}
use Rattle.fallowtime_commands.specs.Left.{LeavesApplied, LeavesChange}
use Rattle.fallowtime_commands.specs.Performing.{IsChange, reply_of}
use Rattle.fallowtime_commands.specs.Changing.{Applies, AreEdits, AreMeant, Becomes, CanBe, Changes, ChangesBodies, ChangesFound, done_by, Exchanges, IsReplacement, IsUnfound, IsUnkeptAt, IsUnmadeAt, IsUnrenewedAt, listed, outcome_of, Renews, Replaces, StopsAt, Updates}
use Rattle.fallowtime_commands.specs.declared.answer.Answer.{Answer}
use Rattle.fallowtime_commands.specs.declared.changing.Unmade.{Unmade}
use Rattle.fallowtime_commands.specs.declared.changing.Unmade.TheVariants as unmade

abbrev pub Bodies : Type 0
Bodies = Vec (Vec ℕ Global) Global

-- ---- one document

-- a fault that isn't for want of memory is that of the update
pub not_memory : (says : Result Members UpdateError) (e : UpdateError) → (says ≡ Err e) ⊎ (e ≡ updates.Memory) → (e ≡ updates.Memory → ⊥) → says ≡ Err e
not_memory says e (inl is) other = is
not_memory says e (inr memory) other = absurd (other memory)

-- memory has no place
pub unkept_at : (e : Members) (k : ErrorKind) (x : StoreError) (i : ℕ) → IsUnkept e k ⊎ (k ≡ Memory) → x ≡ refusal_at k i → IsUnkeptAt e i (unmade.Store x)
unkept_at e k x i (inl why) is = inr (k, why, ap unmade.Store is)
unkept_at e k x i (inr memory) is = inl (ap unmade.Store (is ∙ ap (λ j. refusal_at j i) memory))

-- another document replaces it
pub exchanged : (n : List ℕ) (d e : Members) (bytes body : List ℕ) (x : Edit) → bytes ≡ encode e → body ≡ encode d → (bytes ≡ body → ⊥) → IsReplacement n e x → Exchanges n d e (Some x)
exchanged n d e bytes body x is was other puts = inr ((λ same. other (is ∙ (same ∙ sym was))), (x, puts, refl))

module _ (Outcome : Result Members UpdateError → Type 0) (i : ℕ) where
  pub no_memory : (w : Unmade) → w ≡ unmade.Store (refusal Memory) → IsUnrenewedAt Outcome i w
  no_memory w is = subst (λ y. IsUnrenewedAt Outcome i y) (sym is) (inl refl)

  unrenewed : (e : Members) (w : Unmade) → Outcome (Ok e) → IsUnkeptAt e i w → IsUnrenewedAt Outcome i w
  unrenewed e w becomes (inl memory) = no_memory w memory
  unrenewed e w becomes (inr (k, why, is)) = subst (λ y. IsUnrenewedAt Outcome i y) (sym is) (inr (e, k, becomes, why, refl))

  -- what becomes of a document takes its place, if it can be kept
  pub renewed : (n : List ℕ) (d e : Members) (r : Result (Option Edit) Unmade) → Outcome (Ok e) → MatchResult r (λ change. IsFit e × Exchanges n d e change) (IsUnkeptAt e i)
      → MatchResult r (Renews n Outcome d) (IsUnrenewedAt Outcome i)
  renewed n d e (Ok change) becomes (fit, exchanges) = (e, becomes, fit, exchanges)
  renewed n d e (Err w) becomes why = unrenewed e w becomes why

-- ---- the first or all

pub chosen_kept : (many : Bool) (ds : Documents) → AreKept ds → AreKept (chosen many ds)
chosen_kept true ds kept = kept
chosen_kept false [] kept = tt
chosen_kept false (d ∷ ds) kept = (kept.0, tt)

pub as_many : (bodies : List (Vec ℕ Global)) (k : ℕ) → k ≡ length bodies → k ≡ length (bytes_of_each bodies)
as_many bodies k is = is ∙ sym (length-map bodies (λ (v : Vec ℕ Global). v.items))

-- ---- the changes

module _ (n : List ℕ) (w : Work) where
  pub one_more : (ds : Documents) (xs : List Edit) (d : Members) (change : Option Edit) → AreEdits n w ds xs → Becomes n w d change → AreEdits n w (ds ++ d ∷ []) (xs ++ listed change)
  one_more [] xs d change h becomes = (change, [], becomes, refl, ap (λ ys. ys ++ listed change) h ∙ sym (append-nil (listed change)))
  one_more (c ∷ ds) xs d change (first, rest, its, more, is) becomes =
      (first, rest ++ listed change, its, one_more ds rest d change more becomes, ap (λ ys. ys ++ listed change) is ∙ append_assoc (listed first) rest (listed change))

-- the document of the body at a place
pub entry : (bodies : List (Vec ℕ Global)) (ds : Documents) (i : ℕ) (x : Vec ℕ Global) → AreKept ds → bytes_of_each bodies ≡ map encode ds → i < length bodies → x ≡ get_or bodies i x
    → (d : Members) × IsKept d × (x.items ≡ encode d) × (d ≡ get_or ds i d) × (i < length ds)
entry [] ds i x kept same low is = absurd (omega (arith, low))
entry (b ∷ bs) [] i x kept same low is = absurd cc
entry (b ∷ bs) (d ∷ ds) zero x kept same low is =
    let first : b.items ≡ encode d = cc in
    (d, kept.0, ap (λ (v : Vec ℕ Global). v.items) is ∙ first, refl, omega arith)
entry (b ∷ bs) (d ∷ ds) (suc i) x kept same low is =
    let rest : bytes_of_each bs ≡ map encode ds = cc in
    let e = entry bs ds i x kept.1 rest (omega (arith, low)) is in
    (e.0, e.1, e.2, e.3, omega (arith, e.4))

-- ---- one body after the other

module _ (n : List ℕ) (w : Work) (bodies : List (Vec ℕ Global)) (ds : Documents) (kept : AreKept ds) (same : bytes_of_each bodies ≡ map encode ds) where
  pub none_yet : (xs : List Edit) → xs ≡ [] → AreEdits n w (take 0 ds) xs
  none_yet xs none = subst (λ es. AreEdits n w es xs) (sym (take_none ds)) none

  pub edits_next : (i : ℕ) (x : Vec ℕ Global) (old new : List Edit) (change : Option Edit) → i < length bodies → x ≡ get_or bodies i x → AreEdits n w (take i ds) old
      → ((d : Members) → IsKept d → x.items ≡ encode d → Becomes n w d change) → new ≡ old ++ listed change → AreEdits n w (take (i + 1) ds) new
  edits_next i x old new change low is h becomes pushed =
      let e = entry bodies ds i x kept same low is in
      let next : take (i + 1) ds ≡ take i ds ++ e.0 ∷ [] = take_more ds i e.0 e.4 ∙ ap (λ (y : Members). take i ds ++ y ∷ []) (sym e.3) in
      subst (λ es. AreEdits n w es new) (sym next) (subst (λ ys. AreEdits n w (take i ds ++ e.0 ∷ []) ys) (sym pushed) (one_more n w (take i ds) old e.0 change h (becomes e.0 e.1 e.2)))

  pub stops : (i : ℕ) (x : Vec ℕ Global) (old : List Edit) (why : Unmade) → i < length bodies → x ≡ get_or bodies i x → AreEdits n w (take i ds) old
      → ((d : Members) → IsKept d → x.items ≡ encode d → IsUnmadeAt w d i why) → StopsAt n w ds why
  stops i x old why low is h unmade_there =
      let e = entry bodies ds i x kept same low is in
      record {
        front = take i ds;
        d = e.0;
        back = drop (suc i) ds;
        split = split_at ds i e.0 e.4 e.3;
        xs = old;
        before = h;
        there = subst (λ k. IsUnmadeAt w e.0 k why) (sym (length_take ds i e.4)) (unmade_there e.0 e.1 e.2);
      }

  pub edits_all : (i : ℕ) (xs : List Edit) → length bodies ≤ i → AreEdits n w (take i ds) xs → AreEdits n w ds xs
  edits_all i xs end h =
      let long : length ds ≡ length bodies = sym (length-map ds encode) ∙ (ap length (sym same) ∙ length-map bodies (λ (v : Vec ℕ Global). v.items)) in
      subst (λ es. AreEdits n w es xs) (take_all i ds (omega (arith, long, end))) h

-- memory may run out at every document
pub out_of_memory : (w : Work) (d : Members) (i : ℕ) (why : Unmade) → why ≡ unmade.Store (refusal Memory) → IsUnmadeAt w d i why
out_of_memory (work.Update steps) d i why is = no_memory (Updates (plans_of steps) d) i why is
out_of_memory (work.Replace e) d i why is = no_memory (Replaces (content e) d) i why is
out_of_memory work.Remove d i why is = is

pub memory_can_be : (w : Work) (why : Unmade) → why ≡ unmade.Store (refusal Memory) → CanBe w why
memory_can_be (work.Update steps) why is = tt
memory_can_be (work.Replace e) why is = tt
memory_can_be work.Remove why is = subst (CanBe work.Remove) (sym is) tt

-- ---- what is found

pub keeps_kept : (q : Asked) (ds out : Documents) → AreKept ds → Keeps q ds out → AreKept out
keeps_kept q [] out kept is = subst AreKept (sym is) tt
keeps_kept q (d ∷ ds) out kept (inl (answers, (rest, is, more))) = subst AreKept (sym is) (kept.0, keeps_kept q ds rest kept.1 more)
keeps_kept q (d ∷ ds) out kept (inr (other, more)) = keeps_kept q ds out kept.1 more

-- the bodies are those of the kept documents that are meant; the rows stay
pub record Found (n : List ℕ) (q : Asked) (many : Bool) (bodies : Bodies) (docs after : List TableRow) (a : DocumentTable) : Type 0 where
  pub same : after ≡ docs
  pub good : IsName n
  pub documents : Documents
  pub meant : AreMeant n q many a documents
  pub are_kept : AreKept documents
  pub are : bytes_of_each bodies.items ≡ map encode documents

pub found_are : (n : List ℕ) (form : Form) (q : Asked) (many : Bool) (bodies : Bodies) (docs after : List TableRow) (a : DocumentTable) → Reads form q → Represents docs a → AskedFrom (AreChosen many) n form (Ok bodies) docs after
    → Found n q many bodies docs after a
found_are n form q many bodies docs after a reads shown h = by (h q reads)
  where
    by : AnsweredFrom (AreChosen many) n q (Ok bodies) docs after → Found n q many bodies docs after a
    by (inl (good, answered)) =
        let t = answered.taken a shown in
        record {
          same = answered.same;
          good = good;
          documents = chosen many t.0;
          meant = (t.0, t.1, refl);
          are_kept = chosen_kept many t.0 (keeps_kept q (documents_of a n) t.0 (kept_there docs a n shown) t.1);
          are = t.2;
        }
    by (inr (bad, is, stays)) = absurd (cc)

pub unfound_are : (n : List ℕ) (form : Form) (q : Asked) (many : Bool) (e : StoreError) (docs after : List TableRow) (a : DocumentTable) → Reads form q → Represents docs a → AskedFrom (AreChosen many) n form (Err e) docs after
    → IsUnfound n (Err e) × (after ≡ docs)
unfound_are n form q many e docs after a reads shown h = by (h q reads)
  where
    by : AnsweredFrom (AreChosen many) n q (Err e) docs after → IsUnfound n (Err e) × (after ≡ docs)
    by (inl (good, answered)) = ((e, refl, inr (answered.denied a shown)), answered.same)
    by (inr (bad, is, stays)) = let same : e ≡ refusal BadName = cc in ((e, refl, inl (bad, same)), stays)

-- ---- what comes of it

pub made_of_none : (n : List ℕ) (w : Work) (ds : Documents) (why : Unmade) (docs : List TableRow) → StopsAt n w ds why → Changes n w ds (outcome_of why) docs docs
made_of_none n w ds (unmade.Update i e) docs h = (h, refl)
made_of_none n w ds (unmade.Store e) docs h = inl (h, refl)

pub applied : (n : List ℕ) (w : Work) (ds : Documents) (xs : List Edit) (k : ℕ) (o : Result Answer StoreError) (docs after : List TableRow) → k ≡ length ds → AreEdits n w ds xs
    → Applies w xs k o docs after → Changes n w ds o docs after
applied n (work.Update steps) ds xs k (Ok x) docs after count edits (is, does) =
    let w = work.Update steps in
    subst (λ y. Changes n w ds (Ok y) docs after) (sym is) (xs, edits, ap (λ m. done_by w m (length xs)) count, does)
applied n (work.Replace e) ds xs k (Ok x) docs after count edits (is, does) =
    let w = work.Replace e in
    subst (λ y. Changes n w ds (Ok y) docs after) (sym is) (xs, edits, ap (λ m. done_by w m (length xs)) count, does)
applied n work.Remove ds xs k (Ok x) docs after count edits (is, does) =
    let w = work.Remove in
    subst (λ y. Changes n w ds (Ok y) docs after) (sym is) (xs, edits, ap (λ m. done_by w m (length xs)) count, does)
applied n w ds xs k (Err e) docs after count edits (r, is, does) = inr (xs, r, edits, is, does)

pub outcome_refused : (why : Unmade) → IsRefusal (reply_of (outcome_of why))
outcome_refused (unmade.Update i e) = tt
outcome_refused (unmade.Store e) = tt

-- ---- the shape of the answer

pub done_is_change : (w : Work) (m c : ℕ) → IsChange w (done_by w m c)
done_is_change (work.Update steps) m c = tt
done_is_change (work.Replace e) m c = tt
done_is_change work.Remove m c = tt

pub unmade_is_change : (w : Work) (why : Unmade) → CanBe w why → IfOk (outcome_of why) (IsChange w)
unmade_is_change (work.Update steps) (unmade.Update i e) can = tt
unmade_is_change (work.Replace d) (unmade.Update i e) can = tt
unmade_is_change work.Remove (unmade.Update i e) can = absurd can
unmade_is_change w (unmade.Store e) can = tt

-- ---- rows

module _ (n : List ℕ) (w : Work) where
  -- it stops there, whatever documents have these bodies
  abbrev pub AllStop : Bodies → Unmade → Type 0
  AllStop bodies why = (ds : Documents) → AreKept ds → bytes_of_each bodies.items ≡ map encode ds → StopsAt n w ds why

  abbrev pub AllHave : Bodies → List Edit → Type 0
  AllHave bodies xs = (ds : Documents) → AreKept ds → bytes_of_each bodies.items ≡ map encode ds → AreEdits n w ds xs

  pub unmade_bodies : (bodies : Bodies) (why : Unmade) (docs : List TableRow) → AllStop bodies why → ChangesBodies n w bodies.items (outcome_of why) docs docs
  unmade_bodies bodies why docs stop ds kept are = made_of_none n w ds why docs (stop ds kept are)

  pub applied_bodies : (bodies : Bodies) (xs : List Edit) (k : ℕ) (o : Result Answer StoreError) (docs after : List TableRow) → k ≡ length bodies.items → AllHave bodies xs → Applies w xs k o docs after → ChangesBodies n w bodies.items o docs after
  applied_bodies bodies xs k o docs after count have applies ds kept are =
      applied n w ds xs k o docs after (as_many bodies.items k count ∙ (ap length are ∙ length-map ds encode)) (have ds kept are) applies

module _ (n : List ℕ) (form : Form) (w : Work) (many : Bool) where
  abbrev pub Finding : Bodies → List TableRow → List TableRow → Type 0
  Finding found = AskedFrom (AreChosen many) n form (Ok found)

  pub unfound_rows : (e : StoreError) (docs after : List TableRow) → AskedFrom (AreChosen many) n form (Err e) docs after → ChangesFound n form w many (Err e) docs after
  unfound_rows e docs after h q reads a shown = inl (unfound_are n form q many e docs after a reads shown h)

  pub changed_rows : (bodies : Bodies) (o : Result Answer StoreError) (docs mid after : List TableRow) → Finding bodies docs mid → ChangesBodies n w bodies.items o mid after → ChangesFound n form w many o docs after
  changed_rows bodies o docs mid after h changes q reads a shown =
      let x = found_are n form q many bodies docs mid a reads shown h in
      inr (x.good, (x.documents, x.meant, subst (λ (rows : List TableRow). Changes n w x.documents o rows after) x.same (changes x.documents x.are_kept x.are)))

  pub unfound_moves : (s t : State) (e : StoreError) → Moves s t (AskedFrom (AreChosen many) n form (Err e)) → Moves s t (ChangesFound n form w many (Err e))
  unfound_moves s t e m = moved s t (AskedFrom (AreChosen many) n form (Err e)) (ChangesFound n form w many (Err e)) m (λ docs after h. unfound_rows e docs after h)

  pub unmade_moves : (s t : State) (bodies : Bodies) (why : Unmade) → AllStop n w bodies why → Moves s t (Finding bodies) → Moves s t (ChangesFound n form w many (outcome_of why))
  unmade_moves s t bodies why stop m =
      moved s t (Finding bodies) (ChangesFound n form w many (outcome_of why)) m (λ docs after h. changed_rows bodies (outcome_of why) docs after after h (unmade_bodies n w bodies why after stop))

  pub applied_moves : (s m t : State) (bodies : Bodies) (xs : List Edit) (k : ℕ) (o : Result Answer StoreError) → k ≡ length bodies.items → AllHave n w bodies xs
      → Moves s m (Finding bodies) → Moves m t (Applies w xs k o) → Moves s t (ChangesFound n form w many o)
  applied_moves s m t bodies xs k o count have first second =
      moved_twice s m t (Finding bodies) (Applies w xs k o) (ChangesFound n form w many o) first second
      (λ docs mid after h applies. changed_rows bodies o docs mid after h (applied_bodies n w bodies xs k o mid after count have applies))

  -- ---- what a crash leaves

  pub refused_leaves : (s t : State) (r : Reply) → IsRefusal r → Survives s t (λ _. ⊥) → LeavesChange n form w many r s t
  refused_leaves s t r refusal survives clean first docs beside stands a shown db may q reads = inl (refusal, elim (survives.crash clean db may) [ inl was ↦ was | inr none ↦ absurd none ])

  pub applied_leaves : (s m t : State) (bodies : Bodies) (xs : List Edit) (k : ℕ) (o : Result Answer StoreError) → AllHave n w bodies xs
      → Moves s m (Finding bodies) → Survives s m (λ _. ⊥) → Moves m t (Applies w xs k o) → LeavesApplied xs o m t → LeavesChange n form w many (reply_of o) s t
  applied_leaves s m t bodies xs k (Ok x) have first_move survives second_move leaves clean first docs beside stands a shown db may q reads =
      let early = (second_move clean).0 in
      let y = (first_move early).1 docs stands in
      let f = found_are n form q many bodies docs y.0 a reads shown y.2 in
      let there : Represents y.0 a = subst (λ (rows : List TableRow). Represents rows a) (sym f.same) shown in
      inr (f.documents, xs, f.meant, have f.documents f.are_kept f.are, leaves clean first y.0 (shows_then first s m beside y.3) y.1 a there db may)
  applied_leaves s m t bodies xs k (Err e) have first_move survives second_move (r, leaves) clean first docs beside stands a shown db may q reads =
      let early = (second_move clean).0 in
      let y = (first_move early).1 docs stands in
      let f = found_are n form q many bodies docs y.0 a reads shown y.2 in
      let there : Represents y.0 a = subst (λ (rows : List TableRow). Represents rows a) (sym f.same) shown in
      elim (leaves clean first y.0 (shows_then first s m beside y.3) y.1 a there db may) [
        | inl before ↦ inl (tt, elim (survives.crash early db before) [ inl was ↦ was | inr none ↦ absurd none ])
        | inr done ↦ inr (f.documents, xs, f.meant, have f.documents f.are_kept f.are, done.1)
      ]

-- ---- the connection

-- what was found on an open connection is answered on it
pub found_still : (s t : State) (x : Bodies) (r : Result Answer StoreError) → WasOpen {A = Bodies} {E = StoreError} s t (Ok x) → WasOpen s t r
found_still s t x (Ok y) h = h
found_still s t x (Err e) h = λ clean docs stands. tt

pub found_then : (s m t : State) (P Q : List TableRow → List TableRow → Type 0) (r : Result Answer StoreError) → Moves s m P → Moves m t Q → WasOpen m t r → WasOpen s t r
found_then s m t P Q (Ok x) first second opened = λ clean docs stands.
    let y = (first (second clean).0).1 docs stands in
    let h = opened clean y.0 y.1 in
    (y.3.was_open h.0, h.1)
found_then s m t P Q (Err e) first second opened = λ clean docs stands. tt

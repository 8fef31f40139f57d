-- Statements, one after the other.
use Rattle.std.proofs.Common.{arith, ◌≡◌, inl, inr, ℕ, suc, ◌+◌, Bool, true, false, ◌&&◌, List, [], ◌∷◌, ◌++◌, length, length-append, Some, Result, Ok, Err, IfOk, string_bytes, refl, ap, sym, ◌∙◌, subst, append_assoc}
use Rattle.std.proofs.lemmas.List.{append-nil}
use Rattle.std.specs.declared.alloc.AllocError.{AllocError}
use Rattle.sqlite.specs.State.{State}
use Rattle.store_model.specs.declared.error.StoreError.{StoreError}
use Rattle.store_table.specs.Moves.{Moves, WasOpen}
use Rattle.fallowtime_commands.specs.Left.{LeavesRequest}
use Rattle.fallowtime_commands.specs.Performing.{IsAnswerTo, Performs, reply_of}
use Rattle.fallowtime_commands.specs.declared.answer.Answer.{Answer}
use Rattle.fallowtime_commands.specs.Deeds.{Deed, Did}
use Rattle.fallowtime_messages.specs.Done.{DidAll, DoesAll}
use Rattle.fallowtime_messages.specs.Runs.{Adds, AllGoOn, AreRun, Begin, IsDeedOf, Keeps, RunsTo, StopsAtOne, Sums, WritesOne, changed_of, changes, count_of, counts, deed_of, errors_from, errors_of, ids_from, ids_of, is_refused}
use Rattle.fallowtime_statements.specs.declared.statement.Statement.{Statement}
use Rattle.fallowtime_messages.specs.declared.writing.Written.{Written}
use Rattle.fallowtime_messages.proofs.DoneLemmas.{none_done, one_more}

-- ---- one

pub did_by : (s : Statement) (n : List ℕ) (r : Result Answer StoreError) (t u : State) → n ≡ string_bytes s.name → Moves t u (Performs n s.request r) → WasOpen t u r → LeavesRequest n s.request (reply_of r) t u → Did (Some (deed_of s r)) t u
did_by s n r t u same moves stays crash =
    subst (λ k. Did (Some (record { name = k; request = s.request; outcome = r })) t u) same (record { moves = moves; stays = stays; crash = crash })

pub wrote : (stops : Bool) (s : Statement) (o : Result Answer StoreError) (old new : Written) (r : Result Bool AllocError) (t u : State) → Did (Some (deed_of s o)) t u → IfOk o (IsAnswerTo s.request) → Keeps stops old new r o → WritesOne stops s old new r t u
wrote stops s o old new r t u did shape keeps = (deed_of s o, (refl, refl, shape), keeps, did)

-- ---- lists

module _ (stops : Bool) where
  go_on : (ss : List Statement) (ds : List Deed) (s : Statement) (d : Deed) → AllGoOn stops ss ds → IsDeedOf s d → (stops && is_refused d.outcome) ≡ false → AllGoOn stops (ss ++ s ∷ []) (ds ++ d ∷ [])
  go_on [] [] s d all is goes = (is, goes, refl)
  go_on [] (e ∷ ds) s d all is goes = absurd cc
  go_on (x ∷ ss) [] s d all is goes = absurd all
  go_on (x ∷ ss) (e ∷ ds) s d (one, on, rest) is goes = (one, on, go_on ss ds s d rest is goes)

  stop_at : (ss : List Statement) (ds : List Deed) (s : Statement) (rest : List Statement) (d : Deed) → AllGoOn stops ss ds → IsDeedOf s d → (stops && is_refused d.outcome) ≡ true → StopsAtOne stops (ss ++ s ∷ rest) (ds ++ d ∷ [])
  stop_at [] [] s rest d all is stop = (is, inl (refl, stop))
  stop_at [] (e ∷ ds) s rest d all is stop = absurd cc
  stop_at (x ∷ ss) [] s rest d all is stop = absurd all
  stop_at (x ∷ ss) (e ∷ ds) s rest d (one, on, more) is stop = (one, inr (stop_at ss ds s rest d more is stop))

  begin_of : (ss : List Statement) (ds : List Deed) (rest : List Statement) → AllGoOn stops ss ds → Begin (ss ++ rest) ds
  begin_of ss [] rest all = tt
  begin_of [] (e ∷ ds) rest all = absurd cc
  begin_of (x ∷ ss) (e ∷ ds) rest (one, on, more) = (one, begin_of ss ds rest more)

  begin_more : (ss : List Statement) (ds : List Deed) (s : Statement) (rest : List Statement) (d : Deed) → AllGoOn stops ss ds → IsDeedOf s d → Begin (ss ++ s ∷ rest) (ds ++ d ∷ [])
  begin_more [] [] s rest d all is = (is, tt)
  begin_more [] (e ∷ ds) s rest d all is = absurd cc
  begin_more (x ∷ ss) [] s rest d all is = absurd all
  begin_more (x ∷ ss) (e ∷ ds) s rest d (one, on, more) is = (one, begin_more ss ds s rest d more is)

  stopped_begins : (ss : List Statement) (ds : List Deed) → StopsAtOne stops ss ds → Begin ss ds
  stopped_begins ss [] h = tt
  stopped_begins [] (e ∷ ds) h = absurd h
  stopped_begins (x ∷ ss) (e ∷ ds) (one, inl last) = (one, subst (Begin ss) (sym last.0) tt)
  stopped_begins (x ∷ ss) (e ∷ ds) (one, inr more) = (one, stopped_begins ss ds more)

  pub run_begins : (ss : List Statement) (ds : List Deed) → AreRun stops ss ds → Begin ss ds
  run_begins ss ds (inl all) = subst (λ xs. Begin xs ds) (append-nil ss) (begin_of ss ds [] all)
  run_begins ss ds (inr stop) = stopped_begins ss ds stop

-- ---- sums

counts-snoc : (ds : List Deed) (d : Deed) → counts (ds ++ d ∷ []) ≡ counts ds + count_of d.outcome
counts-snoc [] d = omega arith
counts-snoc (e ∷ ds) d = let more = counts-snoc ds d in omega (arith, more)

changes-snoc : (ds : List Deed) (d : Deed) → changes (ds ++ d ∷ []) ≡ changes ds + changed_of d.outcome
changes-snoc [] d = omega arith
changes-snoc (e ∷ ds) d = let more = changes-snoc ds d in omega (arith, more)

errors_at : (i j : ℕ) (o : Result Answer StoreError) → i ≡ j → errors_of i o ≡ errors_of j o
errors_at i j o same = ap (λ n. errors_of n o) same

errors-snoc : (i : ℕ) (ds : List Deed) (d : Deed) → errors_from i (ds ++ d ∷ []) ≡ errors_from i ds ++ errors_of (i + length ds) d.outcome
errors-snoc i [] d = append-nil (errors_of i d.outcome) ∙ errors_at i (i + 0) d.outcome (omega arith)
errors-snoc i (x ∷ ds) d =
    ap (λ vs. errors_of i x.outcome ++ vs) (errors-snoc (i + 1) ds d ∙ ap (λ vs. errors_from (i + 1) ds ++ vs) (errors_at ((i + 1) + length ds) (i + suc (length ds)) d.outcome (omega arith)))
    ∙ sym (append_assoc (errors_of i x.outcome) (errors_from (i + 1) ds) (errors_of (i + suc (length ds)) d.outcome))

ids_at : (i j : ℕ) (o : Result Answer StoreError) → i ≡ j → ids_of i o ≡ ids_of j o
ids_at i j o same = ap (λ n. ids_of n o) same

ids-snoc : (i : ℕ) (ds : List Deed) (d : Deed) → ids_from i (ds ++ d ∷ []) ≡ ids_from i ds ++ ids_of (i + length ds) d.outcome
ids-snoc i [] d = append-nil (ids_of i d.outcome) ∙ ids_at i (i + 0) d.outcome (omega arith)
ids-snoc i (x ∷ ds) d =
    ap (λ vs. ids_of i x.outcome ++ vs) (ids-snoc (i + 1) ds d ∙ ap (λ vs. ids_from (i + 1) ds ++ vs) (ids_at ((i + 1) + length ds) (i + suc (length ds)) d.outcome (omega arith)))
    ∙ sym (append_assoc (ids_of i x.outcome) (ids_from (i + 1) ds) (ids_of (i + suc (length ds)) d.outcome))

sums_on : (ds : List Deed) (d : Deed) (old new : Written) → Sums ds old → Adds d.outcome old new → Sums (ds ++ d ∷ []) new
sums_on ds d old new sums adds = record {
  place = grind (arith, length-append, sums.place, adds.place);
  count = (let h = counts-snoc ds d in omega (arith, h, sums.count, adds.count));
  changed = (let h = changes-snoc ds d in omega (arith, h, sums.changed, adds.changed));
  ids = adds.ids ∙ ap (λ vs. vs ++ ids_of old.place d.outcome) sums.ids ∙ ap (λ vs. ids_from 0 ds ++ vs) (ids_at old.place (0 + length ds) d.outcome (omega (arith, sums.place))) ∙ sym (ids-snoc 0 ds d);
  errors = adds.errors ∙ ap (λ vs. vs ++ errors_of old.place d.outcome) sums.errors ∙ ap (λ vs. errors_from 0 ds ++ vs) (errors_at old.place (0 + length ds) d.outcome (omega (arith, sums.place))) ∙ sym (errors-snoc 0 ds d);
}

-- ---- all

-- those so far, and the rest
pub record SoFar (stops : Bool) (all rest : List Statement) (w : Written) (s t : State) : Type 0 where
  pub front : List Statement
  pub ds : List Deed
  pub split : front ++ rest ≡ all
  pub on : AllGoOn stops front ds
  pub sums : Sums ds w
  pub moves : DidAll ds s t

module _ (stops : Bool) (all : List Statement) (s : State) where
  pub begin : (rest : List Statement) (w : Written) → rest ≡ all → Sums [] w → SoFar stops all rest w s s
  begin rest w same sums = record { front = []; ds = []; split = same; on = refl; sums = sums; moves = none_done s }

  module _ (rest behind : List Statement) (x : Statement) (split : rest ≡ x ∷ behind) (old new : Written) (t u : State) (so : SoFar stops all rest old s t) where
    whole : so.front ++ x ∷ behind ≡ all
    whole = ap (λ ys. so.front ++ ys) (sym split) ∙ so.split

    pub went_on : (r : Result Bool AllocError) → r ≡ Ok false → WritesOne stops x old new r t u → SoFar stops all behind new s u
    went_on r is one = by (subst (λ y. WritesOne stops x old new y t u) is one)
      where
        by : WritesOne stops x old new (Ok false) t u → SoFar stops all behind new s u
        by (d, deed, keeps, did) = record {
          front = so.front ++ x ∷ [];
          ds = so.ds ++ d ∷ [];
          split = append_assoc so.front (x ∷ []) behind ∙ whole;
          on = go_on stops so.front so.ds x d so.on deed (sym keeps.1);
          sums = sums_on so.ds d old new so.sums keeps.0;
          moves = one_more s t u so.ds d so.moves did;
        }

    pub ended : (r : Result Bool AllocError) → r ≡ Ok true → WritesOne stops x old new r t u → DoesAll (RunsTo stops all (Ok new)) s u
    ended r is one = by (subst (λ y. WritesOne stops x old new y t u) is one)
      where
        by : WritesOne stops x old new (Ok true) t u → DoesAll (RunsTo stops all (Ok new)) s u
        by (d, deed, keeps, did) = (
          so.ds ++ d ∷ [],
          (inr (subst (λ ys. StopsAtOne stops ys (so.ds ++ d ∷ [])) whole (stop_at stops so.front so.ds x behind d so.on deed (sym keeps.1))), sums_on so.ds d old new so.sums keeps.0),
          one_more s t u so.ds d so.moves did,
        )

    pub cut : (e : AllocError) (r : Result Bool AllocError) → WritesOne stops x old new r t u → DoesAll (RunsTo stops all (Err e)) s u
    cut e r (d, deed, keeps, did) = (
      so.ds ++ d ∷ [],
      subst (λ ys. Begin ys (so.ds ++ d ∷ [])) whole (begin_more stops so.front so.ds x behind d so.on deed),
      one_more s t u so.ds d so.moves did,
    )

  pub all_run : (rest : List Statement) (w : Written) (t : State) → rest ≡ [] → SoFar stops all rest w s t → DoesAll (RunsTo stops all (Ok w)) s t
  all_run rest w t none so = (
    so.ds,
    (inl (subst (λ ys. AllGoOn stops ys so.ds) (sym (append-nil so.front) ∙ ap (λ ys. so.front ++ ys) (sym none) ∙ so.split) so.on), so.sums),
    so.moves,
  )

-- One request after others.
use Rattle.std.proofs.Common.{Bool, IsTrue, List, [], ◌∷◌, ◌++◌, Some, refl, subst}
use Rattle.std.proofs.lemmas.Result.{on_ok_weaker}
use Rattle.sqlite.specs.Effect.{Database}
use Rattle.sqlite.specs.State.{State, HasCleanDisk}
use Rattle.sqlite.specs.Tree.{Trees}
use Rattle.store_table.proofs.OthersLemmas.{others_then, shows_then}
use Rattle.store_table.specs.Beside.{ShowsOthers}
use Rattle.store_table.specs.Moves.{Stands}
use Rattle.store_table.specs.Rows.{TableRow}
use Rattle.bson_store.proofs.MoveLemmas.{rests}
use Rattle.fallowtime_commands.proofs.CrashLemmas.{left_by_request, more_by_request}
use Rattle.fallowtime_commands.specs.Performing.{reply_of}
use Rattle.fallowtime_commands.specs.Deeds.{Changes, Deed, Did, IsOpenFor, LeavesDeed, LeftByDeed}
use Rattle.fallowtime_messages.specs.Done.{AreDone, DidAll, IsOpenAlong, LeavesDeeds, LeftAlong}

-- what is left of one more after others is left along them all
done_on : (Before : Database → Trees → Type 0) (ds : List Deed) (d : Deed) (docs mid after : List TableRow) (h : AreDone ds docs mid) → Changes (Some d) mid after
    → (more : AreDone (ds ++ d ∷ []) docs after) × ((base : Database) (db : Trees) → LeftByDeed base (LeftAlong base (Before base) ds docs mid h) mid (Some d) db → LeftAlong base (Before base) (ds ++ d ∷ []) docs after more db)
done_on Before [] d docs mid after rows changes = (
  (after, subst (λ x. Changes (Some d) x after) rows changes, refl),
  λ base db h. subst (λ x. LeftByDeed base (Before base) x (Some d) db) rows h,
)
done_on Before (e ∷ ds) d docs mid after (row, c, h) changes =
    let rest = done_on (λ base. LeftByDeed base (Before base) docs (Some e)) ds d row mid after h changes in
    ((row, c, rest.0), rest.1)

opens_on : (ds : List Deed) (d : Deed) (x y z : Bool) → IsOpenAlong x ds y → (IsTrue z → IsTrue y) → IsOpenFor (Some d) z → IsOpenAlong x (ds ++ d ∷ []) z
opens_on [] d x y z same was own = (z, (λ up. subst IsTrue same (was up)), own, refl)
opens_on (e ∷ ds) d x y z (mid, first, accepted, rest) was own = (mid, first, accepted, opens_on ds d mid y z rest was own)

left_by : (d : Deed) (t u : State) → LeavesDeed (Some d) t u → HasCleanDisk u → (base : Database) → ShowsOthers base t → (docs : List TableRow) → Stands t docs → (Before : Trees → Type 0) → ((db : Trees) → t.may_leave db → Before db)
    → (db : Trees) → u.may_leave db → LeftByDeed base Before docs (Some d) db
left_by d t u h clean base beside docs stands Before was db may = λ a shown.
    more_by_request base t.may_leave Before was d.name a db d.request (reply_of d.outcome) (left_by_request t u clean base docs beside stands a shown db may d.name d.request (reply_of d.outcome) h)

-- nothing is done
pub none_done : (s : State) → DidAll [] s s
none_done s = rests s (LeavesDeeds [] s s) (λ docs. record { done = refl; opens = refl; left = λ base beside db may. may })

-- one more is done
pub one_more : (s t u : State) (ds : List Deed) (d : Deed) → DidAll ds s t → Did (Some d) t u → DidAll (ds ++ d ∷ []) s u
one_more s t u ds d moves did clean =
    let b = did.moves clean in
    let a = moves b.0 in (
      a.0,
      λ docs stands.
          let y = a.1 docs stands in
          let z = b.1 y.0 y.1 in
          let more = done_on (λ _. s.may_leave) ds d docs y.0 z.0 y.2.done z.2 in (
            z.0,
            z.1,
            record {
              done = more.0;
              opens = opens_on ds d s.is_open t.is_open u.is_open y.2.opens z.3.was_open (on_ok_weaker d.outcome (λ both. both.1) (did.stays clean y.0 y.1));
              left = λ base beside db may.
                  more.1 base db (left_by d t u did.crash clean base (shows_then base s t beside y.3) y.0 y.1 (LeftAlong base s.may_leave ds docs y.0 y.2.done) (y.2.left base beside) db may);
            },
            others_then s t u y.3 z.3,
          ),
    )

-- one alone
pub one_done : (s t : State) (d : Deed) → Did (Some d) s t → DidAll (d ∷ []) s t
one_done s t d did = one_more s s t [] d (none_done s) did

-- ---- one before others

by_more : (base : Database) (Before More : Trees → Type 0) → ((db : Trees) → Before db → More db) → (docs : List TableRow) (d : Deed) (db : Trees) → LeftByDeed base Before docs (Some d) db → LeftByDeed base More docs (Some d) db
by_more base Before More was docs d db h = λ a shown. more_by_request base Before More was d.name a db d.request (reply_of d.outcome) (h a shown)

pub along_more : (base : Database) (Before More : Trees → Type 0) → ((db : Trees) → Before db → More db) → (ds : List Deed) (docs after : List TableRow) (h : AreDone ds docs after) (db : Trees) → LeftAlong base Before ds docs after h db → LeftAlong base More ds docs after h db
along_more base Before More was [] docs after h db left = was db left
along_more base Before More was (d ∷ ds) docs after (mid, c, h) db left =
    along_more base (LeftByDeed base Before docs (Some d)) (LeftByDeed base More docs (Some d)) (by_more base Before More was docs d) ds mid after h db left

pub one_before : (s t u : State) (d : Deed) (ds : List Deed) → Did (Some d) s t → DidAll ds t u → DidAll (d ∷ ds) s u
one_before s t u d ds did moves clean =
    let b = moves clean in
    let a = did.moves b.0 in (
      a.0,
      λ docs stands.
          let y = a.1 docs stands in
          let z = b.1 y.0 y.1 in (
            z.0,
            z.1,
            record {
              done = (y.0, y.2, z.2.done);
              opens = (t.is_open, y.3.was_open, on_ok_weaker d.outcome (λ both. both.1) (did.stays b.0 docs stands), z.2.opens);
              left = λ base beside db may.
                  along_more base t.may_leave (LeftByDeed base s.may_leave docs (Some d)) (left_by d s t did.crash b.0 base beside docs stands s.may_leave (λ db may. may)) ds y.0 z.0 z.2.done db (z.2.left base (shows_then base s t beside y.3) db may);
            },
            others_then s t u y.3 z.3,
          ),
    )

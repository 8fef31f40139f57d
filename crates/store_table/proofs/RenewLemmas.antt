-- What the replacing of keys says of the rows, from what the second survey found.
use Rattle.std.proofs.Common.{◌≡◌, inl, inr, ◌++◌, ◌∷◌, [], ℕ, ℤ, List, IfErr, Option, None, Some, false, Result, Ok, Err, refl, sym, ap, subst, subst₂, ◌∙◌}
use Rattle.sqlite.specs.Clock.{timed}
use Rattle.sqlite.specs.Order.{Row}
use Rattle.sqlite.specs.State.{State, IsLive, IsUnchanged, Shown, ShowsRows, Shows as Sees}
use Rattle.sqlite.specs.Effect.{Database as Held, IsDatabase}
use Rattle.sqlite.specs.Listing.{understood}
use Rattle.sqlite.proofs.Callers.{unchanged_then}
use Rattle.store_table.proofs.PlainLemmas.{all_asks}
use Rattle.store_table.proofs.AnyLemmas.{bare}
use Rattle.store_table.proofs.VisitLemmas.{shown_before}
use Rattle.sqlite_trees.specs.Tree.{Trees}
use Rattle.store_table.specs.declared.opening.OpenError.{OpenError}
use Rattle.store_table.specs.declared.opening.OpenError.TheVariants.{NotAStore, BadRow, IdsCollide, Memory, Database}
use Rattle.store_table.specs.declared.renewal.Renewals.{Renewals}
use Rattle.store_table.specs.Check.{AreGood, AreGoodAfter}
use Rattle.store_table.specs.Open.{all_text, Reads, ReadsNot, RefusesOpening, PassesOpening, IsSettled, KeepsAll}
use Rattle.store_table.specs.Rows.{TableRow, HasRows, HoldsRows, with_keys_at}
use Rattle.store_table.specs.Renewal.{IsOwn, AreRenewed, AcceptsOnce, AreRenewals, Renewed, Unrenewed, MayPut, MayRenew, KeysOfNow, Rekeys, HasRekeyed, HasOldKey, RenewsOld, PassesOnce}
use Rattle.store_table.specs.Keys.{PutsKeys}
use Rattle.store_table.proofs.ListedLemmas.{listed_shows}
use Rattle.store_table.proofs.StatementLemmas.{unchanged_shows, unchanged_keeps, keeps_then, settled_still, seen}
use Rattle.store_table.proofs.UniqueLemmas.{one_list}
use Rattle.store_table.proofs.RenewalLemmas.{apart_yet, twin_of}
use Rattle.store_table.specs.Beside.{SparesOthers}
use Rattle.store_table.proofs.OthersLemmas.{spared_all}

-- ---- what is read, as the state before it has it

unchanged_here : (old mid : State) → IsUnchanged old mid → IsUnchanged old old
unchanged_here old mid u = (record { was_open = u.0.was_open; is_open = u.0.was_open; now_is = refl; committed_is = refl; mode = refl }, record { changes = refl; last_rowid = refl }, refl)

shown_here : (old mid : State) (rows : List Row) → Shown all_text [] old mid rows → Shown all_text [] old old rows
unfolding Shown
shown_here old mid rows h =
    let none = (bare all_text all_asks old.now.schema h.0 h.1.is).0 in
    let it = subst (λ k. ShowsRows old mid all_text h.0 (timed [] h.0.formats h.1.now) rows k) none h.2 in
    (h.0, h.1, subst (λ k. ShowsRows old old all_text h.0 (timed [] h.0.formats h.1.now) rows k) (sym none) (it.0, it.1, it.2, unchanged_here old mid it.3))

pub read_here : (old mid : State) (docs : List TableRow) → Reads old mid docs → Reads old old docs
read_here old mid docs h = record { rows = h.rows; answered = shown_here old mid h.rows h.answered; typed = h.typed; same = h.same; unchanged = unchanged_here old mid h.unchanged }

pub read_before : (old mid : State) (docs : List TableRow) → IsUnchanged old mid → Reads mid mid docs → Reads old old docs
read_before old mid docs u h =
    read_here old mid docs (record { rows = h.rows; answered = shown_before all_text [] old mid mid h.rows all_asks u h.answered; typed = h.typed; same = h.same; unchanged = unchanged_then old mid mid u h.unchanged })

-- ---- from the second survey

module _ (accepts : List ℕ → List ℕ → List ℕ → Type 0) (renews : List ℕ → List ℕ → List ℕ → List ℕ → Type 0) (old mid : State) where
  -- what the survey found
  pub record Found (r : Renewals) : Type 0 where
    pub docs : List TableRow
    pub reads : Reads old mid docs
    pub good : AreGood (AcceptsOnce renews) docs
    pub renewals : AreRenewals accepts renews docs r

  pub found : (r : Renewals) → (docs : List TableRow) × Reads old mid docs × AreGood (AcceptsOnce renews) docs × AreRenewals accepts renews docs r → Found r
  found r h = record { docs = h.0; reads = h.1; good = h.2; renewals = h.3 }

  module _ (r : Renewals) (f : Found r) where
    pub collides : (first second : ℤ) → r.twin ≡ Some (first, second) → Unrenewed accepts renews old mid (IdsCollide first second)
    collides first second is = (f.docs, f.renewals.after, f.reads, f.good, f.renewals.renewed, twin_of accepts renews f.docs r f.renewals first second is)

    pub nothing_written : KeepsAll old mid
    nothing_written = unchanged_keeps old mid f.reads.unchanged

    same : IsLive old → (ds : List TableRow) → HoldsRows old ds → ds ≡ f.docs
    same live ds shows = one_list mid.now ds f.docs (unchanged_shows old mid ds shows f.reads.unchanged).table
        (listed_shows (AcceptsOnce renews) old mid f.docs ((seen shows.table).place, (seen shows.table).tree, (seen shows.table).stands) (live shows.is_open).0 shows.autocommit shows.settled f.reads f.good).table

    there : IsLive old → (ds : List TableRow) → HoldsRows old ds → HoldsRows mid f.docs
    there live ds shows = subst (HoldsRows mid) (same live ds shows) (unchanged_shows old mid ds shows f.reads.unchanged)

    module _ (none : r.twin ≡ None) (new : State) where
      pub renewed_so : IsLive old → ((ds : List TableRow) → HoldsRows mid ds → HoldsRows new (with_keys_at r.keys.items ds)) → ((ds : List TableRow) → HoldsRows mid ds → SparesOthers mid.now new.now) → Renewed accepts renews old new
      renewed_so live done spared ds shows =
          let yet = apart_yet accepts renews f.docs r f.renewals none in (
            f.renewals.after,
            subst (HoldsRows new) yet.keys (done f.docs (there live ds shows)),
            subst (λ xs. AreRenewed renews xs f.renewals.after) (sym (same live ds shows)) f.renewals.renewed,
            yet.good,
            subst (λ (d : Held). SparesOthers d new.now) f.reads.unchanged.0.now_is (spared f.docs (there live ds shows)),
          )

      abbrev keys_now : KeysOfNow accepts renews old
      keys_now =
          let yet = apart_yet accepts renews f.docs r f.renewals none in
          record { docs = f.docs; after = f.renewals.after; keys = r.keys.items; reads = read_here old mid f.docs f.reads; good = f.good; renewed = f.renewals.renewed; apart = yet.good; makes = yet.keys }

      rekeys : mid.step_limit ≡ old.step_limit → (db : Held) → PutsKeys mid.step_limit r.keys.items mid.now db → Rekeys accepts renews old db
      rekeys limit db put = (keys_now, subst₂ (λ (l : Option ℕ) (d : Held). PutsKeys l r.keys.items d db) limit f.reads.unchanged.0.now_is put)

      pub rekeyed_so : mid.step_limit ≡ old.step_limit → Sees mid new new.now new.now false × PutsKeys mid.step_limit r.keys.items mid.now new.now → HasRekeyed accepts renews old new
      rekeyed_so limit put = (record { was_open = f.reads.unchanged.0.was_open; is_open = put.0.is_open; now_is = refl; committed_is = put.0.committed_is; mode = put.0.mode }, rekeys limit new.now put.1)

      pub may_renew : mid.step_limit ≡ old.step_limit → (db : Trees) → MayPut r.keys.items mid db → MayRenew accepts renews old db
      may_renew limit db made = record {
        shown = λ live ds shows.
            let yet = apart_yet accepts renews f.docs r f.renewals none in
            (f.renewals.after, subst (λ xs. AreRenewed renews xs f.renewals.after) (sym (same live ds shows)) f.renewals.renewed, subst₂ (λ (d : Held) (rows : List TableRow). HasRows d db rows) f.reads.unchanged.0.now_is yet.keys (made.shown f.docs (there live ds shows)));
        rekeyed = (made.put.0, rekeys limit made.put.0 made.put.1, made.put.2);
      }

      pub settled_there : IsSettled old → IsSettled mid
      settled_there = settled_still old mid f.reads.unchanged

      pub kept_so : KeepsAll mid new → KeepsAll old new
      kept_so = keeps_then old mid new nothing_written

-- ---- from the first survey

pub if_err_on : (r : Result (Unit {0}) OpenError) (P Q : OpenError → Type 0) → ((e : OpenError) → P e → Q e) → IfErr r P → IfErr r Q
if_err_on (Ok u) P Q f h = tt
if_err_on (Err e) P Q f h = f e h

own_renewed : (renews : List ℕ → List ℕ → List ℕ → List ℕ → Type 0) (seen docs : List TableRow) → AreGoodAfter (IsOwn renews) seen docs → AreRenewed renews docs docs
own_renewed renews seen [] h = tt
own_renewed renews seen (d ∷ docs) h = (record { place = refl; coll = refl; body = refl; key = h.0.accepted }, own_renewed renews (seen ++ d ∷ []) docs h.1)

module _ (renews : List ℕ → List ℕ → List ℕ → List ℕ → Type 0) (old mid new : State) where
  pub passed_renewed : IsLive old → PassesOpening (IsOwn renews) old new → Renewed (IsOwn renews) renews old new
  passed_renewed live p ds shows =
      let still = unchanged_shows old new ds shows p.1.unchanged in
      let same : ds ≡ p.0 = one_list new.now ds p.0 still.table (listed_shows (IsOwn renews) old new p.0 ((seen shows.table).place, (seen shows.table).tree, (seen shows.table).stands) (live shows.is_open).0 shows.autocommit shows.settled p.1 p.2).table in
      (p.0, subst (HoldsRows new) same still, subst (λ xs. AreRenewed renews xs p.0) (sym same) (own_renewed renews [] p.0 p.2), p.2, spared_all old.now new.now p.1.unchanged.0.now_is)

  module _ (u : IsUnchanged old mid) where
    pub live_still : IsLive old → IsLive mid
    live_still live open_mid = let l = live u.0.was_open in (subst IsDatabase (sym u.0.now_is) l.0, subst IsDatabase (sym u.0.committed_is) l.1)

    reads_back : (docs : List TableRow) → Reads mid new docs → Reads old new docs
    reads_back docs h = record { rows = h.rows; answered = shown_before all_text [] old mid new h.rows all_asks u h.answered; typed = h.typed; same = h.same; unchanged = unchanged_then old mid new u h.unchanged }

    pub back_renewed : Renewed (IsOwn renews) renews mid new → Renewed (IsOwn renews) renews old new
    back_renewed h ds shows =
        let x = h ds (unchanged_shows old mid ds shows u) in
        (x.0, x.1, x.2, x.3, subst (λ (d : Held). SparesOthers d new.now) u.0.now_is x.4)

    back_rekeys : mid.step_limit ≡ old.step_limit → (db : Held) → Rekeys (IsOwn renews) renews mid db → Rekeys (IsOwn renews) renews old db
    back_rekeys limit db h =
        let k = h.0 in (
          record { docs = k.docs; after = k.after; keys = k.keys; reads = read_before old mid k.docs u k.reads; good = k.good; renewed = k.renewed; apart = k.apart; makes = k.makes },
          subst₂ (λ (l : Option ℕ) (d : Held). PutsKeys l k.keys d db) limit u.0.now_is h.1,
        )

    back_may : mid.step_limit ≡ old.step_limit → (db : Trees) → MayRenew (IsOwn renews) renews mid db → MayRenew (IsOwn renews) renews old db
    back_may limit db h = record {
      shown = λ live ds shows.
          let x = h.shown (live_still live) ds (unchanged_shows old mid ds shows u) in
          (x.0, x.1, subst (λ (d : Held). HasRows d db x.0) u.0.now_is x.2);
      rekeyed = (h.rekeyed.0, back_rekeys limit h.rekeyed.0 h.rekeyed.1, h.rekeyed.2);
    }

    not_read_back : ReadsNot mid new → ReadsNot old new
    not_read_back (inl fault, same) = (inl (fault.0, ap (λ (x : Held). understood x.schema all_text) (sym u.0.now_is) ∙ fault.1), unchanged_then old mid new u same)
    not_read_back (inr shown, same) = (inr (shown.0, shown_before all_text [] old mid new shown.0 all_asks u shown.1, shown.2), unchanged_then old mid new u same)

    pub back_unrenewed : (e : OpenError) → Unrenewed (IsOwn renews) renews mid new e → Unrenewed (IsOwn renews) renews old new e
    back_unrenewed NotAStore h = not_read_back h
    back_unrenewed (BadRow place) h = (h.0, reads_back h.0 h.1, h.2)
    back_unrenewed (IdsCollide first second) h = (h.0, h.1, reads_back h.0 h.2, h.3, h.4, h.5)
    back_unrenewed Memory h = tt
    back_unrenewed Database h = tt

    pub back_settled : IsSettled old → IsSettled mid
    back_settled = settled_still old mid u

    pub back_kept : KeepsAll mid new → KeepsAll old new
    back_kept = keeps_then old mid new (unchanged_keeps old mid u)

    -- a row that isn't good under its own key was read
    old_key : (place : ℤ) → RefusesOpening (IsOwn renews) old mid (BadRow place) → HasOldKey renews old
    old_key place bad = (bad.0, place, read_here old mid bad.0 bad.1, bad.2)

    pub renews_old : mid.step_limit ≡ old.step_limit → (place : ℤ) → RefusesOpening (IsOwn renews) old mid (BadRow place) → (db : Trees) → MayRenew (IsOwn renews) renews mid db → RenewsOld renews old db
    renews_old limit place bad db may = (old_key place bad, back_may limit db may)

    -- and then the current keys were put
    pub passed_once : mid.step_limit ≡ old.step_limit → (place : ℤ) → RefusesOpening (IsOwn renews) old mid (BadRow place) → HasRekeyed (IsOwn renews) renews mid new → PassesOnce renews old new
    passed_once limit place bad done = inr (
      old_key place bad,
      (record { was_open = u.0.was_open; is_open = done.0.is_open; now_is = refl; committed_is = done.0.committed_is; mode = done.0.mode }, back_rekeys limit new.now done.1),
    )

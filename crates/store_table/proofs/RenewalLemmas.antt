-- Rows and their current keys, one after the other.
use Rattle.std.proofs.Common.{◌≡◌, ◌++◌, ◌∷◌, [], ◌+ℤ◌, ◌<ℤ◌, ◌≤ℤ◌, ℕ, ℤ, pos, List, map, Bool, true, false, cond, ◌||◌, Option, Some, None, option_map, find, is_some, MatchOption, Result, Ok, Err, IsOk, OnOk, is_err, append-nil, append_assoc, refl, sym, ap, subst, ◌∙◌, arith}
use Rattle.std.proofs.lemmas.Int.{ints}
use Rattle.std.specs.List.{AllByRecursion, list_any}
use Rattle.store_table.specs.declared.row.NewKey.{NewKey}
use Rattle.store_table.specs.declared.renewal.Renewals.{Renewals}
use Rattle.store_table.specs.Rows.{TableRow, AreBelow, is_at, is_row_named, last_place, with_idkey, with_key_at, with_keys_at}
use Rattle.store_table.specs.Check.{IsGoodAfter, AreGoodAfter, AreGood}
use Rattle.sqlite.specs.Order.{Row}
use Rattle.store_table.specs.declared.opening.OpenError.{OpenError}
use Rattle.store_table.specs.Cells.{doc_of}
use Rattle.store_table.specs.Judged.{JudgesRow}
use Rattle.store_table.specs.Seen.{Pair}
use Rattle.store_table.specs.Renewal.{HasPlaces, IsTwin, IsRenewed, AreRenewed, AcceptsOnce, StandApart, AreRenewals}
use Rattle.store_table.proofs.CheckLemmas.{good_on, good_rises}
use Rattle.store_table.proofs.LastPlaceLemmas.{below_next, last_last}
use Rattle.store_table.proofs.ManyLemmas.{below_more}
use Rattle.store_table.proofs.PlaceLemmas.{not_at_below, not_at_above, at_same}

-- the row with another key
abbrev pub keyed : List ℕ → TableRow → TableRow
keyed k d = record d { idkey = k }

pub some_there : {X : Type 0} (o : Option X) → is_some o ≡ true → (x : X) × (o ≡ Some x)
some_there (Some x) h = (x, refl)
some_there None h = cc

pub ok_of : {A E P : Type 0} (r : Result A E) → is_err r ≡ false → OnOk r P → P
ok_of (Ok x) e p = p
ok_of (Err x) e p = cc

pub none_of : {X : Type 0} (o : Option X) → ((x : X) → o ≡ Some x → ⊥) → o ≡ None
none_of (Some x) h = absurd (h x refl)
none_of None h = refl

pub none_there : {X : Type 0} (o : Option X) → is_some o ≡ false → o ≡ None
none_there (Some x) h = cc
none_there None h = refl

-- ---- keys put in, one after the other

rekeyed_on : (p : ℤ) (k : List ℕ) (docs : List TableRow) (d : TableRow) → is_at p d ≡ false → with_key_at p k (docs ++ d ∷ []) ≡ with_key_at p k docs ++ d ∷ []
rekeyed_on p k [] d h = rw h refl
rekeyed_on p k (e ∷ docs) d h = ap (λ ds. with_idkey p k e ∷ ds) (rekeyed_on p k docs d h)

all_on : (keys : List NewKey) (docs : List TableRow) (d : TableRow) → AllByRecursion (λ (k : NewKey). k.place <ℤ d.place) keys → with_keys_at keys (docs ++ d ∷ []) ≡ with_keys_at keys docs ++ d ∷ []
all_on [] docs d h = refl
all_on (k ∷ keys) docs d h = ap (with_keys_at keys) (rekeyed_on k.place k.idkey.items docs d (not_at_above k.place d h.0)) ∙ all_on keys (with_key_at k.place k.idkey.items docs) d h.1

all_and_one : (keys : List NewKey) (k : NewKey) (docs : List TableRow) → with_keys_at (keys ++ k ∷ []) docs ≡ with_key_at k.place k.idkey.items (with_keys_at keys docs)
all_and_one [] k docs = refl
all_and_one (x ∷ keys) k docs = all_and_one keys k (with_key_at x.place x.idkey.items docs)

at_last : (p : ℤ) (k : List ℕ) (docs : List TableRow) (d : TableRow) → AreBelow p docs → d.place ≡ p → with_key_at p k (docs ++ d ∷ []) ≡ docs ++ keyed k d ∷ []
at_last p k [] d below is = let on = at_same p d is in rw on refl
at_last p k (e ∷ docs) d below is = let off = not_at_below p e below.0 in rw off (ap (λ ds. e ∷ ds) (at_last p k docs d below.1 is))

lower : (a b : ℤ) (keys : List NewKey) → a <ℤ b → AllByRecursion (λ (k : NewKey). k.place ≤ℤ a) keys → AllByRecursion (λ (k : NewKey). k.place <ℤ b) keys
lower a b [] h l = tt
lower a b (k ∷ keys) h l = (omega (arith, ints, h, l.0), lower a b keys h l.1)

as_low : (b : ℤ) (keys : List NewKey) → AllByRecursion (λ (k : NewKey). k.place <ℤ b) keys → AllByRecursion (λ (k : NewKey). k.place ≤ℤ b) keys
as_low b [] l = tt
as_low b (k ∷ keys) l = (omega (arith, ints, l.0), as_low b keys l.1)

low_on : (b : ℤ) (keys : List NewKey) (k : NewKey) → AllByRecursion (λ (k : NewKey). k.place ≤ℤ b) keys → k.place ≤ℤ b → AllByRecursion (λ (k : NewKey). k.place ≤ℤ b) (keys ++ k ∷ [])
low_on b [] k l h = (h, tt)
low_on b (x ∷ keys) k l h = (l.0, low_on b keys k l.1 h)

none_any : (p : TableRow → Bool) (docs : List TableRow) → option_map (λ (d : TableRow). d.place) (find p docs) ≡ None → list_any p docs ≡ false
none_any p [] h = refl
none_any p (d ∷ docs) h = by (p d) h (none_any p docs)
  where
    by : (b : Bool) → option_map (λ (d : TableRow). d.place) (cond b (Some d) (find p docs)) ≡ None → (option_map (λ (d : TableRow). d.place) (find p docs) ≡ None → list_any p docs ≡ false) → (b || list_any p docs) ≡ false
    by true h more = cc
    by false h more = more h

-- the last of good rows is good after the others
last_good : (accepts : List ℕ → List ℕ → List ℕ → Type 0) (seen xs : List TableRow) (d : TableRow) → AreGoodAfter accepts seen (xs ++ d ∷ []) → IsGoodAfter accepts (seen ++ xs) d
last_good accepts seen [] d h = subst (λ (s : List TableRow). IsGoodAfter accepts s d) (sym (append-nil seen)) h.0
last_good accepts seen (x ∷ xs) d h = subst (λ (s : List TableRow). IsGoodAfter accepts s d) (append_assoc seen (x ∷ []) xs) (last_good accepts (seen ++ x ∷ []) xs d h.1)

pub good_last : (accepts : List ℕ → List ℕ → List ℕ → Type 0) (xs : List TableRow) (d : TableRow) → AreGood accepts (xs ++ d ∷ []) → IsGoodAfter accepts xs d
good_last accepts xs d h = last_good accepts [] xs d h

pub passed_good : (accepts : List ℕ → List ℕ → List ℕ → Type 0) (keys : List Pair) (last : ℤ) (rows : List Row) (verdict : Result (Unit {0}) OpenError) → JudgesRow accepts keys last rows verdict → IsOk verdict → AreGood accepts (map doc_of rows)
passed_good accepts keys last rows (Ok done) h ok = h.good
passed_good accepts keys last rows (Err e) h ok = cc

-- ---- rows renewed

renewed_on : (renews : List ℕ → List ℕ → List ℕ → List ℕ → Type 0) (ds es : List TableRow) (d e : TableRow) → AreRenewed renews ds es → IsRenewed renews d e → AreRenewed renews (ds ++ d ∷ []) (es ++ e ∷ [])
renewed_on renews [] [] d e h r = (r, tt)
renewed_on renews [] (y ∷ es) d e h r = absurd h
renewed_on renews (x ∷ ds) [] d e h r = absurd h
renewed_on renews (x ∷ ds) (y ∷ es) d e h r = (h.0, renewed_on renews ds es d e h.1 r)

module _ (accepts : List ℕ → List ℕ → List ℕ → Type 0) (renews : List ℕ → List ℕ → List ℕ → List ℕ → Type 0) where
  pub none_yet : (r : Renewals) → r.twin ≡ None → r.keys.items ≡ [] → HasPlaces r.places [] → AreRenewals accepts renews [] r
  none_yet r twin keys places = record {
    after = [];
    renewed = tt;
    told = subst (λ o. MatchOption o (StandApart accepts renews [] [] r) (λ p. IsTwin accepts [] p.0 p.1)) (sym twin)
        (record { good = tt; places = places; keys = ap (λ ks. with_keys_at ks []) keys; low = subst (AllByRecursion (λ (k : NewKey). k.place ≤ℤ last_place [])) (sym keys) tt; last = refl });
  }

  -- a twin stays one
  pub twin_stays : (docs : List TableRow) (d : TableRow) (old new : Renewals) (p : ℤ × ℤ) → old.twin ≡ Some p → new ≡ old → IsGoodAfter (AcceptsOnce renews) docs d → AreRenewals accepts renews docs old → AreRenewals accepts renews (docs ++ d ∷ []) new
  twin_stays docs d old new p is same good h =
      let t : IsTwin accepts h.after p.0 p.1 = subst (λ o. MatchOption o (StandApart accepts renews docs h.after old) (λ q. IsTwin accepts h.after q.0 q.1)) is h.told in
      let e = keyed good.accepted.0 d in
      record {
        after = h.after ++ e ∷ [];
        renewed = renewed_on renews docs h.after d e h.renewed (record { place = refl; coll = refl; body = refl; key = good.accepted.1 });
        told = subst (λ o. MatchOption o (StandApart accepts renews (docs ++ d ∷ []) (h.after ++ e ∷ []) new) (λ q. IsTwin accepts (h.after ++ e ∷ []) q.0 q.1)) (sym (ap (λ (r : Renewals). r.twin) same ∙ is))
            (record { front = t.front; twin = t.twin; back = t.back ++ e ∷ []; all = ap (λ (ds : List TableRow). ds ++ e ∷ []) t.all ∙ append_assoc t.front (t.twin ∷ t.back) (e ∷ []); good = t.good; met = t.met; is = t.is });
      }

  pub twin_of : (docs : List TableRow) (r : Renewals) (h : AreRenewals accepts renews docs r) (first second : ℤ) → r.twin ≡ Some (first, second) → IsTwin accepts h.after first second
  twin_of docs r h first second is = subst (λ o. MatchOption o (StandApart accepts renews docs h.after r) (λ q. IsTwin accepts h.after q.0 q.1)) is h.told

  -- so far no two have one collection and key
  pub apart_yet : (docs : List TableRow) (r : Renewals) (h : AreRenewals accepts renews docs r) → r.twin ≡ None → StandApart accepts renews docs h.after r
  apart_yet docs r h is = subst (λ o. MatchOption o (StandApart accepts renews docs h.after r) (λ q. IsTwin accepts h.after q.0 q.1)) is h.told

  module _ (docs : List TableRow) (d : TableRow) (old new : Renewals) (h : AreRenewals accepts renews docs old) (yet : StandApart accepts renews docs h.after old) (good : IsGoodAfter (AcceptsOnce renews) docs d)
      (now : List ℕ) (renewed : renews d.coll d.idkey d.body now) (own : accepts d.coll now d.body) where
    e : TableRow
    e = keyed now d

    pub all_renewed : AreRenewed renews (docs ++ d ∷ []) (h.after ++ keyed now d ∷ [])
    all_renewed = renewed_on renews docs h.after d (keyed now d) h.renewed (record { place = refl; coll = refl; body = refl; key = renewed })

    pub twin_met : (first : ℤ) → new.twin ≡ Some (first, d.place) → option_map (λ (x : TableRow). x.place) (find (is_row_named d.coll now) h.after) ≡ Some first → AreRenewals accepts renews (docs ++ d ∷ []) new
    twin_met first is met = record {
      after = h.after ++ keyed now d ∷ [];
      renewed = all_renewed;
      told = subst (λ o. MatchOption o (StandApart accepts renews (docs ++ d ∷ []) (h.after ++ keyed now d ∷ []) new) (λ q. IsTwin accepts (h.after ++ keyed now d ∷ []) q.0 q.1)) (sym is)
          (record { front = h.after; twin = keyed now d; back = []; all = refl; good = yet.good; met = met; is = refl });
    }

    above : last_place h.after <ℤ d.place
    above = subst (λ z. z <ℤ d.place) (sym yet.last) good.above

    below : AreBelow d.place h.after
    below = below_more (last_place h.after +ℤ pos 1) d.place h.after (omega (arith, ints, above)) (below_next h.after (good_rises accepts h.after yet.good))

    keys_below : AllByRecursion (λ (k : NewKey). k.place <ℤ d.place) old.keys.items
    keys_below = lower (last_place docs) d.place old.keys.items good.above yet.low

    apart_more : option_map (λ (x : TableRow). x.place) (find (is_row_named d.coll now) h.after) ≡ None → AreGood accepts (h.after ++ keyed now d ∷ [])
    apart_more none = good_on accepts h.after (keyed now d) yet.good (record { above = above; fresh = none_any (is_row_named d.coll now) h.after none; accepted = own })

    whole : new.twin ≡ None → option_map (λ (x : TableRow). x.place) (find (is_row_named d.coll now) h.after) ≡ None → HasPlaces new.places (h.after ++ keyed now d ∷ [])
        → with_keys_at new.keys.items (docs ++ d ∷ []) ≡ h.after ++ keyed now d ∷ [] → AllByRecursion (λ (k : NewKey). k.place ≤ℤ d.place) new.keys.items → AreRenewals accepts renews (docs ++ d ∷ []) new
    whole is none places keys low = record {
      after = h.after ++ keyed now d ∷ [];
      renewed = all_renewed;
      told = subst (λ o. MatchOption o (StandApart accepts renews (docs ++ d ∷ []) (h.after ++ keyed now d ∷ []) new) (λ q. IsTwin accepts (h.after ++ keyed now d ∷ []) q.0 q.1)) (sym is)
          (record {
            good = apart_more none;
            places = places;
            keys = keys;
            low = subst (λ z. AllByRecursion (λ (k : NewKey). k.place ≤ℤ z) new.keys.items) (sym (last_last docs d)) low;
            last = last_last h.after (keyed now d) ∙ sym (last_last docs d);
          });
    }

    -- its key is its own already
    pub own_taken : new.twin ≡ None → option_map (λ (x : TableRow). x.place) (find (is_row_named d.coll now) h.after) ≡ None → HasPlaces new.places (h.after ++ keyed now d ∷ []) → new.keys.items ≡ old.keys.items → now ≡ d.idkey
        → AreRenewals accepts renews (docs ++ d ∷ []) new
    own_taken is none places same own_key =
        whole is none places
        (ap (λ ks. with_keys_at ks (docs ++ d ∷ [])) same ∙ all_on old.keys.items docs d keys_below ∙ ap (λ (ds : List TableRow). ds ++ d ∷ []) yet.keys ∙ ap (λ k. h.after ++ keyed k d ∷ []) (sym own_key))
        (subst (AllByRecursion (λ (k : NewKey). k.place ≤ℤ d.place)) (sym same) (as_low d.place old.keys.items keys_below))

    -- another key takes its place
    pub new_taken : (k : NewKey) → k.place ≡ d.place → k.idkey.items ≡ now → new.twin ≡ None → option_map (λ (x : TableRow). x.place) (find (is_row_named d.coll now) h.after) ≡ None
        → HasPlaces new.places (h.after ++ keyed now d ∷ []) → new.keys.items ≡ old.keys.items ++ k ∷ [] → AreRenewals accepts renews (docs ++ d ∷ []) new
    new_taken k at key is none places more =
        whole is none places
        (ap (λ ks. with_keys_at ks (docs ++ d ∷ [])) more ∙ all_and_one old.keys.items k (docs ++ d ∷ [])
        ∙ ap (with_key_at k.place k.idkey.items) (all_on old.keys.items docs d keys_below ∙ ap (λ (ds : List TableRow). ds ++ d ∷ []) yet.keys)
        ∙ at_last k.place k.idkey.items h.after d (subst (λ z. AreBelow z h.after) (sym at) below) (sym at) ∙ ap (λ x. h.after ++ keyed x d ∷ []) key)
        (subst (AllByRecursion (λ (k : NewKey). k.place ≤ℤ d.place)) (sym more) (low_on d.place old.keys.items k (as_low d.place old.keys.items keys_below) (omega (arith, ints, at))))

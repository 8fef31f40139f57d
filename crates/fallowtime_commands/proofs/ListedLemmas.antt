-- Requests one after the other in a draft, and its changes made.
use Rattle.std.proofs.Common.{◌≡◌, ◌⊎◌, inl, inr, ℕ, List, [], ◌∷◌, ◌++◌, length, take, Option, None, Some, MatchOption, Result, Ok, Err, OnOk, Vec, Global, MatchResult, refl, sym, ap, subst, ◌∙◌, arith}
use Rattle.sqlite.specs.Effect.{Database}
use Rattle.sqlite.specs.State as sqlite
use Rattle.sqlite.specs.State.{HasCleanDisk, Survives}
use Rattle.sqlite_trees.specs.Tree.{Trees}
use Rattle.bson_store.specs.Drafted.{drafted}
use Rattle.bson_store.specs.declared.draft.Draft.{Draft}
use Rattle.store_model.specs.State.{State}
use Rattle.store_model.specs.Table.{DocumentTable, state_of}
use Rattle.store_model.specs.declared.error.StoreError.{StoreError}
use Rattle.store_table.proofs.OthersLemmas.{shows_then}
use Rattle.store_table.specs.Moves.{MayLeave, Moves}
use Rattle.store_table.specs.Rows.{TableRow, HasRows}
use Rattle.bson_store.proofs.WholeLemmas.{take_none}
use Rattle.bson_store.specs.Drafting.{BeginsDraft, MakesDrafted, SettlesDrafted}
use Rattle.bson_store.specs.Refusals.{IsDenied}
use Rattle.bson_store.specs.Shown.{Represents}
use Rattle.bson_store.specs.declared.edit.DraftedEdits.{DraftedEdits}
use Rattle.fallowtime_commands.specs.Performing.{IsAnswerTo}
use Rattle.fallowtime_commands.specs.declared.answer.Answer.{Answer}
use Rattle.fallowtime_requests.specs.declared.reading.Question.{Question}
use Rattle.fallowtime_commands.proofs.RequestLemmas.{lack_of}
use Rattle.fallowtime_commands.specs.Listing.{AreAnswersTo, DraftsPerformed, HoldsPerformed, IsLack, IsLacking, IsPerformed, IsRefusedIn, LeavesAll, Performed, PerformsAll, PerformsDrafted, PerformsEach, PerformsIn, PerformsNext, StopsAt, WhyNone}
use Rattle.fallowtime_commands.specs.declared.session.error.ListError.{ListError}
use Rattle.fallowtime_commands.specs.declared.session.error.Reason.{Reason}
use Rattle.fallowtime_commands.specs.declared.session.error.Reason.TheVariants as reason

-- ---- one more

pub next_done : (q : Question) (xs ys : List Answer) (x : Answer) (old new : Draft) (docs after : List TableRow) → ys ≡ xs ++ x ∷ [] → PerformsDrafted q.collection.now q.request (Ok x) old new docs after → PerformsNext q xs ys (Ok tt) old new docs after
next_done q xs ys x old new docs after is h = record { same = h.same; told = λ over a shown. let t = h.told over a shown in (t.0, (x, is, t.1)) }

pub next_refused : (q : Question) (xs ys : List Answer) (why : Reason) (old new : Draft) (docs after : List TableRow) → PerformsDrafted q.collection.now q.request (Err why) old new docs after → PerformsNext q xs ys (Err why) old new docs after
next_refused q xs ys why old new docs after h = record { same = h.same; told = h.told }

pub next_lacks : (q : Question) (xs ys : List Answer) (x : Answer) (why : Reason) (old new : Draft) (docs after : List TableRow) → IsLacking why → PerformsDrafted q.collection.now q.request (Ok x) old new docs after → PerformsNext q xs ys (Err why) old new docs after
next_lacks q xs ys x why old new docs after lack h = record { same = h.same; told = λ over a shown. inl lack }

performed_last : (s : State) (qs : List Question) (xs : List Answer) (t : State) (q : Question) (x : Answer) (u : State) → Performed s qs xs t → PerformsIn q.collection.now q.request (Ok x) t u → Performed s (qs ++ q ∷ []) (xs ++ x ∷ []) u
performed_last s [] [] t q x u h one = (u, subst (λ y. PerformsIn q.collection.now q.request (Ok x) y u) h one, refl)
performed_last s [] (y ∷ xs) t q x u h one = absurd h
performed_last s (p ∷ qs) [] t q x u h one = absurd h
performed_last s (p ∷ qs) (y ∷ xs) t q x u (v, first, h) one = (v, first, performed_last v qs xs t q x u h one)

answers_last : (qs : List Question) (xs : List Answer) (q : Question) (x : Answer) → AreAnswersTo qs xs → IsAnswerTo q.request x → AreAnswersTo (qs ++ q ∷ []) (xs ++ x ∷ [])
answers_last [] [] q x h one = (one, tt)
answers_last [] (y ∷ xs) q x h one = absurd h
answers_last (p ∷ qs) [] q x h one = absurd h
answers_last (p ∷ qs) (y ∷ xs) q x h one = (h.0, answers_last qs xs q x h.1 one)

pub answers_more : (qs : List Question) (xs ys : List Answer) (q : Question) (x : Answer) → AreAnswersTo qs xs → ys ≡ xs ++ x ∷ [] → IsAnswerTo q.request x → AreAnswersTo (qs ++ q ∷ []) ys
answers_more qs xs ys q x h is one = subst (AreAnswersTo (qs ++ q ∷ [])) (sym is) (answers_last qs xs q x h one)

pub next_pushed : (q : Question) (xs ys : List Answer) (x : Answer) (r : Result (Unit {0}) Reason) (old new : Draft) (docs after : List TableRow) → MatchResult r (λ _. ys ≡ xs ++ x ∷ []) IsLacking → PerformsDrafted q.collection.now q.request (Ok x) old new docs after → PerformsNext q xs ys r old new docs after
next_pushed q xs ys x (Ok u) old new docs after is h = next_done q xs ys x old new docs after is h
next_pushed q xs ys x (Err why) old new docs after lack h = next_lacks q xs ys x why old new docs after lack h

pub answers_pushed : (qs : List Question) (xs ys : List Answer) (q : Question) (x : Answer) (r : Result (Unit {0}) Reason) → AreAnswersTo qs xs → MatchResult r (λ _. ys ≡ xs ++ x ∷ []) IsLacking → IsAnswerTo q.request x → OnOk r (AreAnswersTo (qs ++ q ∷ []) ys)
answers_pushed qs xs ys q x (Ok u) are is one = answers_more qs xs ys q x are is one
answers_pushed qs xs ys q x (Err why) are lack one = tt

-- ---- all of them: the rows stay, and from a draft without changes on it has those so far

pub record SoFar (first : Draft) (qs : List Question) (xs : List Answer) (draft : Draft) (docs after : List TableRow) : Type 0 where
  pub same : after ≡ docs
  pub far : DraftsPerformed [] [] first docs → DraftsPerformed qs xs draft docs

pub none_yet : (first : Draft) (docs : List TableRow) → SoFar first [] [] first docs docs
none_yet first docs = record { same = refl; far = λ h. h }

pub none_so_far : (first : Draft) (qs : List Question) (xs : List Answer) (docs : List TableRow) → xs ≡ [] → SoFar first (take 0 qs) xs first docs docs
none_so_far first qs xs docs none = subst (λ ys. SoFar first (take 0 qs) ys first docs docs) (sym none) (subst (λ ps. SoFar first ps [] first docs docs) (sym (take_none qs)) (none_yet first docs))

pub none_answered : (qs : List Question) (xs : List Answer) → xs ≡ [] → AreAnswersTo (take 0 qs) xs
none_answered qs xs none = subst (AreAnswersTo (take 0 qs)) (sym none) (subst (λ ps. AreAnswersTo ps []) (sym (take_none qs)) tt)

pub one_more : (first : Draft) (qs : List Question) (xs ys : List Answer) (q : Question) (old new : Draft) (docs mid after : List TableRow) → SoFar first qs xs old docs mid → PerformsNext q xs ys (Ok tt) old new mid after → SoFar first (qs ++ q ∷ []) ys new docs after
one_more first qs xs ys q old new docs mid after h next =
    let k = subst (λ ds. PerformsNext q xs ys (Ok tt) old new ds after) h.same next in
    record {
      same = k.same;
      far = λ fresh.
          let f = h.far fresh in
          record {
            over = λ a shown. let p = f.all a shown in (k.told (f.over a shown) p.b p.shown).0;
            all = λ a shown.
                let p = f.all a shown in
                let t = (k.told (f.over a shown) p.b p.shown).1 in
                record {
                  b = t.2.0;
                  shown = t.2.1;
                  run = subst (λ zs. Performed (state_of a) (qs ++ q ∷ []) zs (state_of t.2.0)) (sym t.1) (performed_last (state_of a) qs xs (state_of p.b) q t.0 (state_of t.2.0) p.run t.2.2);
                };
          };
    }

pub stops : (all qs : List Question) (q : Question) (back : List Question) (i : ℕ) (xs ys : List Answer) (why : Reason) (e : ListError) (first old new : Draft) (docs mid after : List TableRow) → all ≡ qs ++ q ∷ back → length qs ≡ i → e.reason ≡ why → MatchOption e.request (IsLacking why) (λ j. (j ≡ i) × (IsLacking why → ⊥))
    → SoFar first qs xs old docs mid → PerformsNext q xs ys (Err why) old new mid after → PerformsEach all ys (Err e) first new docs after
stops all qs q back i xs ys why e first old new docs mid after split at is place h next =
    let k = subst (λ ds. PerformsNext q xs ys (Err why) old new ds after) h.same next in
    record {
      same = k.same;
      told = λ fresh a shown.
          let f = h.far fresh in
          let p = f.all a shown in
          subst (λ (r : Reason). MatchOption e.request (IsLacking r) (λ j. StopsAt a all j r)) (sym is) (by e.request place p (k.told (f.over a shown) p.b p.shown));
    }
  where
    by : {a : DocumentTable} (o : Option ℕ) → MatchOption o (IsLacking why) (λ j. (j ≡ i) × (IsLacking why → ⊥)) → (p : IsPerformed a qs xs (drafted old docs)) → IsLacking why ⊎ IsRefusedIn (state_of p.b) q.collection.now q.request why → MatchOption o (IsLacking why) (λ j. StopsAt a all j why)
    by None lack p told = lack
    by (Some j) (same, other) p (inl lack) = absurd (other lack)
    by (Some j) (same, other) p (inr refuses) = record { front = qs; q = q; back = back; split = split; at = at ∙ sym same; xs = xs; s = state_of p.b; run = p.run; refuses = refuses }

pub each_done : (all : List Question) (xs : List Answer) (first draft : Draft) (docs after : List TableRow) → SoFar first all xs draft docs after → PerformsEach all xs (Ok tt) first draft docs after
each_done all xs first draft docs after h = record { same = h.same; told = h.far }

-- ---- the whole

fresh_of : (x : DraftedEdits) (docs after : List TableRow) → BeginsDraft (Ok x) docs after → DraftsPerformed [] [] x.draft docs
fresh_of x docs after h = record { over = h.begun.1; all = λ a shown. record { b = a; shown = subst (λ ds. Represents ds a) (sym h.begun.0) shown; run = refl } }

-- the draft is begun, and has the changes of all requests
pub record Ready (qs : List Question) (xs : List Answer) (draft : Draft) (docs after : List TableRow) : Type 0 where
  pub same : after ≡ docs
  pub all : DraftsPerformed qs xs draft docs

pub ready : (x : DraftedEdits) (qs : List Question) (xs : List Answer) (draft : Draft) (docs mid after : List TableRow) → BeginsDraft (Ok x) docs mid → PerformsEach qs xs (Ok tt) x.draft draft mid after → Ready qs xs draft docs after
ready x qs xs draft docs mid after h each =
    let k = subst (λ ds. PerformsEach qs xs (Ok tt) x.draft draft ds after) h.same each in
    record { same = k.same; all = k.told (fresh_of x docs mid h) }

pub each_refused : (x : DraftedEdits) (qs : List Question) (xs : List Answer) (e : ListError) (draft : Draft) (docs mid after : List TableRow) → BeginsDraft (Ok x) docs mid → PerformsEach qs xs (Err e) x.draft draft mid after → PerformsAll qs (Err e) docs after
each_refused x qs xs e draft docs mid after h each =
    let k = subst (λ ds. PerformsEach qs xs (Err e) x.draft draft ds after) h.same each in
    record { same = k.same; told = k.told (fresh_of x docs mid h) }

-- the list as a whole is refused
denied_lacks : (x : StoreError) → IsDenied x → IsLack x.kind
denied_lacks x denied = lack_of x (denied.0, denied.2)

for_all : (a : DocumentTable) (qs : List Question) (x : StoreError) (e : ListError) → IsDenied x → (e.reason ≡ reason.Refused x) × MatchOption e.request (IsLacking (reason.Refused x)) (λ i. (i ≡ 0) × (IsLacking (reason.Refused x) → ⊥)) → (e.request ≡ None) × WhyNone a qs e
for_all a qs x e denied (is, place) = by e.request refl place
  where
    by : (o : Option ℕ) → e.request ≡ o → MatchOption o (IsLacking (reason.Refused x)) (λ i. (i ≡ 0) × (IsLacking (reason.Refused x) → ⊥)) → (e.request ≡ None) × WhyNone a qs e
    by None none lack = (none, subst (λ p. MatchOption p (IsLacking e.reason) (λ i. StopsAt a qs i e.reason)) (sym none) (subst IsLacking (sym is) lack))
    by (Some i) some (at, other) = absurd (other (denied_lacks x denied))

abbrev pub OfAll : StoreError → ListError → Type 0
OfAll x e = (e.reason ≡ reason.Refused x) × MatchOption e.request (IsLacking (reason.Refused x)) (λ i. (i ≡ 0) × (IsLacking (reason.Refused x) → ⊥))

pub none_begun : (qs : List Question) (x : StoreError) (e : ListError) (docs after : List TableRow) → OfAll x e → BeginsDraft (Err x) docs after → PerformsAll qs (Err e) docs after
none_begun qs x e docs after is h = record { same = h.same; told = λ a shown. (for_all a qs x e h.denied is).1 }

pub none_made : (qs : List Question) (xs : List Answer) (draft : Draft) (x : StoreError) (e : ListError) (docs mid after : List TableRow) → OfAll x e → Ready qs xs draft docs mid → MakesDrafted draft (Err x) mid after → PerformsAll qs (Err e) docs after
none_made qs xs draft x e docs mid after is h k = record { same = k.refused ∙ h.same; told = λ a shown. (for_all a qs x e k.denied is).1 }

pub all_made : (qs : List Question) (xs : Vec Answer Global) (draft : Draft) (docs mid after : List TableRow) → Ready qs xs.items draft docs mid → MakesDrafted draft (Ok tt) mid after → PerformsAll qs (Ok xs) docs after
all_made qs xs draft docs mid after h k = record { same = tt; told = λ a shown. subst (IsPerformed a qs xs.items) (sym (k.done ∙ ap (drafted draft) h.same)) (h.all.all a shown) }

-- ---- what a crash leaves

holds : (first : Database) (qs : List Question) (xs : List Answer) (draft : Draft) (docs mid : List TableRow) (a : DocumentTable) (db : Trees) → Ready qs xs draft docs mid → Represents docs a → HasRows first db (drafted draft mid) → HoldsPerformed first a qs xs db
holds first qs xs draft docs mid a db h shown rows =
    let p = h.all.all a shown in
    record { t = state_of p.b; run = p.run; holds = inl (drafted draft docs, subst (HasRows first db) (ap (drafted draft) h.same) rows, (p.b, p.shown, refl)) }

module _ (s m t : sqlite.State) (qs : List Question) (draft : Draft) (before : Survives s m (λ _. ⊥)) (later : Survives m t (MayLeave (drafted draft) m)) where
  pub all_leave : (xs : Vec Answer Global) → Moves s m (Ready qs xs.items draft) → SettlesDrafted draft m t → LeavesAll qs (Ok xs) s t
  all_leave xs moves settled clean first docs beside stands a shown db may =
      let y = (moves (omega (arith, clean, later.clean))).1 docs stands in
      holds first qs xs.items draft docs y.0 a db y.2 shown (settled clean first y.0 (shows_then first s m beside y.3) y.1 db may)

  pub none_leave : (xs : List Answer) (x : StoreError) (e : ListError) → OfAll x e → Moves s m (Ready qs xs draft) → Moves m t (MakesDrafted draft (Err x)) → LeavesAll qs (Err e) s t
  none_leave xs x e is moves makes clean first docs beside stands a shown db may =
      let early : HasCleanDisk m = omega (arith, clean, later.clean) in
      let y = (moves early).1 docs stands in
      let denied = ((makes clean).1 y.0 y.1).2.denied in
      elim (later.crash clean db may) [
        | inl mid ↦ inl (elim (before.crash early db mid) [ inl was ↦ was | inr none ↦ absurd none ])
        | inr made ↦ inr ((for_all a qs x e denied is).0, (xs, holds first qs xs draft docs y.0 a db y.2 shown (made first y.0 (shows_then first s m beside y.3) y.1)))
      ]

-- only reads were done
pub reads_leave : (s t : sqlite.State) (qs : List Question) (e : ListError) → Survives s t (λ _. ⊥) → LeavesAll qs (Err e) s t
reads_leave s t qs e survives clean first docs beside stands a shown db may = inl (elim (survives.crash clean db may) [ inl was ↦ was | inr none ↦ absurd none ])

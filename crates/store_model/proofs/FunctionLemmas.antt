-- A call on a list has one reply and leaves one list; so one collection's replies depend only on what concerns it.
use Rattle.std.proofs.Common.{◌≡◌, inl, inr, ℕ, suc, List, [], ◌∷◌, ◌++◌, length, map, Bool, true, false, cond, Option, Some, None, refl, ap, ◌∙◌, sym, subst}
use Rattle.std.specs.Prelude.{bytes_eq, IsSomeAnd, MatchOption}
use Rattle.std.specs.List.{flat_map}
use Rattle.std.specs.FinMap.{get}
use Rattle.bson_base.specs.Value.{Value, Members, look_up, has_key, without, put}
use Rattle.bson_bytes.specs.Encode.{encode}
use Rattle.store_model.specs.Filter.{Filter}
use Rattle.store_model.specs.Reading.{Documents, readable, unreadable}
use Rattle.store_model.specs.State.{id_key, State, list_of, store, HasId, NoneHasId, AtId, Call, insert, replace, set, unset, remove, get_raw, get_json, find, count, project, import, export, dump, Command, on, collections, Reply, done, flag, number, bytes, bytes_list, names, refused, json_of, tree_reply, trees_of, trees_reply, When, Refuses, refusal_of, first_refusal, Appends, Picks, only, Answers, IsName, Step}
use Rattle.store_model.specs.Run.{Denial, kind_of_denial, Denials, Turn, Run, calls_of, replies_of}
use Rattle.store_model.specs.declared.error.ErrorKind.{ErrorKind}
use Rattle.store_model.specs.declared.error.ErrorKind.TheVariants.{BadName, BadKey, JsonRefused, TooDeep, Nul, TooLong, NotFound, DuplicateId}
use Rattle.bson_meaning.specs.Meaning.{norm_in_order}
use Rattle.store_model.proofs.DocumentLemmas.{when_same, match_same}
use Rattle.store_model.proofs.RunLemmas.{same_names}
use Rattle.store_model.proofs.StateLemmas.{list_of-store}
use Rattle.store_model.proofs.StepLemmas.{either_way}
use Rattle.bson_base.proofs.MemberLemmas.{equal_keys, same_key}
use Rattle.store_model.proofs.TestLemmas.{in_turn}

-- two results of one call are equal
pub record Alone (r s : Reply) (ds es : Documents) : Type 0 where
  pub reply : r ≡ s
  pub left : ds ≡ es

alone : {r s : Reply} {ds es : Documents} (a : Reply) (fs : Documents) → (r ≡ a) × (ds ≡ fs) → (s ≡ a) × (es ≡ fs) → Alone r s ds es
alone a fs p q = record { reply = p.0 ∙ sym q.0; left = p.1 ∙ sym q.1 }

module _ (id : Value) where
  one_place : {X : Type 0} (front : Documents) (d : Members) (back gront : Documents) (e : Members) (cack : Documents) → front ++ d ∷ back ≡ gront ++ e ∷ cack
      → NoneHasId id front → HasId id d → NoneHasId id gront → HasId id e → (front ≡ gront → d ≡ e → back ≡ cack → X) → X
  one_place [] d back [] e cack i n h m k f = let a : d ≡ e = cc in let b : back ≡ cack = cc in f refl a b
  one_place [] d back (c ∷ gront) e cack i n h m k f = let a : d ≡ c = cc in absurd (m.0 (subst (HasId id) a h))
  one_place (c ∷ front) d back [] e cack i n h m k f = let a : c ≡ e = cc in absurd (n.0 (subst (HasId id) (sym a) k))
  one_place (c ∷ front) d back (x ∷ gront) e cack i n h m k f =
      let a : c ≡ x = cc in
      let rest : front ++ d ∷ back ≡ gront ++ e ∷ cack = cc in
      one_place front d back gront e cack rest n.1 h m.1 k (λ p q r. let j : c ∷ front ≡ x ∷ gront = cc in f j q r)

  none_behind : (front : Documents) (d : Members) (back : Documents) → NoneHasId id (front ++ d ∷ back) → HasId id d → ⊥
  none_behind [] d back n h = n.0 h
  none_behind (c ∷ front) d back n h = none_behind front d back n.1 h

  one_at : {X : Type 0} (ds : Documents) (P P' : Documents → Members → Documents → Type 0) (Q Q' : Type 0)
      → ((front : Documents) (d : Members) (back : Documents) → P front d back → P' front d back → X) → (Q → Q' → X) → AtId id ds P Q → AtId id ds P' Q' → X
  one_at ds P P' Q Q' f g (inl (front, d, back, s, p)) (inl (gront, e, cack, t, q)) =
      one_place front d back gront e cack (sym s.split ∙ t.split) s.before s.has t.before t.has
      (λ i j k. f front d back p (subst (λ x. P' x d back) (sym i) (subst (λ x. P' gront x back) (sym j) (subst (P' gront e) (sym k) q))))
  one_at ds P P' Q Q' f g (inl (front, d, back, s, p)) (inr (n, q)) = absurd (none_behind front d back (subst (NoneHasId id) s.split n) s.has)
  one_at ds P P' Q Q' f g (inr (n, p)) (inl (gront, e, cack, t, q)) = absurd (none_behind gront e cack (subst (NoneHasId id) t.split n) t.has)
  one_at ds P P' Q Q' f g (inr (n, p)) (inr (m, q)) = g p q

one_when : {X : Type 0} (P A A' B B' : Type 0) → (P → A → A' → X) → (B → B' → X) → When P A B → When P A' B' → X
one_when P A A' B B' f g = when_same P A B P A' B' either_way (λ p _ a b. f p a b) (λ _ _ a b. g a b)

one_match : {X K : Type 0} (o : Option K) (A A' : Type 0) (P P' : K → Type 0) → (A → A' → X) → ((k : K) → P k → P' k → X) → MatchOption o A P → MatchOption o A' P' → X
one_match o A A' P P' = match_same o o A A' P P' refl

one_some : {X : Type 0} (o : Option Value) (P Q : Value → Type 0) → ((v : Value) → P v → Q v → X) → IsSomeAnd o P → IsSomeAnd o Q → X
one_some None P Q f a b = absurd a
one_some (Some v) P Q f a b = f v a b

one_pick : (f : Filter) (ds out put : Documents) → Picks f ds out → Picks f ds put → out ≡ put
one_pick f [] out put p q = p ∙ sym q
one_pick f (d ∷ ds) out put p q = one_when _ _ _ _ _ (λ _ a b. a.1 ∙ ap (λ l. d ∷ l) (one_pick f ds a.0 b.0 a.2 b.2) ∙ sym b.1) (λ a b. one_pick f ds out put a b) p q

one_append : {r s : Reply} {es fs : Documents} (i : ℕ) (start ds more : Documents) → Appends i start ds more r es → Appends i start ds more s fs → Alone r s es fs
one_append i start ds [] p q = alone (number i) ds p q
one_append i start ds (d ∷ more) p q = one_when _ _ _ _ _ (λ _ a b. alone (refused DuplicateId (Some i)) start a b) (λ a b. one_append (suc i) start (ds ++ d ∷ []) more a b) p q

from_picks : {r s : Reply} {es fs : Documents} (f : Filter) (ds out put : Documents) (g : Documents → Reply) → Picks f ds out → Picks f ds put → (r ≡ g out) × (es ≡ ds) → (s ≡ g put) × (fs ≡ ds) → Alone r s es fs
from_picks f ds out put g p q a b = alone (g out) ds a (b.0 ∙ ap g (one_pick f ds put out q p), b.1)

-- a refusal has one result
no : {r s : Reply} {es fs : Documents} (k : ErrorKind) (ds : Documents) → Refuses k ds r es → Refuses k ds s fs → Alone r s es fs
no k ds p q = alone (refused k None) ds p q

pub one_answer : {r s : Reply} {es fs : Documents} (x : Call) (ds : Documents) → Answers x ds r es → Answers x ds s fs → Alone r s es fs
one_answer (insert form (readable d)) ds p q =
    one_match (refusal_of d) _ _ _ _ (λ p q. one_when _ _ _ _ _ (λ _ a b. no DuplicateId ds a b) (λ a b. alone done (ds ++ d ∷ []) a b) p q) (λ k a b. no k ds a b) p q
one_answer (insert form (unreadable k)) ds p q = no k ds p q
one_answer (replace form (readable d)) ds p q =
    one_match (refusal_of d) _ _ _ _
    (λ p q. one_some (look_up id_key d) _ _ (λ id p q. one_at id ds _ _ _ _ (λ front _ back a b. alone done (front ++ d ∷ back) a b) (λ a b. no NotFound ds a b) p q) p q)
    (λ k a b. no k ds a b) p q
one_answer (replace form (unreadable k)) ds p q = no k ds p q
one_answer (set id k (Some v)) ds p q =
    one_when _ _ _ _ _
    (λ _ p q. one_at id ds _ _ _ _
    (λ front d back p q. one_when _ _ _ _ _ (λ _ a b. no TooDeep ds a b)
    (λ p q. one_when _ _ _ _ _ (λ _ p q. one_when _ _ _ _ _ (λ _ a b. no TooLong ds a b) (λ a b. alone done (front ++ put k (norm_in_order v) d ∷ back) a b) p q)
    (λ a b. no Nul ds a b) p q) (in_turn ds front (put k (norm_in_order v) d) back _ _ p) (in_turn ds front (put k (norm_in_order v) d) back _ _ q))
    (λ a b. no NotFound ds a b) p q)
    (λ a b. no BadKey ds a b) p q
one_answer (set id k None) ds p q = one_when _ _ _ _ _ (λ _ a b. no JsonRefused ds a b) (λ a b. no BadKey ds a b) p q
one_answer (unset id k) ds p q =
    one_when _ _ _ _ _
    (λ _ p q. one_at id ds _ _ _ _ (λ front d back a b. alone (flag (has_key k d)) (front ++ without k d ∷ back) a b) (λ a b. no NotFound ds a b) p q)
    (λ a b. no BadKey ds a b) p q
one_answer (remove id) ds p q = one_at id ds _ _ _ _ (λ front d back a b. alone done (front ++ back) a b) (λ a b. no NotFound ds a b) p q
one_answer (get_raw id) ds p q = one_at id ds _ _ _ _ (λ front d back a b. alone (bytes (encode d)) ds a b) (λ a b. no NotFound ds a b) p q
one_answer (get_json m id) ds p q = one_at id ds _ _ _ _ (λ front d back a b. alone (tree_reply (json_of m d)) ds a b) (λ a b. no NotFound ds a b) p q
one_answer (find f) ds p q = from_picks f ds p.0 q.0 (λ out. bytes_list (map encode out)) p.1 q.1 (p.2, p.3) (q.2, q.3)
one_answer (count f) ds p q = from_picks f ds p.0 q.0 (λ out. number (length out)) p.1 q.1 (p.2, p.3) (q.2, q.3)
one_answer (project f ks) ds p q = from_picks f ds p.0 q.0 (λ out. bytes_list (map (λ d. encode (only ks d)) out)) p.1 q.1 (p.2, p.3) (q.2, q.3)
one_answer (import more stop) ds p q = one_match (first_refusal 0 more stop) _ _ _ _ (λ a b. one_append 0 ds ds more a b) (λ x a b. alone (refused x.0 (Some x.1)) ds a b) p q
one_answer dump ds p q = alone (trees_reply (trees_of 0 ds)) ds p q
one_answer export ds p q = alone (bytes (flat_map encode ds)) ds p q

-- ---- one collection

-- what a collection does with one call that may be denied
abbrev Does : List ℕ → Option Denial × Call → Documents → Reply → Documents → Type 0
Does n x ds r es = MatchOption x.0 (When (IsName n) (Answers x.1 ds r es) ((r ≡ refused BadName None) × (es ≡ ds))) (λ k. (r ≡ refused (kind_of_denial k) None) × (es ≡ ds))

abbrev RunAlone : List ℕ → Documents → List (Option Denial × Call) → List Reply → Documents → Type 0
RunAlone n ds [] rs es = (rs ≡ []) × (es ≡ ds)
RunAlone n ds (x ∷ xs) [] es = ⊥
RunAlone n ds (x ∷ xs) (r ∷ rs) es = (fs : Documents) × Does n x ds r fs × RunAlone n fs xs rs es

one_doing : {r s : Reply} {es fs : Documents} (n : List ℕ) (x : Option Denial × Call) (ds : Documents) → Does n x ds r es → Does n x ds s fs → Alone r s es fs
one_doing n x ds p q =
    one_match x.0 _ _ _ _ (λ p q. one_when _ _ _ _ _ (λ _ a b. one_answer x.1 ds a b) (λ a b. alone (refused BadName None) ds a b) p q) (λ k a b. alone (refused (kind_of_denial k) None) ds a b) p q

one_run : (n : List ℕ) (xs : List (Option Denial × Call)) (ds : Documents) (rs qs : List Reply) (es fs : Documents) → RunAlone n ds xs rs es → RunAlone n ds xs qs fs → (rs ≡ qs) × (es ≡ fs)
one_run n [] ds rs qs es fs p q = (p.0 ∙ sym q.0, p.1 ∙ sym q.1)
one_run n (x ∷ xs) ds (r ∷ rs) (q ∷ qs) es fs (gs, a, p) (hs, b, z) =
    let here = one_doing n x ds a b in
    let rest = one_run n xs gs rs qs es fs p (subst (λ l. RunAlone n l xs qs fs) (sym here.left) z) in
    let i : r ≡ q = here.reply in let j : rs ≡ qs = rest.0 in (cc, rest.1)
one_run n (x ∷ xs) ds [] qs es fs p q = absurd p
one_run n (x ∷ xs) ds (r ∷ rs) [] es fs p q = absurd q

here_after : (s : State) (n : List ℕ) (ds : Documents) → list_of (store s n ds) n ≡ ds
here_after s n ds = list_of-store s n n ds ∙ ap (λ b. cond b ds (list_of s n)) (same_key n)

there_after : (s : State) (n m : List ℕ) (ds : Documents) → bytes_eq n m ≡ false → list_of (store s m ds) n ≡ list_of s n
there_after s n m ds h = list_of-store s m n ds ∙ ap (λ b. cond b ds (list_of s n)) h

-- a turn of another collection changes nothing here
elsewhere : (r : Reply) (o : Option Denial) (n m : List ℕ) (x : Call) (s t : State) → bytes_eq n m ≡ false → Turn o s (on m x) r t → list_of t n ≡ list_of s n
elsewhere r None n m x s t h (inl (good, (es, a, e))) = ap (λ u. list_of u n) e ∙ there_after s n m es h
elsewhere r None n m x s t h (inr (bad, a)) = ap (λ u. list_of u n) a.1
elsewhere r (Some k) n m x s t h p = ap (λ u. list_of u n) p.1

here_does : (r : Reply) (o : Option Denial) (n : List ℕ) (x : Call) (s t : State) → Turn o s (on n x) r t → Does n (o, x) (list_of s n) r (list_of t n)
here_does r None n x s t (inl (good, (es, a, e))) = inl (good, subst (Answers x (list_of s n) r) (sym (ap (λ u. list_of u n) e ∙ here_after s n es)) a)
here_does r None n x s t (inr (bad, a)) = inr (bad, (a.0, ap (λ u. list_of u n) a.1))
here_does r (Some k) n x s t p = (p.0, ap (λ u. list_of u n) p.1)

collections_here : (r : Reply) (o : Option Denial) (n : List ℕ) (s t : State) → Turn o s collections r t → list_of t n ≡ list_of s n
collections_here r None n s t p = ap (λ u. list_of u n) p.1
collections_here r (Some k) n s t p = ap (λ u. list_of u n) p.1

seen : (n : List ℕ) (w : Denials) (i : ℕ) (cs : List Command) (rs : List Reply) (s t : State) → Run w i s cs rs t → RunAlone n (list_of s n) (calls_of n w i cs) (replies_of n cs rs) (list_of t n)
seen n w i [] [] s t p = (refl, ap (λ u. list_of u n) p)
seen n w i (on m x ∷ cs) (r ∷ rs) s t (u, a, p) = by (seen n w (suc i) cs rs u t p) (bytes_eq n m) refl
  where
    by : RunAlone n (list_of u n) (calls_of n w (suc i) cs) (replies_of n cs rs) (list_of t n) → (b : Bool) → bytes_eq n m ≡ b
        → RunAlone n (list_of s n) (cond b ((get w i, x) ∷ calls_of n w (suc i) cs) (calls_of n w (suc i) cs)) (cond b (r ∷ replies_of n cs rs) (replies_of n cs rs)) (list_of t n)
    by rest true e = (list_of u n, here_does r (get w i) n x s u (subst (λ z. Turn (get w i) s (on z x) r u) (sym (equal_keys n m e)) a), rest)
    by rest false e = subst (λ l. RunAlone n l (calls_of n w (suc i) cs) (replies_of n cs rs) (list_of t n)) (elsewhere r (get w i) n m x s u e a) rest
seen n w i (collections ∷ cs) (r ∷ rs) s t (u, a, p) =
    subst (λ l. RunAlone n l (calls_of n w (suc i) cs) (replies_of n cs rs) (list_of t n)) (collections_here r (get w i) n s u a) (seen n w (suc i) cs rs u t p)
seen n w i [] (r ∷ rs) s t p = absurd p
seen n w i (on m x ∷ cs) [] s t p = absurd p
seen n w i (collections ∷ cs) [] s t p = absurd p

pub one_collection : (n : List ℕ) (w v : Denials) (cs ds : List Command) (rs qs : List Reply) (s t s' t' : State) → list_of s n ≡ list_of t n → calls_of n w 0 cs ≡ calls_of n v 0 ds
    → Run w 0 s cs rs s' → Run v 0 t ds qs t' → (replies_of n cs rs ≡ replies_of n ds qs) × (list_of s' n ≡ list_of t' n)
one_collection n w v cs ds rs qs s t s' t' h k p q =
    one_run n (calls_of n w 0 cs) (list_of s n) (replies_of n cs rs) (replies_of n ds qs) (list_of s' n) (list_of t' n) (seen n w 0 cs rs s s' p)
    (subst (λ xs. RunAlone n (list_of s n) xs (replies_of n ds qs) (list_of t' n)) (sym k) (subst (λ l. RunAlone n l (calls_of n v 0 ds) (replies_of n ds qs) (list_of t' n)) (sym h) (seen n v 0 ds qs t t' q)))

-- ---- whole steps

pub one_step : (s : State) (c : Command) (r q : Reply) (t u : State) → Step s c r t → Step s c q u → (r ≡ q) × (t ≡ u)
one_step s (on n x) r q t u p z =
    one_when _ _ _ _ _
    (λ _ a b. let i = one_answer x (list_of s n) a.1 b.1 in (i.reply, a.2 ∙ ap (store s n) i.left ∙ sym b.2))
    (λ a b. (a.0 ∙ sym b.0, a.1 ∙ sym b.1)) p z
one_step s collections r q t u p z = (p.0.2 ∙ ap names (same_names p.0.0 z.0.0 p.0.1.ascending z.0.1.ascending (λ m. p.0.1.each m ∙ sym (z.0.1.each m))) ∙ sym z.0.2, p.1 ∙ sym z.1)

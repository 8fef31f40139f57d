-- A refused call leaves its list, and a refused command the state.
use Rattle.std.proofs.Common.{◌≡◌, inl, inr, ℕ, suc, [], ◌∷◌, ◌++◌, Option, Some, None, ap, ◌∙◌, sym, subst}
use Rattle.std.specs.Prelude.{MatchOption, IsSomeAnd}
use Rattle.bson_base.specs.Value.{Value, Members, look_up, put}
use Rattle.bson_meaning.specs.Meaning.{norm_in_order}
use Rattle.store_model.specs.Reading.{Documents, readable, unreadable}
use Rattle.store_model.specs.State.{id_key, State, list_of, store, Call, insert, replace, set, unset, remove, get_raw, get_json, find, count, project, import, export, dump, Command, on, collections, Reply, refused, AtId, When, refusal_of, first_refusal, Appends, PutsBack, Answers, Step}
use Rattle.store_model.specs.Run.{Denial, Turn}
use Rattle.store_model.specs.declared.error.ErrorKind.{ErrorKind}
use Rattle.store_model.proofs.StateLemmas.{HasNoEmpty, never_empty, stored_again}

by_when : {P A B G : Type 0} → (A → G) → (B → G) → When P A B → G
by_when f g (inl (p, a)) = f a
by_when f g (inr (p, b)) = g b

by_option : {A : Type 0} {X : Type 0} {B : X → Type 0} {G : Type 0} (o : Option X) → (A → G) → ((x : X) → B x → G) → MatchOption o A B → G
by_option None f g h = f h
by_option (Some x) f g h = g x h

by_some : {X : Type 0} {B : X → Type 0} {G : Type 0} (o : Option X) → ((x : X) → B x → G) → IsSomeAnd o B → G
by_some None g h = absurd h
by_some (Some x) g h = g x h

by_id : {id : Value} {ds : Documents} {P : Documents → Members → Documents → Type 0} {Q G : Type 0} → ((front : Documents) (d : Members) (back : Documents) → P front d back → G) → (Q → G) → AtId id ds P Q → G
by_id f g (inl (front, d, back, at, p)) = f front d back p
by_id f g (inr (none, q)) = g q

module _ (k : ErrorKind) (i : Option ℕ) where
  append_stays : (j : ℕ) (start ds more es : Documents) → Appends j start ds more (refused k i) es → es ≡ start
  append_stays j start ds [] es h = absurd (let e = h.0 in cc)
  append_stays j start ds (d ∷ more) es h = by_when (λ a. a.1) (λ b. append_stays (suc j) start (ds ++ d ∷ []) more es b) h

  back_stays : (ds front : Documents) (d : Members) (back es : Documents) → PutsBack ds front d back (refused k i) es → es ≡ ds
  back_stays ds front d back es (inl h) = absurd (let e = h.1 in cc)
  back_stays ds front d back es (inr h) = h.2.1

  pub refused_answers : (x : Call) (ds es : Documents) → Answers x ds (refused k i) es → es ≡ ds
  refused_answers (insert form (readable d)) ds es h = by_option (refusal_of d) (λ w. by_when (λ a. a.1) (λ a. absurd (let e = a.0 in cc)) w) (λ l a. a.1) h
  refused_answers (insert form (unreadable l)) ds es h = h.1
  refused_answers (replace form (readable d)) ds es h =
      by_option (refusal_of d) (λ w. by_some (look_up id_key d) (λ id a. by_id (λ front old back p. absurd (let e = p.0 in cc)) (λ q. q.1) a) w) (λ l a. a.1) h
  refused_answers (replace form (unreadable l)) ds es h = h.1
  refused_answers (set id key (Some v)) ds es h = by_when (λ a. by_id (λ front d back p. back_stays ds front (put key (norm_in_order v) d) back es p) (λ q. q.1) a) (λ a. a.1) h
  refused_answers (set id key None) ds es h = by_when (λ a. a.1) (λ a. a.1) h
  refused_answers (unset id key) ds es h = by_when (λ a. by_id (λ front d back p. absurd (let e = p.0 in cc)) (λ q. q.1) a) (λ a. a.1) h
  refused_answers (remove id) ds es h = by_id (λ front d back p. absurd (let e = p.0 in cc)) (λ q. q.1) h
  refused_answers (get_raw id) ds es h = by_id (λ front d back p. p.1) (λ q. q.1) h
  refused_answers (get_json m id) ds es h = by_id (λ front d back p. p.1) (λ q. q.1) h
  refused_answers (find f) ds es h = h.3
  refused_answers (count f) ds es h = h.3
  refused_answers (project f ks) ds es h = h.3
  refused_answers (import more stop) ds es h = by_option (first_refusal 0 more stop) (λ a. append_stays 0 ds ds more es a) (λ x a. a.1) h
  refused_answers export ds es h = h.1
  refused_answers dump ds es h = h.1

  pub refused_stays : (s : State) (c : Command) (t : State) → HasNoEmpty s → Step s c (refused k i) t → t ≡ s
  refused_stays s (on n x) t good (inl (name, (es, answers, is))) = is ∙ ap (store s n) (refused_answers x (list_of s n) es answers) ∙ stored_again s n good
  refused_stays s (on n x) t good (inr (bad, a)) = a.1
  refused_stays s collections t good h = h.1

  pub refused_turn : (o : Option Denial) (s : State) (c : Command) (t : State) → HasNoEmpty s → Turn o s c (refused k i) t → t ≡ s
  refused_turn None s c t good h = refused_stays s c t good h
  refused_turn (Some d) s c t good h = h.1

-- no list of a state becomes empty and stays
pub step_no_empty : (s : State) (c : Command) (r : Reply) (t : State) → HasNoEmpty s → Step s c r t → HasNoEmpty t
step_no_empty s (on n x) r t good (inl (name, (es, answers, is))) = subst HasNoEmpty (sym is) (λ m. never_empty s n m es good)
step_no_empty s (on n x) r t good (inr (bad, a)) = subst HasNoEmpty (sym a.1) good
step_no_empty s collections r t good h = subst HasNoEmpty (sym h.1) good

pub turn_no_empty : (o : Option Denial) (s : State) (c : Command) (r : Reply) (t : State) → HasNoEmpty s → Turn o s c r t → HasNoEmpty t
turn_no_empty None s c r t good turn = step_no_empty s c r t good turn
turn_no_empty (Some d) s c r t good turn = subst HasNoEmpty (sym turn.1) good

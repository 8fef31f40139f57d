-- Runs of commands that mean the same, from states that mean the same.
use Rattle.std.proofs.Common.{◌≡◌, inl, ℕ, suc, List, [], ◌∷◌, Bool, true, false, cond, ◌||◌, Option, Some, None, refl, ap, ◌∙◌, sym, subst}
use Rattle.std.specs.Prelude.{bytes_eq}
use Rattle.std.specs.List.{list_any}
use Rattle.std.specs.FinMap.{get}
use Rattle.bson_base.specs.Value.{null, scalar, Members, no_members, member, look_up}
use Rattle.store_model.specs.Reading.{Documents}
use Rattle.store_model.specs.Same.{SameDocuments, SameStates, SameCommand, SameCommands, SameReply, SameReplies}
use Rattle.store_model.specs.State.{State, list_of, store, Call, Command, on, collections, Reply, names, refused, AllAfter, AreAscending, holds, AreNames, Step, IsCall, IsCommand, AreCommands, IsStore}
use Rattle.store_model.specs.Run.{Denial, kind_of_denial, Denials, Turn, Run}
use Rattle.bson_meaning.proofs.OrderLemmas.{IsAscending, AllAbove, same_members}
use Rattle.store_model.proofs.DocumentLemmas.{when_same}
use Rattle.store_model.proofs.KeptLemmas.{reads, step_good}
use Rattle.store_model.proofs.StateLemmas.{list_of-store}
use Rattle.store_model.proofs.StepLemmas.{answers_same, either_way}

same_store : (s t : State) (n : List ℕ) (ds es : Documents) → SameStates s t → SameDocuments ds es → SameStates (store s n ds) (store t n es)
same_store s t n ds es h k m =
    subst (λ x. SameDocuments x (list_of (store t n es) m)) (sym (list_of-store s n m ds)) (subst (SameDocuments (cond (bytes_eq m n) ds (list_of s m))) (sym (list_of-store t n m es)) (by (bytes_eq m n)))
  where
    by : (b : Bool) → SameDocuments (cond b ds (list_of s m)) (cond b es (list_of t m))
    by true = k
    by false = h m

-- ---- names

as_members : List (List ℕ) → Members
as_members [] = no_members
as_members (n ∷ ns) = member n (scalar null) (as_members ns)

keys_of : Members → List (List ℕ)
keys_of no_members = []
keys_of (member k v ms) = k ∷ keys_of ms

keys_again : (ns : List (List ℕ)) → keys_of (as_members ns) ≡ ns
unfolding as_members keys_of
keys_again [] = refl
keys_again (n ∷ ns) = ap (λ l. n ∷ l) (keys_again ns)

above_members : (n : List ℕ) (ns : List (List ℕ)) → AllAfter n ns → AllAbove n (as_members ns)
unfolding as_members
above_members n [] h = tt
above_members n (m ∷ ns) h = (h.0, above_members n ns h.1)

ascending_members : (ns : List (List ℕ)) → AreAscending ns → IsAscending (as_members ns)
unfolding as_members
ascending_members [] h = tt
ascending_members (n ∷ ns) h = (above_members n ns h.0, ascending_members ns h.1)

under_name : (q : List ℕ) (ns : List (List ℕ)) → look_up q (as_members ns) ≡ cond (list_any (bytes_eq q) ns) (Some (scalar null)) None
unfolding as_members
under_name q [] = refl
under_name q (n ∷ ns) = by (under_name q ns) (bytes_eq q n)
  where
    by : look_up q (as_members ns) ≡ cond (list_any (bytes_eq q) ns) (Some (scalar null)) None → (b : Bool)
        → cond b (Some (scalar null)) (look_up q (as_members ns)) ≡ cond (b || list_any (bytes_eq q) ns) (Some (scalar null)) None
    by rest true = refl
    by rest false = rest

pub same_names : (ns ms : List (List ℕ)) → AreAscending ns → AreAscending ms → ((q : List ℕ) → list_any (bytes_eq q) ns ≡ list_any (bytes_eq q) ms) → ns ≡ ms
same_names ns ms a b f =
    let i : as_members ns ≡ as_members ms = same_members (as_members ns) (as_members ms) (ascending_members ns a) (ascending_members ms b)
    (λ q. under_name q ns ∙ ap (λ c. cond c (Some (scalar null)) None) (f q) ∙ sym (under_name q ms)) in
    sym (keys_again ns) ∙ ap keys_of i ∙ keys_again ms

holds_same : (ds es : Documents) → SameDocuments ds es → holds ds ≡ holds es
holds_same [] [] h = refl
holds_same (d ∷ ds) (e ∷ es) h = refl
holds_same [] (e ∷ es) h = absurd h
holds_same (d ∷ ds) [] h = absurd h

names_same : (s t : State) (ns ms : List (List ℕ)) → SameStates s t → AreNames s ns → AreNames t ms → ns ≡ ms
names_same s t ns ms h a b = same_names ns ms a.ascending b.ascending (λ q. a.each q ∙ holds_same (list_of s q) (list_of t q) (h q) ∙ sym (b.each q))

-- ---- steps

-- what two steps have in common
pub record AlikeSteps (c : Command) (r q : Reply) (s t : State) : Type 0 where
  pub replies : SameReply c r q
  pub states : SameStates s t

steps_are : {c : Command} {r q : Reply} {s t : State} (a b : Reply) (u v : State) → r ≡ a → s ≡ u → q ≡ b → t ≡ v → SameReply c a b → SameStates u v → AlikeSteps c r q s t
steps_are {c = c} {q = q} {t = t} a b u v i j k l h m = record {
  replies = subst (λ x. SameReply c x q) (sym i) (subst (SameReply c a) (sym k) h);
  states = subst (λ x. SameStates x t) (sym j) (subst (SameStates u) (sym l) m);
}

named_same : {r q : Reply} (n : List ℕ) (x y : Call) (s t s' t' : State) → SameCommand (on n x) (on n y) → IsCall x → IsCall y → SameStates s t → IsStore s → IsStore t
    → Step s (on n x) r s' → Step t (on n y) q t' → AlikeSteps (on n x) r q s' t'
named_same {r = r} {q = q} n x y s t s' t' i c d h a b p w =
    when_same _ _ _ _ _ _ either_way
    (λ _ _ u v.
    let z = answers_same n x y (list_of s n) (list_of t n) i.1 c d (h n) (reads (list_of s n) (a.kept n)) (reads (list_of t n) (b.kept n)) u.1 v.1 in
    steps_are r q (store s n u.0) (store t n v.0) refl u.2 refl v.2 z.replies (same_store s t n u.0 v.0 h z.lists))
    (λ _ _ u v. steps_are _ _ s t u.0 u.1 v.0 v.1 (inl refl, refl) h) p w

pub step_same : {r q : Reply} (c d : Command) (s t s' t' : State) → SameCommand c d → IsCommand c → IsCommand d → SameStates s t → IsStore s → IsStore t
    → Step s c r s' → Step t d q t' → AlikeSteps c r q s' t'
step_same {q = q} (on n x) (on m y) s t s' t' i k l h a b p w = named_same n x y s t s' t' (refl, i.1) k l h a b p (subst (λ z. Step t (on z y) q t') (sym i.0) w)
step_same collections collections s t s' t' i k l h a b p w = steps_are (names p.0.0) (names w.0.0) s t p.0.2 p.1 w.0.2 w.1 (names_same s t p.0.0 w.0.0 h p.0.1 w.0.1) h
step_same (on n x) collections s t s' t' i k l h a b p w = absurd i
step_same collections (on m y) s t s' t' i k l h a b p w = absurd i

-- ---- runs

turn_same : {r q : Reply} (o : Option Denial) (c d : Command) (s t s' t' : State) → SameCommand c d → IsCommand c → IsCommand d → SameStates s t → IsStore s → IsStore t
    → Turn o s c r s' → Turn o t d q t' → AlikeSteps c r q s' t'
turn_same None c d s t s' t' i k l h a b p w = step_same c d s t s' t' i k l h a b p w
turn_same (Some x) c d s t s' t' i k l h a b p w = steps_are (refused (kind_of_denial x) None) (refused (kind_of_denial x) None) s t p.0 p.1 w.0 w.1 (inl refl, refl) h

pub turn_good : (r : Reply) (o : Option Denial) (c : Command) (s t : State) → IsStore s → IsCommand c → Turn o s c r t → IsStore t
turn_good r None c s t h k p = step_good s c r t h k p
turn_good r (Some x) c s t h k p = subst IsStore (sym p.1) h

pub run_same : (w : Denials) (i : ℕ) (cs ds : List Command) (rs qs : List Reply) (s t s' t' : State) → SameCommands cs ds → AreCommands cs → AreCommands ds → SameStates s t → IsStore s → IsStore t
    → Run w i s cs rs s' → Run w i t ds qs t' → SameReplies cs rs qs × SameStates s' t'
run_same w i [] [] [] [] s t s' t' e k l h a b p q = (tt, subst (λ x. SameStates x t') (sym p) (subst (SameStates s) (sym q) h))
run_same w i (c ∷ cs) (d ∷ ds) (r ∷ rs) (q ∷ qs) s t s' t' e k l h a b (u, x, p) (v, y, z) =
    let one = turn_same (get w i) c d s t u v e.0 k.0 l.0 h a b x y in
    let rest = run_same w (suc i) cs ds rs qs u v s' t' e.1 k.1 l.1 one.states (turn_good r (get w i) c s u a k.0 x) (turn_good q (get w i) d t v b l.0 y) p z in
    ((one.replies, rest.0), rest.1)
run_same w i [] (d ∷ ds) rs qs s t s' t' e k l h a b p z = absurd e
run_same w i (c ∷ cs) [] rs qs s t s' t' e k l h a b p z = absurd e
run_same w i [] [] (r ∷ rs) qs s t s' t' e k l h a b p z = absurd p
run_same w i [] [] [] (q ∷ qs) s t s' t' e k l h a b p z = absurd z
run_same w i (c ∷ cs) (d ∷ ds) [] qs s t s' t' e k l h a b p z = absurd p
run_same w i (c ∷ cs) (d ∷ ds) (r ∷ rs) [] s t s' t' e k l h a b p z = absurd z

-- a run leaves a state as states are
pub run_good : (w : Denials) (i : ℕ) (cs : List Command) (rs : List Reply) (s t : State) → AreCommands cs → IsStore s → Run w i s cs rs t → IsStore t
run_good w i [] [] s t k h p = subst IsStore (sym p) h
run_good w i (c ∷ cs) (r ∷ rs) s t k h (u, x, p) = run_good w (suc i) cs rs u t k.1 (turn_good r (get w i) c s u h k.0 x) p
run_good w i [] (r ∷ rs) s t k h p = absurd p
run_good w i (c ∷ cs) [] s t k h p = absurd p

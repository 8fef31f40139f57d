-- What a crash may leave after commands, command by command.
use Rattle.std.proofs.Common.{◌≡◌, inl, inr, ℕ, suc, ◌+◌, ◌<◌, List, [], ◌∷◌, ◌++◌, length, Option, Some, None, cond, refl, ap, ◌∙◌, sym, subst, subst₂, arith, append-nil, append_assoc}
use Rattle.std.specs.FinMap.{get, get-insert, get-remove, insert as with_entry, remove as without_key}
use Rattle.std.proofs.lemmas.Cmp.{nat_cmp_total}
use Rattle.store_model.specs.State.{State, Command, Reply, refused, Step}
use Rattle.store_model.specs.Run.{Denial, Denials, Turn, Run}
use Rattle.store_model.specs.Table.{IsRefusal}
use Rattle.store_model.specs.Left.{HoldsAfter, LeftBy, LeftAlong, IsOneOf, HoldsEndOrOneMore}
use Rattle.store_model.specs.declared.error.ErrorKind.{ErrorKind}
use Rattle.store_model.specs.declared.error.ErrorKind.TheVariants.{Memory, Database}
use Rattle.store_model.proofs.TableRunLemmas.{alike, unlike}
use Rattle.store_model.proofs.FunctionLemmas.{one_step}
use Rattle.store_model.proofs.RefusalLemmas.{refused_turn, turn_no_empty}
use Rattle.store_model.proofs.StateLemmas.{HasNoEmpty}

module _ {X : Type 0} (Holds : X → State → Type 0) where
  -- what could be left before a refused command can be left after it
  pub left_before : (Before : X → Type 0) (s : State) (c : Command) (k : ErrorKind) (i : Option ℕ) (x : X) → Before x → LeftBy Holds Before s c (refused k i) x
  left_before Before s c Memory i x h = inl h
  left_before Before s c Database i x h = inl h
  left_before Before s c _ i x h = h

  -- the state after an accepted command can be left after it
  pub left_after : (Before : X → Type 0) (s : State) (c : Command) (r : Reply) (x : X) → (IsRefusal r → ⊥) → HoldsAfter Holds s c r x → LeftBy Holds Before s c r x
  left_after Before s c (refused k i) x accepted h = absurd (accepted tt)
  left_after Before s c _ x accepted h = h

  -- if more could be left before a command, more can be left after it
  pub left_more : (Before More : X → Type 0) → ((x : X) → Before x → More x) → (s : State) (c : Command) (r : Reply) (x : X) → LeftBy Holds Before s c r x → LeftBy Holds More s c r x
  left_more Before More f s c (refused Memory i) x (inl h) = inl (f x h)
  left_more Before More f s c (refused Memory i) x (inr h) = inr h
  left_more Before More f s c (refused Database i) x (inl h) = inl (f x h)
  left_more Before More f s c (refused Database i) x (inr h) = inr h
  left_more Before More f s c (refused _ i) x h = f x h
  left_more Before More f s c _ x h = h

  -- a run that is continued by one command, and what is left then
  abbrev pub GoesOn : (X → Type 0) → (w v : Denials) (i : ℕ) (s : State) (cs : List Command) (rs : List Reply) (t u : State) (c : Command) (r : Reply) → Run w i s cs rs t → Type 0
  GoesOn Before w v i s cs rs t u c r run =
      (more : Run v i s (cs ++ c ∷ []) (rs ++ r ∷ []) u) × ((x : X) → LeftBy Holds (LeftAlong Holds Before w i s cs rs t run) t c r x → LeftAlong Holds Before v i s (cs ++ c ∷ []) (rs ++ r ∷ []) u more x)

  goes_last : (Before : X → Type 0) (w v : Denials) (i n : ℕ) (s : State) (cs : List Command) (rs : List Reply) (t u : State) (c : Command) (r : Reply) (run : Run w i s cs rs t) → i + length cs ≡ n
      → ((j : ℕ) → j < n → get w j ≡ get v j) → Turn (get v n) t c r u → GoesOn Before w v i s cs rs t u c r run
  goes_last Before w v i n s [] [] t u c r run is same turn =
      let e : n ≡ i = omega (arith, is) in
      ((u, subst (λ z. Turn (get v i) z c r u) run (subst (λ (j : ℕ). Turn (get v j) t c r u) e turn), refl), λ x h. subst (λ z. LeftBy Holds Before z c r x) run h)
  goes_last Before w v i n s [] (q ∷ rs) t u c r run is same turn = absurd run
  goes_last Before w v i n s (d ∷ cs) [] t u c r run is same turn = absurd run
  goes_last Before w v i n s (d ∷ cs) (q ∷ rs) t u c r (m, first, run) is same turn =
      let rest = goes_last (LeftBy Holds Before s d q) w v (suc i) n m cs rs t u c r run (omega (arith, is)) same turn in
      ((m, subst (λ z. Turn z s d q m) (same i (omega (arith, is))) first, rest.0), rest.1)

  pub left_goes_on : (Before : X → Type 0) (w : Denials) (s : State) (cs : List Command) (rs : List Reply) (t u : State) (c : Command) (r : Reply) (run : Run w 0 s cs rs t) (o : Option Denial) → Turn o t c r u
      → (v : Denials) × GoesOn Before w v 0 s cs rs t u c r run
  left_goes_on Before w s cs rs t u c r run None turn =
      let n = length cs in
      let v = without_key w n in
      let here : get v n ≡ None = get-remove nat_cmp_total w n n ∙ ap (λ z. cond z None (get w n)) (alike n) in
      let there : (j : ℕ) → j < n → get w j ≡ get v j = λ j k. sym (get-remove nat_cmp_total w n j ∙ ap (λ z. cond z None (get w j)) (unlike j n (λ e. omega (arith, k, e)))) in
      (v, goes_last Before w v 0 n s cs rs t u c r run (omega arith) there (subst (λ z. Turn z t c r u) (sym here) turn))
  left_goes_on Before w s cs rs t u c r run (Some y) turn =
      let n = length cs in
      let v = with_entry w n y in
      let here : get v n ≡ Some y = get-insert nat_cmp_total w n y n ∙ ap (λ z. cond z (Some y) (get w n)) (alike n) in
      let there : (j : ℕ) → j < n → get w j ≡ get v j = λ j k. sym (get-insert nat_cmp_total w n y j ∙ ap (λ z. cond z (Some y) (get w j)) (unlike j n (λ e. omega (arith, k, e)))) in
      (v, goes_last Before w v 0 n s cs rs t u c r run (omega arith) there (subst (λ z. Turn z t c r u) (sym here) turn))

-- ---- what is left in the end

more_of : (cs : List Command) (d c : Command) → IsOneOf cs c → IsOneOf (cs ++ d ∷ []) c
more_of [] d c h = absurd h
more_of (e ∷ cs) d c (inl h) = inl h
more_of (e ∷ cs) d c (inr h) = inr (more_of cs d c h)

last_of : (cs : List Command) (d : Command) → IsOneOf (cs ++ d ∷ []) d
last_of [] d = inl refl
last_of (e ∷ cs) d = inr (last_of cs d)

module _ {X : Type 0} (Holds : X → State → Type 0) where
  abbrev Few : List Command → State → (X → Type 0) → Type 0
  Few cs t P = (x : X) → P x → HoldsEndOrOneMore Holds cs t x

  more_few : (cs : List Command) (d : Command) (s t : State) (x : X) → t ≡ s → HoldsEndOrOneMore Holds cs s x → HoldsEndOrOneMore Holds (cs ++ d ∷ []) t x
  more_few cs d s t x e (y, holds, inl h) = (y, holds, inl (h ∙ sym e))
  more_few cs d s t x e (y, holds, inr (c, of, r, step)) = (y, holds, inr (c, more_of cs d c of, r, subst (λ z. Step z c r y) (sym e) step))

  one_few : (cs : List Command) (d : Command) (s t : State) (x : X) → t ≡ s → (q : Reply) × HoldsAfter Holds s d q x → HoldsEndOrOneMore Holds (cs ++ d ∷ []) t x
  one_few cs d s t x e (q, (u, step, holds)) = (u, holds, inr (d, last_of cs d, q, subst (λ y. Step y d q u) (sym e) step))

  after_few : (o : Option Denial) (cs : List Command) (d : Command) (r : Reply) (s t : State) (x : X) → (IsRefusal r → ⊥) → Turn o s d r t → HoldsAfter Holds s d r x → HoldsEndOrOneMore Holds (cs ++ d ∷ []) t x
  after_few None cs d r s t x accepted turn (u, step, holds) = (u, holds, inl (one_step s d r r u t step turn).1)
  after_few (Some y) cs d r s t x accepted turn h = absurd (accepted (subst IsRefusal (sym turn.0) tt))

  next_few : (done : List Command) (Before : X → Type 0) (o : Option Denial) (s : State) (d : Command) (r : Reply) (t : State) → HasNoEmpty s → Few done s Before → Turn o s d r t → Few (done ++ d ∷ []) t (LeftBy Holds Before s d r)
  next_few done Before o s d (refused Memory i) t good few turn x (inl h) = more_few done d s t x (refused_turn Memory i o s d t good turn) (few x h)
  next_few done Before o s d (refused Memory i) t good few turn x (inr h) = one_few done d s t x (refused_turn Memory i o s d t good turn) h
  next_few done Before o s d (refused Database i) t good few turn x (inl h) = more_few done d s t x (refused_turn Database i o s d t good turn) (few x h)
  next_few done Before o s d (refused Database i) t good few turn x (inr h) = one_few done d s t x (refused_turn Database i o s d t good turn) h
  next_few done Before o s d (refused k i) t good few turn x h = more_few done d s t x (refused_turn k i o s d t good turn) (few x h)
  next_few done Before o s d answer t good few turn x h = after_few o done d answer s t x (λ e. e) turn h

  few_along : (done : List Command) (Before : X → Type 0) (w : Denials) (i : ℕ) (s : State) (cs : List Command) (rs : List Reply) (t : State) (run : Run w i s cs rs t) → HasNoEmpty s → Few done s Before
      → Few (done ++ cs) t (LeftAlong Holds Before w i s cs rs t run)
  few_along done Before w i s [] [] t run good few x h = subst₂ (λ (ds : List Command) y. HoldsEndOrOneMore Holds ds y x) (sym (append-nil done)) (sym run) (few x h)
  few_along done Before w i s [] (r ∷ rs) t run good few x h = absurd run
  few_along done Before w i s (c ∷ cs) [] t run good few x h = absurd run
  few_along done Before w i s (c ∷ cs) (r ∷ rs) t (u, turn, run) good few x h =
      subst (λ (ds : List Command). HoldsEndOrOneMore Holds ds t x) (append_assoc done (c ∷ []) cs)
      (few_along (done ++ c ∷ []) (LeftBy Holds Before s c r) w (suc i) u cs rs t run (turn_no_empty (get w i) s c r u good turn) (next_few done Before (get w i) s c r u good few turn) x h)

  -- after a run before which only one state could be left
  pub left_in_the_end : (Before : X → Type 0) (w : Denials) (s t : State) (cs : List Command) (rs : List Reply) (run : Run w 0 s cs rs t) → HasNoEmpty s → ((x : X) → Before x → Holds x s) → (x : X) → LeftAlong Holds Before w 0 s cs rs t run x
      → HoldsEndOrOneMore Holds cs t x
  left_in_the_end Before w s t cs rs run good alone x h = few_along [] Before w 0 s cs rs t run good (λ y b. (s, alone y b, inl refl)) x h

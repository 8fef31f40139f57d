-- Every step leaves a state as states are: nonempty lists of kept documents with ids of their own, under good names.
use Rattle.std.proofs.Common.{◌≡◌, ◌≢◌, ◌↔◌, ◌⊎◌, inl, inr, ℕ, suc, ◌<◌, ◌≤◌, List, [], ◌∷◌, ◌++◌, Bool, true, false, cond, ltb, Option, Some, None, refl, ap, ◌∙◌, sym, subst, arith}
use Rattle.std.specs.Prelude.{bytes_eq, is_some, IsSomeAnd, MatchOption}
use Rattle.std.proofs.lemmas.Bool.{ltb-false}
use Rattle.bson_base.specs.Value.{Value, document, Members, no_members, member, look_up, has_key, without, put, levels, HasDistinctKeys}
use Rattle.bson_bytes.specs.Encode.{size, members_size}
use Rattle.bson_frame.specs.Frame.{size_limit}
use Rattle.bson_meaning.specs.Gate.{level_limit}
use Rattle.bson_meaning.specs.Meaning.{norm_in_order, Same, SameOption}
use Rattle.store_model.specs.Reading.{Documents, readable, unreadable, IsRead, AreRead}
use Rattle.store_model.specs.Same.{SameDocuments}
use Rattle.store_model.specs.State.{id_key, State, list_of, store, HasId, SomeHasId, IsTaken, AtId, Call, insert, replace, set, unset, remove, get_raw, get_json, find, count, project, import, export, dump, Command, on, collections, Reply, When, refusal_of, or_later, first_refusal, Appends, Answers, IsName, Step, IsCall, IsCommand, IsKept, AreKept, HaveOwnIds, IsStore}
use Rattle.store_model.specs.declared.error.ErrorKind.{ErrorKind}
use Rattle.store_model.specs.declared.error.ErrorKind.TheVariants.{NoId, TooLong}
use Rattle.bson_meaning.proofs.NowLemmas.{in_order_same, same_in_order}
use Rattle.store_model.proofs.DocumentLemmas.{some_has_id_same}
use Rattle.store_model.proofs.LevelLemmas.{set_read, read_without}
use Rattle.store_model.proofs.SelectLemmas.{Distinct?, look_up_distinct, carried, exchanged}
use Rattle.store_model.proofs.StateLemmas.{list_of-store, never_empty}
use Rattle.bson_meaning.proofs.PlainLemmas.{some_found}
use Rattle.bson_base.proofs.MemberLemmas.{equal_keys, look_up-put, look_up-without}
use Rattle.store_model.proofs.TestLemmas.{in_turn}

-- ---- ids

pub reads : (ds : Documents) → AreKept ds → AreRead ds
reads [] h = tt
reads (d ∷ ds) h = (h.0.read, reads ds h.1)

same_own : (ds : Documents) → AreRead ds → SameDocuments ds ds
same_own [] h = tt
same_own (d ∷ ds) h = (same_in_order (document d) (document d) h.0.sound.distinct refl, same_own ds h.1)

id_distinct : (d : Members) → IsRead d → Distinct? (look_up id_key d)
id_distinct d h = look_up_distinct d id_key h.sound.distinct

some_split : (id : Value) (a b : Documents) → SomeHasId id (a ++ b) → SomeHasId id a ⊎ SomeHasId id b
some_split id [] b h = inr h
some_split id (d ∷ a) b (inl h) = inl (inl h)
some_split id (d ∷ a) b (inr h) = elim (some_split id a b h) [ inl x ↦ inl (inr x) | inr x ↦ inr x ]

some_more : (id : Value) (front : Documents) (d : Members) (back : Documents) → SomeHasId id (front ++ back) → SomeHasId id (front ++ d ∷ back)
some_more id [] d back h = inr h
some_more id (c ∷ front) d back (inl h) = inl h
some_more id (c ∷ front) d back (inr h) = inr (some_more id front d back h)

pub taken_if : (d : Members) (a b : Documents) → ((id : Value) → SomeHasId id a → SomeHasId id b) → IsTaken d a → IsTaken d b
taken_if d a b f = on_some (look_up id_key d)
  where
    on_some : (o : Option Value) → IsSomeAnd o (λ id. SomeHasId id a) → IsSomeAnd o (λ id. SomeHasId id b)
    on_some None h = h
    on_some (Some id) h = f id h

pub taken_split : (d : Members) (a b : Documents) → IsTaken d (a ++ b) → IsTaken d a ⊎ IsTaken d b
taken_split d a b = on_some (look_up id_key d)
  where
    on_some : (o : Option Value) → IsSomeAnd o (λ id. SomeHasId id (a ++ b)) → IsSomeAnd o (λ id. SomeHasId id a) ⊎ IsSomeAnd o (λ id. SomeHasId id b)
    on_some None h = absurd h
    on_some (Some id) h = some_split id a b h

-- the same id, seen from the other document
pub taken_back : (d e : Members) → IsRead d → IsTaken d (e ∷ []) → IsTaken e (d ∷ [])
taken_back d e r = on_some (look_up id_key d) (look_up id_key e) (id_distinct d r)
  where
    on_some : (o p : Option Value) → Distinct? o → IsSomeAnd o (λ id. IsSomeAnd p (λ v. Same v id) ⊎ ⊥) → IsSomeAnd p (λ id. IsSomeAnd o (λ v. Same v id) ⊎ ⊥)
    on_some None p a h = absurd h
    on_some (Some x) None a (inl h) = absurd h
    on_some (Some x) None a (inr h) = absurd h
    on_some (Some x) (Some y) a (inl h) = inl (same_in_order x y a (sym (in_order_same y x h)))
    on_some (Some x) (Some y) a (inr h) = absurd h

pub none_taken : (d : Members) → IsTaken d [] → ⊥
none_taken d = on_some (look_up id_key d)
  where
    on_some : (o : Option Value) → IsSomeAnd o (λ id. ⊥) → ⊥
    on_some None h = h
    on_some (Some x) h = h

own_push : (ds : Documents) (d : Members) → AreRead ds → HaveOwnIds ds → (IsTaken d ds → ⊥) → HaveOwnIds (ds ++ d ∷ [])
own_push [] d r h n = (λ t. none_taken d t, tt)
own_push (e ∷ ds) d r h n = (
  λ t. elim (taken_split e ds (d ∷ []) t) [
    | inl x ↦ h.0 x
    | inr x ↦ n (taken_if d (e ∷ []) (e ∷ ds) (λ id. elim [ inl y ↦ inl y | inr y ↦ absurd y ]) (taken_back e d r.0 x))
  ],
  own_push ds d r.1 h.1 (λ t. n (taken_if d ds (e ∷ ds) (λ id y. inr y) t)),
)

own_less : (front : Documents) (d : Members) (back : Documents) → HaveOwnIds (front ++ d ∷ back) → HaveOwnIds (front ++ back)
own_less [] d back h = h.1
own_less (c ∷ front) d back h = (λ t. h.0 (taken_if c (front ++ back) (front ++ d ∷ back) (λ id. some_more id front d back) t), own_less front d back h.1)

-- ---- a document in another's place

module _ (d e : Members) (s : SameOption (look_up id_key d) (look_up id_key e)) (a : IsRead d) (b : IsRead e) where
  has_either : (id : Value) → HasDistinctKeys id → HasId id d ↔ HasId id e
  has_either id i = carried (look_up id_key d) (look_up id_key e) _ _ s (id_distinct d a) (id_distinct e b) (λ x y z dx dy. exchanged x y id id z (same_in_order id id i refl) dx dy)

  some_either : (id : Value) (front back : Documents) → HasDistinctKeys id → SomeHasId id (front ++ e ∷ back) → SomeHasId id (front ++ d ∷ back)
  some_either id [] back i (inl h) = inl ((has_either id i).1 h)
  some_either id [] back i (inr h) = inr h
  some_either id (c ∷ front) back i (inl h) = inl h
  some_either id (c ∷ front) back i (inr h) = inr (some_either id front back i h)

  taken_either : (c : Members) (front back : Documents) → IsRead c → IsTaken c (front ++ e ∷ back) → IsTaken c (front ++ d ∷ back)
  taken_either c front back r = on_some (look_up id_key c) (id_distinct c r)
    where
      on_some : (o : Option Value) → Distinct? o → IsSomeAnd o (λ id. SomeHasId id (front ++ e ∷ back)) → IsSomeAnd o (λ id. SomeHasId id (front ++ d ∷ back))
      on_some None i h = h
      on_some (Some id) i h = some_either id front back i h

  own_changed : (front back : Documents) → AreRead front → AreRead back → HaveOwnIds (front ++ d ∷ back) → HaveOwnIds (front ++ e ∷ back)
  own_changed [] back f r h = (
    λ t. h.0 ((carried (look_up id_key d) (look_up id_key e) (λ id. SomeHasId id back) (λ id. SomeHasId id back) s (id_distinct d a) (id_distinct e b)
        (λ x y z dx dy. some_has_id_same x y back back z (same_own back r) r r)).1 t),
    h.1,
  )
  own_changed (c ∷ front) back f r h = (λ t. h.0 (taken_either c front back f.0 t), own_changed front back f.1 r h.1)

-- ---- kept documents

kept_join : (a b : Documents) → AreKept a → AreKept b → AreKept (a ++ b)
kept_join [] b h k = k
kept_join (x ∷ a) b h k = (h.0, kept_join a b h.1 k)

kept_parts : (a b : Documents) → AreKept (a ++ b) → AreKept a × AreKept b
kept_parts [] b h = (tt, h)
kept_parts (x ∷ a) b h = let r = kept_parts a b h.1 in ((h.0, r.0), r.1)

pub record AreGood (ds : Documents) : Type 0 where
  pub kept : AreKept ds
  pub own : HaveOwnIds ds

-- a document that isn't refused is kept
pub accepted : (d : Members) → IsRead d → refusal_of d ≡ None → IsKept d
accepted d r e = by (has_key id_key d) refl (ltb size_limit (size d)) refl e
  where
    by : (b : Bool) → has_key id_key d ≡ b → (c : Bool) → ltb size_limit (size d) ≡ c → cond b (cond c (Some TooLong) None) (Some NoId) ≡ None → IsKept d
    by true h false s n = record { read = r; identified = h; small = ltb-false size_limit (size d) s }
    by true h true s n = cc
    by false h c s n = cc

free : (k : List ℕ) → k ≢ id_key → bytes_eq id_key k ≡ false
free k n = by (bytes_eq id_key k) refl
  where
    by : (b : Bool) → bytes_eq id_key k ≡ b → b ≡ false
    by true e = absurd (n (sym (equal_keys id_key k e)))
    by false e = refl

own_option : (o : Option Value) → Distinct? o → SameOption o o
own_option None h = tt
own_option (Some v) h = same_in_order v v h refl

pub without_size : (k : List ℕ) (d : Members) → members_size (without k d) ≤ members_size d
without_size k no_members = omega arith
without_size k (member l v ms) = by (without_size k ms) (bytes_eq k l)
  where
    by : members_size (without k ms) ≤ members_size ms → (b : Bool) → members_size (cond b (without k ms) (member l v (without k ms))) ≤ members_size (member l v ms)
    by r true = omega arith
    by r false = omega arith

-- ---- lists stay good

stays : {es : Documents} (ds : Documents) → AreGood ds → es ≡ ds → AreGood es
stays ds g e = subst AreGood (sym e) g

pushed : (ds : Documents) (d : Members) → AreGood ds → IsKept d → (IsTaken d ds → ⊥) → AreGood (ds ++ d ∷ [])
pushed ds d g k n = record { kept = kept_join ds (d ∷ []) g.kept (k, tt); own = own_push ds d (reads ds g.kept) g.own n }

changed : (front : Documents) (d : Members) (back : Documents) (e : Members) → AreGood (front ++ d ∷ back) → IsKept e → SameOption (look_up id_key d) (look_up id_key e) → AreGood (front ++ e ∷ back)
changed front d back e g k s =
    let p = kept_parts front (d ∷ back) g.kept in
    record {
      kept = kept_join front (e ∷ back) p.0 (k, p.1.1);
      own = own_changed d e s p.1.0.read k.read front back (reads front p.0) (reads back p.1.1) g.own;
    }

when_not : {X : Type 0} (P A B : Type 0) → (P → A → X) → ((P → ⊥) → B → X) → When P A B → X
when_not P A B f g (inl (p, a)) = f p a
when_not P A B f g (inr (n, b)) = g n b

match_is : {X K : Type 0} (o : Option K) (A : Type 0) (P : K → Type 0) → (o ≡ None → A → X) → ((k : K) → P k → X) → MatchOption o A P → X
match_is None A P f g a = f refl a
match_is (Some k) A P f g a = g k a

at_good : {X : Type 0} (id : Value) (ds : Documents) (P : Documents → Members → Documents → Type 0) (Q : Type 0) → AreGood ds
    → ((front : Documents) (d : Members) (back : Documents) → AreGood (front ++ d ∷ back) → HasId id d → P front d back → X) → (Q → X) → AtId id ds P Q → X
at_good id ds P Q a f g (inl (front, d, back, s, p)) = f front d back (subst AreGood s.split a) s.has p
at_good id ds P Q a f g (inr (n, q)) = g q

append_good : (i : ℕ) (start ds more : Documents) (r : Reply) (es : Documents) → AreGood start → AreGood ds → AreKept more → Appends i start ds more r es → AreGood es
append_good i start ds [] r es a b c h = stays ds b h.1
append_good i start ds (d ∷ more) r es a b c h =
    when_not _ _ _ (λ _ t. stays start a t.1) (λ n t. append_good (suc i) start (ds ++ d ∷ []) more r es a (pushed ds d b c.0 n) c.1 t) h

all_accepted : (i : ℕ) (ds : Documents) (stop : Option ErrorKind) → AreRead ds → first_refusal i ds stop ≡ None → AreKept ds
all_accepted i [] stop r e = tt
all_accepted i (d ∷ ds) stop r e = by (refusal_of d) refl e (all_accepted (suc i) ds stop r.1)
  where
    by : (o : Option ErrorKind) → refusal_of d ≡ o → ◌≡◌ {A = Option (ErrorKind × ℕ)} (or_later o i (first_refusal (suc i) ds stop)) None
        → (first_refusal (suc i) ds stop ≡ None → AreKept ds) → AreKept (d ∷ ds)
    by None h n f = (accepted d r.0 h, f n)
    by (Some k) h n f = cc

id_here : (id : Value) (d e : Members) → look_up id_key e ≡ Some id → HasId id d → SameOption (look_up id_key d) (look_up id_key e)
id_here id d e i h = subst (SameOption (look_up id_key d)) (sym i) (on_some (look_up id_key d) h)
  where
    on_some : (o : Option Value) → IsSomeAnd o (λ v. Same v id) → SameOption o (Some id)
    on_some None x = absurd x
    on_some (Some v) x = x

pub answers_good : (r : Reply) (x : Call) (ds es : Documents) → IsCall x → AreGood ds → Answers x ds r es → AreGood es
answers_good r (insert form (readable d)) ds es c g h =
    match_is (refusal_of d) _ _
    (λ e t. when_not _ _ _ (λ _ u. stays ds g u.1) (λ n u. subst AreGood (sym u.1) (pushed ds d g (accepted d c e) n)) t)
    (λ k t. stays ds g t.1) h
answers_good r (insert form (unreadable k)) ds es c g h = stays ds g h.1
answers_good r (replace form (readable e)) ds es c g h =
    match_is (refusal_of e) _ _
    (λ q t. some_found (look_up id_key e) _ (λ id is u. at_good id ds _ _ g
    (λ front d back good has w. subst AreGood (sym w.1) (changed front d back e good (accepted e c q) (id_here id d e is has))) (λ w. stays ds g w.1) u) t)
    (λ k t. stays ds g t.1) h
answers_good r (replace form (unreadable k)) ds es c g h = stays ds g h.1
answers_good r (set id k (Some v)) ds es c g h =
    when_not _ _ _
    (λ is_free t. at_good id ds _ _ g
    (λ front d back good has w.
    let d' = put k (norm_in_order v) d in
    let old = (kept_parts front (d ∷ back) good.kept).1.0 in
    let id_is : look_up id_key d' ≡ look_up id_key d = look_up-put id_key k (norm_in_order v) d ∙ ap (λ b. cond b (Some (norm_in_order v)) (look_up id_key d)) (free k is_free.0) in
    when_not _ _ _ (λ _ u. stays ds g u.1)
    (λ low u. when_not _ _ _
    (λ plain x. when_not _ _ _ (λ _ y. stays ds g y.1)
    (λ small y. subst AreGood (sym y.1) (changed front d back d' good
    (record { read = set_read k v d is_free.1 c.1 c.2 old.read plain (at_most (levels (document d')) level_limit low); identified = ap is_some id_is ∙ old.identified; small = at_most (size d') size_limit small })
    (subst (SameOption (look_up id_key d)) (sym id_is) (own_option (look_up id_key d) (id_distinct d old.read))))) x)
    (λ _ x. stays ds g x.1) u) (in_turn ds front d' back r es w))
    (λ w. stays ds g w.1) t)
    (λ _ t. stays ds g t.1) h
  where
    at_most : (m n : ℕ) → (n < m → ⊥) → m ≤ n
    at_most m n h = omega arith
answers_good r (set id k None) ds es c g h = when_not _ _ _ (λ _ t. stays ds g t.1) (λ _ t. stays ds g t.1) h
answers_good r (unset id k) ds es c g h =
    when_not _ _ _
    (λ is_free t. at_good id ds _ _ g
    (λ front d back good has w.
    let old = (kept_parts front (d ∷ back) good.kept).1.0 in
    let id_is : look_up id_key (without k d) ≡ look_up id_key d = look_up-without id_key k d ∙ ap (λ b. cond b None (look_up id_key d)) (free k is_free.0) in
    subst AreGood (sym w.1) (changed front d back (without k d) good
    (record { read = read_without k d old.read; identified = ap is_some id_is ∙ old.identified; small = omega (arith, without_size k d, old.small) })
    (subst (SameOption (look_up id_key d)) (sym id_is) (own_option (look_up id_key d) (id_distinct d old.read)))))
    (λ w. stays ds g w.1) t)
    (λ _ t. stays ds g t.1) h
answers_good r (remove id) ds es c g h =
    at_good id ds _ _ g (λ front d back good has w. let p = kept_parts front (d ∷ back) good.kept in
    subst AreGood (sym w.1) (record { kept = kept_join front back p.0 p.1.1; own = own_less front d back good.own })) (λ w. stays ds g w.1) h
answers_good r (get_raw id) ds es c g h = at_good id ds _ _ g (λ front d back good has w. stays ds g w.1) (λ w. stays ds g w.1) h
answers_good r (get_json m id) ds es c g h = at_good id ds _ _ g (λ front d back good has w. stays ds g w.1) (λ w. stays ds g w.1) h
answers_good r (find f) ds es c g h = stays ds g h.3
answers_good r (count f) ds es c g h = stays ds g h.3
answers_good r (project f ks) ds es c g h = stays ds g h.3
answers_good r (import more stop) ds es c g h =
    match_is (first_refusal 0 more stop) _ _ (λ e t. append_good 0 ds ds more r es g g (all_accepted 0 more stop c.0 e) t) (λ k t. stays ds g t.1) h
answers_good r dump ds es c g h = stays ds g h.1
answers_good r export ds es c g h = stays ds g h.1

-- ---- states

good_store : (s : State) (n : List ℕ) (ds : Documents) → IsStore s → IsName n → AreGood ds → IsStore (store s n ds)
good_store s n ds h name g = record {
  kept = λ m. subst AreKept (sym (list_of-store s n m ds)) (choose AreKept m g.kept (h.kept m) (bytes_eq m n));
  own_ids = λ m. subst HaveOwnIds (sym (list_of-store s n m ds)) (choose HaveOwnIds m g.own (h.own_ids m) (bytes_eq m n));
  named = λ m x. name_of m (bytes_eq m n) refl (λ e. x (list_of-store s n m ds ∙ e));
  nonempty = λ m. never_empty s n m ds h.nonempty;
}
  where
    choose : (P : Documents → Type 0) (m : List ℕ) → P ds → P (list_of s m) → (b : Bool) → P (cond b ds (list_of s m))
    choose P m x y true = x
    choose P m x y false = y

    name_of : (m : List ℕ) (b : Bool) → bytes_eq m n ≡ b → (cond b ds (list_of s m) ≡ [] → ⊥) → IsName m
    name_of m true e x = subst IsName (sym (equal_keys m n e)) name
    name_of m false e x = h.named m x

pub step_good : (s : State) (c : Command) (r : Reply) (t : State) → IsStore s → IsCommand c → Step s c r t → IsStore t
step_good s (on n x) r t h k (inl (name, (es, a, e))) = subst IsStore (sym e) (good_store s n es h name (answers_good r x (list_of s n) es k (record { kept = h.kept n; own = h.own_ids n }) a))
step_good s (on n x) r t h k (inr (bad, a)) = subst IsStore (sym a.1) h
step_good s collections r t h k a = subst IsStore (sym a.1) h

-- What is under a key once members are put in or taken out, how deep members are, that keys are distinct, and what
-- holds of each part.
use Rattle.std.proofs.Common.{◌≡◌, ℕ, max, ◌≤◌, List, Bool, true, false, cond, Option, Some, None, refl, ap, ◌∙◌, sym, subst, arith}
use Rattle.std.specs.Prelude.{bytes_eq, is_some, IsSomeAnd}
use Rattle.std.proofs.lemmas.Slice.Eq.{bytes_eq-Decides}
use Rattle.std.proofs.lemmas.Cmp.{nat_list_eq_equiv}
use Rattle.bson_base.specs.Value.{Scalar, Value, Members, no_members, member, look_up, has_key, put, without, levels, members_levels, HasDistinctKeys, MembersHaveDistinctKeys, EachPart, EachMember}

-- ---- keys

pub equal_keys : (k l : List ℕ) → bytes_eq k l ≡ true → k ≡ l
equal_keys k l = (bytes_eq-Decides k l).0

pub same_key : (k : List ℕ) → bytes_eq k k ≡ true
same_key k = (bytes_eq-Decides k k).1 refl

pub key_turned : (k l : List ℕ) → bytes_eq k l ≡ bytes_eq l k
key_turned = nat_list_eq_equiv.symm

clash : (q k l : List ℕ) → bytes_eq k l ≡ false → bytes_eq q l ≡ true → bytes_eq q k ≡ true → ⊥
clash q k l n a b =
    let i : k ≡ l = sym (equal_keys q k b) ∙ equal_keys q l a in
    let j : bytes_eq k l ≡ true = ap (bytes_eq k) (sym i) ∙ same_key k in
    cc

-- ---- what is under a key

pub headed : (k : List ℕ) (v : Value) (ms : Members) → look_up k (member k v ms) ≡ Some v
headed k v ms = ap (λ b. cond b (Some v) (look_up k ms)) (same_key k)

pub later : (q k : List ℕ) (v u : Value) (ms : Members) → look_up k ms ≡ None → look_up q ms ≡ Some u → look_up q (member k v ms) ≡ Some u
later q k v u ms absent e = by (bytes_eq q k) refl
  where
    by : (b : Bool) → bytes_eq q k ≡ b → cond b (Some v) (look_up q ms) ≡ Some u
    by true h = let n : None ≡ Some u = sym absent ∙ ap (λ m. look_up m ms) (sym (equal_keys q k h)) ∙ e in cc
    by false h = e

-- a key that isn't there is neither the first one nor a later one
pub not_first : (k q : List ℕ) (v : Value) (ms : Members) → look_up k (member q v ms) ≡ None → (bytes_eq k q ≡ false) × (look_up k ms ≡ None)
not_first k q v ms h = by (bytes_eq k q) refl h
  where
    by : (b : Bool) → bytes_eq k q ≡ b → cond b (Some v) (look_up k ms) ≡ None → (bytes_eq k q ≡ false) × (look_up k ms ≡ None)
    by true e f = absurd cc
    by false e f = (e, f)

pub lacks : (k : List ℕ) (ms : Members) → has_key k ms ≡ false → look_up k ms ≡ None
lacks k ms h = by (look_up k ms) h
  where
    by : (o : Option Value) → is_some o ≡ false → o ≡ None
    by None e = refl
    by (Some v) e = cc

-- what is related to a value that was found, at the first member or at a later one
pub found_under : (R : Value → Value → Type 0) (q k : List ℕ) (v u : Value) (o : Option Value) (ns : Members) (b : Bool) → bytes_eq q k ≡ b → cond b (Some v) o ≡ Some u
    → IsSomeAnd (look_up k ns) (R v) → (o ≡ Some u → IsSomeAnd (look_up q ns) (R u)) → IsSomeAnd (look_up q ns) (R u)
found_under R q k v u o ns true e h first rest =
    let i : v ≡ u = cc in
    subst (λ m. IsSomeAnd (look_up m ns) (R u)) (sym (equal_keys q k e)) (subst (λ x. IsSomeAnd (look_up k ns) (R x)) i first)
found_under R q k v u o ns false e h first rest = rest h

pub twice_asked : {A : Type 0} (b : Bool) (x y z : A) → cond b x (cond b y z) ≡ cond b x z
twice_asked true x y z = refl
twice_asked false x y z = refl

pub either_first : {A : Type 0} (b c : Bool) (x y z : A) → (b ≡ true → c ≡ true → ⊥) → cond b x (cond c y z) ≡ cond c y (cond b x z)
either_first true true x y z h = absurd (h refl refl)
either_first true false x y z h = refl
either_first false true x y z h = refl
either_first false false x y z h = refl

pub none_either : (b : Bool) → ◌≡◌ {A = Option Value} None (cond b None None)
none_either true = refl
none_either false = refl

pub look_up-put : (q k : List ℕ) (w : Value) (d : Members) → look_up q (put k w d) ≡ cond (bytes_eq q k) (Some w) (look_up q d)
look_up-put q k w no_members = refl
look_up-put q k w (member l v ms) = by (look_up-put q k w ms) (bytes_eq k l) refl
  where
    by : look_up q (put k w ms) ≡ cond (bytes_eq q k) (Some w) (look_up q ms) → (b : Bool) → bytes_eq k l ≡ b
        → look_up q (cond b (member l w ms) (member l v (put k w ms))) ≡ cond (bytes_eq q k) (Some w) (look_up q (member l v ms))
    by r true e = sym (ap (λ m. cond (bytes_eq q m) (Some w) (cond (bytes_eq q l) (Some v) (look_up q ms))) (equal_keys k l e) ∙ twice_asked (bytes_eq q l) (Some w) (Some v) (look_up q ms))
    by r false e = ap (cond (bytes_eq q l) (Some v)) r ∙ either_first (bytes_eq q l) (bytes_eq q k) (Some v) (Some w) (look_up q ms) (clash q k l e)

pub look_up-without : (q k : List ℕ) (d : Members) → look_up q (without k d) ≡ cond (bytes_eq q k) None (look_up q d)
look_up-without q k no_members = none_either (bytes_eq q k)
look_up-without q k (member l v ms) = by (look_up-without q k ms) (bytes_eq k l) refl
  where
    gone : (c : Bool) → bytes_eq q k ≡ c → k ≡ l → cond c None (look_up q ms) ≡ cond c None (cond (bytes_eq q l) (Some v) (look_up q ms))
    gone true a i = refl
    gone false a i = sym (ap (λ b. cond b (Some v) (look_up q ms)) (ap (bytes_eq q) (sym i) ∙ a))

    by : look_up q (without k ms) ≡ cond (bytes_eq q k) None (look_up q ms) → (b : Bool) → bytes_eq k l ≡ b
        → look_up q (cond b (without k ms) (member l v (without k ms))) ≡ cond (bytes_eq q k) None (look_up q (member l v ms))
    by r true e = r ∙ gone (bytes_eq q k) refl (equal_keys k l e)
    by r false e = ap (cond (bytes_eq q l) (Some v)) r ∙ either_first (bytes_eq q l) (bytes_eq q k) (Some v) None (look_up q ms) (clash q k l e)

pub gone : (k : List ℕ) (ms : Members) → look_up k (without k ms) ≡ None
gone k ms = look_up-without k k ms ∙ ap (λ b. cond b None (look_up k ms)) (same_key k)

pub other_stays : (q k : List ℕ) (ms : Members) → bytes_eq q k ≡ false → look_up q (without k ms) ≡ look_up q ms
other_stays q k ms other = look_up-without q k ms ∙ ap (λ b. cond b None (look_up q ms)) other

still_absent : (q k : List ℕ) (ms : Members) → look_up q ms ≡ None → look_up q (without k ms) ≡ None
still_absent q k ms none = look_up-without q k ms ∙ ap (cond (bytes_eq q k) None) none ∙ sym (none_either (bytes_eq q k))

-- ---- members without a key

pub without_absent : (k : List ℕ) (ms : Members) → look_up k ms ≡ None → without k ms ≡ ms
without_absent k no_members e = refl
without_absent k (member l v ms) e = by (bytes_eq k l) e (without_absent k ms)
  where
    by : (b : Bool) → cond b (Some v) (look_up k ms) ≡ None → (look_up k ms ≡ None → without k ms ≡ ms) → cond b (without k ms) (member l v (without k ms)) ≡ member l v ms
    by true e rest = cc
    by false e rest = ap (member l v) (rest e)

pub without_twice : (k : List ℕ) (ms : Members) → without k (without k ms) ≡ without k ms
without_twice k ms = without_absent k (without k ms) (gone k ms)

pub without_swap : (k l : List ℕ) (ms : Members) → without k (without l ms) ≡ without l (without k ms)
without_swap k l no_members = refl
without_swap k l (member m v ms) = by (bytes_eq k m) (bytes_eq l m) refl refl (without_swap k l ms)
  where
    by : (a b : Bool) → bytes_eq k m ≡ a → bytes_eq l m ≡ b → without k (without l ms) ≡ without l (without k ms)
        → without k (cond b (without l ms) (member m v (without l ms))) ≡ without l (cond a (without k ms) (member m v (without k ms)))
    by true true e f h = h
    by true false e f h = rw e h
    by false true e f h = rw f h
    by false false e f h = rw (e, f) (ap (member m v) h)

-- ---- levels

pub without_levels : (k : List ℕ) (ms : Members) → members_levels (without k ms) ≤ members_levels ms
without_levels k no_members = omega arith
without_levels k (member l v ms) = by (without_levels k ms) (bytes_eq k l)
  where
    by : members_levels (without k ms) ≤ members_levels ms → (b : Bool) → members_levels (cond b (without k ms) (member l v (without k ms))) ≤ max (levels v) (members_levels ms)
    by low true = omega (arith, low)
    by low false = omega (arith, low)

pub found_levels : (k : List ℕ) (ms : Members) (w : Value) → look_up k ms ≡ Some w → levels w ≤ members_levels ms
found_levels k no_members w h = cc
found_levels k (member l v ms) w h = by (found_levels k ms w) (bytes_eq k l) h
  where
    by : (look_up k ms ≡ Some w → levels w ≤ members_levels ms) → (b : Bool) → cond b (Some v) (look_up k ms) ≡ Some w → levels w ≤ max (levels v) (members_levels ms)
    by more true e = let same : v ≡ w = cc in subst (λ u. levels u ≤ max (levels v) (members_levels ms)) same (omega arith)
    by more false e = omega (arith, more e)

-- ---- distinct keys

pub put_distinct : (k : List ℕ) (w : Value) (d : Members) → HasDistinctKeys w → MembersHaveDistinctKeys d → MembersHaveDistinctKeys (put k w d)
put_distinct k w no_members a h = (refl, a, tt)
put_distinct k w (member l v ms) a h = by (put_distinct k w ms a h.2) (bytes_eq k l) refl
  where
    by : MembersHaveDistinctKeys (put k w ms) → (b : Bool) → bytes_eq k l ≡ b → MembersHaveDistinctKeys (cond b (member l w ms) (member l v (put k w ms)))
    by r true e = (h.0, a, h.2)
    by r false e = (look_up-put l k w ms ∙ ap (λ b. cond b (Some w) (look_up l ms)) (key_turned l k ∙ e) ∙ h.0, h.1, r)

pub without_distinct : (k : List ℕ) (d : Members) → MembersHaveDistinctKeys d → MembersHaveDistinctKeys (without k d)
without_distinct k no_members h = tt
without_distinct k (member l v ms) h = by (without_distinct k ms h.2) (bytes_eq k l)
  where
    by : MembersHaveDistinctKeys (without k ms) → (b : Bool) → MembersHaveDistinctKeys (cond b (without k ms) (member l v (without k ms)))
    by r true = r
    by r false = (still_absent l k ms h.0, h.1, r)

pub distinct_at : (ms : Members) (k : List ℕ) (v : Value) → MembersHaveDistinctKeys ms → look_up k ms ≡ Some v → HasDistinctKeys v
distinct_at no_members k v h e = cc
distinct_at (member l w ms) k v h e = by (bytes_eq k l) e (distinct_at ms k v h.2)
  where
    by : (b : Bool) → cond b (Some w) (look_up k ms) ≡ Some v → (look_up k ms ≡ Some v → HasDistinctKeys v) → HasDistinctKeys v
    by true e rest = let same : w ≡ v = cc in subst HasDistinctKeys same h.1
    by false e rest = rest e

-- ---- what holds of each part

module _ (K : List ℕ → Type 0) (S : Scalar → Type 0) where
  pub put_each : (k : List ℕ) (w : Value) (d : Members) → K k → EachPart K S w → EachMember K S d → EachMember K S (put k w d)
  put_each k w no_members a b h = (a, b, tt)
  put_each k w (member l v ms) a b h = by (put_each k w ms a b h.2) (bytes_eq k l)
    where
      by : EachMember K S (put k w ms) → (c : Bool) → EachMember K S (cond c (member l w ms) (member l v (put k w ms)))
      by r true = (h.0, b, h.2)
      by r false = (h.0, h.1, r)

  pub put_back : (k : List ℕ) (w : Value) (d : Members) → EachMember K S (put k w d) → EachPart K S w
  put_back k w no_members h = h.1
  put_back k w (member l v ms) h = by (put_back k w ms) (bytes_eq k l) h
    where
      by : (EachMember K S (put k w ms) → EachPart K S w) → (c : Bool) → EachMember K S (cond c (member l w ms) (member l v (put k w ms))) → EachPart K S w
      by f true g = g.1
      by f false g = f g.2

  pub without_each : (k : List ℕ) (d : Members) → EachMember K S d → EachMember K S (without k d)
  without_each k no_members h = tt
  without_each k (member l v ms) h = by (without_each k ms h.2) (bytes_eq k l)
    where
      by : EachMember K S (without k ms) → (c : Bool) → EachMember K S (cond c (without k ms) (member l v (without k ms)))
      by r true = r
      by r false = (h.0, h.1, r)

  pub key_at : (ms : Members) (k : List ℕ) (v : Value) → EachMember K S ms → look_up k ms ≡ Some v → K k × EachPart K S v
  key_at no_members k v h e = cc
  key_at (member l w ms) k v h e = by (bytes_eq k l) refl e (key_at ms k v h.2)
    where
      by : (b : Bool) → bytes_eq k l ≡ b → cond b (Some w) (look_up k ms) ≡ Some v → (look_up k ms ≡ Some v → K k × EachPart K S v) → K k × EachPart K S v
      by true i e rest = let same : w ≡ v = cc in (subst K (sym (equal_keys k l i)) h.0, subst (EachPart K S) same h.1)
      by false i e rest = rest e

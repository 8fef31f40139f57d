-- Documents with a member put in or taken out, and steps.
use Rattle.std.proofs.Common.{◌≡◌, ◌≢◌, ◌⊎◌, inl, inr, ℕ, String, Global, string_bytes, List, [], ◌∷◌, ◌++◌, ◌<◌, ◌+◌, zero, suc, take, drop, length, get_or, map, append_assoc, ◌≤◌, Bool, true, false, not, ◌&&◌, ◌||◌, cond, IsTrue, Option, Some, None, option_map, is_some, is_none, Result, Ok, Err, OnOk, refl, sym, ap, ap₂, ◌∙◌, subst, arith}
use Rattle.std.specs.Prelude.{bytes_eq, ◌↔◌}
use Rattle.std.proofs.lemmas.List.{drop-map, length-map, map-append, take-map, take_more}
use Rattle.bson_base.specs.Value.{Value, document, Members, member, look_up, put, without, MembersHaveDistinctKeys}
use Rattle.bson_base.proofs.MemberLemmas.{equal_keys, without_absent}
use Rattle.bson_model.specs.Accessors.{as_document}
use Rattle.bson_model.specs.View.{view, items_of, members_of}
use Rattle.bson_model.specs.Keyed.{get, has_key as has_pair, put as put_pair, without as without_pair}
use Rattle.bson_model.specs.declared.bson.Bson.{Bson}
use Rattle.bson_model.proofs.EqualLemmas.{look_up-members_of}
use Rattle.bson_raw.proofs.SettleLemmas.{members_of_put}
use Rattle.store_update.specs.Number.{onward}
use Rattle.store_update.specs.Plan.{Path, path_of, plan_of}
use Rattle.store_update.specs.Update.{Tells, altered, found, has_members, inside, is_of_id, moved, renamed, settled_inside, some, step_made, updated, with_pushed, without_end}
use Rattle.store_update.specs.Arrays.{cut, place_in, popped, put_at, values}
use Rattle.store_update.specs.declared.operation.End.{End}
use Rattle.store_update.specs.declared.operation.Place.{Place}
use Rattle.store_update.specs.declared.operation.Push.{Push}
use Rattle.store_update.specs.declared.operation.Step.{Step}
use Rattle.store_update.specs.declared.error.UpdateError.{UpdateError}
use Rattle.store_update.specs.declared.error.UpdateError.TheVariants.{Id, Memory}

pub value_put : (k l : List ℕ) (v : Value) (ps qs : List (List ℕ × Value)) → k ≡ l → qs ≡ put_pair k v ps → members_of qs ≡ put l v (members_of ps)
value_put k l v ps qs i is = ap members_of is ∙ members_of_put k v ps ∙ ap (λ x. put x v (members_of ps)) i

pub members_of_without : (k : List ℕ) (ps : List (List ℕ × Value)) → MembersHaveDistinctKeys (members_of ps) → members_of (without_pair k ps) ≡ without k (members_of ps)
members_of_without k [] d = refl
members_of_without k (p ∷ ps) d = by (bytes_eq k p.0) refl (members_of_without k ps d.2)
  where
    by : (b : Bool) → bytes_eq k p.0 ≡ b → members_of (without_pair k ps) ≡ without k (members_of ps)
        → members_of (cond b ps (p ∷ without_pair k ps)) ≡ cond b (without k (members_of ps)) (member p.0 p.1 (without k (members_of ps)))
    by true e h = sym (without_absent k (members_of ps) (ap (λ l. look_up l (members_of ps)) (equal_keys k p.0 e) ∙ d.0))
    by false e h = ap (member p.0 p.1) h

-- ---- arrays

pub take_none : {A : Type 0} (xs : List A) → take 0 xs ≡ []
take_none [] = refl
take_none (x ∷ xs) = refl

-- one copy more
pub copied_more : (first : List Value) (items new : List Bson) (i : ℕ) (x y : Bson) → i < length items → x ≡ get_or items i x → view y ≡ view x → map view new ≡ first ++ map view (take i items) → map view (new ++ y ∷ []) ≡ first ++ map view (take (i + 1) items)
copied_more first items new i x y low is same h =
    map-append view new (y ∷ []) ∙ ap₂ (λ vs v. vs ++ v ∷ []) h same ∙ append_assoc first (map view (take i items)) (view x ∷ []) ∙ ap (λ vs. first ++ vs) (sym (map-append view (take i items) (x ∷ [])) ∙ ap (map view) (sym (take_more items i x low ∙ ap (λ z. take i items ++ z ∷ []) (sym is))))

pub values_of : (vs : List Value) → values (items_of vs) ≡ vs
values_of [] = refl
values_of (v ∷ vs) = ap (λ ws. v ∷ ws) (values_of vs)

pub pushed_is : (p : Push) (old all new : List Bson) → map view all ≡ put_at p.place (map view p.items.items) (map view old) → map view new ≡ cut p.slice (map view all) → items_of (map view new) ≡ with_pushed (map view p.items.items) p.place p.slice (items_of (map view old))
pushed_is p old all new put left = ap items_of (left ∙ ap (cut p.slice) put) ∙ sym (ap (λ vs. items_of (cut p.slice (put_at p.place (map view p.items.items) vs))) (values_of (map view old)))

pub popped_is : (e : End) (old new : List Bson) → map view new ≡ popped e (map view old) → items_of (map view new) ≡ without_end e (items_of (map view old))
popped_is e old new left = ap items_of left ∙ sym (ap (λ vs. items_of (popped e vs)) (values_of (map view old)))

-- three lists of copies, one behind the other
pub put_is : (p : Place) (at : ℕ) (new old front back one two all : List Bson) → at ≡ place_in p (length old) → front ≡ take at old → back ≡ drop at old → map view one ≡ map view front → map view two ≡ map view one ++ map view new → map view all ≡ map view two ++ map view back
    → map view all ≡ put_at p (map view new) (map view old)
put_is p at new old front back one two all place is rest first second third =
    let place2 : at ≡ place_in p (length (map view old)) = place ∙ ap (place_in p) (sym (length-map old view)) in
    let begin : map view one ≡ take (place_in p (length (map view old))) (map view old) = first ∙ ap (map view) is ∙ sym (take-map view at old) ∙ ap (λ n. take n (map view old)) place2 in
    let finish : map view back ≡ drop (place_in p (length (map view old))) (map view old) = ap (map view) rest ∙ sym (drop-map view at old) ∙ ap (λ n. drop n (map view old)) place2 in
    third ∙ ap (λ vs. vs ++ map view back) second ∙ append_assoc (map view one) (map view new) (map view back) ∙ ap₂ (λ xs ys. xs ++ (map view new ++ ys)) begin finish

-- ---- nothing there

pub nothing_is : (k : List ℕ) (ps qs : List (List ℕ × Value)) (b c : Bool) → b ≡ has_pair k ps → IsTrue c ↔ (qs ≡ []) → (not b && c) ≡ (is_none (look_up k (members_of ps)) && not (has_members (members_of qs)))
nothing_is k ps qs b c has empty = ap (λ x. not x && c) has ∙ ap (λ o. not (is_some o) && c) (sym (look_up-members_of k ps)) ∙ at (look_up k (members_of ps)) ∙ ap (λ x. is_none (look_up k (members_of ps)) && x) (by c qs empty)
  where
    at : (o : Option Value) → (not (is_some o) && c) ≡ (is_none o && c)
    at None = refl
    at (Some v) = refl

    by : (c : Bool) (qs : List (List ℕ × Value)) → IsTrue c ↔ (qs ≡ []) → c ≡ not (has_members (members_of qs))
    by true [] h = refl
    by true (q ∷ qs) h = let e = h.0 refl in absurd (cc)
    by false [] h = let e = h.1 refl in absurd (cc)
    by false (q ∷ qs) h = refl

-- ---- what is told

pub tells_err : {A B : Type 0} (x : Result A UpdateError) (f : A → Result B UpdateError) (e : UpdateError) → (x ≡ Err e) ⊎ (e ≡ Memory) → (onward x f ≡ Err e) ⊎ (e ≡ Memory)
tells_err x f e (inl is) = inl (rw is refl)
tells_err x f e (inr memory) = inr memory

pub tells_ok : {A B : Type 0} (x : Result A UpdateError) (f : A → Result B UpdateError) (a : A) (y : Result B UpdateError) → x ≡ Ok a → f a ≡ y → onward x f ≡ y
tells_ok x f a y is next = rw is next

pub some_ok : (x : Result Value UpdateError) (v w : Value) → Ok v ≡ x → w ≡ v → some x ≡ Ok (Some w)
some_ok x v w is same = rw (sym is, same) refl

pub some_err : (x : Result Value UpdateError) (e : UpdateError) → Err e ≡ x → some x ≡ Err e
some_err x e is = rw (sym is) refl

pub nothing_stays : (k : List ℕ) (d ms : Members) (b : Bool) → IsTrue b → b ≡ (is_none (look_up k ms) && not (has_members d)) → settled_inside k (look_up k ms) d ms ≡ ms
nothing_stays k d ms true told is = rw (sym is) refl
nothing_stays k d ms false told is = absurd (cc)

pub something_comes : (k : List ℕ) (d ms after : Members) (b : Bool) → (IsTrue b → ⊥) → b ≡ (is_none (look_up k ms) && not (has_members d)) → after ≡ put k (document d) ms → settled_inside k (look_up k ms) d ms ≡ after
something_comes k d ms after true other is h = absurd (other refl)
something_comes k d ms after false other is h = rw (sym is) (sym h)

pub tells_next : {A B : Type 0} (x : Result A UpdateError) (f : A → Result B UpdateError) (a : A) (r : Result B UpdateError) → x ≡ Ok a → Tells (f a) r → Tells (onward x f) r
tells_next x f a r is h = rw is h

-- ---- one step after the other

pub drop_none : {A : Type 0} (xs : List A) → drop 0 xs ≡ xs
drop_none [] = refl
drop_none (x ∷ xs) = refl

pub drop_at : {A : Type 0} (xs : List A) (i : ℕ) (x : A) → i < length xs → x ≡ get_or xs i x → drop i xs ≡ x ∷ drop (i + 1) xs
drop_at [] i x low is = absurd (omega (arith, low))
drop_at (y ∷ xs) zero x low is = ap (λ z. z ∷ xs) (sym is) ∙ ap (λ zs. x ∷ zs) (sym (drop_none xs))
drop_at (y ∷ xs) (suc i) x low is =
    let e : suc i + 1 ≡ suc (i + 1) = omega arith in
    drop_at xs i x (omega (arith, low)) is ∙ ap (λ n. x ∷ drop n (y ∷ xs)) (sym e)

pub drop_end : {A : Type 0} (xs : List A) (i : ℕ) → length xs ≤ i → drop i xs ≡ []
drop_end [] zero h = refl
drop_end [] (suc i) h = refl
drop_end (x ∷ xs) zero h = absurd (omega (arith, h))
drop_end (x ∷ xs) (suc i) h = drop_end xs i (omega (arith, h))

pub one_step : (inserts : Bool) (steps : List Step) (i : ℕ) (s : Step) (start now next : Members) → i < length steps → s ≡ get_or steps i s → updated inserts (map plan_of steps) start ≡ updated inserts (map plan_of (drop i steps)) now → step_made inserts (plan_of s) now ≡ Ok next → updated inserts (map plan_of steps) start ≡ updated inserts (map plan_of (drop (i + 1) steps)) next
one_step inserts steps i s start now next low is h step = h ∙ ap (λ xs. updated inserts (map plan_of xs) now) (drop_at steps i s low is) ∙ tells_ok (step_made inserts (plan_of s) now) (updated inserts (map plan_of (drop (i + 1) steps))) next (updated inserts (map plan_of (drop (i + 1) steps)) next) step refl

pub no_step : (inserts : Bool) (steps : List Step) (i : ℕ) (s : Step) (start now : Members) (e : UpdateError) → i < length steps → s ≡ get_or steps i s → updated inserts (map plan_of steps) start ≡ updated inserts (map plan_of (drop i steps)) now → (step_made inserts (plan_of s) now ≡ Err e) ⊎ (e ≡ Memory) → (updated inserts (map plan_of steps) start ≡ Err e) ⊎ (e ≡ Memory)
no_step inserts steps i s start now e low is h (inr memory) = inr memory
no_step inserts steps i s start now e low is h (inl step) = inl (h ∙ ap (λ xs. updated inserts (map plan_of xs) now) (drop_at steps i s low is) ∙ rw step refl)

pub all_steps : (inserts : Bool) (steps : List Step) (i : ℕ) (start now : Members) → length steps ≤ i → updated inserts (map plan_of steps) start ≡ updated inserts (map plan_of (drop i steps)) now → updated inserts (map plan_of steps) start ≡ Ok now
all_steps inserts steps i start now end h = h ∙ ap (λ xs. updated inserts (map plan_of xs) now) (drop_end steps i end)

-- ---- a path of a key and more

module _ (f : Option Value → Result (Option Value) UpdateError) (path rest : List (String Global)) (key : String Global) (k : List ℕ) (ms : Members) (is : path ≡ key ∷ rest) (more : rest ≢ []) (same : k ≡ string_bytes key) where
  -- what is altered lies deeper
  pub deeper : altered f (path_of path) ms ≡ onward (inside (look_up k ms)) (λ d. onward (altered f (path_of rest) d) (λ e. Ok (settled_inside k (look_up k ms) e ms)))
  deeper = rw (is, same) (by rest more)
    where
      by : (rest : List (String Global)) → rest ≢ [] → altered f (string_bytes key ∷ map string_bytes rest) ms ≡ onward (inside (look_up (string_bytes key) ms)) (λ d. onward (altered f (map string_bytes rest) d) (λ e. Ok (settled_inside (string_bytes key) (look_up (string_bytes key) ms) e ms)))
      by [] more = absurd (more refl)
      by (l ∷ ls) more = refl

  pub not_inside : (e : UpdateError) → (inside (look_up k ms) ≡ Err e) ⊎ (e ≡ Memory) → (altered f (path_of path) ms ≡ Err e) ⊎ (e ≡ Memory)
  not_inside e (inr memory) = inr memory
  not_inside e (inl none) = inl (deeper ∙ rw none refl)

  pub not_deeper : (d : Members) (e : UpdateError) → inside (look_up k ms) ≡ Ok d → (altered f (path_of rest) d ≡ Err e) ⊎ (e ≡ Memory) → (altered f (path_of path) ms ≡ Err e) ⊎ (e ≡ Memory)
  not_deeper d e there (inr memory) = inr memory
  not_deeper d e there (inl none) = inl (deeper ∙ rw (there, none) refl)

  pub all_deeper : (d e : Members) (r : Result Members UpdateError) → inside (look_up k ms) ≡ Ok d → altered f (path_of rest) d ≡ Ok e → Tells (Ok (settled_inside k (look_up k ms) e ms)) r → Tells (altered f (path_of path) ms) r
  all_deeper d e r there is h = subst (λ x. Tells x r) (sym (deeper ∙ rw (there, is) refl)) h

-- ---- a value that moves

module _ (path rest : List (String Global)) (key : String Global) (to : Path) (k : List ℕ) (ms : Members) (b : Bool) (is : path ≡ key ∷ rest) (same : k ≡ string_bytes key) (ids : b ≡ (is_of_id (path_of path) || is_of_id to)) where
  pub renamed_id : b ≡ true → renamed (path_of path) to ms ≡ Err Id
  renamed_id e = ap (λ p. renamed (path_of p) to ms) is
      ∙ ap (λ c. cond c (Err Id) (onward (found (path_of rest) (look_up (string_bytes key) ms)) (λ o. moved (string_bytes key ∷ path_of rest) to o ms))) (ap (λ p. is_of_id (path_of p) || is_of_id to) (sym is) ∙ sym ids ∙ e)

  renamed_on : b ≡ false → renamed (path_of path) to ms ≡ onward (found (path_of rest) (look_up k ms)) (λ o. moved (path_of path) to o ms)
  renamed_on e =
      let no : (is_of_id (string_bytes key ∷ path_of rest) || is_of_id to) ≡ false = ap (λ p. is_of_id (path_of p) || is_of_id to) (sym is) ∙ sym ids ∙ e in
      ap (λ p. renamed (path_of p) to ms) is
      ∙ ap (λ c. cond c (Err Id) (onward (found (path_of rest) (look_up (string_bytes key) ms)) (λ o. moved (string_bytes key ∷ path_of rest) to o ms))) no
      ∙ ap (λ l. onward (found (path_of rest) (look_up l ms)) (λ o. moved (string_bytes key ∷ path_of rest) to o ms)) (sym same)
      ∙ ap (λ p. onward (found (path_of rest) (look_up k ms)) (λ o. moved (path_of p) to o ms)) (sym is)

  pub not_found : (e : UpdateError) → b ≡ false → Err e ≡ found (path_of rest) (look_up k ms) → renamed (path_of path) to ms ≡ Err e
  not_found e f none = renamed_on f ∙ ap (λ r. onward r (λ o. moved (path_of path) to o ms)) (sym none)

  pub found_moved : (o : Option Value) (r : Result Members UpdateError) → b ≡ false → Ok o ≡ found (path_of rest) (look_up k ms) → Tells (moved (path_of path) to o ms) r → Tells (renamed (path_of path) to ms) r
  found_moved o r f there h = subst (λ x. Tells x r) (sym (renamed_on f ∙ ap (λ x. onward x (λ p. moved (path_of path) to p ms)) (sym there))) h

module _ (path rest : List (String Global)) (key : String Global) (k : List ℕ) (is : path ≡ key ∷ rest) (same : k ≡ string_bytes key) where
  inner : (v : Value) (ms : Members) → Some ms ≡ as_document v → found (string_bytes key ∷ path_of rest) (Some v) ≡ found (path_of rest) (look_up (string_bytes key) ms)
  inner (document ds) ms e = let s : ms ≡ ds = cc in ap (λ xs. found (path_of rest) (look_up (string_bytes key) xs)) (sym s)
  inner v ms e = absurd cc

  -- what lies deeper
  pub found_deeper : (o there : Option Value) (v : Value) (ms : Members) (r : Result (Option Value) UpdateError) → o ≡ Some v → Some ms ≡ as_document v → there ≡ look_up k ms → r ≡ found (path_of rest) there → r ≡ found (path_of path) o
  found_deeper o there v ms r value seen under h =
      h ∙ ap (found (path_of rest)) (under ∙ ap (λ l. look_up l ms) same) ∙ sym (inner v ms seen)
      ∙ ap (found (string_bytes key ∷ path_of rest)) (sym value) ∙ ap (λ p. found (path_of p) o) (sym is)

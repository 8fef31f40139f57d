-- What waits, and batches of it.
use Rattle.std.proofs.Common.{◌≡◌, ◌≢◌, ◌<◌, ◌≤◌, ◌-◌, ◌+◌, ℤ, pos, nat_abs, ℕ, suc, zero, Bool, true, false, if◌then◌else◌, Option, Some, None, MatchOption, string_bytes, List, [], ◌∷◌, ◌++◌, length, map, take, drop, Vec, refl, ap, sym, subst, ◌∙◌, arith}
use Rattle.std.specs.List.{slice_index_or}
use Rattle.std.specs.declared.alloc.Global.{Global}
use Rattle.fallowtime_messages.specs.Waiting.{AreBelow, IsBatch, IsGone, IsNew, IsOf, Stays, TakesOut, Wait, bodies_of, fit, kept, taken, wait, wait_of}
use Rattle.fallowtime_messages.specs.declared.keeping.Cursor.{Cursor}

-- ---- batches

bodies_more : (bs : List (Vec ℕ Global)) (x : Vec ℕ Global) (cs : List (List ℕ)) → bodies_of (bs ++ x ∷ []) ++ cs ≡ bodies_of bs ++ x.items ∷ cs
bodies_more [] x cs = refl
bodies_more (b ∷ bs) x cs = ap (λ l. b.items ∷ l) (bodies_more bs x cs)

length_more : (bs : List (Vec ℕ Global)) (x : Vec ℕ Global) → length (bodies_of (bs ++ x ∷ [])) ≡ suc (length (bodies_of bs))
length_more [] x = refl
length_more (b ∷ bs) x = ap suc (length_more bs x)

taken_more : (wanted room : ℕ) (b : List ℕ) (bs : List (List ℕ)) → 0 < wanted → 0 < room → taken wanted room (b ∷ bs) ≡ suc (taken (wanted - 1) (room - length b) bs)
taken_more zero room b bs some fits = absurd (omega (arith, some))
taken_more (suc wanted) zero b bs some fits = absurd (omega (arith, fits))
taken_more (suc wanted) (suc room) b bs some fits =
    let one : suc wanted - 1 ≡ wanted = omega arith in
    ap (λ n. suc (taken n (suc room - length b) bs)) (sym one)

-- one document more is in a batch
pub one_taken : (all batch grown rest left : List (Vec ℕ Global)) (x : Vec ℕ Global) (number wanted room next : ℕ) → next ≡ room - length x.items → rest ≡ x ∷ left → grown ≡ batch ++ x ∷ [] → 0 < wanted → 0 < room
    → (bodies_of all ≡ bodies_of batch ++ bodies_of rest) × (number ≡ length (bodies_of batch) + taken wanted room (bodies_of rest))
    → (bodies_of all ≡ bodies_of grown ++ bodies_of left) × (number ≡ length (bodies_of grown) + taken (wanted - 1) next (bodies_of left))
one_taken all batch grown rest left x number wanted room next less first put some fits (split, count) =
    let more = subst (λ l. bodies_of all ≡ bodies_of batch ++ bodies_of l) first split ∙ sym (bodies_more batch x (bodies_of left)) in
    let a = subst (λ l. number ≡ length (bodies_of batch) + taken wanted room (bodies_of l)) first count in
    let b = taken_more wanted room x.items (bodies_of left) some fits ∙ ap (λ r. suc (taken (wanted - 1) r (bodies_of left))) (sym less) in
    let d = ap (λ l. length (bodies_of l)) put ∙ length_more batch x in
    (subst (λ l. bodies_of all ≡ bodies_of l ++ bodies_of left) (sym put) more, omega (arith, a, b, d))

-- ---- what is let go

pub kept_if_fit : (ws : List Wait) → fit 268435456 ws ≡ true → kept ws ≡ ws
kept_if_fit [] fits = refl
kept_if_fit (w ∷ []) fits = refl
kept_if_fit (w ∷ v ∷ ws) fits = rw fits refl

pub kept_if_few : (cs : List Cursor) → length cs ≤ 1 → kept (map wait_of cs) ≡ map wait_of cs
kept_if_few [] few = refl
kept_if_few (c ∷ []) few = refl
kept_if_few (c ∷ d ∷ cs) few = absurd (omega (arith, few))

-- ---- one is taken out

split : (xs : List Cursor) (n : ℕ) (c : Cursor) → n < length xs → xs ≡ take n xs ++ slice_index_or xs n c ∷ drop (n + 1) xs
split [] n c lt = absurd (omega (arith, lt))
split (x ∷ xs) zero c lt = refl
split (x ∷ xs) (suc n) c lt =
    let one : suc n + 1 ≡ suc (n + 1) = omega arith in
    ap (λ l. x ∷ l) (split xs n c (omega (arith, lt))) ∙ ap (λ m. x ∷ (take n xs ++ slice_index_or xs n c ∷ drop m (x ∷ xs))) (sym one)

pub waits_of : (xs ys : List Cursor) → map wait_of (xs ++ ys) ≡ map wait_of xs ++ map wait_of ys
waits_of [] ys = refl
waits_of (x ∷ xs) ys = ap (λ l. wait_of x ∷ l) (waits_of xs ys)

pub taken_out : (xs ys : List Cursor) (n : ℕ) (c : Cursor) (id : ℤ) (space : List ℕ) → n < length xs → c ≡ slice_index_or xs n c → ys ≡ take n xs ++ drop (n + 1) xs → IsOf id space (wait_of c)
    → TakesOut id space (wait_of c) (map wait_of xs) (map wait_of ys)
taken_out xs ys n c id space lt is left of = (
  map wait_of (take n xs),
  map wait_of (drop (n + 1) xs),
  ap (map wait_of) (split xs n c lt ∙ ap (λ x. take n xs ++ x ∷ drop (n + 1) xs) (sym is)) ∙ waits_of (take n xs) (c ∷ drop (n + 1) xs),
  ap (map wait_of) left ∙ waits_of (take n xs) (drop (n + 1) xs),
  of,
)

-- ---- further batches

pub number_of : (id : ℤ) (space : List ℕ) (w : Wait) (old ws : List Wait) → TakesOut id space w old ws → w.id ≡ id
number_of id space w old ws (before, after, is, left, (same, of)) = same

module _ (size : ℕ) (id : ℤ) (space : List ℕ) (c : Cursor) (old ws : List Wait) (out : TakesOut id space (wait_of c) old ws) (batch left : List (Vec ℕ Global)) (is : IsBatch size (bodies_of c.rest.items) (bodies_of batch) (bodies_of left)) where
  -- nothing is left of it
  pub last_told : left ≡ [] → (w : Wait) × (vs : List Wait) × (rest : List (List ℕ)) × TakesOut id space w old vs × IsBatch size w.rest (bodies_of batch) rest × Stays w (pos 0) rest vs ws
  last_told none = (wait_of c, ws, [], out, subst (λ l. IsBatch size (bodies_of c.rest.items) (bodies_of batch) (bodies_of l)) none is, (refl, refl))

  -- the rest waits
  pub more_told : (new : List Wait) (next : ℤ) → (0 < length left) → new ≡ ws ++ wait c.id (string_bytes c.space) c.cost (bodies_of left) ∷ [] → next ≡ c.id
      → (w : Wait) × (vs : List Wait) × (rest : List (List ℕ)) × TakesOut id space w old vs × IsBatch size w.rest (bodies_of batch) rest × Stays w next rest vs new
  more_told new next some put same = (wait_of c, ws, bodies_of left, out, is, stays left some put)
    where
      stays : (l : List (Vec ℕ Global)) → 0 < length l → new ≡ ws ++ wait c.id (string_bytes c.space) c.cost (bodies_of l) ∷ [] → Stays (wait_of c) next (bodies_of l) ws new
      stays [] some put = absurd (omega (arith, some))
      stays (b ∷ bs) some put = (same, put)

-- ---- numbers

pub below_on : (n m : ℕ) (ws : List Wait) → n ≤ m → AreBelow n ws → AreBelow m ws
below_on n m [] le below = tt
below_on n m (w ∷ ws) le (one, rest) = (omega (arith, le, one), below_on n m ws le rest)

below_append : (n : ℕ) (ws vs : List Wait) → AreBelow n ws → AreBelow n vs → AreBelow n (ws ++ vs)
below_append n [] vs first second = second
below_append n (w ∷ ws) vs (one, rest) second = (one, below_append n ws vs rest second)

below_parts : (n : ℕ) (ws vs : List Wait) → AreBelow n (ws ++ vs) → AreBelow n ws × AreBelow n vs
below_parts n [] vs below = (tt, below)
below_parts n (w ∷ ws) vs (one, rest) =
    let p = below_parts n ws vs rest in
    ((one, p.0), p.1)

pub below_more : (n : ℕ) (w : Wait) (ws : List Wait) → AreBelow n ws → nat_abs w.id < n → AreBelow n (ws ++ w ∷ [])
below_more n w ws below one = below_append n ws (w ∷ []) below (one, tt)

pub kept_below : (n : ℕ) (ws : List Wait) → AreBelow n ws → AreBelow n (kept ws)
kept_below n [] below = tt
kept_below n (w ∷ []) below = below
kept_below n (w ∷ v ∷ ws) (one, rest) = below_if (fit 268435456 (w ∷ v ∷ ws)) (one, rest) (kept_below n (v ∷ ws) rest)
  where
    below_if : (b : Bool) → AreBelow n (w ∷ v ∷ ws) → AreBelow n (kept (v ∷ ws)) → AreBelow n (if b then w ∷ v ∷ ws else kept (v ∷ ws))
    below_if true all some = all
    below_if false all some = some

-- none of them has the next number
pub next_is_new : (n : ℕ) (ws : List Wait) → AreBelow n ws → IsNew (pos n) ws
next_is_new n [] below = tt
next_is_new n (w ∷ ws) (one, rest) = (λ same. absurd (omega (arith, one, ap nat_abs same)), next_is_new n ws rest)

-- one is taken out
pub out_below : (n : ℕ) (id : ℤ) (space : List ℕ) (w : Wait) (old new : List Wait) → TakesOut id space w old new → AreBelow n old → AreBelow n new × (nat_abs w.id < n)
out_below n id space w old new (before, after, is, left, of) below =
    let p = below_parts n before (w ∷ after) (subst (AreBelow n) is below) in
    (subst (AreBelow n) (sym left) (below_append n before after p.0 p.1.1), p.1.0)

pub none_or_out_below : (n : ℕ) (id : ℤ) (space : List ℕ) (r : Option Cursor) (old new : Vec Cursor Global)
    → MatchOption r ((new ≡ old) × IsGone id space (map wait_of old.items)) (λ c. TakesOut id space (wait_of c) (map wait_of old.items) (map wait_of new.items))
    → AreBelow n (map wait_of old.items) → AreBelow n (map wait_of new.items)
none_or_out_below n id space None old new (same, gone) below = subst (λ (v : Vec Cursor Global). AreBelow n (map wait_of v.items)) (sym same) below
none_or_out_below n id space (Some c) old new out below = (out_below n id space (wait_of c) (map wait_of old.items) (map wait_of new.items) out below).0

-- one more waits, as the newest
pub grown_below : (n : ℕ) (c : Cursor) (cs grown : List Cursor) → grown ≡ cs ++ c ∷ [] → AreBelow n (map wait_of cs) → nat_abs c.id < n → AreBelow n (map wait_of grown)
grown_below n c cs grown is below one = subst (AreBelow n) (sym (ap (map wait_of) is ∙ waits_of cs (c ∷ []))) (below_more n (wait_of c) (map wait_of cs) below one)

-- one more, if there was memory for it
pub grown_if_below : (b : Bool) (n : ℕ) (c : Cursor) (cs grown : List Cursor) → grown ≡ (if b then cs ++ c ∷ [] else cs) → AreBelow n (map wait_of cs) → nat_abs c.id < n → AreBelow n (map wait_of grown)
grown_if_below true n c cs grown is below one = grown_below n c cs grown is below one
grown_if_below false n c cs grown is below one = subst (λ l. AreBelow n (map wait_of l)) (sym is) below

-- under the next number, and the oldest were let go
pub begun_below : (n next : ℕ) (c : Cursor) (cs grown left : List Cursor) → next ≡ n + 1 → c.id ≡ pos n → grown ≡ cs ++ c ∷ [] → map wait_of left ≡ kept (map wait_of grown) → AreBelow n (map wait_of cs) → AreBelow next (map wait_of left)
begun_below n next c cs grown left more is put let_go below =
    subst (AreBelow next) (sym let_go) (kept_below next (map wait_of grown) (grown_below next c cs grown put (below_on n next (map wait_of cs) (omega (arith, more)) below) (omega (arith, more, ap nat_abs is))))

pub is_not_0 : (n : ℕ) (id : ℤ) → id ≡ pos n → 0 < n → id ≢ pos 0
is_not_0 n id is some none = omega (arith, some, ap nat_abs (sym is ∙ none))

pub begun : (c : Cursor) (cs grown left : List Cursor) (space : List ℕ) → grown ≡ cs ++ c ∷ [] → map wait_of left ≡ kept (map wait_of grown) → string_bytes c.space ≡ space
    → map wait_of left ≡ kept (map wait_of cs ++ wait c.id space c.cost (bodies_of c.rest.items) ∷ [])
begun c cs grown left space put let_go is =
    let_go ∙ ap kept (ap (map wait_of) put ∙ waits_of cs (c ∷ [])) ∙ ap (λ s. kept (map wait_of cs ++ wait c.id s c.cost (bodies_of c.rest.items) ∷ [])) is

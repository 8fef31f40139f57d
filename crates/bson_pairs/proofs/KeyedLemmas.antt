-- Keys and values, place by place.
use Rattle.std.proofs.Common.{◌≡◌, ◌&&◌, ℕ, zero, suc, ◌+◌, ◌<◌, List, [], ◌∷◌, ◌++◌, length, map, set, get_or, slice_get, remove, Option, Some, None, Result, Ok, Err, unwrap_or, Bool, true, false, cond, bytes_eq, String, string_bytes, MutBor, refl, sym, ap, ◌∙◌, subst, arith, true≢false}
use Rattle.std.specs.List.{zip, list_all, AllZip, position_from, position}
use Rattle.std.specs.Result.{OnErr}
use Rattle.std.specs.Option.{OnSome, IfSome, IsSome, option_copied_mut, option_map}
use Rattle.std.proofs.lemmas.Option.{slice_get_past, slice_get_read, slice_get-map}
use Rattle.std.specs.Map.{keys_of, values_of}
use Rattle.std.proofs.lemmas.Iterator.Adapters.{position_from-zero}
use Rattle.std.specs.declared.alloc.Global.{Global}
pub use Rattle.bson_pairs.specs.Over.{over, get-over}
use Rattle.bson_pairs.specs.Keyed.{Key, key_bytes, entries_of, get, put, without, set_at}
use Rattle.bson_pairs.specs.Index.{is_key}

pub length-keyed : {V : Type 0} (ks : List (String Global)) (vs : List V) → length vs ≡ length ks → length (entries_of ks vs) ≡ length vs
length-keyed [] [] e = refl
length-keyed [] (v ∷ vs) e = absurd (omega arith)
length-keyed (k ∷ ks) [] e = absurd (omega arith)
length-keyed (k ∷ ks) (v ∷ vs) e = ap suc (length-keyed ks vs (omega arith))

pub values_of-keyed : {V : Type 0} (ks : List (String Global)) (vs : List V) → length vs ≡ length ks → values_of (entries_of ks vs) ≡ vs
values_of-keyed [] [] e = refl
values_of-keyed [] (v ∷ vs) e = absurd (omega arith)
values_of-keyed (k ∷ ks) [] e = absurd (omega arith)
values_of-keyed (k ∷ ks) (v ∷ vs) e = ap (λ l. v ∷ l) (values_of-keyed ks vs (omega arith))

pub on_err : {T E : Type 0} (r : Result T E) {P : Type 0} → P → OnErr r P
on_err (Ok x) p = tt
on_err (Err e) p = p

pub on_some : {T : Type 0} (r : Option T) {P : Type 0} → P → OnSome r P
on_some None p = tt
on_some (Some x) p = p

-- what `get_mut` lends, as one equation
pub as_item : {V : Type 0} (r : Option (MutBor V)) (vs : List V) (i n : ℕ) → (IsSome r → i < n) × (i < n → IsSome r) → IfSome r (λ x. x.now ≡ get_or vs i x.now) → n ≡ length vs → option_copied_mut r ≡ slice_get vs i
as_item None vs i n variant value e = let past : i < n → ⊥ = λ h. true≢false (sym (variant.1 h)) in sym (slice_get_past vs i (omega arith))
as_item (Some x) vs i n variant value e = sym (slice_get_read vs n i x.now e (variant.0 refl) value)

module _ {A : Type 0} (p : A → Bool) where
  -- the first item that passes is the n-th
  abbrev pub FoundAt : List A → ℕ → Type 0
  FoundAt [] n = ⊥
  FoundAt (x ∷ xs) zero = p x ≡ true
  FoundAt (x ∷ xs) (suc n) = (p x ≡ false) × FoundAt xs n

  -- no item passes
  abbrev pub Absent : List A → Type 0
  Absent [] = Unit {0}
  Absent (x ∷ xs) = (p x ≡ false) × Absent xs

  found_from : (xs : List A) (j i : ℕ) → position_from p j xs ≡ Some i → (n : ℕ) × (i ≡ j + n) × FoundAt xs n
  found_from [] j i e = absurd (cc)
  found_from (x ∷ xs) j i e = by (p x) refl e (λ f. found_from xs (j + 1) i f)
    where
      by : (b : Bool) → p x ≡ b → cond b (Some j) (position_from p (j + 1) xs) ≡ Some i
          → (position_from p (j + 1) xs ≡ Some i → (n : ℕ) × (i ≡ j + 1 + n) × FoundAt xs n) → (n : ℕ) × (i ≡ j + n) × FoundAt (x ∷ xs) n
      by true q f later = let same : j ≡ i = cc in (0, omega arith, q)
      by false q f later = let r = later f in (suc r.0, omega arith, (q, r.2))

  pub found_at : (xs : List A) (i : ℕ) → Some i ≡ position p xs → FoundAt xs i
  found_at xs i e =
      let r = found_from xs 0 i (sym (position_from-zero p xs) ∙ sym e) in
      let same : r.0 ≡ i = omega arith in
      let P : ℕ → Type 0 = FoundAt xs in subst P same r.2

  absent_from : (xs : List A) (j : ℕ) → position_from p j xs ≡ None → Absent xs
  absent_from [] j e = tt
  absent_from (x ∷ xs) j e = by (p x) refl e (λ f. absent_from xs (j + 1) f)
    where
      by : (b : Bool) → p x ≡ b → cond b (Some j) (position_from p (j + 1) xs) ≡ None → (position_from p (j + 1) xs ≡ None → Absent xs) → Absent (x ∷ xs)
      by true q f later = absurd (cc)
      by false q f later = (q, later f)

  pub absent_if : (xs : List A) → None ≡ position p xs → Absent xs
  absent_if xs e = absent_from xs 0 (sym (position_from-zero p xs) ∙ sym e)

module _ {V : Type 0} (k : Key) where
  pub get-found : (ks : List (String Global)) (vs : List V) (n : ℕ) → FoundAt (is_key k) ks n → length vs ≡ length ks → get k (entries_of ks vs) ≡ slice_get vs n
  get-found [] vs n f e = absurd f
  get-found (s ∷ ks) [] n f e = absurd (omega arith)
  get-found (s ∷ ks) (v ∷ vs) zero f e = rw f
  get-found (s ∷ ks) (v ∷ vs) (suc n) f e = rw (f.0) (get-found ks vs n f.1 (omega arith))

  pub get-found_value : (ks : List (String Global)) (vs : List V) (n : ℕ) (d : V) → FoundAt (is_key k) ks n → length vs ≡ length ks → get k (entries_of ks vs) ≡ Some (get_or vs n d)
  get-found_value [] vs n d f e = absurd f
  get-found_value (s ∷ ks) [] n d f e = absurd (omega arith)
  get-found_value (s ∷ ks) (v ∷ vs) zero d f e = rw f
  get-found_value (s ∷ ks) (v ∷ vs) (suc n) d f e = rw (f.0) (get-found_value ks vs n d f.1 (omega arith))

  pub get-absent : (ks : List (String Global)) (vs : List V) → Absent (is_key k) ks → get k (entries_of ks vs) ≡ None
  get-absent [] vs a = refl
  get-absent (s ∷ ks) [] a = refl
  get-absent (s ∷ ks) (v ∷ vs) a = rw (a.0) (get-absent ks vs a.1)

  pub put-found : (ks : List (String Global)) (vs : List V) (n : ℕ) (w : V) → FoundAt (is_key k) ks n → length vs ≡ length ks → put k w (entries_of ks vs) ≡ entries_of ks (set vs n w)
  put-found [] vs n w f e = absurd f
  put-found (s ∷ ks) [] n w f e = absurd (omega arith)
  put-found (s ∷ ks) (v ∷ vs) zero w f e = rw f
  put-found (s ∷ ks) (v ∷ vs) (suc n) w f e = rw (f.0) (ap (λ l. (string_bytes s, v) ∷ l) (put-found ks vs n w f.1 (omega arith)))

  pub put-absent : (ks : List (String Global)) (vs : List V) (w : V) → Absent (is_key k) ks → length vs ≡ length ks → put k w (entries_of ks vs) ≡ entries_of ks vs ++ (k, w) ∷ []
  put-absent [] vs w a e = refl
  put-absent (s ∷ ks) [] w a e = absurd (omega arith)
  put-absent (s ∷ ks) (v ∷ vs) w a e = rw (a.0) (ap (λ l. (string_bytes s, v) ∷ l) (put-absent ks vs w a.1 (omega arith)))

  pub without-found : (ks : List (String Global)) (vs : List V) (n : ℕ) → FoundAt (is_key k) ks n → length vs ≡ length ks → without k (entries_of ks vs) ≡ entries_of (remove ks n) (remove vs n)
  without-found [] vs n f e = absurd f
  without-found (s ∷ ks) [] n f e = absurd (omega arith)
  without-found (s ∷ ks) (v ∷ vs) zero f e = rw f
  without-found (s ∷ ks) (v ∷ vs) (suc n) f e = rw (f.0) (ap (λ l. (string_bytes s, v) ∷ l) (without-found ks vs n f.1 (omega arith)))

  pub without-absent : (ks : List (String Global)) (vs : List V) → Absent (is_key k) ks → without k (entries_of ks vs) ≡ entries_of ks vs
  without-absent [] vs a = refl
  without-absent (s ∷ ks) [] a = refl
  without-absent (s ∷ ks) (v ∷ vs) a = rw (a.0) (ap (λ l. (string_bytes s, v) ∷ l) (without-absent ks vs a.1))

  pub set_at-found : (ks : List (String Global)) (vs : List V) (n : ℕ) (w : V) → FoundAt (is_key k) ks n → length vs ≡ length ks → set_at (entries_of ks vs) n w ≡ put k w (entries_of ks vs)
  set_at-found [] vs n w f e = absurd f
  set_at-found (s ∷ ks) [] n w f e = absurd (omega arith)
  set_at-found (s ∷ ks) (v ∷ vs) zero w f e = rw f
  set_at-found (s ∷ ks) (v ∷ vs) (suc n) w f e = rw (f.0) (ap (λ l. (string_bytes s, v) ∷ l) (set_at-found ks vs n w f.1 (omega arith)))

module _ {V : Type 0} where
  pub set_at-keyed : (ks : List (String Global)) (vs : List V) (n : ℕ) (w : V) → set_at (entries_of ks vs) n w ≡ entries_of ks (set vs n w)
  set_at-keyed [] vs n w = refl
  set_at-keyed (s ∷ ks) [] n w = refl
  set_at-keyed (s ∷ ks) (v ∷ vs) zero w = refl
  set_at-keyed (s ∷ ks) (v ∷ vs) (suc n) w = ap (λ l. (string_bytes s, v) ∷ l) (set_at-keyed ks vs n w)

  pub keyed-push : (ks : List (String Global)) (vs : List V) (s : String Global) (v : V) → length vs ≡ length ks → entries_of (ks ++ s ∷ []) (vs ++ v ∷ []) ≡ entries_of ks vs ++ (string_bytes s, v) ∷ []
  keyed-push [] [] s v e = refl
  keyed-push [] (x ∷ vs) s v e = absurd (omega arith)
  keyed-push (k ∷ ks) [] s v e = absurd (omega arith)
  keyed-push (k ∷ ks) (x ∷ vs) s v e = ap (λ l. (string_bytes k, x) ∷ l) (keyed-push ks vs s v (omega arith))

-- a function of the values, pair by pair
module _ {V W : Type 0} (h : V → W) where
  cond-over : (b : Bool) (ps qs : List (Key × V)) → over h (cond b ps qs) ≡ cond b (over h ps) (over h qs)
  cond-over true ps qs = refl
  cond-over false ps qs = refl

  pub put-over : (k : Key) (v : V) (ps : List (Key × V)) → put k (h v) (over h ps) ≡ over h (put k v ps)
  put-over k v [] = refl
  put-over k v (p ∷ ps) = ap (λ l. cond (bytes_eq k p.0) ((p.0, h v) ∷ over h ps) ((p.0, h p.1) ∷ l)) (put-over k v ps) ∙ sym (cond-over (bytes_eq k p.0) ((p.0, v) ∷ ps) (p ∷ put k v ps))

  pub without-over : (k : Key) (ps : List (Key × V)) → without k (over h ps) ≡ over h (without k ps)
  without-over k [] = refl
  without-over k (p ∷ ps) = ap (λ l. cond (bytes_eq k p.0) (over h ps) ((p.0, h p.1) ∷ l)) (without-over k ps) ∙ sym (cond-over (bytes_eq k p.0) ps (p ∷ without k ps))

  pub set_at-over : (ps : List (Key × V)) (i : ℕ) (v : V) → set_at (over h ps) i (h v) ≡ over h (set_at ps i v)
  set_at-over [] i v = refl
  set_at-over (p ∷ ps) zero v = refl
  set_at-over (p ∷ ps) (suc i) v = ap (λ l. (p.0, h p.1) ∷ l) (set_at-over ps i v)

  pub values_of-over : (ps : List (Key × V)) → values_of (over h ps) ≡ map h (values_of ps)
  values_of-over [] = refl
  values_of-over (p ∷ ps) = ap (λ l. h p.1 ∷ l) (values_of-over ps)

  pub slice_get-over : (ps : List (Key × V)) (i : ℕ) → slice_get (values_of (over h ps)) i ≡ option_map h (slice_get (values_of ps) i)
  slice_get-over ps i = ap (λ l. slice_get l i) (values_of-over ps) ∙ slice_get-map h (values_of ps) i

pub on_some_weaker : {T : Type 0} (r : Option T) {P Q : Type 0} → (P → Q) → OnSome r P → OnSome r Q
on_some_weaker None f p = tt
on_some_weaker (Some x) f p = f p

pub keys_of-keyed : {V : Type 0} (ks : List (String Global)) (vs : List V) → length vs ≡ length ks → keys_of (entries_of ks vs) ≡ key_bytes ks
keys_of-keyed [] vs e = refl
keys_of-keyed (k ∷ ks) [] e = absurd (omega arith)
keys_of-keyed (k ∷ ks) (v ∷ vs) e = ap (λ l. string_bytes k ∷ l) (keys_of-keyed ks vs (omega arith))

pub list_all-key_bytes : (t : Key → Bool) (ks : List (String Global)) → list_all (λ k. t (string_bytes k)) ks ≡ list_all t (key_bytes ks)
list_all-key_bytes t [] = refl
list_all-key_bytes t (k ∷ ks) = ap (λ b. t (string_bytes k) && b) (list_all-key_bytes t ks)

pub over-zip : {V W : Type 0} (h : V → W) (ks : List Key) (vs : List V) → over h (zip ks vs) ≡ zip ks (map h vs)
over-zip h [] vs = refl
over-zip h (k ∷ ks) [] = refl
over-zip h (k ∷ ks) (v ∷ vs) = ap (λ l. (k, h v) ∷ l) (over-zip h ks vs)

pub zip-split : {V : Type 0} (ps : List (Key × V)) → zip (keys_of ps) (values_of ps) ≡ ps
zip-split [] = refl
zip-split (p ∷ ps) = ap (λ l. p ∷ l) (zip-split ps)

-- clones of keys have the keys' bytes
pub key_bytes-clones : (ks ns : List (String Global)) → AllZip (λ s t. string_bytes t ≡ string_bytes s) ks ns → key_bytes ns ≡ key_bytes ks
key_bytes-clones [] [] h = refl
key_bytes-clones [] (n ∷ ns) h = absurd h
key_bytes-clones (k ∷ ks) [] h = absurd h
key_bytes-clones (k ∷ ks) (n ∷ ns) h = λ i. h.0 i ∷ key_bytes-clones ks ns h.1 i

module _ {V : Type 0} (k : Key) where
  cond_none : (b : Bool) (v : V) (r : Option V) → cond b (Some v) r ≡ None → (b ≡ false) × (r ≡ None)
  cond_none true v r e = absurd (cc)
  cond_none false v r e = (refl, e)

  -- a new key goes last
  pub put-new : (w : V) (ps : List (Key × V)) → get k ps ≡ None → put k w ps ≡ ps ++ (k, w) ∷ []
  put-new w [] e = refl
  put-new w (p ∷ ps) e =
      let c = cond_none (bytes_eq k p.0) p.1 (get k ps) e in
      rw (c.0) (ap (λ l. p ∷ l) (put-new w ps c.1))

  set_at-last : (v w : V) (ps : List (Key × V)) → set_at (ps ++ (k, v) ∷ []) (length ps) w ≡ ps ++ (k, w) ∷ []
  set_at-last v w [] = refl
  set_at-last v w (p ∷ ps) = ap (λ l. p ∷ l) (set_at-last v w ps)

  pub set_at-put-new : (v w : V) (ps : List (Key × V)) → get k ps ≡ None → set_at (put k v ps) (length ps) w ≡ put k w ps
  set_at-put-new v w ps e = ap (λ l. set_at l (length ps) w) (put-new v ps e) ∙ set_at-last v w ps ∙ sym (put-new w ps e)

-- how many pairs there are
pub length-pairs : {V : Type 0} (ks : List (String Global)) (vs : List V) (ps : List (Key × V)) → length vs ≡ length ks → entries_of ks vs ≡ ps → length ps ≡ length vs
length-pairs ks vs ps e is = sym (ap length is) ∙ length-keyed ks vs e

pub value-last : {V : Type 0} (k : Key) (v : V) (ps : List (Key × V)) → slice_get (values_of (ps ++ (k, v) ∷ [])) (length ps) ≡ Some v
value-last k v [] = refl
value-last k v (p ∷ ps) = value-last k v ps

pub same_some : {V : Type 0} (x y d : V) → Some x ≡ Some y → x ≡ y
same_some x y d e = ap (λ o. unwrap_or o d) e

-- what a set of keys returns for a key that it lacks, said of the pairs
pub get-missing : {V : Type 0} (ks : List (String Global)) (vs : List V) (ps : List (Key × V)) (k q : Key) → entries_of ks vs ≡ ps → k ≡ q → None ≡ position (is_key k) ks → get q ps ≡ None
get-missing ks vs ps k q is same gone = ap (λ l. get l ps) (sym same) ∙ sym (ap (get k) is) ∙ get-absent k ks vs (absent_if (is_key k) ks gone)

pub unwrap-map : {V W : Type 0} (h : V → W) (r : Option V) (d : V) → h (unwrap_or r d) ≡ unwrap_or (option_map h r) (h d)
unwrap-map h None d = refl
unwrap-map h (Some x) d = refl

pub on_some_use : {T : Type 0} (r : Option T) (x : T) {P : Type 0} → r ≡ Some x → OnSome r P → P
on_some_use {T} r x {P} e h = let Q : Option T → Type 0 = λ o. OnSome o P in subst Q e h

-- the value that is there, put again, changes nothing
pub put-same : {V : Type 0} (k : Key) (v : V) (ps : List (Key × V)) → get k ps ≡ Some v → put k v ps ≡ ps
put-same k v [] e = absurd (cc)
put-same {V} k v (p ∷ ps) e = by (bytes_eq k p.0) e (put-same k v ps)
  where
    by : (b : Bool) → cond b (Some p.1) (get k ps) ≡ Some v → (get k ps ≡ Some v → put k v ps ≡ ps) → cond b ((p.0, v) ∷ ps) (p ∷ put k v ps) ≡ p ∷ ps
    by true e later = let same : v ≡ p.1 = cc in ap (λ w. (p.0, w) ∷ ps) same
    by false e later = ap (λ l. p ∷ l) (later e)

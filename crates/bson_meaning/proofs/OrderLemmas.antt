-- Members with their keys ascending: what is under a key, and that the keys and values determine the members.
use Rattle.std.proofs.Common.{◌≡◌, ℕ, List, Bool, true, false, cond, Option, Some, None, refl, ap, ◌∙◌, sym, subst}
use Rattle.std.specs.Prelude.{bytes_eq, option_map}
use Rattle.std.specs.declared.cmp.Ordering.{Ordering}
use Rattle.std.specs.declared.cmp.Ordering.TheVariants.{Less, Equal, Greater}
use Rattle.std.specs.Ordering.{nat_cmp, match_ordering, ordering_reverse}
use Rattle.std.specs.Cmp.Lexicographic.{slice_cmp}
use Rattle.std.specs.FinMap.{slice_cmp-IsAntisymmetric, nat_cmp-IsAntisymmetric}
use Rattle.std.proofs.lemmas.Cmp.{nat_list_cmp_total, tied_itself}
use Rattle.bson_meaning.specs.Forms.{norm, norm_members, place, asc, asc_members}
use Rattle.bson_meaning.specs.declared.scalars.Zeros.{Zeros}
use Rattle.bson_base.specs.Value.{Value, Members, no_members, member, look_up}
use Rattle.bson_base.proofs.MemberLemmas.{equal_keys, twice_asked, either_first, headed}

abbrev pub Order : List ℕ → List ℕ → Ordering
Order = slice_cmp nat_cmp

pub tied : (k l : List ℕ) → Order k l ≡ Equal → k ≡ l
tied = slice_cmp-IsAntisymmetric nat_cmp-IsAntisymmetric

pub itself : (k : List ℕ) → Order k k ≡ Equal
itself = tied_itself nat_list_cmp_total

-- ---- what is under a key

apart_if : (k l : List ℕ) (o : Ordering) → Order k l ≡ o → (o ≡ Equal → ⊥) → (q : List ℕ) → bytes_eq q l ≡ true → bytes_eq q k ≡ true → ⊥
apart_if k l o e h q a b =
    let i : q ≡ l = equal_keys q l a in
    let j : q ≡ k = equal_keys q k b in
    let same : k ≡ l = sym j ∙ i in
    h (sym e ∙ ap (λ m. Order k m) (sym same) ∙ itself k)

pub look_up-place : (q k : List ℕ) (v : Value) (ms : Members) → look_up q (place k v ms) ≡ cond (bytes_eq q k) (Some v) (look_up q ms)
look_up-place q k v no_members = refl
look_up-place q k v (member l w ms) =
    elim (Order k l) as (λ o. Order k l ≡ o → look_up q (match_ordering o (member k v (member l w ms)) (member k v ms) (member l w (place k v ms))) ≡ cond (bytes_eq q k) (Some v) (look_up q (member l w ms))) [
      | Less ↦ λ e. refl
      | Equal ↦ λ e. sym (ap (λ m. cond (bytes_eq q k) (Some v) (cond (bytes_eq q m) (Some w) (look_up q ms))) (sym (tied k l e)) ∙ twice_asked (bytes_eq q k) (Some v) (Some w) (look_up q ms))
      | Greater ↦ λ e. ap (cond (bytes_eq q l) (Some w)) (look_up-place q k v ms) ∙ either_first (bytes_eq q l) (bytes_eq q k) (Some w) (Some v) (look_up q ms) (apart_if k l Greater e (λ x. cc) q)
    ] refl

mapped : (f : Value → Value) (b : Bool) (v : Value) (o : Option Value) → cond b (Some (f v)) (option_map f o) ≡ option_map f (cond b (Some v) o)
mapped f true v o = refl
mapped f false v o = refl

pub look_up-asc : (q : List ℕ) (ms : Members) → look_up q (asc_members ms) ≡ option_map asc (look_up q ms)
look_up-asc q no_members = refl
look_up-asc q (member k v ms) = look_up-place q k (asc v) (asc_members ms) ∙ ap (cond (bytes_eq q k) (Some (asc v))) (look_up-asc q ms) ∙ mapped asc (bytes_eq q k) v (look_up q ms)

module _ (zeros : Zeros) where
  pub look_up-norm : (q : List ℕ) (ms : Members) → look_up q (norm_members zeros ms) ≡ option_map (norm zeros) (look_up q ms)
  look_up-norm q no_members = refl
  look_up-norm q (member k v ms) = ap (cond (bytes_eq q k) (Some (norm zeros v))) (look_up-norm q ms) ∙ mapped (norm zeros) (bytes_eq q k) v (look_up q ms)

-- ---- ascending

abbrev pub AllAbove : List ℕ → Members → Type 0
AllAbove k no_members = Unit {0}
AllAbove k (member l v ms) = (Order k l ≡ Less) × AllAbove k ms

abbrev pub IsAscending : Members → Type 0
IsAscending no_members = Unit {0}
IsAscending (member k v ms) = AllAbove k ms × IsAscending ms

pub above_more : (k l : List ℕ) (ms : Members) → Order k l ≡ Less → AllAbove l ms → AllAbove k ms
above_more k l no_members h a = tt
above_more k l (member m v ms) h a = (nat_list_cmp_total.trans k l m h a.0, above_more k l ms h a.1)

above_place : (q k : List ℕ) (v : Value) (ms : Members) → Order q k ≡ Less → AllAbove q ms → AllAbove q (place k v ms)
above_place q k v no_members h a = (h, tt)
above_place q k v (member l w ms) h a =
    elim (Order k l) as (λ o. AllAbove q (match_ordering o (member k v (member l w ms)) (member k v ms) (member l w (place k v ms)))) [
      | Less ↦ (h, a)
      | Equal ↦ (h, a.1)
      | Greater ↦ (a.0, above_place q k v ms h a.1)
    ]

pub turned : (k l : List ℕ) → Order k l ≡ Greater → Order l k ≡ Less
turned k l e = nat_list_cmp_total.antisymm l k ∙ ap ordering_reverse e

pub ascending_place : (k : List ℕ) (v : Value) (ms : Members) → IsAscending ms → IsAscending (place k v ms)
ascending_place k v no_members a = (tt, tt)
ascending_place k v (member l w ms) a =
    elim (Order k l) as (λ o. Order k l ≡ o → IsAscending (match_ordering o (member k v (member l w ms)) (member k v ms) (member l w (place k v ms)))) [
      | Less ↦ λ e. ((e, above_more k l ms e a.0), a)
      | Equal ↦ λ e. (subst (λ m. AllAbove m ms) (sym (tied k l e)) a.0, a.1)
      | Greater ↦ λ e. (above_place l k v ms (turned k l e) a.0, ascending_place k v ms a.1)
    ] refl

pub ascending_asc : (ms : Members) → IsAscending (asc_members ms)
ascending_asc no_members = tt
ascending_asc (member k v ms) = ascending_place k (asc v) (asc_members ms) (ascending_asc ms)

pub differ : (k l : List ℕ) → Order k l ≡ Less → bytes_eq k l ≡ false
differ k l h = by (bytes_eq k l) refl
  where
    by : (b : Bool) → bytes_eq k l ≡ b → b ≡ false
    by true e = let less : Order k k ≡ Less = ap (Order k) (equal_keys k l e) ∙ h in let equal : Order k k ≡ Equal = itself k in cc
    by false e = refl

pub none_above : (k : List ℕ) (ms : Members) → AllAbove k ms → look_up k ms ≡ None
none_above k no_members a = refl
none_above k (member l v ms) a = ap (λ b. cond b (Some v) (look_up k ms)) (differ k l a.0) ∙ none_above k ms a.1

-- if both heads have one key, what is said of all keys is said of the later ones
behind : (k : List ℕ) (v w : Value) (ms ns : Members) → AllAbove k ms → AllAbove k ns → ((q : List ℕ) → look_up q (member k v ms) ≡ look_up q (member k w ns)) → (q : List ℕ) → look_up q ms ≡ look_up q ns
behind k v w ms ns a b f q = by (bytes_eq q k) refl (f q)
  where
    by : (c : Bool) → bytes_eq q k ≡ c → cond c (Some v) (look_up q ms) ≡ cond c (Some w) (look_up q ns) → look_up q ms ≡ look_up q ns
    by true e h = let i : q ≡ k = equal_keys q k e in subst (λ l. look_up l ms ≡ look_up l ns) (sym i) (none_above k ms a ∙ sym (none_above k ns b))
    by false e h = h

heads : (k : List ℕ) (v w : Value) (ms ns : Members) → ((q : List ℕ) → look_up q (member k v ms) ≡ look_up q (member k w ns)) → v ≡ w
heads k v w ms ns f = let e : Some v ≡ Some w = sym (headed k v ms) ∙ f k ∙ headed k w ns in cc

pub same_members : (ms ns : Members) → IsAscending ms → IsAscending ns → ((q : List ℕ) → look_up q ms ≡ look_up q ns) → ms ≡ ns
same_members no_members no_members a b f = refl
same_members no_members (member l w ns) a b f = let e : None ≡ Some w = f l ∙ headed l w ns in cc
same_members (member k v ms) no_members a b f = let e : Some v ≡ None = sym (headed k v ms) ∙ f k in cc
same_members (member k v ms) (member l w ns) a b f = by (same_members ms ns a.1 b.1) (Order k l) refl
  where
    by : (((q : List ℕ) → look_up q ms ≡ look_up q ns) → ms ≡ ns) → (o : Ordering) → Order k l ≡ o → member k v ms ≡ member l w ns
    by more Less e = let n : Some v ≡ None = sym (headed k v ms) ∙ f k ∙ none_above k (member l w ns) (e, above_more k l ns e b.0) in cc
    by more Greater e = let t = turned k l e in let n : None ≡ Some w = sym (none_above l (member k v ms) (t, above_more l k ms t a.0)) ∙ f l ∙ headed l w ns in cc
    by more Equal e =
        let i : k ≡ l = tied k l e in
        let g = subst (λ m. (q : List ℕ) → look_up q (member k v ms) ≡ look_up q (member m w ns)) (sym i) f in
        let values : v ≡ w = heads k v w ms ns g in
        let rest : ms ≡ ns = more (behind k v w ms ns a.0 (subst (λ m. AllAbove m ns) (sym i) b.0) g) in
        cc

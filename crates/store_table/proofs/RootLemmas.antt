-- The rows of the schema, one after the other.
use Rattle.std.proofs.Common.{◌≡◌, ℕ, ℤ, pos, negsuc, ◌+ℤ◌, ◌-◌, ◌^◌, Bool, true, false, List, [], ◌∷◌, map, ◌++◌, Option, Some, None, IfSome, int_lt, int_cmp, is_lt, refl, sym, ap, ◌∙◌, subst, arith}
use Rattle.std.proofs.lemmas.Int.{ints}
use Rattle.std.proofs.lemmas.Bool.Decides.{nat_tests}
use Rattle.sqlite_pages.specs.PageMap.{PageMap}
use Rattle.sqlite_btree.specs.declared.batch.Batch.{Batch}
use Rattle.sqlite_btree.specs.Chain.{Layout, Entry}
use Rattle.sqlite_btree.specs.Batch.{left_in, taken, IsFilled, TookFirst}
use Rattle.sqlite_btree.specs.Cut.{Each, Ascends, from_cut}
use Rattle.sqlite_btree.specs.Stored.{by_rowid}
use Rattle.sqlite_store.proofs.RowLemmas.{AllFit, from_least}
use Rattle.store_table.specs.Scans.{IsFirst}

-- what a scan and a look-up give
pub first_shown : {X : Type 0} (show : Entry → X) (some : Bool) (all : List X) (layout : Layout) (usable other : ℕ) (pages same : PageMap) (old new : Batch) → same ≡ pages → IsFilled show all layout usable pages old → TookFirst layout other same old new some → IsFirst all (show (taken new)) some
first_shown show true all layout usable other pages same old new is filled took =
    let first = subst (λ p. left_in p old ≡ taken new ∷ left_in p new) is took.0 in
    (map show (left_in pages new) ++ filled.rest, filled.parts ∙ ap (λ l. map show l ++ filled.rest) first)
first_shown show false all layout usable other pages same old new is filled took =
    let none = subst (λ p. left_in p old ≡ []) is took.0 in
    filled.parts ∙ ap (λ l. map show l ++ filled.rest) none ∙ filled.ends none

pub some_then : {X : Type 0} (P : X → Type 0) (o : Option X) (x : X) → o ≡ Some x → IfSome o P → P x
some_then P o x is h = subst (λ z. IfSome z P) is h

pub some_map : {X : Type 0} (P Q : X → Type 0) (o : Option X) → ((x : X) → P x → Q x) → IfSome o P → IfSome o Q
some_map P Q None f h = tt
some_map P Q (Some x) f h = f x h

abbrev pub Raw : Type 0
Raw = ℤ × List ℕ

abbrev pub rise : Raw → Raw → Bool
rise a b = int_lt a.0 b.0

below : (a k : ℤ) → int_lt a k ≡ true → is_lt (int_cmp a k) ≡ true
below a k h = grind (arith, ints, nat_tests)

next_below : (a k : ℤ) → k ≡ (a +ℤ pos 1) → is_lt (int_cmp a k) ≡ true
next_below a k h = grind (arith, ints, nat_tests)

next_above : (a b k : ℤ) → k ≡ (a +ℤ pos 1) → int_lt a b ≡ true → is_lt (int_cmp b k) ≡ false
next_above a b k is h = grind (arith, ints, nat_tests)

pub past_next : (a b k : ℤ) → k ≡ (b +ℤ pos 1) → int_lt a b ≡ true → is_lt (int_cmp a k) ≡ true
past_next a b k is h = grind (arith, ints, nat_tests)

all_from : (a k : ℤ) (rows : List Raw) → k ≡ (a +ℤ pos 1) → Each (λ y. int_lt a y.0 ≡ true) rows → from_cut (by_rowid k) rows ≡ rows
all_from a k [] is h = refl
all_from a k (y ∷ rows) is h = rw (next_above a y.0 k is h.0) refl

-- from the next rowid on are the rows behind the first
pub from_next : (x : Raw) (k : ℤ) (rows : List Raw) → k ≡ (x.0 +ℤ pos 1) → Ascends rise (x ∷ rows) → from_cut (by_rowid k) (x ∷ rows) ≡ rows
from_next x k rows is up = rw (next_below x.0 k is) (all_from x.0 k rows is up.0)

pub two_rows : (rows : List Raw) (a b c : Raw) (k l : ℤ) → AllFit rows → Ascends rise rows → IsFirst (from_cut (by_rowid (negsuc (2 ^ 63 - 1))) rows) a true → k ≡ (a.0 +ℤ pos 1)
    → IsFirst (from_cut (by_rowid k) rows) b true → l ≡ (b.0 +ℤ pos 1) → IsFirst (from_cut (by_rowid l) rows) c false → rows ≡ a ∷ b ∷ []
two_rows rows a b c k l fit up first next second after none =
    let one : rows ≡ a ∷ first.0 = sym (from_least rows fit) ∙ first.1 in
    let up1 : Ascends rise (a ∷ first.0) = subst (Ascends rise) one up in
    let two : first.0 ≡ b ∷ second.0 = sym (from_next a k first.0 next up1) ∙ ap (from_cut (by_rowid k)) (sym one) ∙ second.1 in
    let all : rows ≡ a ∷ b ∷ second.0 = one ∙ ap (λ r. a ∷ r) two in
    let up2 : Ascends rise (a ∷ b ∷ second.0) = subst (Ascends rise) all up in
    let dropped : from_cut (by_rowid l) (a ∷ b ∷ second.0) ≡ from_cut (by_rowid l) (b ∷ second.0) = rw (past_next a.0 b.0 l after up2.0.0) refl in
    let end : second.0 ≡ [] = sym (from_next b l second.0 after up2.1) ∙ sym dropped ∙ ap (from_cut (by_rowid l)) (sym all) ∙ none in
    all ∙ ap (λ r. a ∷ b ∷ r) end

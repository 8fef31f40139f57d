-- What devices gave and took, call after call.
use Rattle.std.proofs.Common.{◌≡◌, ◌<◌, ◌∷◌, refl, get_or, ℕ, List, [], ◌++◌, ◌+◌, ◌≤◌, ◌-◌, length, take, drop, ap, subst, ◌∙◌, arith}
use Rattle.std.specs.Prelude.{slice_set}
use Rattle.std.proofs.lemmas.Grind.{common_steps}
use Rattle.std.proofs.Math.Seq.{take-append_seam, take-add, take-suc, drop-cons}
use Rattle.std.proofs.lemmas.List.{take-append-le}
use Rattle.std.proofs.lemmas.Slice.{take-put_mid_below}
use borrow.Rule.Slice.PartMut.{put_mid, post_of}
use lib.Seq.{drop_at, length-take-le}
use Rattle.std.proofs.KnownBytes.{Appends-trans, Consumes-trans}
use Rattle.bson_base.specs.Device.{Supply, Gives}

-- what a source gave in two steps
pub Gives-trans : (a b c : Supply) (bs cs : List ℕ) → Gives a b bs → Gives b c cs → Gives a c (bs ++ cs)
Gives-trans a b c bs cs first second =
    (Appends-trans a.given b.given c.given bs cs first.0 second.0, Consumes-trans a.left b.left c.left bs cs first.1 second.1)

-- the first n of the elements from `at` on
pub take_rest : (xs : List ℕ) (at n : ℕ) → at ≤ length xs → n ≤ length (take (length xs - at) (drop at xs)) → take n (take (length xs - at) (drop at xs)) ≡ take n (drop at xs)
take_rest xs at n h e = grind (arith, common_steps)

pub take_front : (xs ys : List ℕ) (n : ℕ) → length xs ≡ n → take n (xs ++ ys) ≡ xs
take_front xs ys n e = subst (λ m. take m (xs ++ ys) ≡ xs) e (take-append_seam xs ys)

pub drop_drop : (at n : ℕ) (xs : List ℕ) → drop n (drop at xs) ≡ drop (at + n) xs
drop_drop at n xs = grind (arith, common_steps)

-- the first n of the ys, put in the place of k elements from `at` on
pub take_put_mid : (at k n : ℕ) (xs ys : List ℕ) → at ≤ length xs → n ≤ length ys → take (at + n) (put_mid at k xs ys) ≡ take at xs ++ take n ys
take_put_mid at k n xs ys within few =
    take-add at n (put_mid at k xs ys)
    ∙ ap (λ l. l ++ take n (drop at (put_mid at k xs ys))) (take-put_mid_below at k xs ys at (omega arith) within)
    ∙ ap (λ l. take at xs ++ take n l) (drop_at (take at xs) (ys ++ post_of at k xs) at (length-take-le at xs within))
    ∙ ap (λ l. take at xs ++ l) (take-append-le n ys (post_of at k xs) few)

-- one byte written to the front of a buffer
pub take_one : (ys : List ℕ) (x : ℕ) → 0 < length ys → take 1 (slice_set ys 0 x) ≡ x ∷ []
take_one [] x h = absurd (omega arith)
take_one (y ∷ ys) x h = refl

pub take_next : (at : ℕ) (xs : List ℕ) → at < length xs → take (at + 1) xs ≡ take at xs ++ get_or xs at 0 ∷ []
take_next at xs h = grind (arith, common_steps, take-suc)

pub drop_next : (at : ℕ) (xs : List ℕ) → at < length xs → drop at xs ≡ get_or xs at 0 ∷ drop (at + 1) xs
drop_next at xs h = grind (arith, common_steps, drop-cons)

-- Prefixes of bytes that were written in several calls.
use Rattle.std.proofs.Common.{◌≡◌, ◌⊎◌, inl, inr, ℕ, ◌+◌, ◌<◌, ◌≤◌, List, ◌++◌, length, take, take_all, true, false, Option, sym, ◌∙◌, subst, arith}
use Rattle.std.proofs.lemmas.List.{take-append-le}
use Rattle.std.proofs.Math.Seq.{take-append-add, take-append_seam}
use Rattle.std.proofs.Math.Dec.{leb}
use Rattle.std.proofs.lemmas.Bool.Decides.{leb_tells}
use Rattle.std.proofs.KnownBytes.{Appends-trans}
use Rattle.std.specs.Io.KnownBytes.{Appends}
use Rattle.bson_base.specs.Device.{TakesBeginning}

-- a prefix of the first part is a prefix of the whole
pub begun_first : (a b : Option (List ℕ)) (xs ys : List ℕ) → TakesBeginning a b xs → TakesBeginning a b (xs ++ ys)
begun_first a b xs ys (n, begun) = by (leb_tells n (length xs))
  where
    by : ((leb n (length xs) ≡ true) × (n ≤ length xs)) ⊎ ((leb n (length xs) ≡ false) × (length xs < n)) → TakesBeginning a b (xs ++ ys)
    by (inl h) = (n, subst (Appends a b) (sym (take-append-le n xs ys h.1)) begun)
    by (inr h) = (length xs, subst (Appends a b) (take_all n xs (omega (arith, h.1)) ∙ sym (take-append_seam xs ys)) begun)

-- and so is the first part with a prefix of the second
pub begun_after : (a b c : Option (List ℕ)) (xs ys : List ℕ) → Appends a b xs → TakesBeginning b c ys → TakesBeginning a c (xs ++ ys)
begun_after a b c xs ys first (n, begun) =
    (length xs + n, subst (Appends a c) (sym (take-append-add xs ys n)) (Appends-trans a b c xs (take n ys) first begun))

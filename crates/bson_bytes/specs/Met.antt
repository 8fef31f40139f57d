-- The keys of a document that were met so far.
use Rattle.std.specs.Prelude.{◌≡◌, ℕ, false, List, [], ◌∷◌, ◌++◌, length, bytes_eq}
use Rattle.std.specs.Borrow.{Bor}
use Rattle.std.specs.Cmp.Lexicographic.{slice_cmp}
use Rattle.std.specs.List.{list_any}
use Rattle.std.specs.Ordering.{nat_cmp, is_gt}
use Rattle.bson_bytes.specs.declared.keys.MetKeys.{MetKeys}

-- no key is greater than this one by its bytes
abbrev pub AreUpTo : List ℕ → List (Bor (List ℕ)) → Type 0
AreUpTo greatest [] = Unit {0}
AreUpTo greatest (met ∷ keys) = (is_gt (slice_cmp nat_cmp met.now greatest) ≡ false) × AreUpTo greatest keys

-- none of the keys is this one
abbrev pub IsNew : List ℕ → List (Bor (List ℕ)) → Type 0
IsNew key keys = list_any (λ met. bytes_eq met.now key) keys ≡ false

-- these keys were met, in this order; those of them that are kept come after the keys of the documents around
pub record HasMet (met : MetKeys) (outer kept all : List (Bor (List ℕ))) : Type 0 where
  pub bound : AreUpTo met.greatest.now all
  pub start : met.outer ≡ length outer
  pub own : List (Bor (List ℕ))
  pub parts : kept ≡ outer ++ own
  pub whole : met.has_more ≡ false → own ≡ all

-- Pairs whose keys ascend by their bytes, and where a key goes among them.
use Rattle.std.specs.Prelude.{◌≡◌, ℕ, zero, suc, List, [], ◌∷◌, insert, ◌⊎◌}
use Rattle.std.specs.Borrow.{Bor}
use Rattle.std.specs.List.{AllByRecursion}
use Rattle.std.specs.Ordering.{nat_cmp}
use Rattle.std.specs.declared.cmp.Ordering.{Ordering}
use Rattle.std.specs.declared.cmp.Ordering.TheVariants.{Less, Greater}
use Rattle.std.specs.Cmp.Lexicographic.{slice_cmp}

-- the order of the bytes of keys
abbrev pub key_cmp : List ℕ → List ℕ → Ordering
key_cmp = slice_cmp nat_cmp

abbrev pub Ascends : {T : Type 0} → List (Bor (List ℕ) × T) → Type 0
Ascends [] = Unit {0}
Ascends (p ∷ ps) = AllByRecursion (λ q. key_cmp p.0.now q.0.now ≡ Less) ps × Ascends ps

-- the key is greater than the keys before the place, and less than the one at it
abbrev pub GoesAt : {T : Type 0} → List ℕ → ℕ → List (Bor (List ℕ) × T) → Type 0
GoesAt k zero [] = Unit {0}
GoesAt k zero (p ∷ ps) = key_cmp k p.0.now ≡ Less
GoesAt k (suc n) [] = ⊥
GoesAt k (suc n) (p ∷ ps) = (key_cmp k p.0.now ≡ Greater) × GoesAt k n ps

-- one of the pairs has the key
abbrev pub HasKey : {T : Type 0} → List ℕ → List (Bor (List ℕ) × T) → Type 0
HasKey k [] = ⊥
HasKey k (p ∷ ps) = (p.0.now ≡ k) ⊎ HasKey k ps

-- a pair was put where its key goes
abbrev pub IsPutInOrder : {T : Type 0} → Bor (List ℕ) → T → List (Bor (List ℕ) × T) → List (Bor (List ℕ) × T) → Type 0
IsPutInOrder k x old new = Ascends new × (at : ℕ) × GoesAt k.now at old × (new ≡ insert old at (k, x))

-- What an index has the places of documents under.
use Rattle.std.specs.Prelude.{◌≡◌, ◌↔◌, ℕ, ℤ, take, Bool, true, false, Some, Vec, IsSomeAnd, IsTrue}
use Rattle.std.specs.declared.alloc.Global.{Global}
use Rattle.bson_base.specs.Value.{document, Members, value_kind}
use Rattle.bson_base.specs.declared.spec.ElementType.{ElementType}
use Rattle.bson_base.specs.declared.spec.ElementType.TheVariants.{Array, Decimal128}
use Rattle.store_model.specs.Filter.{Path, at}
use Rattle.bson_store.specs.Keys.{KeyAt}
use Rattle.bson_store.specs.Ranked.{AreThese, RankedAt}
use Rattle.bson_store.specs.declared.indexed.marks.Marks.{Marks}

-- the key of a value, its rank and its part, or that the document is wide
pub data Mark : Type 0 where
  under : Vec ℕ Global → Mark
  ranked : ℕ → ℤ → Mark
  wide : Mark

-- values of these kinds can be equal to values of other keys: an array by its items, a decimal by its number
abbrev pub is_wide_kind : ElementType → Bool
is_wide_kind Array = true
is_wide_kind Decimal128 = true
is_wide_kind _ = false

-- the path leads to such a value
abbrev pub LeadsToWide : Members → Path → Type 0
LeadsToWide d p = IsSomeAnd (at (document d) p) (λ v. IsTrue (is_wide_kind (value_kind v)))

-- the way along the path meets one: a beginning of the path, or all of it, leads there
abbrev pub IsWide : Members → Path → Type 0
IsWide d p = (n : ℕ) × LeadsToWide d (take n p)

-- a document has a mark on a path
abbrev pub HasMark : Members → Path → Mark → Type 0
HasMark d p (under k) = KeyAt d p (Some k.items)
HasMark d p (ranked r q) = RankedAt d p r q
HasMark d p wide = IsWide d p

-- the mark is one of these
abbrev pub IsOneOf : Marks → Mark → Type 0
IsOneOf ms (under k) = IsSomeAnd ms.key (λ own. own.items ≡ k.items)
IsOneOf ms (ranked r q) = AreThese ms.ranked r q
IsOneOf ms wide = IsTrue ms.wide

-- these are all marks of a document on a path
abbrev pub AreMarks : Members → Path → Marks → Type 0
AreMarks d p ms = (m : Mark) → HasMark d p m ↔ IsOneOf ms m

-- What clauses see of paths and of bytes.
use Rattle.std.specs.Prelude.{◌≡◌, ◌≤◌, ◌+◌, if◌then◌else◌, ℕ, List, [], ◌∷◌, ◌++◌, length, map, Vec, String, Bool, Option, Some, None, is_some}
use Rattle.std.specs.Borrow.{Bor}
use Rattle.std.specs.declared.alloc.Global.{Global}
use Rattle.bson_base.specs.declared.spec.ElementType.{ElementType}
use Rattle.bson_base.specs.Tags.{tag_byte}
use Rattle.bson_base.specs.Value.{Value, scalar, array, document, scoped_code, members_levels, Members, value_kind}
use Rattle.bson_bytes.specs.Encode.{cstring_of, items_bytes, members_bytes, value_bytes}
use Rattle.store_pipeline.specs.Fields.{fields, items_inside}
use Rattle.store_pipeline.specs.declared.sorted.fields.Fields.{Fields}
use Rattle.store_question.specs.Filters.{path_of}
use Rattle.store_question.specs.Views.{ComeBack}
use Rattle.store_model.specs.Filter.{pairs, Path}

abbrev pub paths_of : List (Vec (String Global) Global) → List Path
paths_of ps = map (λ p. path_of p.items) ps

abbrev pub paths_lent : List (Bor (List (String Global))) → List Path
paths_lent ps = map (λ p. path_of p.now) ps

-- what is left of a document
abbrev pub left_of : Fields → Members → Members
left_of f d = fields f.kept (paths_of f.paths.items) d

-- ---- bytes

-- at most n bytes were appended
pub record Grows (old new : List ℕ) (n : ℕ) : Type 0 where
  pub more : List ℕ
  pub is : new ≡ old ++ more
  pub few : length more ≤ n

-- the bytes of a member, if there is one
abbrev pub member_bytes : List ℕ → Option Value → List ℕ
member_bytes k None = []
member_bytes k (Some v) = tag_byte (value_kind v) ∷ (cstring_of k ++ value_bytes v)

-- they were appended, and b says whether there is one
pub record Appends (k : List ℕ) (o : Option Value) (b : Bool) (old new : List ℕ) : Type 0 where
  pub told : b ≡ is_some o
  pub is : new ≡ old ++ member_bytes k o

-- nothing of what is neither an array nor a document, else the bytes of the elements in it
abbrev pub HasInside : Option (Bor (List ℕ)) → Value → Type 0
HasInside None (array vs) = ⊥
HasInside None (document ms) = ⊥
HasInside None v = Unit {0}
HasInside (Some x) (scalar s) = ⊥
HasInside (Some x) (scoped_code t ms) = ⊥
HasInside (Some x) v = x.now ≡ members_bytes (pairs v)

-- these bytes
abbrev pub Lends : Option (Bor (List ℕ)) → List ℕ → Type 0
Lends None bytes = ⊥
Lends (Some x) bytes = x.now ≡ bytes

-- the elements in a value of this kind, with at most so many levels
pub record HasElements (tag : ElementType) (elements : List ℕ) (v : Value) (n : ℕ) : Type 0 where
  pub kind : tag ≡ value_kind v
  pub written : elements ≡ members_bytes (pairs v)
  pub back : ComeBack (pairs v)
  pub low : members_levels (pairs v) ≤ n

-- the elements of what is left of it
abbrev pub elements_left : Bool → List Path → Value → List ℕ
elements_left kept ps (array vs) = items_bytes 0 (items_inside kept ps vs)
elements_left kept ps (document ms) = members_bytes (fields kept ps ms)
elements_left kept ps v = []

abbrev pub next_place : ℕ → Bool → ℕ
next_place place stays = if stays then place + 1 else place

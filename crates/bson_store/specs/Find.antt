-- Which documents an index finds.
use Rattle.std.specs.Prelude.{◌≡◌, ◌⊎◌, ◌∷◌, [], ℕ, ℤ, List, map, IsTrue, String, Vec, string_bytes}
use Rattle.std.specs.List.{AllByRecursion}
use Rattle.std.specs.declared.alloc.Global.{Global}
use Rattle.bson_base.specs.Value.{Members}
use Rattle.bson_bytes.specs.Encode.{encode}
use Rattle.store_question.specs.Filters.{path_of}
use Rattle.store_model.specs.Filter.{Path}
use Rattle.store_model.specs.State.{IsKept}
use Rattle.bson_store.specs.Lists.{is_among}
use Rattle.bson_store.specs.Marks.{HasMark, Mark, ranked, under, wide}
use Rattle.bson_store.specs.Ranked.{HasRanked}
use Rattle.bson_store.specs.Under.{HasPlace}
use Rattle.bson_store.specs.declared.indexed.index.Index.{Index}
use Rattle.bson_store.specs.declared.indexed.indexes.Indexes.{Indexes}

-- the collection of an index, and the keys of its path, as it has them
abbrev pub coll_of : Index → String Global
coll_of ix = ix.coll

abbrev pub keys_of : Index → Vec (String Global) Global
keys_of ix = ix.path

-- there are no indexes
abbrev pub HasNone : Indexes → Type 0
HasNone ixs = ixs.list.items ≡ []

-- the indexes are the same, with all that they find
abbrev pub AreSame : Indexes → Indexes → Type 0
AreSame old new = new.list.items ≡ old.list.items

-- the index has the place under a mark: under a key, under a rank and a part, or in its list of wide documents
abbrev pub HasUnder : Index → Mark → ℤ → Type 0
HasUnder ix (under k) place = HasPlace ix.places k.items place
HasUnder ix (ranked r q) place = HasRanked ix.ranks r q place
HasUnder ix wide place = IsTrue (is_among place ix.wide.places.items)

-- the place of the document is under each mark that the document has
abbrev pub FindsIn : Index → ℤ → List ℕ → Type 0
FindsIn ix place body = (d : Members) → IsKept d → body ≡ encode d → (m : Mark) → HasMark d (path_of ix.path.items) m → HasUnder ix m place

-- the index finds the document, if it is one of the collection
abbrev pub FindsOf : Index → List ℕ → ℤ → List ℕ → Type 0
FindsOf ix coll place body = string_bytes ix.coll ≡ coll → FindsIn ix place body

-- each index of the collection finds the document
abbrev pub FindEach : List Index → List ℕ → ℤ → List ℕ → Type 0
FindEach ixs coll place body = AllByRecursion (λ (ix : Index). FindsOf ix coll place body) ixs

abbrev pub Finds : Indexes → List ℕ → ℤ → List ℕ → Type 0
Finds ixs coll place body = FindEach ixs.list.items coll place body

-- the place of no document of this body is under a mark that the document has
abbrev pub MissesIn : Index → ℤ → List ℕ → Type 0
MissesIn ix place body = (d : Members) → IsKept d → body ≡ encode d → (m : Mark) → HasMark d (path_of ix.path.items) m → HasUnder ix m place → ⊥

-- each index misses it
abbrev pub MissEach : List Index → ℤ → List ℕ → Type 0
MissEach ixs place body = AllByRecursion (λ (ix : Index). MissesIn ix place body) ixs

abbrev pub Misses : Indexes → ℤ → List ℕ → Type 0
Misses ixs place body = MissEach ixs.list.items place body

-- the place is under a mark of an old body only if that is a mark of the new one, too
abbrev pub RenewsIn : Index → ℤ → List ℕ → List ℕ → Type 0
RenewsIn ix place old body = (d e : Members) → IsKept d → IsKept e → old ≡ encode d → body ≡ encode e → (m : Mark) → HasMark d (path_of ix.path.items) m → HasUnder ix m place → (HasMark e (path_of ix.path.items) m → ⊥) → ⊥

-- the same of each index
abbrev pub RenewEach : List Index → ℤ → List ℕ → List ℕ → Type 0
RenewEach ixs place old body = AllByRecursion (λ (ix : Index). RenewsIn ix place old body) ixs

abbrev pub Renews : Indexes → ℤ → List ℕ → List ℕ → Type 0
Renews ixs place old body = RenewEach ixs.list.items place old body

-- one index for another of the same collection on the same path
abbrev pub IsAsBefore : Index → Index → Type 0
IsAsBefore old new = (new.coll ≡ old.coll) × (new.path ≡ old.path)

-- an index is one of the collection
abbrev pub IsOf : Index → List ℕ → Type 0
IsOf ix coll = string_bytes ix.coll ≡ coll

-- an index is one of the collection, on the path
abbrev pub IsOn : Index → List ℕ → Path → Type 0
IsOn ix coll path = (string_bytes ix.coll ≡ coll) × (path_of ix.path.items ≡ path)

-- one of these is
abbrev pub HasOn : List Index → List ℕ → Path → Type 0
HasOn [] coll path = ⊥
HasOn (ix ∷ ixs) coll path = IsOn ix coll path ⊎ HasOn ixs coll path

abbrev pub Has : Indexes → List ℕ → Path → Type 0
Has ixs coll path = HasOn ixs.list.items coll path

-- which indexes there are, each by its collection and its path
abbrev pub kinds_of : List Index → List (List ℕ × Path)
kinds_of ixs = map (λ (ix : Index). (string_bytes ix.coll, path_of ix.path.items)) ixs

-- the same are there as before
abbrev pub AreAsBefore : Indexes → Indexes → Type 0
AreAsBefore old new = kinds_of new.list.items ≡ kinds_of old.list.items

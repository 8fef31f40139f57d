-- What an index says of a question.
use Rattle.std.specs.Prelude.{◌≡◌, ℕ, ℤ, List, Option, Vec, IfSome, IsTrue, string_bytes}
use Rattle.std.specs.declared.alloc.Global.{Global}
use Rattle.bson_base.specs.Value.{document, Members}
use Rattle.bson_bytes.specs.Encode.{encode}
use Rattle.store_model.specs.Filter.{Filter, Selects}
use Rattle.store_model.specs.State.{IsKept}
use Rattle.bson_store.specs.Find.{FindsIn, Finds}
use Rattle.bson_store.specs.Lists.{Ascends, is_among}
use Rattle.bson_store.specs.declared.indexed.index.Index.{Index}
use Rattle.bson_store.specs.declared.indexed.indexes.Indexes.{Indexes}

-- the filter selects the document
abbrev pub IsSelected : Filter → Members → Type 0
IsSelected f d = Selects f (document d)

-- the place of each document that the index finds and of which P holds is among these
abbrev pub HoldsAll : Index → (Members → Type 0) → List ℤ → Type 0
HoldsAll ix P places = (place : ℤ) (body : List ℕ) (d : Members) → FindsIn ix place body → IsKept d → body ≡ encode d → P d → IsTrue (is_among place places)

-- the same of the documents of a collection that each of its indexes finds
abbrev pub Covers : Indexes → List ℕ → (Members → Type 0) → List ℤ → Type 0
Covers ixs coll P places = (place : ℤ) (body : List ℕ) (d : Members) → Finds ixs coll place body → IsKept d → body ≡ encode d → P d → IsTrue (is_among place places)

-- if there are places, they ascend, and are all of these
abbrev pub IsServed : Index → (Members → Type 0) → Option (Vec ℤ Global) → Type 0
IsServed ix P o = IfSome o (λ v. Ascends v.items × HoldsAll ix P v.items)

-- they are so by an index of the collection
abbrev pub IsBy : Index → List ℕ → (Members → Type 0) → Option (Vec ℤ Global) → Type 0
IsBy ix coll P o = (string_bytes ix.coll ≡ coll) × IsServed ix P o

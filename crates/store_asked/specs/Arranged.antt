-- What is gathered of documents, in an order and of that a part.
use Rattle.std.specs.Prelude.{◌≡◌, ◌+◌, ℕ, Some, Vec}
use Rattle.std.specs.declared.alloc.Global.{Global}
use Rattle.store_model.specs.Reading.{Documents}
use Rattle.store_pipeline.specs.Bodies.{AreBodies, ArrangedBy, keys_of}
use Rattle.store_pipeline.specs.Held.{Holds, top_keys, top_limit}
use Rattle.store_pipeline.specs.declared.sorted.arrangement.Arrangement.{Arrangement}
use Rattle.store_asked.specs.declared.gathering.Gathering.{Gathering}
use Rattle.store_asked.specs.declared.gathering.Held.{Held}
use Rattle.store_asked.specs.declared.gathering.Held.TheVariants as held

-- the bodies are those of what the arrangement makes of the documents
abbrev pub AreArranged : Arrangement → Vec (Vec ℕ Global) Global → Documents → Type 0
AreArranged a bodies ds = (es : Documents) × ArrangedBy a ds es × AreBodies bodies.items es

-- what is held are the first of the documents, as many as are skipped and taken; or all of them
abbrev pub Holding : Arrangement → Held → Documents → Type 0
Holding a (held.First f) ds = (limit : ℕ) × (a.limit ≡ Some limit) × (top_limit f.top ≡ a.skip + limit) × (top_keys f.top ≡ keys_of a.keys.items) × Holds f.top ds
Holding a (held.All w) ds = AreBodies w.bodies.items ds

abbrev pub arrangement_of : Gathering → Arrangement
arrangement_of t = t.arrangement.now

abbrev pub Gathers : Gathering → Gathering → Documents → Type 0
Gathers first t ds = (arrangement_of t ≡ arrangement_of first) × Holding (arrangement_of t) t.held ds

-- how many are skipped and taken
abbrev pub IsLast : Arrangement → ℕ → Type 0
IsLast a n = (limit : ℕ) × (a.limit ≡ Some limit) × (n ≡ a.skip + limit)

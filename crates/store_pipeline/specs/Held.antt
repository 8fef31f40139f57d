-- What is held of a sorted list.
use Rattle.std.specs.Prelude.{◌≡◌, ◌-◌, ℕ, List, Option, Some, None, Vec, take}
use Rattle.std.specs.List.{insert}
use Rattle.std.specs.declared.alloc.Global.{Global}
use Rattle.store_pipeline.specs.Bodies.{AreBodies, keys_of}
use Rattle.bson_base.specs.Value.{Members}
use Rattle.store_pipeline.specs.Order.{Key, Sorts}
use Rattle.store_pipeline.specs.declared.sorted.first.TopN.{TopN}

-- the bodies are those of the first n of ds in the order of the keys
pub record HoldsFirst (ks : List Key) (n : ℕ) (ds : List Members) (bodies : List (Vec ℕ Global)) : Type 0 where
  pub all : List Members
  pub sorts : Sorts ks ds all
  pub are : AreBodies bodies (take n all)

-- the keys of the order, how many are held at most, and their bodies
abbrev pub top_keys : TopN → List Key
top_keys t = keys_of t.keys.now

abbrev pub top_limit : TopN → ℕ
top_limit t = t.limit

abbrev pub top_bodies : TopN → List (Vec ℕ Global)
top_bodies t = t.bodies.items

-- what is held are the first of ds
abbrev pub Holds : TopN → List Members → Type 0
Holds t ds = HoldsFirst (top_keys t) (top_limit t) ds (top_bodies t)

-- a body was put at the place, behind which the last one goes if as many were held as are wanted; or all stay
abbrev pub PutsAt : TopN → List ℕ → Option ℕ → TopN → Type 0
PutsAt old bytes None new = top_bodies new ≡ top_bodies old
PutsAt old bytes (Some place) new = (copy : Vec ℕ Global) × (copy.items ≡ bytes) × (top_bodies new ≡ insert (take (top_limit old - 1) (top_bodies old)) place copy)

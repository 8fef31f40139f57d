-- What follows for each part of a tree from what holds of it.
use Rattle.std.proofs.Common.{ℕ, List}
use Rattle.bson_base.specs.Value.{Scalar, code, Value, scalar, array, document, scoped_code, Items, no_items, item, Members, no_members, member, EachPart, EachItem, EachMember}

module _ (K L : List ℕ → Type 0) (S T : Scalar → Type 0) (f : (k : List ℕ) → K k → L k) (g : (s : Scalar) → S s → T s) where
  mutual
    pub each_part : (v : Value) → EachPart K S v → EachPart L T v
    each_part (scalar s) h = g s h
    each_part (array vs) h = each_item vs h
    each_part (document ms) h = each_member ms h
    each_part (scoped_code t ms) h = (g (code t) h.0, each_member ms h.1)

    each_item : (vs : Items) → EachItem K S vs → EachItem L T vs
    each_item no_items h = tt
    each_item (item v vs) h = (each_part v h.0, each_item vs h.1)

    pub each_member : (ms : Members) → EachMember K S ms → EachMember L T ms
    each_member no_members h = tt
    each_member (member k v ms) h = (f k h.0, each_part v h.1, each_member ms h.2)

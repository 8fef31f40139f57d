-- The places under a key.
use Rattle.std.specs.Prelude.{ℕ, ℤ, List, [], ◌∷◌, Option, None, Some, Vec, IsTrue}
use Rattle.std.specs.Cmp.Lexicographic.{slice_cmp}
use Rattle.std.specs.Ordering.{nat_cmp}
use Rattle.std.specs.declared.alloc.Global.{Global}
use Rattle.std.specs.BTreeMap.{BTreeMap, get_by}
use Rattle.bson_store.specs.Lists.{is_among}
use Rattle.bson_store.specs.declared.indexed.place_list.PlaceList.{PlaceList}
use Rattle.bson_store.specs.declared.indexed.place_list.PlaceList.TheVariants.{One, Many}
use Rattle.bson_store.specs.declared.indexed.places.Places.{Places}

abbrev pub places_of : Option PlaceList → List ℤ
places_of None = []
places_of (Some (One p)) = p ∷ []
places_of (Some (Many l)) = l.places.items

abbrev pub list_under : BTreeMap (Vec ℕ Global) PlaceList → List ℕ → List ℤ
list_under m k = places_of (get_by (λ (v : Vec ℕ Global). slice_cmp nat_cmp k v.items) m)

abbrev pub places_under : Places → List ℕ → List ℤ
places_under ps k = list_under ps.lists k

-- the place is under the key
abbrev pub HasPlace : Places → List ℕ → ℤ → Type 0
HasPlace ps k p = IsTrue (is_among p (places_under ps k))

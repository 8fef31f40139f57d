-- The index of a list of keys: their places, ascending by the bytes of the keys.
use Rattle.std.specs.Prelude.{◌≡◌, ℕ, ◌+◌, ◌<◌, ◌≤◌, ◌^◌, ◌-◌, List, [], ◌∷◌, map, length, Bool, cond, Option, Some, None, String, string_bytes, bytes_eq, nat_lt, slice_get}
use Rattle.std.specs.List.{position, insert}
use Rattle.std.specs.Map.{keys_of, values_of}
use Rattle.std.specs.FinMap.Entries.{put as place, find}
use Rattle.std.specs.declared.alloc.Global.{Global}
use Rattle.bson_pairs.specs.Keyed.{Key}
use Rattle.bson_pairs.specs.Ascending.{key_cmp, ascending}

-- each key beside its place, the first one at n
abbrev pub numbered_from : ℕ → List Key → List (Key × ℕ)
numbered_from n [] = []
numbered_from n (k ∷ ks) = (k, n) ∷ numbered_from (n + 1) ks

-- the keys beside their places, ascending by the keys
abbrev pub index_of : List Key → List (Key × ℕ)
index_of ks = ascending (numbered_from 0 ks)

-- the places of the keys, ascending by the keys
abbrev pub places_of : List Key → List ℕ
places_of ks = values_of (index_of ks)

-- whether the text is k
abbrev pub is_key : Key → String Global → Bool
is_key k s = bytes_eq k (string_bytes s)

-- the place of a key in a list of pairs, if it is there
abbrev pub place_of : {V : Type 0} → Key → List (Key × V) → Option ℕ
place_of k ps = position (bytes_eq k) (keys_of ps)

-- c is at most the number of binary digits of n, which is the least d with n < 2 ^ d
abbrev pub AtMostDigits : ℕ → ℕ → Type 0
AtMostDigits c n = (d : ℕ) → n < 2 ^ d → c ≤ d

-- k is at j in the index of these keys
abbrev pub IsIndexedAt : Key → ℕ → List Key → Type 0
IsIndexedAt k j ks = (i : ℕ) × (slice_get (index_of ks) j ≡ Some (k, i))

-- k isn't among these keys, and would be at j in their index
abbrev pub GoesAt : Key → ℕ → List Key → Type 0
GoesAt k j ks = (j ≤ length (index_of ks)) × (find key_cmp k (index_of ks) ≡ None) × ((n : ℕ) → place key_cmp k n (index_of ks) ≡ insert (index_of ks) j (k, n))

-- a place, after the one at p was taken out
abbrev pub place_without : ℕ → ℕ → ℕ
place_without p i = cond (nat_lt p i) (i - 1) i

abbrev pub with_first : {A : Type 0} → Option A → List A → List A
with_first None xs = xs
with_first (Some x) xs = x ∷ xs

-- the elements at those of these places that are in the list
abbrev pub pick : {A : Type 0} → List A → List ℕ → List A
pick xs [] = []
pick xs (i ∷ is) = with_first (slice_get xs i) (pick xs is)

-- the entries of a tree of places, each text by its bytes
abbrev pub seen_places : List (String Global × ℕ) → List (Key × ℕ)
seen_places = map (λ e. (string_bytes e.0, e.1))

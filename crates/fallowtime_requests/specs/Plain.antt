-- Which paths a command line takes. In others a path is likely to be meant as something else: as an order (`price:desc`,
-- `-price`), as JSON, or as one behind a comma and a space.
use Rattle.std.specs.Prelude.{ℕ, List, [], ◌∷◌, length, Bool, false, not, ◌&&◌, ◌||◌, ◌==◌, Option}
use Rattle.std.specs.List.{list_all, list_any}
use Rattle.store_model.specs.Filter.{Path}
use Rattle.store_pipeline.specs.Order.{Key}
use Rattle.fallowtime_requests.specs.Fields.{paths_given}

-- a space, a double quote, a colon or a brace
abbrev pub is_odd : ℕ → Bool
is_odd b = (b == 0x20) || (b == 0x22) || (b == 0x3A) || (b == 0x7B) || (b == 0x7D)

-- a hyphen or a plus
abbrev pub is_sign : ℕ → Bool
is_sign b = (b == 0x2D) || (b == 0x2B)

-- a key isn't empty, and none of its bytes is odd
abbrev pub is_plain_key : List ℕ → Bool
is_plain_key k = not (length k == 0) && not (list_any is_odd k)

abbrev pub begins_signed : List ℕ → Bool
begins_signed [] = false
begins_signed (b ∷ bs) = is_sign b

-- a path of such keys that doesn't begin with a sign
abbrev pub is_plain : Path → Bool
is_plain [] = false
is_plain (k ∷ ks) = not (begins_signed k) && list_all is_plain_key (k ∷ ks)

abbrev pub are_plain : List Path → Bool
are_plain ps = list_all is_plain ps

-- of the keys of an order the paths, without `:1` and `:-1`
abbrev pub is_plainly : Key → Bool
is_plainly k = is_plain k.path

abbrev pub are_plainly : List Key → Bool
are_plainly ks = list_all is_plainly ks

-- the texts of `--fields` and `--without` have such paths alone
abbrev pub have_plain_paths : Option (List ℕ) → Option (List ℕ) → Bool
have_plain_paths fields without = are_plain (paths_given fields) && are_plain (paths_given without)

-- Paths as a text: `name,address.city`, and which of them can name fields (MongoDB, Project Fields to Return).
use Rattle.std.specs.Prelude.{◌≡◌, ℕ, List, [], ◌∷◌, map, Bool, true, false, not, ◌&&◌, ◌==◌}
use Rattle.std.specs.List.{list_all, list_any, slice_split}
use Rattle.std.specs.Str.{bytes_eq}
use Rattle.store_pipeline.specs.declared.sorted.error.PathsError.{PathsError}
use Rattle.store_pipeline.specs.declared.sorted.error.PathsError.TheVariants as why
use Rattle.store_pipeline.specs.Fields.{is_begun}
use Rattle.store_model.specs.Filter.{Path}
use Rattle.store_model.specs.State.{id_key}
use Rattle.store_pipeline.specs.Texts.{path_in}

-- one after the other, with a comma between them
abbrev pub paths_in : List ℕ → List Path
paths_in t = map path_in (slice_split (λ b. b == 0x2C) t)

-- a key isn't empty and doesn't begin with `$`
abbrev pub is_key : List ℕ → Bool
is_key [] = false
is_key (c ∷ cs) = not (c == 0x24)

abbrev pub have_keys : List Path → Bool
have_keys ps = list_all (list_all is_key) ps

-- one of two paths is the beginning of the other
abbrev pub meets : Path → Path → Bool
meets [] q = true
meets (k ∷ p) [] = true
meets (k ∷ p) (l ∷ q) = bytes_eq k l && meets p q

-- no two of them meet
abbrev pub lie_apart : List Path → Bool
lie_apart [] = true
lie_apart (p ∷ ps) = not (list_any (meets p) ps) && lie_apart ps

-- paths that can name fields
pub record AreNames (ps : List Path) : Type 0 where
  pub keys : have_keys ps ≡ true
  pub apart : lie_apart ps ≡ true

-- why they can't
abbrev pub AreNoNames : List Path → PathsError → Type 0
AreNoNames ps why.Key = have_keys ps ≡ false
AreNoNames ps why.Collision = (have_keys ps ≡ true) × (lie_apart ps ≡ false)
AreNoNames ps _ = ⊥

-- for this reason, or out of memory
abbrev pub OrMemory : (PathsError → Type 0) → PathsError → Type 0
OrMemory P why.Memory = Unit {0}
OrMemory P e = P e

-- ---- some that are kept and some that are left out

-- the path of the `_id`, and no other
abbrev pub is_id : List Path → Bool
is_id ((k ∷ []) ∷ []) = bytes_eq id_key k
is_id _ = false

-- no more than the `_id` is left out, which isn't kept
pub record CanMix (ps qs : List Path) : Type 0 where
  pub id : is_id qs ≡ true
  pub apart : is_begun id_key ps ≡ false

abbrev pub CannotMix : List Path → List Path → PathsError → Type 0
CannotMix ps qs why.Mixed = is_id qs ≡ false
CannotMix ps qs why.Collision = (is_id qs ≡ true) × (is_begun id_key ps ≡ true)
CannotMix ps qs _ = ⊥

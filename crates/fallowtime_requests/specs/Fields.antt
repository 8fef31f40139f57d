-- Which fields of documents `find` returns, as words and as JSON say it.
use Rattle.std.specs.Prelude.{◌≡◌, ◌≢◌, ℕ, List, [], ◌∷◌, ◌++◌, codes, Bool, true, false, not, if◌then◌else◌, Option, Some, None, option_and_then}
use Rattle.std.specs.Str.{bytes_eq}
use Rattle.json.specs.Json.{Json, Members, no_members, member}
use Rattle.json.specs.Json as json
use Rattle.bson_base.specs.Value.{Members as Document}
use Rattle.store_pipeline.specs.Fields.{fields_alone, kept_fields, other_fields}
use Rattle.store_pipeline.specs.FieldTexts.{AreNames, CanMix, paths_in}
use Rattle.store_pipeline.specs.Views.{left_of, paths_of}
use Rattle.store_pipeline.specs.declared.sorted.fields.Fields.{Fields}
use Rattle.store_model.specs.Filter.{Path}
use Rattle.store_pipeline.specs.Texts.{path_in}
use Rattle.fallowtime_requests.specs.declared.fields.Named.{Named}

-- what is left of a document by these fields, or all of it
abbrev pub left_by : Option Fields → Document → Document
left_by None d = d
left_by (Some f) d = left_of f d

-- what is left where paths name the fields that are kept, and those that are left out
abbrev pub left_where : List Path → List Path → Document → Document
left_where [] [] d = d
left_where [] (q ∷ qs) d = other_fields (q ∷ qs) d
left_where (p ∷ ps) [] d = kept_fields (p ∷ ps) d
left_where (p ∷ ps) (q ∷ qs) d = fields_alone (p ∷ ps) d

-- if fields are kept, no more than the `_id` is left out
abbrev pub GoTogether : List Path → List Path → Type 0
GoTogether [] qs = Unit {0}
GoTogether (p ∷ ps) [] = Unit {0}
GoTogether (p ∷ ps) (q ∷ qs) = CanMix (p ∷ ps) (q ∷ qs)

-- the paths can name fields, beside each other
pub record CanName (ps qs : List Path) : Type 0 where
  pub kept : AreNames ps
  pub left_out : AreNames qs
  pub together : GoTogether ps qs

-- the fields leave of each document what the paths say
abbrev pub IsWhere : List Path → List Path → Option Fields → Type 0
IsWhere ps qs f = (d : Document) → left_by f d ≡ left_where ps qs d

-- there are no fields where no path is named, as all stay
abbrev pub AreNone : List Path → List Path → Option Fields → Type 0
AreNone [] [] f = f ≡ None
AreNone ps qs f = f ≢ None

-- ---- words

abbrev pub paths_given : Option (List ℕ) → List Path
paths_given None = []
paths_given (Some text) = paths_in text

-- the texts of `--fields` and `--without` ask for these fields
abbrev pub IsOfTexts : Option (List ℕ) → Option (List ℕ) → Option Fields → Type 0
IsOfTexts fields without f = IsWhere (paths_given fields) (paths_given without) f × CanName (paths_given fields) (paths_given without)

-- their paths can't name fields
abbrev pub TextsNameNone : Option (List ℕ) → Option (List ℕ) → Type 0
TextsNameNone fields without = CanName (paths_given fields) (paths_given without) → ⊥

-- ---- JSON

-- whether the field at a path is kept: 1 and true say that it is, 0 and false that it is left out
abbrev pub stays_in : Json → Option Bool
stays_in (json.boolean b) = Some b
stays_in (json.number t) = if bytes_eq t (codes "1") then Some true else if bytes_eq t (codes "0") then Some false else None
stays_in j = None

-- paths that are kept, and paths that are left out
pub record Marked : Type 0 where
  pub kept : List Path
  pub left_out : List Path

abbrev pub none_marked : Marked
none_marked = record { kept = []; left_out = [] }

abbrev pub with_path : Bool → Path → List Path → List Path
with_path false p ps = ps
with_path true p ps = ps ++ p ∷ []

abbrev pub marked_too : Marked → Path → Bool → Marked
marked_too m p stays = record { kept = with_path stays p m.kept; left_out = with_path (not stays) p m.left_out }

-- these, and behind them the path of each member, in their order
abbrev pub marked_behind : Marked → Members → Option Marked
marked_behind m no_members = Some m
marked_behind m (member name j ms) = option_and_then (λ stays. marked_behind (marked_too m (path_in name) stays) ms) (stays_in j)

abbrev pub marked_under : Json → Option Marked
marked_under (json.object ms) = marked_behind none_marked ms
marked_under j = None

-- an object asks for these fields
abbrev pub FieldsAre : Json → Option Fields → Type 0
FieldsAre j f = (m : Marked) × (marked_under j ≡ Some m) × CanName m.kept m.left_out × IsWhere m.kept m.left_out f × AreNone m.kept m.left_out f

-- it is no object of paths that can name fields
abbrev pub NamesNone : Json → Type 0
NamesNone j = (m : Marked) → marked_under j ≡ Some m → CanName m.kept m.left_out → ⊥

abbrev pub marked_of : Named → Marked
marked_of n = record { kept = paths_of n.kept.items; left_out = paths_of n.left_out.items }

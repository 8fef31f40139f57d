-- What a document is taken apart into (MongoDB, $unwind).
use Rattle.std.specs.Prelude.{[], ◌∷◌, map, Bool, not, ◌||◌, if◌then◌else◌, Option, Some, None, Result, Ok, Err}
use Rattle.bson_base.specs.Value.{Value, array, document, Items, no_items, item, Members}
use Rattle.store_model.specs.Reading.{Documents}
use Rattle.store_update.specs.Arrays.{values}
use Rattle.store_update.specs.Plan.{Path, path_of}
use Rattle.store_update.specs.Update.{altered, found}
use Rattle.store_update.specs.declared.error.UpdateError.{UpdateError}
use Rattle.store_pipeline.specs.Groups.{is_null}
use Rattle.store_pipeline.specs.declared.stage.Unwinding.{Unwinding}

-- what a path leads to through documents alone
abbrev pub found_in : Result (Option Value) UpdateError → Option Value
found_in (Ok o) = o
found_in (Err e) = None

-- the document as it was changed, if it could be
abbrev pub or_same : Members → Result Members UpdateError → Members
or_same d (Ok e) = e
or_same d (Err e) = d

-- the document with this value at the path, or with none there
abbrev pub with_at : Path → Members → Option Value → Members
with_at p d o = or_same d (altered (λ old. Ok o) p d)

abbrev pub if_kept : Bool → Members → Documents
if_kept keeps d = if keeps then d ∷ [] else []

-- a document for each item; without one, that without the array
abbrev pub opened_array : Bool → Path → Members → Items → Documents
opened_array keeps p d no_items = if_kept keeps (with_at p d None)
opened_array keeps p d (item v vs) = map (λ w. with_at p d (Some w)) (values (item v vs))

-- a value that is no array leaves the document as it is
abbrev pub opened : Bool → Path → Members → Option Value → Documents
opened keeps p d None = if_kept keeps d
opened keeps p d (Some (array vs)) = opened_array keeps p d vs
opened keeps p d (Some v) = if_kept (not (is_null v) || keeps) d

abbrev pub unwound : Unwinding → Members → Documents
unwound u d = opened u.keeps (path_of u.path.items) d (found_in (found (path_of u.path.items) (Some (document d))))

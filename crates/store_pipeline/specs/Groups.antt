-- What is made of groups of documents (MongoDB, $group).
use Rattle.std.specs.Prelude.{◌≡◌, pos, ◌+ℤ◌, List, [], ◌∷◌, length, map, Bool, true, false, not, Option, Some, None, unwrap_or, string_bytes, Result, Ok}
use Rattle.std.specs.List.{filter, filter_map}
use Rattle.std.specs.Float.{binary64}
use Rattle.std.specs.Float.Ieee.{add}
use Rattle.std.specs.Ordering.{eq_by_cmp}
use Rattle.bson_base.specs.Value.{Value, scalar, null, undefined, int32, array, Members, no_members, member, put}
use Rattle.bson_model.specs.View.{items_of}
use Rattle.bson_order.specs.Order.{order}
use Rattle.store_pipeline.specs.Once.{IsEachOnce}
use Rattle.store_model.specs.Reading.{Documents}
use Rattle.store_model.specs.State.{id_key}
use Rattle.store_pipeline.specs.Order.{best}
use Rattle.store_update.specs.Arrays.{with_each}
use Rattle.store_update.specs.Number.{computed, divided, is_number, onward}
use Rattle.store_update.specs.declared.error.UpdateError.{UpdateError}
use Rattle.store_pipeline.specs.Operands.{key_in, taken}
use Rattle.store_pipeline.specs.declared.stage.Accumulated.{Accumulated}
use Rattle.store_pipeline.specs.declared.stage.Accumulator.{Accumulator}
use Rattle.store_pipeline.specs.declared.stage.Accumulator.TheVariants as accumulator
use Rattle.store_pipeline.specs.declared.stage.Grouping.{Grouping}
use Rattle.store_pipeline.specs.declared.stage.Operand.{Operand}

-- ---- the values of a group

-- the value of a document; of the first and the last one what is absent is null, else it isn't there
abbrev pub given : Accumulator → Option Value → Option Value
given a (Some v) = Some v
given accumulator.First None = Some (scalar null)
given accumulator.Last None = Some (scalar null)
given a None = None

-- null, or undefined, which stands for it
abbrev pub is_null : Value → Bool
is_null (scalar null) = true
is_null (scalar undefined) = true
is_null v = false

-- one after the other, as an update adds numbers
abbrev pub sum_from : Value → List Value → Result Value UpdateError
sum_from v [] = Ok v
sum_from v (w ∷ ws) = onward (computed (λ x y. x +ℤ y) (add binary64) v w) (λ s. sum_from s ws)

abbrev pub sum_of : List Value → Result Value UpdateError
sum_of vs = sum_from (scalar (int32 (pos 0))) vs

-- the sum by the number of its terms
abbrev pub average_of : List Value → Result Value UpdateError
average_of [] = Ok (scalar null)
average_of (v ∷ vs) = onward (sum_of (v ∷ vs)) (divided (length (v ∷ vs)))

-- the least of the values, or the greatest, null aside
abbrev pub best_of : Bool → List Value → Value
best_of greatest vs = unwrap_or (best greatest None (filter (λ v. not (is_null v)) vs)) (scalar null)

abbrev pub first_of : List Value → Value
first_of [] = scalar null
first_of (v ∷ vs) = v

abbrev pub last_of : List Value → Value
last_of [] = scalar null
last_of (v ∷ []) = v
last_of (v ∷ w ∷ vs) = last_of (w ∷ vs)

abbrev pub accumulated : Accumulator → List Value → Result Value UpdateError
accumulated accumulator.Sum vs = sum_of (filter is_number vs)
accumulated accumulator.Average vs = average_of (filter is_number vs)
accumulated accumulator.Least vs = Ok (best_of false vs)
accumulated accumulator.Greatest vs = Ok (best_of true vs)
accumulated accumulator.First vs = Ok (first_of vs)
accumulated accumulator.Last vs = Ok (last_of vs)
accumulated accumulator.Push vs = Ok (array (items_of vs))
accumulated accumulator.Include vs = Ok (array (items_of (with_each vs [])))

-- ---- groups

-- the values that documents have for a field
abbrev pub values_for : Accumulated → Documents → List Value
values_for f ds = filter_map (λ d. given f.accumulator (taken f.operand d)) ds

-- one after the other, behind the members that are there
abbrev pub with_fields : List Accumulated → Documents → Members → Result Members UpdateError
with_fields [] ds ms = Ok ms
with_fields (f ∷ fs) ds ms = onward (accumulated f.accumulator (values_for f ds)) (λ v. with_fields fs ds (put (string_bytes f.name) v ms))

-- those of the documents whose keys are equal to this one, in their order
abbrev pub of_key : Operand → Value → Documents → Documents
of_key o k ds = filter (λ d. eq_by_cmp order k (key_in o d)) ds

abbrev pub group_of : Grouping → Documents → Value → Result Members UpdateError
group_of g ds k = with_fields g.fields.items (of_key g.key k ds) (member id_key k no_members)

abbrev pub groups_of : Grouping → Documents → List Value → Result Documents UpdateError
groups_of g ds [] = Ok []
groups_of g ds (k ∷ ks) = onward (group_of g ds k) (λ e. onward (groups_of g ds ks) (λ es. Ok (e ∷ es)))

-- one document for each different key, in the order of values; of equal keys the first one counts
abbrev pub AreGroups : Grouping → Documents → Result Documents UpdateError → Type 0
AreGroups g ds r = (keys : List Value) × IsEachOnce order (map (key_in g.key) ds) keys × (r ≡ groups_of g ds keys)

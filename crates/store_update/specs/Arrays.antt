-- Arrays that get items and lose them.
use Rattle.std.specs.Prelude.{ℕ, ◌-◌, Bool, not, List, [], ◌∷◌, ◌++◌, take, drop, length, if◌then◌else◌, nat_lt, Option, Some, None}
use Rattle.std.specs.List.{filter, list_any}
use Rattle.std.specs.Ordering.{is_eq}
use Rattle.bson_base.specs.Value.{Value, Items, no_items, item}
use Rattle.bson_order.specs.Order.{order}
use Rattle.store_update.specs.declared.operation.End.{End}
use Rattle.store_update.specs.declared.operation.End.TheVariants.{First, Last}
use Rattle.store_update.specs.declared.operation.Place.{Place}
use Rattle.store_update.specs.declared.operation.Place.TheVariants.{FromFirst, FromLast}

-- the values of an array
abbrev pub values : Items → List Value
values no_items = []
values (item v vs) = v ∷ values vs

-- how many of some items are before a place
abbrev pub place_in : Place → ℕ → ℕ
place_in (FromFirst n) count = if nat_lt n count then n else count
place_in (FromLast n) count = count - n

-- new items at a place among the old ones
abbrev pub put_at : Place → List Value → List Value → List Value
put_at p new old = take (place_in p (length old)) old ++ (new ++ drop (place_in p (length old)) old)

-- the first items, or the last ones
abbrev pub part : Place → List Value → List Value
part (FromFirst n) vs = take n vs
part (FromLast n) vs = drop (length vs - n) vs

abbrev pub cut : Option Place → List Value → List Value
cut None vs = vs
cut (Some p) vs = part p vs

-- the items without the one at an end
abbrev pub popped : End → List Value → List Value
popped First vs = drop 1 vs
popped Last vs = take (length vs - 1) vs

-- one of the values is equal to this one
abbrev pub has : List Value → Value → Bool
has vs w = list_any (λ v. is_eq (order v w)) vs

abbrev pub with_one : Value → List Value → List Value
with_one w vs = if has vs w then vs else vs ++ w ∷ []

-- the values with each of the others that isn't among them yet
abbrev pub with_each : List Value → List Value → List Value
with_each [] vs = vs
with_each (w ∷ ws) vs = with_each ws (with_one w vs)

-- the values without those that are equal to one of the others
abbrev pub without_each : List Value → List Value → List Value
without_each ws vs = filter (λ v. not (has ws v)) vs

-- What an update makes of a document.
use Rattle.std.specs.Prelude.{◌≡◌, ◌⊎◌, ℕ, pos, ◌+ℤ◌, ◌*ℤ◌, List, [], ◌∷◌, Bool, true, false, if◌then◌else◌, Option, Some, None, is_none, not, ◌&&◌, ◌||◌, Result, Ok, Err, bytes_eq}
use Rattle.std.specs.Float.{binary64}
use Rattle.std.specs.Float.Ieee.{add, mul}
use Rattle.std.specs.Ordering.{is_lt, is_gt}
use Rattle.bson_base.specs.Value.{Value, scalar, int32, array, document, Items, no_items, Members, no_members, member, look_up, put, without}
use Rattle.bson_model.specs.View.{items_of}
use Rattle.bson_order.specs.Order.{order}
use Rattle.store_update.specs.Arrays.{cut, popped, put_at, values, with_each, without_each}
use Rattle.store_update.specs.Number.{computed, onward}
use Rattle.store_update.specs.Plan.{Change, sets, sets_on_insert, unsets, adds, multiplies, least_with, greatest_with, pushes, includes, excludes, pops, Path, Plan, changes, renames}
use Rattle.store_update.specs.declared.error.UpdateError.{UpdateError}
use Rattle.store_update.specs.declared.error.UpdateError.TheVariants.{Memory, Id, Through, NotAnArray}
use Rattle.store_update.specs.declared.operation.End.{End}
use Rattle.store_update.specs.declared.operation.Place.{Place}

-- ---- the value at the end of the path

abbrev pub some : Result Value UpdateError → Result (Option Value) UpdateError
some r = onward r (λ v. Ok (Some v))

-- a number that isn't there is 0
abbrev pub or_zero : Option Value → Value
or_zero None = scalar (int32 (pos 0))
or_zero (Some v) = v

-- the value, or the one that is there, if it isn't greater; and if it isn't less
abbrev pub lesser : Value → Option Value → Value
lesser v None = v
lesser v (Some w) = if is_lt (order v w) then v else w

abbrev pub greater : Value → Option Value → Value
greater v None = v
greater v (Some w) = if is_gt (order v w) then v else w

-- the items of an array after a push: the new ones at their place, and as many as are kept
abbrev pub with_pushed : List Value → Place → Option Place → Items → Items
with_pushed new place slice vs = items_of (cut slice (put_at place new (values vs)))

abbrev pub with_included : List Value → Items → Items
with_included new vs = items_of (with_each new (values vs))

abbrev pub without_excluded : List Value → Items → Items
without_excluded ws vs = items_of (without_each ws (values vs))

abbrev pub without_end : End → Items → Items
without_end e vs = items_of (popped e (values vs))

-- an array that gets items; one that isn't there is empty
abbrev pub filled : (Items → Items) → Option Value → Result Value UpdateError
filled f None = Ok (array (f no_items))
filled f (Some (array vs)) = Ok (array (f vs))
filled f (Some _) = Err NotAnArray

-- an array that loses items; one that isn't there stays so
abbrev pub thinned : (Items → Items) → Option Value → Result (Option Value) UpdateError
thinned f None = Ok None
thinned f (Some (array vs)) = Ok (Some (array (f vs)))
thinned f (Some _) = Err NotAnArray

-- what becomes of a value, or of none
abbrev pub made : Change → Option Value → Result (Option Value) UpdateError
made (sets v) old = Ok (Some v)
made (sets_on_insert v) old = Ok (Some v)
made unsets old = Ok None
made (adds v) old = some (computed (λ x y. x +ℤ y) (add binary64) (or_zero old) v)
made (multiplies v) old = some (computed (λ x y. x *ℤ y) (mul binary64) (or_zero old) v)
made (least_with v) old = Ok (Some (lesser v old))
made (greatest_with v) old = Ok (Some (greater v old))
made (pushes new place slice) old = some (filled (with_pushed new place slice) old)
made (includes new) old = some (filled (with_included new) old)
made (excludes ws) old = thinned (without_excluded ws) old
made (pops e) old = thinned (without_end e) old

-- ---- along the path

-- a value under a key: in the key's place, or last; or none there
abbrev pub settled : List ℕ → Option Value → Members → Members
settled k (Some v) ms = put k v ms
settled k None ms = without k ms

-- what is in a member, as a document; nothing, if there is no member
abbrev pub inside : Option Value → Result Members UpdateError
inside None = Ok no_members
inside (Some (document d)) = Ok d
inside (Some _) = Err Through

abbrev pub has_members : Members → Bool
has_members no_members = false
has_members (member k v ms) = true

-- a document that wasn't there doesn't come if it is empty
abbrev pub settled_inside : List ℕ → Option Value → Members → Members → Members
settled_inside k old d ms = if is_none old && not (has_members d) then ms else put k (document d) ms

-- the document in which the value at the path has become what f makes of it
abbrev pub altered : (Option Value → Result (Option Value) UpdateError) → Path → Members → Result Members UpdateError
altered f [] ms = Err Id
altered f (k ∷ []) ms = onward (f (look_up k ms)) (λ new. Ok (settled k new ms))
altered f (k ∷ l ∷ ks) ms = onward (inside (look_up k ms)) (λ d. onward (altered f (l ∷ ks) d) (λ e. Ok (settled_inside k (look_up k ms) e ms)))

-- the value that the rest of a path leads to
abbrev pub found : Path → Option Value → Result (Option Value) UpdateError
found [] o = Ok o
found (k ∷ ks) None = Ok None
found (k ∷ ks) (Some (document ms)) = found ks (look_up k ms)
found (k ∷ ks) (Some _) = Err Through

-- the value is taken out at the path and put at the other one; if there is none, nothing is done
abbrev pub moved : Path → Path → Option Value → Members → Result Members UpdateError
moved path to None ms = Ok ms
moved path to (Some v) ms = onward (altered (λ old. Ok None) path ms) (altered (λ old. Ok (Some v)) to)

-- ---- one step after the other

-- `_id`
abbrev pub id_key : List ℕ
id_key = 0x5F ∷ 0x69 ∷ 0x64 ∷ []

abbrev pub is_of_id : Path → Bool
is_of_id [] = true
is_of_id (k ∷ ks) = bytes_eq k id_key

-- a change that is for a document that is inserted, if that isn't so
abbrev pub is_left_out : Bool → Change → Bool
is_left_out inserts (sets_on_insert v) = not inserts
is_left_out inserts _ = false

abbrev pub changed : Bool → Path → Change → Members → Result Members UpdateError
changed inserts path c ms = if is_of_id path then Err Id else if is_left_out inserts c then Ok ms else altered (made c) path ms

abbrev pub renamed : Path → Path → Members → Result Members UpdateError
renamed [] to ms = Err Id
renamed (k ∷ ks) to ms = if is_of_id (k ∷ ks) || is_of_id to then Err Id else onward (found ks (look_up k ms)) (λ o. moved (k ∷ ks) to o ms)

abbrev pub step_made : Bool → Plan → Members → Result Members UpdateError
step_made inserts (changes path c) ms = changed inserts path c ms
step_made inserts (renames path to) ms = renamed path to ms

-- what the update makes of a document, which it inserts or finds there
abbrev pub updated : Bool → List Plan → Members → Result Members UpdateError
updated inserts [] ms = Ok ms
updated inserts (p ∷ plans) ms = onward (step_made inserts p ms) (updated inserts plans)

-- ---- what is returned

-- as the definition says, or memory ran out
abbrev pub Tells : {A : Type 0} → Result A UpdateError → Result A UpdateError → Type 0
Tells says (Ok a) = says ≡ Ok a
Tells says (Err e) = (says ≡ Err e) ⊎ (e ≡ Memory)

-- A document without a reserved key below its top has a text.
use Rattle.std.proofs.Common.{◌≡◌, ◌≤◌, ◌<◌, ◌-◌, ◌+◌, ℕ, zero, suc, Bool, true, false, ◌||◌, List, refl, subst, sym, arith}
use Rattle.bson_base.specs.Value.{Value, scalar, array, document, scoped_code, Items, no_items, item, Members, no_members, member, levels, items_levels, members_levels, HasDistinctKeys, ItemsHaveDistinctKeys, MembersHaveDistinctKeys}
use Rattle.bson_meaning.specs.JsonReserved.{some_reserved, reserved_in, reserved_in_items, has_reserved}
use Rattle.bson_model.specs.JsonWrite.{holds_finite, items_hold_finite, members_hold_finite}
use Rattle.bson_model.specs.declared.extjson.ser.Mode.{Mode}
use Rattle.bson_json.specs.Straight.{IfUnseen, IsStraight, ItemsAreStraight, MembersAreStraight, IsStraightAtTop}
use Rattle.bson_json.specs.declared.style.Style.TheVariants.{Stored, Full}
use Rattle.bson_json.specs.declared.unwritten.Unwritten.{Unwritten}
use Rattle.bson_json.specs.declared.unwritten.Unwritten.TheVariants.{Unseen}

neither : (a b : Bool) → (a || b) ≡ false → (a ≡ false) × (b ≡ false)
neither false b none = (refl, none)
neither true b none = absurd (cc)

-- ---- with all doubles

mutual
  full : (m : Mode) (n : ℕ) (v : Value) → reserved_in v ≡ false → levels v ≤ n → IsStraight (Full m) n v
  full m n (scalar s) free low = tt
  full m n (array vs) free low = (omega (arith, low), full_items m (n - 1) vs free (omega (arith, low)))
  full m n (document ms) free low =
      let both = neither (some_reserved ms) (has_reserved ms) free in
      (both.0, omega (arith, low), full_members m (n - 1) ms both.1 (omega (arith, low)))
  full m n (scoped_code t ms) free low = (omega (arith, low), full_members m (n - 1) ms free (omega (arith, low)))

  full_items : (m : Mode) (n : ℕ) (vs : Items) → reserved_in_items vs ≡ false → items_levels vs ≤ n → ItemsAreStraight (Full m) n vs
  full_items m n no_items free low = tt
  full_items m n (item v vs) free low =
      let both = neither (reserved_in v) (reserved_in_items vs) free in
      (full m n v both.0 (omega (arith, low)), full_items m n vs both.1 (omega (arith, low)))

  full_members : (m : Mode) (n : ℕ) (ms : Members) → has_reserved ms ≡ false → members_levels ms ≤ n → MembersAreStraight (Full m) n ms
  full_members m n no_members free low = tt
  full_members m n (member k v ms) free low =
      let both = neither (reserved_in v) (has_reserved ms) free in
      (full m n v both.0 (omega (arith, low)), full_members m n ms both.1 (omega (arith, low)), tt)

pub full_at_top : (m : Mode) (n : ℕ) (ms : Members) → has_reserved ms ≡ false → members_levels ms ≤ n → IsStraightAtTop (Full m) (n + 1) ms
full_at_top m n ms free low = (omega arith, full_members m (n + 1 - 1) ms free (omega (arith, low)))

-- ---- as a store prints them

mutual
  stored : (n : ℕ) (v : Value) → reserved_in v ≡ false → holds_finite v ≡ false → HasDistinctKeys v → levels v ≤ n → IsStraight Stored n v
  stored n (scalar s) free other once low = other
  stored n (array vs) free other once low = (omega (arith, low), stored_items (n - 1) vs free other once (omega (arith, low)))
  stored n (document ms) free other once low =
      let both = neither (some_reserved ms) (has_reserved ms) free in
      (both.0, omega (arith, low), stored_members (n - 1) ms both.1 other once (omega (arith, low)))
  stored n (scoped_code t ms) free other once low = (omega (arith, low), stored_members (n - 1) ms free other once (omega (arith, low)))

  stored_items : (n : ℕ) (vs : Items) → reserved_in_items vs ≡ false → items_hold_finite vs ≡ false → ItemsHaveDistinctKeys vs → items_levels vs ≤ n → ItemsAreStraight Stored n vs
  stored_items n no_items free other once low = tt
  stored_items n (item v vs) free other once low =
      let both = neither (reserved_in v) (reserved_in_items vs) free in
      let none = neither (holds_finite v) (items_hold_finite vs) other in
      (stored n v both.0 none.0 once.0 (omega (arith, low)), stored_items n vs both.1 none.1 once.1 (omega (arith, low)))

  stored_members : (n : ℕ) (ms : Members) → has_reserved ms ≡ false → members_hold_finite ms ≡ false → MembersHaveDistinctKeys ms → members_levels ms ≤ n → MembersAreStraight Stored n ms
  stored_members n no_members free other once low = tt
  stored_members n (member k v ms) free other once low =
      let both = neither (reserved_in v) (has_reserved ms) free in
      let none = neither (holds_finite v) (members_hold_finite ms) other in
      (stored n v both.0 none.0 once.1 (omega (arith, low)), stored_members n ms both.1 none.1 once.2 (omega (arith, low)), once.0)

pub stored_at_top : (n : ℕ) (ms : Members) → has_reserved ms ≡ false → members_hold_finite ms ≡ false → MembersHaveDistinctKeys ms → members_levels ms ≤ n → IsStraightAtTop Stored (n + 1) ms
stored_at_top n ms free other once low = (omega arith, stored_members (n + 1 - 1) ms free other once (omega (arith, low)))

-- ---- a refusal

pub at_unseen : {P : Type 0} (e : Unwritten) → e ≡ Unseen → IfUnseen P e → P
at_unseen {P} e is h = subst (λ x. IfUnseen P x) is h

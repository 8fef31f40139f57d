-- A value has a tree exactly if there is no finite double in it other than the zeros.
use Rattle.std.proofs.Common.{◌≡◌, ℕ, List, ◌++◌, Bool, true, false, Option, Some, None, refl, ◌∙◌}
use Rattle.std.specs.Prelude.{if◌then◌else◌, not, ◌||◌, is_some, option_map, option_and_then, codes}
use Rattle.serde_json.specs.Data as json
use Rattle.serde_json.specs.Data.{Data}
use Rattle.bson_base.specs.Decimal.{minus_if}
use Rattle.bson_base.specs.Doubles.{is_nan, is_infinite, is_zero, is_negative}
use Rattle.bson_base.specs.Value.{Scalar, double, Value, scalar, array, document, scoped_code, Items, no_items, item, Members, no_members, member}
use Rattle.bson_model.specs.JsonWrite.{double_text, holds_finite, is_finite_and_not_zero, items_hold_finite, members_hold_finite, scalar_is_finite, with_scope, write, write_items, write_members, write_scalar}
use Rattle.bson_model.specs.declared.extjson.ser.Mode.{Mode}
use Rattle.bson_model.proofs.ViewLemmas.{is_some-map}

text_there : (a b c : Bool) (s t u : List ℕ) → is_some (if a then Some s else if b then Some t else if c then Some u else None) ≡ not (not (a || b || c))
text_there true b c s t u = refl
text_there false true c s t u = refl
text_there false false true s t u = refl
text_there false false false s t u = refl

double_there : (n : ℕ) → is_some (double_text n) ≡ not (is_finite_and_not_zero n)
double_there n = text_there (is_nan n) (is_infinite n) (is_zero n) (minus_if (is_negative n) ++ codes "NaN") (minus_if (is_negative n) ++ codes "Infinity") (codes "0.0")

scalar_there : (m : Mode) (s : Scalar) → is_some (write_scalar m s) ≡ not (scalar_is_finite s)
scalar_there m (double n) = is_some-map _ (double_text n) ∙ double_there n
scalar_there m _ = refl

item_there : (j : Option Data) (o : Option json.Items) (a b : Bool) → is_some j ≡ not a → is_some o ≡ not b → is_some (option_and_then (λ d. option_map (json.item d) o) j) ≡ not (a || b)
item_there (Some j) (Some js) false false e f = refl
item_there (Some j) (Some js) true b e f = cc
item_there (Some j) (Some js) false true e f = cc
item_there (Some j) None false true e f = refl
item_there (Some j) None true b e f = cc
item_there (Some j) None false false e f = cc
item_there None o true b e f = refl
item_there None o false b e f = cc

member_there : (j : Option Data) (more : Data → Option json.Members) (a b : Bool) → is_some j ≡ not a → ((d : Data) → is_some (more d) ≡ not b) → is_some (option_and_then more j) ≡ not (a || b)
member_there (Some d) more false b e f = f d
member_there (Some d) more true b e f = cc
member_there None more true b e f = refl
member_there None more false b e f = cc

mutual
  pub is_written : (m : Mode) (v : Value) → is_some (write m v) ≡ not (holds_finite v)
  is_written m (scalar s) = scalar_there m s
  is_written m (array vs) = is_some-map json.array (write_items m vs) ∙ items_written m vs
  is_written m (document ms) = is_some-map json.object (write_members m ms json.no_members) ∙ members_written m ms json.no_members
  is_written m (scoped_code t ms) = is_some-map (with_scope t) (write_members m ms json.no_members) ∙ members_written m ms json.no_members

  items_written : (m : Mode) (vs : Items) → is_some (write_items m vs) ≡ not (items_hold_finite vs)
  items_written m no_items = refl
  items_written m (item v vs) = item_there (write m v) (write_items m vs) (holds_finite v) (items_hold_finite vs) (is_written m v) (items_written m vs)

  members_written : (m : Mode) (ms : Members) (found : json.Members) → is_some (write_members m ms found) ≡ not (members_hold_finite ms)
  members_written m no_members found = refl
  members_written m (member k v ms) found =
      member_there (write m v) _ (holds_finite v) (members_hold_finite ms) (is_written m v) (λ j. members_written m ms (json.put k j found))

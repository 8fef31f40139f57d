-- An object of options, taken apart.
use Rattle.std.proofs.Common.{◌≡◌, ◌≤◌, ℕ, Bool, List, [], ◌∷◌, Bor, Option, None, Vec, length, refl, ap, sym, ◌∙◌, arith, rules}
use Rattle.std.specs.declared.alloc.Global.{Global}
use Rattle.json.specs.Json.{object}
use Rattle.json.specs.Value.{members_view, value_view}
use Rattle.json.specs.declared.value.Value.{Value as Tree, Object, the_lemmas}
use Rattle.fallowtime_requests.specs.Inputs.{flag_among, flag_of}

abbrev pub Entry : Type 0
Entry = Bor (List ℕ) × Tree Global

-- several members are no options
pub several : (name : List ℕ) (ms : List Entry) → 2 ≤ length ms → None ≡ flag_among name (members_view ms)
several name [] two = absurd (omega (arith, two))
several name (m ∷ []) two = absurd (omega (arith, two))
several name (m ∷ n ∷ ms) two = refl

pub object_seen : (v : Tree Global) (ms : Vec Entry Global) (shown : List Entry) → v ≡ Object ms → shown ≡ ms.items → value_view v ≡ object (members_view shown)
object_seen v ms shown h k = rw (h, k) (search (rules, the_lemmas))

pub of_object : (name : List ℕ) (v : Tree Global) (ms : Vec Entry Global) (shown : List Entry) (found : Option Bool) → v ≡ Object ms → shown ≡ ms.items → found ≡ flag_among name (members_view shown) → found ≡ flag_of name (value_view v)
of_object name v ms shown found is all h = h ∙ ap (λ j. flag_of name j) (sym (object_seen v ms shown is all))

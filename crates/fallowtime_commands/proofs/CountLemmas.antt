-- Objects with another number of members.
use Rattle.std.proofs.Common.{◌≡◌, ℕ, List, [], ◌∷◌, length, Bor, None, refl}
use Rattle.std.specs.declared.alloc.Global.{Global}
use Rattle.json.specs.Value.{members_view}
use Rattle.json.specs.declared.value.Value.{Value}
use Rattle.fallowtime_commands.specs.Questions.{do_beside_id}

pub no_parts : (ms : List (Bor (List ℕ) × Value Global)) → (length ms ≡ 2 → ⊥) → None ≡ do_beside_id (members_view ms)
no_parts [] h = refl
no_parts (m ∷ []) h = refl
no_parts (m ∷ n ∷ []) h = absurd (h refl)
no_parts (m ∷ n ∷ o ∷ ms) h = refl

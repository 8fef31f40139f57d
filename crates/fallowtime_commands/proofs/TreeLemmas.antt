-- Trees of JSON as what they are taken apart into.
use Rattle.std.proofs.Common.{◌≡◌, ℕ, List, Bor, Some, None, Vec, Option, option_map, unwrap_or, refl, ap, subst, sym, ◌∙◌, rules}
use Rattle.std.specs.declared.alloc.Global.{Global}
use Rattle.json.specs.Json.{Json, object}
use Rattle.json.specs.Value.{members_view, value_view}
use Rattle.json.specs.declared.value.Value.{Value as Tree, Object, the_lemmas}
use Rattle.fallowtime_commands.specs.Questions.{command_in, command_or, do_beside_id, id_after, id_of}

abbrev pub Entry : Type 0
Entry = Bor (List ℕ) × Tree Global

object_seen : (v : Tree Global) (ms : Vec Entry Global) (shown : List Entry) → v ≡ Object ms → shown ≡ ms.items → value_view v ≡ object (members_view shown)
object_seen v ms shown h k = rw (h, k) (search (rules, the_lemmas))

module _ (v : Tree Global) (ms : Vec Entry Global) (shown : List Entry) (is : v ≡ Object ms) (all : shown ≡ ms.items) where
  pub id_found : id_after None (members_view shown) ≡ id_of (value_view v)
  id_found = ap id_of (sym (object_seen v ms shown is all))

  pub command_found : (d : Option Json) → d ≡ do_beside_id (members_view shown) → command_or (value_view v) d ≡ command_in (value_view v)
  command_found d found =
      ap (command_or (value_view v)) found
      ∙ subst (λ j. command_or j (do_beside_id (members_view shown)) ≡ command_in j) (sym (object_seen v ms shown is all)) refl

-- the value under `do`, if it was found, and all of the tree if not
pub command_chosen : (found : Option (Bor (Tree Global))) (tree : Bor (Tree Global))
    → value_view (unwrap_or found tree).now ≡ command_or (value_view tree.now) (option_map (λ (v : Bor (Tree Global)). value_view v.now) found)
command_chosen (Some v) tree = refl
command_chosen None tree = refl

-- The command of a name.
use Rattle.std.proofs.Common.{◌≡◌, ◌↔◌, ℕ, List, [], ◌∷◌, Option, Some, Bool, true, false, if◌then◌else◌, refl, sym, ◌∙◌, ap}
use Rattle.std.specs.Str.{bytes_eq}
use Rattle.std.proofs.lemmas.Slice.Eq.{bytes_eq-Decides}
use Rattle.fallowtime_words.specs.Commands.{command_name, command_of, commands, first_named}
use Rattle.fallowtime_words.specs.declared.command.Command.{Command}
use Rattle.fallowtime_words.proofs.SingleLemmas.{command_is}

named_by : (c d : Command) (cs : List Command) (name : List ℕ) (b : Bool) → bytes_eq (command_name c) name ≡ b → (first_named cs name ≡ Some d → command_name d ≡ name)
    → (if b then Some c else first_named cs name) ≡ Some d → command_name d ≡ name
named_by c d cs name true is more e = let same : c ≡ d = cc in sym (ap command_name same) ∙ (bytes_eq-Decides (command_name c) name).0 is
named_by c d cs name false is more e = more e

first_has_name : (cs : List Command) (name : List ℕ) (d : Command) → first_named cs name ≡ Some d → command_name d ≡ name
first_has_name [] name d e = cc
first_has_name (c ∷ cs) name d e = named_by c d cs name (bytes_eq (command_name c) name) refl (first_has_name cs name d) e

has_name : (name : List ℕ) (d : Command) → command_of name ≡ Some d → command_name d ≡ name
unfolding command_of
has_name name d e = first_has_name commands name d e

pub names : (name : List ℕ) (r : Option Command) → r ≡ command_of name → (c : Command) → (command_name c ≡ name) ↔ (r ≡ Some c)
names name r e c = (λ n. e ∙ (sym (ap command_of n) ∙ command_is c), λ is. has_name name c (sym e ∙ is))

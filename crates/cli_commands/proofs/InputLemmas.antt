-- Which calls leave the input.
use Rattle.std.proofs.Common.{◌≡◌, refl, sym, subst}
use Rattle.cli_commands.specs.declared.call.Call.{Call}
use Rattle.cli_commands.specs.declared.call.Call.TheVariants.{Import, Load}
use Rattle.cli_commands.specs.Commands.{Spares}

pub spares_same : {A : Type 0} (call : Call) (x : A) → Spares call x x
spares_same Import x = tt
spares_same Load x = tt
spares_same _ x = refl

pub spares_import : {A : Type 0} (call : Call) (x y : A) → call ≡ Import → Spares call x y
spares_import call x y is = subst (λ c. Spares c x y) (sym is) tt

pub spares_load : {A : Type 0} (call : Call) (x y : A) → call ≡ Load → Spares call x y
spares_load call x y is = subst (λ c. Spares c x y) (sym is) tt

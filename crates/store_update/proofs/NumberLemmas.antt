-- Sums and products.
use Rattle.std.proofs.Common.{◌≡◌, ℤ, Bool, ◌&&◌, Result, Ok, refl, ◌∙◌, ap, sym}
use Rattle.std.specs.Float.{Float}
use Rattle.bson_base.specs.Value.{Value}
use Rattle.store_update.specs.Number.{computed, is_narrow, number_of, together}
use Rattle.store_update.specs.declared.error.UpdateError.{UpdateError}
use Rattle.store_update.specs.declared.numbers.Number.{Number}

pub computed_is : (op : ℤ → ℤ → ℤ) (near : Float → Float → Float) (v w : Value) (x y : Number) (b : Bool) (r : Result Value UpdateError) → Ok x ≡ number_of v → Ok y ≡ number_of w → b ≡ (is_narrow v && is_narrow w) → r ≡ together op near b x y → r ≡ computed op near v w
computed_is op near v w x y b r one other narrow is = rw (sym one, sym other, sym narrow) is

-- What values meant before: the two zeros of a double were two values.
use Rattle.std.specs.Prelude.{ℕ, List}
use Rattle.bson_base.specs.Value.{Value, Members}
use Rattle.bson_meaning.specs.Forms as form
use Rattle.bson_meaning.specs.declared.scalars.Zeros.TheVariants.{Apart}

abbrev pub norm_members_in_order : Members → Members
norm_members_in_order ms = form.norm_members_in_order Apart ms

abbrev pub key : Members → List ℕ
key d = form.key Apart d

abbrev pub Same : Value → Value → Type 0
Same v w = form.Same Apart v w

-- What values mean: the two zeros of a double are one.
pub use Rattle.bson_meaning.specs.Forms.{normal_decimal, place, asc, asc_items, asc_members}
use Rattle.std.specs.Prelude.{ℕ, List, Option}
use Rattle.bson_base.specs.Value.{Scalar, Value, Items, Members}
use Rattle.bson_meaning.specs.Forms as form
use Rattle.bson_meaning.specs.declared.scalars.Zeros.TheVariants.{Joined}

abbrev pub normal_scalar : Scalar → Scalar
normal_scalar s = form.normal_scalar Joined s

abbrev pub norm : Value → Value
norm v = form.norm Joined v

abbrev pub norm_items : Items → Items
norm_items vs = form.norm_items Joined vs

abbrev pub norm_members : Members → Members
norm_members ms = form.norm_members Joined ms

-- the normal form, with the keys of every document and scope in ascending order
abbrev pub norm_in_order : Value → Value
norm_in_order v = form.norm_in_order Joined v

abbrev pub norm_items_in_order : Items → Items
norm_items_in_order vs = form.norm_items_in_order Joined vs

abbrev pub norm_members_in_order : Members → Members
norm_members_in_order ms = form.norm_members_in_order Joined ms

-- the key of a document: the bytes of its normal form with the keys in order
abbrev pub key : Members → List ℕ
key d = form.key Joined d

-- documents as maps at every depth, and scalars by their normal forms
abbrev pub Same : Value → Value → Type 0
Same v w = form.Same Joined v w

abbrev pub SameItems : Items → Items → Type 0
SameItems vs ws = form.SameItems Joined vs ws

abbrev pub SameUnder : Members → Members → Type 0
SameUnder ms ns = form.SameUnder Joined ms ns

abbrev pub SameOption : Option Value → Option Value → Type 0
SameOption o p = form.SameOption Joined o p

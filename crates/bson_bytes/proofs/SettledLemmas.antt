-- A tree with distinct keys and ascending options stays as it is.
use Rattle.std.proofs.Common.{◌≡◌, ℕ, ◌^◌, ◌<◌, List, Option, None, unwrap_or, refl, sym, ap, ◌∙◌, arith, subst}
use Rattle.std.specs.Prelude.{IsUtf8}
use Rattle.bson_base.specs.Kinds.{HasNo00, IsRangedScalar, IsClean, IsSound}
use Rattle.bson_base.specs.Value.{Scalar, regex, Value, scalar, array, document, scoped_code, Items, no_items, item, Members, no_members, member, look_up, without, EachPart, EachItem, EachMember, HasDistinctKeys, ItemsHaveDistinctKeys, MembersHaveDistinctKeys}
use Rattle.bson_base.proofs.OptionsLemmas.{sorted_text-kept}
use Rattle.bson_bytes.specs.Encode.{encode, size, members_bytes}
use Rattle.bson_bytes.specs.Spells.{settle_scalar, settle_value, settle_items, settle, Means, SpellsMembers}
use Rattle.bson_bytes.proofs.ExtentLemmas.{framed_envelope}
use Rattle.bson_bytes.proofs.LengthLemmas.{members_length}
use Rattle.bson_bytes.proofs.SpellingLemmas.{IsCleanPart, spelled_members, framed_inside}
use Rattle.bson_base.proofs.MemberLemmas.{without_absent}

stays_scalar : (s : Scalar) → IsCleanPart s → IsRangedScalar s → settle_scalar s ≡ s
stays_scalar (regex p o) clean ranged = ap (regex p) (sorted_text-kept o ranged.1 clean.1)
stays_scalar _ clean ranged = refl

mutual
  pub stays_value : (v : Value) → EachPart HasNo00 IsCleanPart v → EachPart IsUtf8 IsRangedScalar v → HasDistinctKeys v → settle_value v ≡ v
  stays_value (scalar s) clean ranged once = ap scalar (stays_scalar s clean ranged)
  stays_value (array vs) clean ranged once = ap array (stays_items vs clean ranged once)
  stays_value (document ms) clean ranged once = ap document (stays ms clean ranged once)
  stays_value (scoped_code t ms) clean ranged once = ap (scoped_code t) (stays ms clean.1 ranged.1 once)

  stays_items : (vs : Items) → EachItem HasNo00 IsCleanPart vs → EachItem IsUtf8 IsRangedScalar vs → ItemsHaveDistinctKeys vs → settle_items vs ≡ vs
  stays_items no_items clean ranged once = refl
  stays_items (item v vs) clean ranged once =
      let first = stays_value v clean.0 ranged.0 once.0 in
      let rest = stays_items vs clean.1 ranged.1 once.1 in
      cc

  stays : (ms : Members) → EachMember HasNo00 IsCleanPart ms → EachMember IsUtf8 IsRangedScalar ms → MembersHaveDistinctKeys ms → settle ms ≡ ms
  stays no_members clean ranged once = refl
  stays (member k v ms) clean ranged once =
      let rest = stays ms clean.2 ranged.2 once.2 in
      let none : look_up k (settle ms) ≡ None = ap (look_up k) rest ∙ once.0 in
      ap (λ (o : Option Value). member k (unwrap_or o (settle_value v)) (without k (settle ms))) none
      ∙ ap (λ (w : Value). member k w (without k (settle ms))) (stays_value v clean.1 ranged.1 once.1)
      ∙ ap (λ (ns : Members). member k v (without k ns)) rest ∙ ap (member k v) (without_absent k ms once.0)

-- a clean tree comes back from its bytes
pub comes_back : (d : Members) → IsClean (document d) → IsSound (document d) → size d < 2 ^ 31 → Means (encode d) d
comes_back d clean sound h = (
  d,
  framed_envelope (members_bytes d) (omega (arith, h, members_length d)),
  subst (λ (x : List ℕ). SpellsMembers x d) (sym (framed_inside (members_bytes d))) (spelled_members d clean sound.ranged (omega (arith, h))),
  sym (stays d clean sound.ranged sound.distinct),
)

-- What holds of forms whichever way the zeros are taken, said of the meaning that values have now.
use Rattle.std.proofs.Common.{◌≡◌, ◌↔◌, ◌≤◌, ℕ, List, length, Option, option_map}
use Rattle.bson_base.specs.Kinds.{IsClean, IsPlain, IsPlainScalar, IsCleanScalar, IsRangedScalar, IsSound}
use Rattle.bson_base.specs.Value.{Scalar, Value, document, Members, look_up, EachPart, HasDistinctKeys, MembersHaveDistinctKeys}
use Rattle.bson_bytes.specs.Encode.{size}
use Rattle.bson_model.specs.Equal as equality
use Rattle.bson_meaning.specs.declared.scalars.Zeros.TheVariants.{Joined}
use Rattle.bson_meaning.specs.Meaning.{normal_scalar, norm, norm_members, norm_in_order, norm_members_in_order, key, Same}
use Rattle.bson_meaning.proofs.NormalLemmas as forms
use Rattle.bson_meaning.proofs.NormalOrderLemmas as ordered
use Rattle.bson_meaning.proofs.KeyLemmas as law

pub normal_scalar_ranged : (s : Scalar) → IsRangedScalar s → IsRangedScalar (normal_scalar s)
normal_scalar_ranged = forms.normal_scalar_ranged Joined

pub normal_scalar_plain : (s : Scalar) → IsRangedScalar s → IsPlainScalar s → IsPlainScalar (normal_scalar s)
normal_scalar_plain = forms.normal_scalar_plain Joined

pub normal_scalar_clean : (s : Scalar) → IsRangedScalar s → IsCleanScalar (normal_scalar s)
normal_scalar_clean = forms.normal_scalar_clean Joined

pub norm_each : (K L : List ℕ → Type 0) (S T : Scalar → Type 0) → ((k : List ℕ) → K k → L k) → ((s : Scalar) → S s → T (normal_scalar s)) → (v : Value) → EachPart K S v → EachPart L T (norm v)
norm_each = forms.norm_each Joined

pub norm_distinct : (v : Value) → HasDistinctKeys v → HasDistinctKeys (norm v)
norm_distinct = forms.norm_distinct Joined

pub norm_twice : (K : List ℕ → Type 0) (v : Value) → EachPart K IsRangedScalar v → norm (norm v) ≡ norm v
norm_twice = forms.norm_twice Joined

pub look_up-in_order : (q : List ℕ) (ms : Members) → look_up q (norm_members_in_order ms) ≡ option_map norm_in_order (look_up q ms)
look_up-in_order = ordered.look_up-in_order Joined

pub in_order_same : (v w : Value) → Same v w → norm_in_order v ≡ norm_in_order w
in_order_same = ordered.in_order_same Joined

pub same_in_order : (v w : Value) → HasDistinctKeys v → norm_in_order v ≡ norm_in_order w → Same v w
same_in_order = ordered.same_in_order Joined

pub key_law : (d e : Members) → IsPlain (document d) → IsSound (document d) → IsPlain (document e) → IsSound (document e)
    → length (key d) ≤ 2147483647 → length (key e) ≤ 2147483647 → (key d ≡ key e) ↔ Same (document d) (document e)
key_law = law.key_law Joined

pub key_size : (d : Members) → IsClean (document d) → IsSound (document d) → size (norm_members_in_order d) ≡ size d
key_size = law.key_size Joined

pub same_itself : (v : Value) → IsSound v → Same v v
same_itself = law.same_itself Joined

pub same_back : (v w : Value) → IsSound w → Same v w → Same w v
same_back = law.same_back Joined

pub same_on : (u v w : Value) → IsSound u → Same u v → Same v w → Same u w
same_on = law.same_on Joined

pub twice : (v : Value) → IsSound v → norm (norm v) ≡ norm v
twice = law.twice Joined

pub same_norm : (v : Value) → IsSound v → Same (norm v) v
same_norm = law.same_norm Joined

pub equal_same : (v w : Value) → equality.Equal v w → Same v w
equal_same = law.equal_same Joined

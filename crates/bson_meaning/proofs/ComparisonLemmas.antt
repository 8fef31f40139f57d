-- What the comparison of trees is based on: keys of both documents, and kinds whose values all have their normal form.
use Rattle.std.proofs.Common.{◌≡◌, ◌↔◌, ℕ, List, Bool, true, false, cond, Option, Some, None, refl, ap, ◌∙◌, sym}
use Rattle.std.specs.Prelude.{bytes_eq, is_some, IsSomeAnd}
use Rattle.bson_base.specs.Value.{Scalar, double, binary, regex, decimal, scalar_kind, value_kind, Value, scalar, array, document, scoped_code, Members, no_members, member, look_up, has_key}
use Rattle.bson_model.specs.Equal.{SameKeys}
use Rattle.bson_meaning.specs.Forms.{normal_scalar}
use Rattle.bson_meaning.specs.Meaning.{Same, SameUnder}
use Rattle.bson_meaning.specs.declared.scalars.Zeros.{Zeros}
use Rattle.bson_meaning.specs.declared.scalars.Zeros.TheVariants.{Joined}
use Rattle.bson_meaning.specs.Sames.{HasKeysOf}
use Rattle.bson_base.proofs.MemberLemmas.{equal_keys, same_key}

-- ---- keys

has_some : (o : Option Value) (P : Value → Type 0) → IsSomeAnd o P → is_some o ≡ true
has_some None P h = absurd h
has_some (Some v) P h = refl

pub keys_under : (ms ns : Members) → SameUnder ms ns → HasKeysOf ms ns
keys_under no_members ns h = tt
keys_under (member k v ms) ns h = (has_some (look_up k ns) (Same v) h.0, keys_under ms ns h.1)

there : (ms ns : Members) → HasKeysOf ms ns → (q : List ℕ) → has_key q ms ≡ true → has_key q ns ≡ true
there no_members ns h q e = cc
there (member k v ms) ns h q e = by (there ms ns h.1 q) (bytes_eq q k) refl e
  where
    by : (has_key q ms ≡ true → has_key q ns ≡ true) → (b : Bool) → bytes_eq q k ≡ b → is_some (cond b (Some v) (look_up q ms)) ≡ true → has_key q ns ≡ true
    by more true i f = ap (λ l. has_key l ns) (equal_keys q k i) ∙ h.0
    by more false i f = more f

both_ways : (a b : Bool) → (a ≡ true → b ≡ true) → (b ≡ true → a ≡ true) → a ≡ b
both_ways true b f g = sym (f refl)
both_ways false true f g = g refl
both_ways false false f g = refl

own_keys : (ms ns part : Members) → ((q : List ℕ) → has_key q part ≡ true → has_key q ms ≡ true) → SameKeys ms ns → HasKeysOf part ns
own_keys ms ns no_members f same = tt
own_keys ms ns (member k v part) f same = (
  sym (same k) ∙ f k (ap (λ b. is_some (cond b (Some v) (look_up k part))) (same_key k)),
  own_keys ms ns part (λ q e. f q (later q e)) same,
)
  where
    later : (q : List ℕ) → has_key q part ≡ true → has_key q (member k v part) ≡ true
    later q e = elim (bytes_eq q k) as (λ b. is_some (cond b (Some v) (look_up q part)) ≡ true) [ true ↦ refl | false ↦ e ]

-- documents have the same keys if each has those of the other
pub same_documents : (ms ns : Members) → SameUnder ms ns → HasKeysOf ns ms ↔ (SameKeys ms ns × SameUnder ms ns)
same_documents ms ns under = (
  λ h. (λ q. both_ways (has_key q ms) (has_key q ns) (there ms ns (keys_under ms ns under) q) (there ns ms h q), under),
  λ h. own_keys ns ms ns (λ q e. e) (λ q. sym (h.0 q)),
)

-- ---- kinds

module _ (zeros : Zeros) where
  pub kind_kept : (s : Scalar) → scalar_kind (normal_scalar zeros s) ≡ scalar_kind s
  kind_kept (double n) = refl
  kind_kept (regex p o) = refl
  kind_kept (binary s bs) = refl
  kind_kept (decimal bs) = refl
  kind_kept _ = refl

pub same_kind : (v w : Value) → Same v w → value_kind v ≡ value_kind w
same_kind (scalar s) (scalar t) h = sym (kind_kept Joined s) ∙ ap scalar_kind h ∙ kind_kept Joined t
same_kind (array vs) (array ws) h = refl
same_kind (document ms) (document ns) h = refl
same_kind (scoped_code t ms) (scoped_code u ns) h = refl
same_kind _ _ h = absurd h

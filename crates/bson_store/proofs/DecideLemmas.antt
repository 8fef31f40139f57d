-- Whether a filter selects a document is one or the other, so of all documents there are those that it selects.
use Rattle.std.proofs.Common.{◌≡◌, ◌⊎◌, inl, inr, ℕ, ℤ, List, [], ◌∷◌, ◌++◌, Bool, true, false, Option, Some, None, nat_eq, refl, sym, subst, ap, ap₂, true≢false}
use Rattle.std.specs.Bool.{Decides}
use Rattle.std.specs.Cmp.{booleans_Decides}
use Rattle.std.specs.Prelude.{IsSomeAnd, bytes_eq}
use Rattle.std.proofs.lemmas.Bool.Decides.{Decides-eqb, Decides-int_eq}
use Rattle.std.proofs.lemmas.Slice.Eq.{bytes_eq-Decides}
use Rattle.bson_base.specs.Value.{Scalar, double, string, binary, undefined, object_id, boolean, date_time, null, regex, db_pointer, code, symbol, int32, timestamp, int64, decimal, max_key, min_key, Value, scalar, array, document, scoped_code, Items, no_items, item, Members, no_members, member, value_kind, HasDistinctKeys}
use Rattle.bson_base.specs.declared.spec.BinarySubtype.{BinarySubtype}
use Rattle.bson_base.specs.declared.spec.BinarySubtype.TheVariants.{Generic, Function, BinaryOld, UuidOld, Uuid, Md5, Encrypted, Column, Sensitive, Vector, Reserved, UserDefined}
use Rattle.bson_base.specs.declared.spec.ElementType.{ElementType}
use Rattle.bson_base.specs.declared.spec.ElementType.TheVariants as kinds
use Rattle.bson_meaning.specs.Meaning.{norm_in_order, Same}
use Rattle.bson_meaning.proofs.NowLemmas.{in_order_same, same_in_order}
use Rattle.store_model.specs.Filter.{at, Filter, equals, exists, is_of, no, all_of, any_of, Filters, no_filters, filter, Selects, SelectsAll, SelectsAny}
use Rattle.store_model.specs.Reading.{Documents}
use Rattle.store_model.specs.State.{AreKept, Picks}
use Rattle.store_model.proofs.SelectLemmas.{Distinct?, at_distinct}

-- ---- one or the other

-- it is so, or it isn't
abbrev pub Told : Type 0 → Type 0
Told P = P ⊎ (P → ⊥)

pub by_test : {P : Type 0} (b : Bool) → Decides b P → Told P
by_test true d = inl (d.0 refl)
by_test false d = inr (λ p. true≢false (sym (d.1 p)))

like : {P Q : Type 0} → (P → Q) → (Q → P) → Told P → Told Q
like to from (inl p) = inl (to p)
like to from (inr n) = inr (λ q. n (from q))

pub both : {P Q : Type 0} → Told P → Told Q → Told (P × Q)
both (inl p) (inl q) = inl (p, q)
both (inr n) q = inr (λ h. n h.0)
both p (inr n) = inr (λ h. n h.1)

pub either : {P Q : Type 0} → Told P → Told Q → Told (P ⊎ Q)
either (inl p) q = inl (inl p)
either p (inl q) = inl (inr q)
either (inr n) (inr m) = inr (λ h. elim h [ inl p ↦ n p | inr q ↦ m q ])

pub denial : {P : Type 0} → Told P → Told (P → ⊥)
denial (inl p) = inr (λ n. n p)
denial (inr n) = inl n

-- ---- trees

pub nat_told : (a b : ℕ) → Told (a ≡ b)
nat_told a b = by_test (nat_eq a b) (Decides-eqb a b)

int_told : (a b : ℤ) → Told (a ≡ b)
int_told a b = by_test _ (Decides-int_eq a b)

pub bytes_told : (a b : List ℕ) → Told (a ≡ b)
bytes_told a b = by_test (bytes_eq a b) (bytes_eq-Decides a b)

subtype_told : (s t : BinarySubtype) → Told (s ≡ t)
subtype_told Generic Generic = inl refl
subtype_told Generic _ = inr (λ e. cc)
subtype_told Function Function = inl refl
subtype_told Function _ = inr (λ e. cc)
subtype_told BinaryOld BinaryOld = inl refl
subtype_told BinaryOld _ = inr (λ e. cc)
subtype_told UuidOld UuidOld = inl refl
subtype_told UuidOld _ = inr (λ e. cc)
subtype_told Uuid Uuid = inl refl
subtype_told Uuid _ = inr (λ e. cc)
subtype_told Md5 Md5 = inl refl
subtype_told Md5 _ = inr (λ e. cc)
subtype_told Encrypted Encrypted = inl refl
subtype_told Encrypted _ = inr (λ e. cc)
subtype_told Column Column = inl refl
subtype_told Column _ = inr (λ e. cc)
subtype_told Sensitive Sensitive = inl refl
subtype_told Sensitive _ = inr (λ e. cc)
subtype_told Vector Vector = inl refl
subtype_told Vector _ = inr (λ e. cc)
subtype_told (Reserved a) (Reserved b) = like (ap Reserved) (λ e. cc) (nat_told a b)
subtype_told (Reserved a) _ = inr (λ e. cc)
subtype_told (UserDefined a) (UserDefined b) = like (ap UserDefined) (λ e. cc) (nat_told a b)
subtype_told (UserDefined a) _ = inr (λ e. cc)

scalar_told : (s t : Scalar) → Told (s ≡ t)
scalar_told (double a) (double b) = like (ap double) (λ e. cc) (nat_told a b)
scalar_told (double a) _ = inr (λ e. cc)
scalar_told (string a) (string b) = like (ap string) (λ e. cc) (bytes_told a b)
scalar_told (string a) _ = inr (λ e. cc)
scalar_told (binary a x) (binary b y) = like (λ h. ap₂ binary h.0 h.1) (λ e. (cc, cc)) (both (subtype_told a b) (bytes_told x y))
scalar_told (binary a x) _ = inr (λ e. cc)
scalar_told undefined undefined = inl refl
scalar_told undefined _ = inr (λ e. cc)
scalar_told (object_id a) (object_id b) = like (ap object_id) (λ e. cc) (bytes_told a b)
scalar_told (object_id a) _ = inr (λ e. cc)
scalar_told (boolean a) (boolean b) = like (ap boolean) (λ e. cc) (by_test _ (booleans_Decides a b))
scalar_told (boolean a) _ = inr (λ e. cc)
scalar_told (date_time a) (date_time b) = like (ap date_time) (λ e. cc) (int_told a b)
scalar_told (date_time a) _ = inr (λ e. cc)
scalar_told null null = inl refl
scalar_told null _ = inr (λ e. cc)
scalar_told (regex a x) (regex b y) = like (λ h. ap₂ regex h.0 h.1) (λ e. (cc, cc)) (both (bytes_told a b) (bytes_told x y))
scalar_told (regex a x) _ = inr (λ e. cc)
scalar_told (db_pointer a x) (db_pointer b y) = like (λ h. ap₂ db_pointer h.0 h.1) (λ e. (cc, cc)) (both (bytes_told a b) (bytes_told x y))
scalar_told (db_pointer a x) _ = inr (λ e. cc)
scalar_told (code a) (code b) = like (ap code) (λ e. cc) (bytes_told a b)
scalar_told (code a) _ = inr (λ e. cc)
scalar_told (symbol a) (symbol b) = like (ap symbol) (λ e. cc) (bytes_told a b)
scalar_told (symbol a) _ = inr (λ e. cc)
scalar_told (int32 a) (int32 b) = like (ap int32) (λ e. cc) (int_told a b)
scalar_told (int32 a) _ = inr (λ e. cc)
scalar_told (timestamp a x) (timestamp b y) = like (λ h. ap₂ timestamp h.0 h.1) (λ e. (cc, cc)) (both (nat_told a b) (nat_told x y))
scalar_told (timestamp a x) _ = inr (λ e. cc)
scalar_told (int64 a) (int64 b) = like (ap int64) (λ e. cc) (int_told a b)
scalar_told (int64 a) _ = inr (λ e. cc)
scalar_told (decimal a) (decimal b) = like (ap decimal) (λ e. cc) (bytes_told a b)
scalar_told (decimal a) _ = inr (λ e. cc)
scalar_told max_key max_key = inl refl
scalar_told max_key _ = inr (λ e. cc)
scalar_told min_key min_key = inl refl
scalar_told min_key _ = inr (λ e. cc)

mutual
  value_told : (v w : Value) → Told (v ≡ w)
  value_told (scalar s) (scalar t) = like (ap scalar) (λ e. cc) (scalar_told s t)
  value_told (scalar s) _ = inr (λ e. cc)
  value_told (array vs) (array ws) = like (ap array) (λ e. cc) (items_told vs ws)
  value_told (array vs) _ = inr (λ e. cc)
  value_told (document ms) (document ns) = like (ap document) (λ e. cc) (members_told ms ns)
  value_told (document ms) _ = inr (λ e. cc)
  value_told (scoped_code t ms) (scoped_code u ns) = like (λ h. ap₂ scoped_code h.0 h.1) (λ e. (cc, cc)) (both (bytes_told t u) (members_told ms ns))
  value_told (scoped_code t ms) _ = inr (λ e. cc)

  items_told : (vs ws : Items) → Told (vs ≡ ws)
  items_told no_items no_items = inl refl
  items_told no_items (item w ws) = inr (λ e. cc)
  items_told (item v vs) no_items = inr (λ e. cc)
  items_told (item v vs) (item w ws) = like (λ h. ap₂ item h.0 h.1) (λ e. (cc, cc)) (both (value_told v w) (items_told vs ws))

  members_told : (ms ns : Members) → Told (ms ≡ ns)
  members_told no_members no_members = inl refl
  members_told no_members (member l w ns) = inr (λ e. cc)
  members_told (member k v ms) no_members = inr (λ e. cc)
  members_told (member k v ms) (member l w ns) = like (λ h. λ i. member (h.0 i) (h.1.0 i) (h.1.1 i)) (λ e. (cc, (cc, cc))) (both (bytes_told k l) (both (value_told v w) (members_told ms ns)))

same_told : (v w : Value) → HasDistinctKeys v → Told (Same v w)
same_told v w distinct = like (same_in_order v w distinct) (in_order_same v w) (value_told (norm_in_order v) (norm_in_order w))

-- ---- kinds

pub kind_told : (a b : ElementType) → Told (a ≡ b)
kind_told kinds.Double kinds.Double = inl refl
kind_told kinds.Double _ = inr (λ e. cc)
kind_told kinds.String kinds.String = inl refl
kind_told kinds.String _ = inr (λ e. cc)
kind_told kinds.EmbeddedDocument kinds.EmbeddedDocument = inl refl
kind_told kinds.EmbeddedDocument _ = inr (λ e. cc)
kind_told kinds.Array kinds.Array = inl refl
kind_told kinds.Array _ = inr (λ e. cc)
kind_told kinds.Binary kinds.Binary = inl refl
kind_told kinds.Binary _ = inr (λ e. cc)
kind_told kinds.Undefined kinds.Undefined = inl refl
kind_told kinds.Undefined _ = inr (λ e. cc)
kind_told kinds.ObjectId kinds.ObjectId = inl refl
kind_told kinds.ObjectId _ = inr (λ e. cc)
kind_told kinds.Boolean kinds.Boolean = inl refl
kind_told kinds.Boolean _ = inr (λ e. cc)
kind_told kinds.DateTime kinds.DateTime = inl refl
kind_told kinds.DateTime _ = inr (λ e. cc)
kind_told kinds.Null kinds.Null = inl refl
kind_told kinds.Null _ = inr (λ e. cc)
kind_told kinds.RegularExpression kinds.RegularExpression = inl refl
kind_told kinds.RegularExpression _ = inr (λ e. cc)
kind_told kinds.DbPointer kinds.DbPointer = inl refl
kind_told kinds.DbPointer _ = inr (λ e. cc)
kind_told kinds.JavaScriptCode kinds.JavaScriptCode = inl refl
kind_told kinds.JavaScriptCode _ = inr (λ e. cc)
kind_told kinds.Symbol kinds.Symbol = inl refl
kind_told kinds.Symbol _ = inr (λ e. cc)
kind_told kinds.JavaScriptCodeWithScope kinds.JavaScriptCodeWithScope = inl refl
kind_told kinds.JavaScriptCodeWithScope _ = inr (λ e. cc)
kind_told kinds.Int32 kinds.Int32 = inl refl
kind_told kinds.Int32 _ = inr (λ e. cc)
kind_told kinds.Timestamp kinds.Timestamp = inl refl
kind_told kinds.Timestamp _ = inr (λ e. cc)
kind_told kinds.Int64 kinds.Int64 = inl refl
kind_told kinds.Int64 _ = inr (λ e. cc)
kind_told kinds.Decimal128 kinds.Decimal128 = inl refl
kind_told kinds.Decimal128 _ = inr (λ e. cc)
kind_told kinds.MaxKey kinds.MaxKey = inl refl
kind_told kinds.MaxKey _ = inr (λ e. cc)
kind_told kinds.MinKey kinds.MinKey = inl refl
kind_told kinds.MinKey _ = inr (λ e. cc)

-- ---- what is at a path

there_told : (o : Option Value) (P : Value → Type 0) → Distinct? o → ((v : Value) → HasDistinctKeys v → Told (P v)) → Told (IsSomeAnd o P)
there_told None P h tells = inr (λ p. absurd p)
there_told (Some v) P h tells = tells v h

-- ---- filters

mutual
  pub selects_told : (f : Filter) (d : Value) → HasDistinctKeys d → Told (Selects f d)
  selects_told (equals p w) d h = there_told (at d p) (λ v. Same v w) (at_distinct p d h) (λ v k. same_told v w k)
  selects_told (exists p) d h = there_told (at d p) (λ v. Unit {0}) (at_distinct p d h) (λ v k. inl tt)
  selects_told (is_of p k) d h = there_told (at d p) (λ v. value_kind v ≡ k) (at_distinct p d h) (λ v distinct. kind_told (value_kind v) k)
  selects_told (no f) d h = denial (selects_told f d h)
  selects_told (all_of fs) d h = all_told fs d h
  selects_told (any_of fs) d h = any_told fs d h

  all_told : (fs : Filters) (d : Value) → HasDistinctKeys d → Told (SelectsAll fs d)
  all_told no_filters d h = inl tt
  all_told (filter f fs) d h = both (selects_told f d h) (all_told fs d h)

  any_told : (fs : Filters) (d : Value) → HasDistinctKeys d → Told (SelectsAny fs d)
  any_told no_filters d h = inr (λ p. absurd p)
  any_told (filter f fs) d h = either (selects_told f d h) (any_told fs d h)

-- ---- all documents

-- what a filter selects of the documents, which are kept
pub record Selection (f : Filter) (ds : Documents) : Type 0 where
  pub out : Documents
  pub picks : Picks f ds out
  pub kept : AreKept out

-- of kept documents there are those that a filter selects
pub selection : (f : Filter) (ds : Documents) → AreKept ds → Selection f ds
selection f [] kept = record { out = []; picks = refl; kept = tt }
selection f (d ∷ ds) kept = by (selects_told f (document d) kept.0.read.sound.distinct) (selection f ds kept.1)
  where
    by : Told (Selects f (document d)) → Selection f ds → Selection f (d ∷ ds)
    by (inl selected) s = record { out = d ∷ s.out; picks = inl (selected, (s.out, refl, s.picks)); kept = (kept.0, s.kept) }
    by (inr not_one) s = record { out = s.out; picks = inr (not_one, s.picks); kept = s.kept }

-- what it selects of the first and of those behind them
pub picked_both : (f : Filter) (ds es out more : Documents) → Picks f ds out → Picks f es more → Picks f (ds ++ es) (out ++ more)
picked_both f [] es out more h k = subst (λ l. Picks f es (l ++ more)) (sym h) k
picked_both f (d ∷ ds) es out more (inl h) k = inl (h.0, (h.1.0 ++ more, ap (λ l. l ++ more) h.1.1, picked_both f ds es h.1.0 more h.1.2 k))
picked_both f (d ∷ ds) es out more (inr h) k = inr (h.0, picked_both f ds es out more h.1 k)

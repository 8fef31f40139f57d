-- `==` of values that own their bytes, by what they show.
use Rattle.std.proofs.Common.{◌≡◌, string_bytes, refl, sym, ap, true≢false}
use Rattle.std.specs.Bool.{Decides}
use Rattle.std.specs.Cmp.{booleans_Decides}
use Rattle.std.specs.Cmp.Lexicographic.{bytes_decides}
use Rattle.std.proofs.lemmas.Bool.Decides.{Decides-like, Decides-eqb, Decides-int_eq, Decides-and}
use Rattle.bson_base.specs.Scalars.{id_bytes, millis_of, decimal_bytes}
use Rattle.bson_base.specs.Value.{double, string, binary, object_id, boolean, date_time, regex, db_pointer, code, symbol, int32, timestamp, int64, decimal}
use Rattle.bson_base.specs.contracts.spec.BinarySubtypePartialEq.TheImpl as subtype
use Rattle.bson_base.specs.declared.spec.BinarySubtype.{BinarySubtype}
use Rattle.bson_raw.specs.contracts.bson.RawBsonPartialEq.TheImpl as values
use Rattle.bson_raw.specs.declared.bson.RawBson.{RawBson}
use Rattle.bson_raw.specs.declared.bson.RawBson.TheVariants.{Double, String, Array, Document, Boolean, Null, RegularExpression, JavaScriptCode, JavaScriptCodeWithScope, Int32, Int64, Timestamp, Binary, ObjectId, DateTime, Symbol, Decimal128, Undefined, MaxKey, MinKey, DbPointer}
use Rattle.bson_raw.specs.Raw.{own_value, leaf, array, document, scoped_code}
use Rattle.bson_raw.specs.Buffer.{buffer_bytes, array_buffer_bytes}

module _ (subtypes : (s t : BinarySubtype) → Decides (subtype.ghosts.eq s t) (s ≡ t)) where
  pub owned_Decides : (x y : RawBson) → Decides (values.ghosts.eq x y) (own_value x ≡ own_value y)
  owned_Decides (Double x) (Double y) = Decides-like _ (ap (λ n. leaf (double n))) (λ e. cc) (Decides-eqb x.0 y.0)
  owned_Decides (Double x) _ = (λ h. absurd (true≢false (sym h)), λ e. absurd (cc))
  owned_Decides (String x) (String y) = Decides-like _ (ap (λ n. leaf (string n))) (λ e. cc) (bytes_decides (string_bytes x) (string_bytes y))
  owned_Decides (String x) _ = (λ h. absurd (true≢false (sym h)), λ e. absurd (cc))
  owned_Decides (Array x) (Array y) = Decides-like _ (ap array) (λ e. cc) (bytes_decides (array_buffer_bytes x) (array_buffer_bytes y))
  owned_Decides (Array x) _ = (λ h. absurd (true≢false (sym h)), λ e. absurd (cc))
  owned_Decides (Document x) (Document y) = Decides-like _ (ap document) (λ e. cc) (bytes_decides (buffer_bytes x) (buffer_bytes y))
  owned_Decides (Document x) _ = (λ h. absurd (true≢false (sym h)), λ e. absurd (cc))
  owned_Decides (Boolean x) (Boolean y) = Decides-like _ (ap (λ n. leaf (boolean n))) (λ e. cc) (booleans_Decides x y)
  owned_Decides (Boolean x) _ = (λ h. absurd (true≢false (sym h)), λ e. absurd (cc))
  owned_Decides Null Null = (λ h. refl, λ e. refl)
  owned_Decides Null _ = (λ h. absurd (true≢false (sym h)), λ e. absurd (cc))
  owned_Decides (RegularExpression x) (RegularExpression y) = Decides-like _ (λ h. λ i. leaf (regex (h.0 i) (h.1 i))) (λ e. (cc, cc)) (Decides-and _ _ (bytes_decides (string_bytes x.pattern) (string_bytes y.pattern)) (bytes_decides (string_bytes x.options) (string_bytes y.options)))
  owned_Decides (RegularExpression x) _ = (λ h. absurd (true≢false (sym h)), λ e. absurd (cc))
  owned_Decides (JavaScriptCode x) (JavaScriptCode y) = Decides-like _ (ap (λ n. leaf (code n))) (λ e. cc) (bytes_decides (string_bytes x) (string_bytes y))
  owned_Decides (JavaScriptCode x) _ = (λ h. absurd (true≢false (sym h)), λ e. absurd (cc))
  owned_Decides (JavaScriptCodeWithScope x) (JavaScriptCodeWithScope y) = Decides-like _ (λ h. λ i. scoped_code (h.0 i) (h.1 i)) (λ e. (cc, cc)) (Decides-and _ _ (bytes_decides (string_bytes x.code) (string_bytes y.code)) (bytes_decides (buffer_bytes x.scope) (buffer_bytes y.scope)))
  owned_Decides (JavaScriptCodeWithScope x) _ = (λ h. absurd (true≢false (sym h)), λ e. absurd (cc))
  owned_Decides (Int32 x) (Int32 y) = Decides-like _ (ap (λ n. leaf (int32 n))) (λ e. cc) (Decides-int_eq x y)
  owned_Decides (Int32 x) _ = (λ h. absurd (true≢false (sym h)), λ e. absurd (cc))
  owned_Decides (Int64 x) (Int64 y) = Decides-like _ (ap (λ n. leaf (int64 n))) (λ e. cc) (Decides-int_eq x y)
  owned_Decides (Int64 x) _ = (λ h. absurd (true≢false (sym h)), λ e. absurd (cc))
  owned_Decides (Timestamp x) (Timestamp y) = Decides-like _ (λ h. λ i. leaf (timestamp (h.0 i) (h.1 i))) (λ e. (cc, cc)) (Decides-and _ _ (Decides-eqb x.time y.time) (Decides-eqb x.increment y.increment))
  owned_Decides (Timestamp x) _ = (λ h. absurd (true≢false (sym h)), λ e. absurd (cc))
  owned_Decides (Binary x) (Binary y) = Decides-like _ (λ h. λ i. leaf (binary (h.0 i) (h.1 i))) (λ e. (cc, cc)) (Decides-and (subtype.ghosts.eq x.subtype y.subtype) _ (subtypes x.subtype y.subtype) (bytes_decides x.bytes.items y.bytes.items))
  owned_Decides (Binary x) _ = (λ h. absurd (true≢false (sym h)), λ e. absurd (cc))
  owned_Decides (ObjectId x) (ObjectId y) = Decides-like _ (ap (λ n. leaf (object_id n))) (λ e. cc) (bytes_decides (id_bytes x) (id_bytes y))
  owned_Decides (ObjectId x) _ = (λ h. absurd (true≢false (sym h)), λ e. absurd (cc))
  owned_Decides (DateTime x) (DateTime y) = Decides-like _ (ap (λ n. leaf (date_time n))) (λ e. cc) (Decides-int_eq (millis_of x) (millis_of y))
  owned_Decides (DateTime x) _ = (λ h. absurd (true≢false (sym h)), λ e. absurd (cc))
  owned_Decides (Symbol x) (Symbol y) = Decides-like _ (ap (λ n. leaf (symbol n))) (λ e. cc) (bytes_decides (string_bytes x) (string_bytes y))
  owned_Decides (Symbol x) _ = (λ h. absurd (true≢false (sym h)), λ e. absurd (cc))
  owned_Decides (Decimal128 x) (Decimal128 y) = Decides-like _ (ap (λ n. leaf (decimal n))) (λ e. cc) (bytes_decides (decimal_bytes x) (decimal_bytes y))
  owned_Decides (Decimal128 x) _ = (λ h. absurd (true≢false (sym h)), λ e. absurd (cc))
  owned_Decides Undefined Undefined = (λ h. refl, λ e. refl)
  owned_Decides Undefined _ = (λ h. absurd (true≢false (sym h)), λ e. absurd (cc))
  owned_Decides MaxKey MaxKey = (λ h. refl, λ e. refl)
  owned_Decides MaxKey _ = (λ h. absurd (true≢false (sym h)), λ e. absurd (cc))
  owned_Decides MinKey MinKey = (λ h. refl, λ e. refl)
  owned_Decides MinKey _ = (λ h. absurd (true≢false (sym h)), λ e. absurd (cc))
  owned_Decides (DbPointer x) (DbPointer y) = Decides-like _ (λ h. λ i. leaf (db_pointer (h.0 i) (h.1 i))) (λ e. (cc, cc)) (Decides-and _ _ (bytes_decides (string_bytes x.namespace) (string_bytes y.namespace)) (bytes_decides (id_bytes x.id) (id_bytes y.id)))
  owned_Decides (DbPointer x) _ = (λ h. absurd (true≢false (sym h)), λ e. absurd (cc))

-- `==` on values, by their trees: one layer.
use Rattle.std.proofs.Common.{◌≡◌, ◌&&◌, ℤ, Bool, nat_eq, Vec, String, Global, string_bytes, bytes_eq, refl, sym, ap, ◌∙◌, rules, true≢false}
use Rattle.std.specs.Bool.{Decides}
use Rattle.std.specs.Cmp.{booleans_Decides}
use Rattle.std.specs.Cmp.Lexicographic.{pointwise}
use Rattle.std.specs.String.{string_eq}
use Rattle.std.proofs.lemmas.Bool.Decides.{Decides-like, Decides-eqb, Decides-int_eq, Decides-and}
use Rattle.std.proofs.lemmas.Slice.Eq.{bytes_eq-Decides}
use Rattle.bson_base.specs.Value.{HasDistinctKeys, Value, Members, scalar, double, string, binary, undefined, object_id, boolean, date_time, null, regex, db_pointer, code, symbol, int32, timestamp, int64, decimal, max_key, min_key}
use Rattle.bson_base.specs.Scalars.{id_bytes, millis_of, decimal_bytes}
use Rattle.bson_base.specs.contracts.spec.BinarySubtypePartialEq.TheImpl as subtype
use Rattle.bson_base.specs.declared.binary.Binary.{Binary}
use Rattle.bson_base.specs.declared.datetime.DateTime.{DateTime}
use Rattle.bson_base.specs.declared.decimal128.Decimal128.{Decimal128}
use Rattle.bson_base.specs.declared.double.DoubleBits.{DoubleBits}
use Rattle.bson_base.specs.declared.oid.ObjectId.{ObjectId}
use Rattle.bson_base.specs.declared.pointer.DbPointer.{DbPointer}
use Rattle.bson_base.specs.declared.regex.Regex.{Regex}
use Rattle.bson_base.specs.declared.spec.BinarySubtype.{BinarySubtype}
use Rattle.bson_base.specs.declared.spec.BinarySubtype.TheVariants.{Generic, Function, BinaryOld, UuidOld, Uuid, Md5, Encrypted, Column, Sensitive, Vector, Reserved, UserDefined}
use Rattle.bson_base.specs.declared.timestamp.Timestamp.{Timestamp}
use Rattle.bson_model.specs.Equal.{Equal}
use Rattle.bson_model.specs.Trees.{scoped_code_tree}
use Rattle.bson_model.specs.View.{view, view_step, scope_step, document_step, members_of, pairs_of}
use Rattle.bson_model.specs.declared.bson.Bson as bson
use Rattle.bson_model.specs.declared.bson.Bson.{Bson, roll-Bson, out-Bson, the_lemmas}
use Rattle.bson_model.specs.declared.bson.Bson.TheOpen.{Bson-F}
use Rattle.bson_model.specs.declared.bson.Bson.TheFolds.{map-Bson, fold-JavaScriptCodeWithScope, fold-Document}
use Rattle.bson_model.specs.declared.bson.JavaScriptCodeWithScope.{JavaScriptCodeWithScope}
use Rattle.bson_model.specs.declared.document.Document.{Document}
use Rattle.bson_model.specs.contracts.bson.BsonPartialEq.TheImpl.Laws.{is, unfolded, family}
use Rattle.bson_model.specs.contracts.document.DocumentPartialEq.TheImpl.Laws as document_laws
use Rattle.bson_model.specs.contracts.bson.JavaScriptCodeWithScopePartialEq.TheImpl.Laws as code_laws
use Rattle.bson_model.specs.declared.bson.Bson.TheBlock.{member-Document, member-JavaScriptCodeWithScope}
use Rattle.bson_pairs.specs.Same.{pairs_eq}
use Rattle.bson_model.specs.Laws.{bson_eq, document_eq}

abbrev pub Layer : Type 0
Layer = Bson-F Bson JavaScriptCodeWithScope Document

-- the members of a document
abbrev pub members : Document → Members
members d = members_of (pairs_of d)

-- the tree of a layer
abbrev pub seen : Layer → Value
seen x = view_step (map-Bson Bson JavaScriptCodeWithScope Document Value Value Members view scoped_code_tree members x)

fold_code : (c : JavaScriptCodeWithScope) → fold-JavaScriptCodeWithScope Value Value Members view_step scope_step document_step c ≡ scoped_code_tree c
fold_code c = search (rules, the_lemmas)

fold_document : (d : Document) → fold-Document Value Value Members view_step scope_step document_step d ≡ members d
fold_document d = search (rules, the_lemmas)

seen_folds : Layer → Value
seen_folds x = view_step (map-Bson Bson JavaScriptCodeWithScope Document Value Value Members view (fold-JavaScriptCodeWithScope Value Value Members view_step scope_step document_step) (fold-Document Value Value Members view_step scope_step document_step) x)

view_folds : (x : Layer) → view (roll-Bson x) ≡ seen_folds x
unfolding seen_folds
view_folds x = search (rules, the_lemmas)

pub view_roll : (x : Layer) → view (roll-Bson x) ≡ seen x
unfolding seen_folds
view_roll x = view_folds x ∙ (λ i. view_step (map-Bson Bson JavaScriptCodeWithScope Document Value Value Members view (λ c. fold_code c i) (λ d. fold_document d i) x))

pub roll_out : (b : Bson) → roll-Bson (out-Bson b) ≡ b
roll_out b = search (rules, the_lemmas)

subtype_Decides : (s t : BinarySubtype) → Decides (subtype.ghosts.eq s t) (s ≡ t)
subtype_Decides Generic Generic = (λ h. refl, λ e. refl)
subtype_Decides Generic _ = (λ h. absurd (true≢false (sym h)), λ e. absurd (cc))
subtype_Decides Function Function = (λ h. refl, λ e. refl)
subtype_Decides Function _ = (λ h. absurd (true≢false (sym h)), λ e. absurd (cc))
subtype_Decides BinaryOld BinaryOld = (λ h. refl, λ e. refl)
subtype_Decides BinaryOld _ = (λ h. absurd (true≢false (sym h)), λ e. absurd (cc))
subtype_Decides UuidOld UuidOld = (λ h. refl, λ e. refl)
subtype_Decides UuidOld _ = (λ h. absurd (true≢false (sym h)), λ e. absurd (cc))
subtype_Decides Uuid Uuid = (λ h. refl, λ e. refl)
subtype_Decides Uuid _ = (λ h. absurd (true≢false (sym h)), λ e. absurd (cc))
subtype_Decides Md5 Md5 = (λ h. refl, λ e. refl)
subtype_Decides Md5 _ = (λ h. absurd (true≢false (sym h)), λ e. absurd (cc))
subtype_Decides Encrypted Encrypted = (λ h. refl, λ e. refl)
subtype_Decides Encrypted _ = (λ h. absurd (true≢false (sym h)), λ e. absurd (cc))
subtype_Decides Column Column = (λ h. refl, λ e. refl)
subtype_Decides Column _ = (λ h. absurd (true≢false (sym h)), λ e. absurd (cc))
subtype_Decides Sensitive Sensitive = (λ h. refl, λ e. refl)
subtype_Decides Sensitive _ = (λ h. absurd (true≢false (sym h)), λ e. absurd (cc))
subtype_Decides Vector Vector = (λ h. refl, λ e. refl)
subtype_Decides Vector _ = (λ h. absurd (true≢false (sym h)), λ e. absurd (cc))
subtype_Decides (Reserved a) (Reserved b) = Decides-like (nat_eq a b) (ap Reserved) (λ e. cc) (Decides-eqb a b)
subtype_Decides (Reserved a) _ = (λ h. absurd (true≢false (sym h)), λ e. absurd (cc))
subtype_Decides (UserDefined a) (UserDefined b) = Decides-like (nat_eq a b) (ap UserDefined) (λ e. cc) (Decides-eqb a b)
subtype_Decides (UserDefined a) _ = (λ h. absurd (true≢false (sym h)), λ e. absurd (cc))

pub leaf-Double : (x : DoubleBits) (z : Layer) → Decides (unfolded (roll-Bson (Bson-F.Double x)) (roll-Bson z)) (Equal (scalar (double x.0)) (seen z))
unfolding bson.out-Bson denote.Hole.Carrier.out roll-Bson denote.Hole.Carrier.roll
leaf-Double x (Bson-F.Double y) = Decides-like (nat_eq x.0 y.0) (ap double) (λ e. cc) (Decides-eqb x.0 y.0)
leaf-Double x (Bson-F.Array w) = (λ h. absurd (true≢false (sym h)), λ e. absurd e)
leaf-Double x (Bson-F.Document w) = (λ h. absurd (true≢false (sym h)), λ e. absurd e)
leaf-Double x (Bson-F.JavaScriptCodeWithScope w) = (λ h. absurd (true≢false (sym h)), λ e. absurd e)
leaf-Double x _ = (λ h. absurd (true≢false (sym h)), λ e. absurd (cc))

pub leaf-String : (x : String Global) (z : Layer) → Decides (unfolded (roll-Bson (Bson-F.String x)) (roll-Bson z)) (Equal (scalar (string (string_bytes x))) (seen z))
unfolding bson.out-Bson denote.Hole.Carrier.out roll-Bson denote.Hole.Carrier.roll
leaf-String x (Bson-F.String y) = Decides-like (bytes_eq (string_bytes x) (string_bytes y)) (ap string) (λ e. cc) (bytes_eq-Decides (string_bytes x) (string_bytes y))
leaf-String x (Bson-F.Array w) = (λ h. absurd (true≢false (sym h)), λ e. absurd e)
leaf-String x (Bson-F.Document w) = (λ h. absurd (true≢false (sym h)), λ e. absurd e)
leaf-String x (Bson-F.JavaScriptCodeWithScope w) = (λ h. absurd (true≢false (sym h)), λ e. absurd e)
leaf-String x _ = (λ h. absurd (true≢false (sym h)), λ e. absurd (cc))

pub leaf-JavaScriptCode : (x : String Global) (z : Layer) → Decides (unfolded (roll-Bson (Bson-F.JavaScriptCode x)) (roll-Bson z)) (Equal (scalar (code (string_bytes x))) (seen z))
unfolding bson.out-Bson denote.Hole.Carrier.out roll-Bson denote.Hole.Carrier.roll
leaf-JavaScriptCode x (Bson-F.JavaScriptCode y) = Decides-like (bytes_eq (string_bytes x) (string_bytes y)) (ap code) (λ e. cc) (bytes_eq-Decides (string_bytes x) (string_bytes y))
leaf-JavaScriptCode x (Bson-F.Array w) = (λ h. absurd (true≢false (sym h)), λ e. absurd e)
leaf-JavaScriptCode x (Bson-F.Document w) = (λ h. absurd (true≢false (sym h)), λ e. absurd e)
leaf-JavaScriptCode x (Bson-F.JavaScriptCodeWithScope w) = (λ h. absurd (true≢false (sym h)), λ e. absurd e)
leaf-JavaScriptCode x _ = (λ h. absurd (true≢false (sym h)), λ e. absurd (cc))

pub leaf-Symbol : (x : String Global) (z : Layer) → Decides (unfolded (roll-Bson (Bson-F.Symbol x)) (roll-Bson z)) (Equal (scalar (symbol (string_bytes x))) (seen z))
unfolding bson.out-Bson denote.Hole.Carrier.out roll-Bson denote.Hole.Carrier.roll
leaf-Symbol x (Bson-F.Symbol y) = Decides-like (bytes_eq (string_bytes x) (string_bytes y)) (ap symbol) (λ e. cc) (bytes_eq-Decides (string_bytes x) (string_bytes y))
leaf-Symbol x (Bson-F.Array w) = (λ h. absurd (true≢false (sym h)), λ e. absurd e)
leaf-Symbol x (Bson-F.Document w) = (λ h. absurd (true≢false (sym h)), λ e. absurd e)
leaf-Symbol x (Bson-F.JavaScriptCodeWithScope w) = (λ h. absurd (true≢false (sym h)), λ e. absurd e)
leaf-Symbol x _ = (λ h. absurd (true≢false (sym h)), λ e. absurd (cc))

pub leaf-Boolean : (x : Bool) (z : Layer) → Decides (unfolded (roll-Bson (Bson-F.Boolean x)) (roll-Bson z)) (Equal (scalar (boolean x)) (seen z))
unfolding bson.out-Bson denote.Hole.Carrier.out roll-Bson denote.Hole.Carrier.roll
leaf-Boolean x (Bson-F.Boolean y) = Decides-like _ (ap boolean) (λ e. cc) (booleans_Decides x y)
leaf-Boolean x (Bson-F.Array w) = (λ h. absurd (true≢false (sym h)), λ e. absurd e)
leaf-Boolean x (Bson-F.Document w) = (λ h. absurd (true≢false (sym h)), λ e. absurd e)
leaf-Boolean x (Bson-F.JavaScriptCodeWithScope w) = (λ h. absurd (true≢false (sym h)), λ e. absurd e)
leaf-Boolean x _ = (λ h. absurd (true≢false (sym h)), λ e. absurd (cc))

pub leaf-Null : (z : Layer) → Decides (unfolded (roll-Bson Bson-F.Null) (roll-Bson z)) (Equal (scalar null) (seen z))
unfolding bson.out-Bson denote.Hole.Carrier.out roll-Bson denote.Hole.Carrier.roll
leaf-Null Bson-F.Null = (λ h. refl, λ e. refl)
leaf-Null (Bson-F.Array w) = (λ h. absurd (true≢false (sym h)), λ e. absurd e)
leaf-Null (Bson-F.Document w) = (λ h. absurd (true≢false (sym h)), λ e. absurd e)
leaf-Null (Bson-F.JavaScriptCodeWithScope w) = (λ h. absurd (true≢false (sym h)), λ e. absurd e)
leaf-Null _ = (λ h. absurd (true≢false (sym h)), λ e. absurd (cc))

pub leaf-Undefined : (z : Layer) → Decides (unfolded (roll-Bson Bson-F.Undefined) (roll-Bson z)) (Equal (scalar undefined) (seen z))
unfolding bson.out-Bson denote.Hole.Carrier.out roll-Bson denote.Hole.Carrier.roll
leaf-Undefined Bson-F.Undefined = (λ h. refl, λ e. refl)
leaf-Undefined (Bson-F.Array w) = (λ h. absurd (true≢false (sym h)), λ e. absurd e)
leaf-Undefined (Bson-F.Document w) = (λ h. absurd (true≢false (sym h)), λ e. absurd e)
leaf-Undefined (Bson-F.JavaScriptCodeWithScope w) = (λ h. absurd (true≢false (sym h)), λ e. absurd e)
leaf-Undefined _ = (λ h. absurd (true≢false (sym h)), λ e. absurd (cc))

pub leaf-MaxKey : (z : Layer) → Decides (unfolded (roll-Bson Bson-F.MaxKey) (roll-Bson z)) (Equal (scalar max_key) (seen z))
unfolding bson.out-Bson denote.Hole.Carrier.out roll-Bson denote.Hole.Carrier.roll
leaf-MaxKey Bson-F.MaxKey = (λ h. refl, λ e. refl)
leaf-MaxKey (Bson-F.Array w) = (λ h. absurd (true≢false (sym h)), λ e. absurd e)
leaf-MaxKey (Bson-F.Document w) = (λ h. absurd (true≢false (sym h)), λ e. absurd e)
leaf-MaxKey (Bson-F.JavaScriptCodeWithScope w) = (λ h. absurd (true≢false (sym h)), λ e. absurd e)
leaf-MaxKey _ = (λ h. absurd (true≢false (sym h)), λ e. absurd (cc))

pub leaf-MinKey : (z : Layer) → Decides (unfolded (roll-Bson Bson-F.MinKey) (roll-Bson z)) (Equal (scalar min_key) (seen z))
unfolding bson.out-Bson denote.Hole.Carrier.out roll-Bson denote.Hole.Carrier.roll
leaf-MinKey Bson-F.MinKey = (λ h. refl, λ e. refl)
leaf-MinKey (Bson-F.Array w) = (λ h. absurd (true≢false (sym h)), λ e. absurd e)
leaf-MinKey (Bson-F.Document w) = (λ h. absurd (true≢false (sym h)), λ e. absurd e)
leaf-MinKey (Bson-F.JavaScriptCodeWithScope w) = (λ h. absurd (true≢false (sym h)), λ e. absurd e)
leaf-MinKey _ = (λ h. absurd (true≢false (sym h)), λ e. absurd (cc))

pub leaf-RegularExpression : (x : Regex) (z : Layer) → Decides (unfolded (roll-Bson (Bson-F.RegularExpression x)) (roll-Bson z)) (Equal (scalar (regex (string_bytes x.pattern) (string_bytes x.options))) (seen z))
unfolding bson.out-Bson denote.Hole.Carrier.out roll-Bson denote.Hole.Carrier.roll
leaf-RegularExpression x (Bson-F.RegularExpression y) = Decides-like _ (λ h. λ i. regex (h.0 i) (h.1 i)) (λ e. (cc, cc)) (Decides-and (bytes_eq (string_bytes x.pattern) (string_bytes y.pattern)) (bytes_eq (string_bytes x.options) (string_bytes y.options)) (bytes_eq-Decides (string_bytes x.pattern) (string_bytes y.pattern)) (bytes_eq-Decides (string_bytes x.options) (string_bytes y.options)))
leaf-RegularExpression x (Bson-F.Array w) = (λ h. absurd (true≢false (sym h)), λ e. absurd e)
leaf-RegularExpression x (Bson-F.Document w) = (λ h. absurd (true≢false (sym h)), λ e. absurd e)
leaf-RegularExpression x (Bson-F.JavaScriptCodeWithScope w) = (λ h. absurd (true≢false (sym h)), λ e. absurd e)
leaf-RegularExpression x _ = (λ h. absurd (true≢false (sym h)), λ e. absurd (cc))

pub leaf-Int32 : (x : ℤ) (z : Layer) → Decides (unfolded (roll-Bson (Bson-F.Int32 x)) (roll-Bson z)) (Equal (scalar (int32 x)) (seen z))
unfolding bson.out-Bson denote.Hole.Carrier.out roll-Bson denote.Hole.Carrier.roll
leaf-Int32 x (Bson-F.Int32 y) = Decides-like _ (ap int32) (λ e. cc) (Decides-int_eq x y)
leaf-Int32 x (Bson-F.Array w) = (λ h. absurd (true≢false (sym h)), λ e. absurd e)
leaf-Int32 x (Bson-F.Document w) = (λ h. absurd (true≢false (sym h)), λ e. absurd e)
leaf-Int32 x (Bson-F.JavaScriptCodeWithScope w) = (λ h. absurd (true≢false (sym h)), λ e. absurd e)
leaf-Int32 x _ = (λ h. absurd (true≢false (sym h)), λ e. absurd (cc))

pub leaf-Int64 : (x : ℤ) (z : Layer) → Decides (unfolded (roll-Bson (Bson-F.Int64 x)) (roll-Bson z)) (Equal (scalar (int64 x)) (seen z))
unfolding bson.out-Bson denote.Hole.Carrier.out roll-Bson denote.Hole.Carrier.roll
leaf-Int64 x (Bson-F.Int64 y) = Decides-like _ (ap int64) (λ e. cc) (Decides-int_eq x y)
leaf-Int64 x (Bson-F.Array w) = (λ h. absurd (true≢false (sym h)), λ e. absurd e)
leaf-Int64 x (Bson-F.Document w) = (λ h. absurd (true≢false (sym h)), λ e. absurd e)
leaf-Int64 x (Bson-F.JavaScriptCodeWithScope w) = (λ h. absurd (true≢false (sym h)), λ e. absurd e)
leaf-Int64 x _ = (λ h. absurd (true≢false (sym h)), λ e. absurd (cc))

pub leaf-Timestamp : (x : Timestamp) (z : Layer) → Decides (unfolded (roll-Bson (Bson-F.Timestamp x)) (roll-Bson z)) (Equal (scalar (timestamp x.time x.increment)) (seen z))
unfolding bson.out-Bson denote.Hole.Carrier.out roll-Bson denote.Hole.Carrier.roll
leaf-Timestamp x (Bson-F.Timestamp y) = Decides-like _ (λ h. λ i. timestamp (h.0 i) (h.1 i)) (λ e. (cc, cc)) (Decides-and (nat_eq x.time y.time) (nat_eq x.increment y.increment) (Decides-eqb x.time y.time) (Decides-eqb x.increment y.increment))
leaf-Timestamp x (Bson-F.Array w) = (λ h. absurd (true≢false (sym h)), λ e. absurd e)
leaf-Timestamp x (Bson-F.Document w) = (λ h. absurd (true≢false (sym h)), λ e. absurd e)
leaf-Timestamp x (Bson-F.JavaScriptCodeWithScope w) = (λ h. absurd (true≢false (sym h)), λ e. absurd e)
leaf-Timestamp x _ = (λ h. absurd (true≢false (sym h)), λ e. absurd (cc))

pub leaf-Binary : (x : Binary) (z : Layer) → Decides (unfolded (roll-Bson (Bson-F.Binary x)) (roll-Bson z)) (Equal (scalar (binary x.subtype x.bytes.items)) (seen z))
unfolding bson.out-Bson denote.Hole.Carrier.out roll-Bson denote.Hole.Carrier.roll
leaf-Binary x (Bson-F.Binary y) = Decides-like _ (λ h. λ i. binary (h.0 i) (h.1 i)) (λ e. (cc, cc)) (Decides-and (subtype.ghosts.eq x.subtype y.subtype) (bytes_eq x.bytes.items y.bytes.items) (subtype_Decides x.subtype y.subtype) (bytes_eq-Decides x.bytes.items y.bytes.items))
leaf-Binary x (Bson-F.Array w) = (λ h. absurd (true≢false (sym h)), λ e. absurd e)
leaf-Binary x (Bson-F.Document w) = (λ h. absurd (true≢false (sym h)), λ e. absurd e)
leaf-Binary x (Bson-F.JavaScriptCodeWithScope w) = (λ h. absurd (true≢false (sym h)), λ e. absurd e)
leaf-Binary x _ = (λ h. absurd (true≢false (sym h)), λ e. absurd (cc))

pub leaf-ObjectId : (x : ObjectId) (z : Layer) → Decides (unfolded (roll-Bson (Bson-F.ObjectId x)) (roll-Bson z)) (Equal (scalar (object_id (id_bytes x))) (seen z))
unfolding bson.out-Bson denote.Hole.Carrier.out roll-Bson denote.Hole.Carrier.roll
leaf-ObjectId x (Bson-F.ObjectId y) = Decides-like (bytes_eq (id_bytes x) (id_bytes y)) (ap object_id) (λ e. cc) (bytes_eq-Decides (id_bytes x) (id_bytes y))
leaf-ObjectId x (Bson-F.Array w) = (λ h. absurd (true≢false (sym h)), λ e. absurd e)
leaf-ObjectId x (Bson-F.Document w) = (λ h. absurd (true≢false (sym h)), λ e. absurd e)
leaf-ObjectId x (Bson-F.JavaScriptCodeWithScope w) = (λ h. absurd (true≢false (sym h)), λ e. absurd e)
leaf-ObjectId x _ = (λ h. absurd (true≢false (sym h)), λ e. absurd (cc))

pub leaf-DateTime : (x : DateTime) (z : Layer) → Decides (unfolded (roll-Bson (Bson-F.DateTime x)) (roll-Bson z)) (Equal (scalar (date_time (millis_of x))) (seen z))
unfolding bson.out-Bson denote.Hole.Carrier.out roll-Bson denote.Hole.Carrier.roll
leaf-DateTime x (Bson-F.DateTime y) = Decides-like _ (ap date_time) (λ e. cc) (Decides-int_eq (millis_of x) (millis_of y))
leaf-DateTime x (Bson-F.Array w) = (λ h. absurd (true≢false (sym h)), λ e. absurd e)
leaf-DateTime x (Bson-F.Document w) = (λ h. absurd (true≢false (sym h)), λ e. absurd e)
leaf-DateTime x (Bson-F.JavaScriptCodeWithScope w) = (λ h. absurd (true≢false (sym h)), λ e. absurd e)
leaf-DateTime x _ = (λ h. absurd (true≢false (sym h)), λ e. absurd (cc))

pub leaf-Decimal128 : (x : Decimal128) (z : Layer) → Decides (unfolded (roll-Bson (Bson-F.Decimal128 x)) (roll-Bson z)) (Equal (scalar (decimal (decimal_bytes x))) (seen z))
unfolding bson.out-Bson denote.Hole.Carrier.out roll-Bson denote.Hole.Carrier.roll
leaf-Decimal128 x (Bson-F.Decimal128 y) = Decides-like (bytes_eq (decimal_bytes x) (decimal_bytes y)) (ap decimal) (λ e. cc) (bytes_eq-Decides (decimal_bytes x) (decimal_bytes y))
leaf-Decimal128 x (Bson-F.Array w) = (λ h. absurd (true≢false (sym h)), λ e. absurd e)
leaf-Decimal128 x (Bson-F.Document w) = (λ h. absurd (true≢false (sym h)), λ e. absurd e)
leaf-Decimal128 x (Bson-F.JavaScriptCodeWithScope w) = (λ h. absurd (true≢false (sym h)), λ e. absurd e)
leaf-Decimal128 x _ = (λ h. absurd (true≢false (sym h)), λ e. absurd (cc))

pub leaf-DbPointer : (x : DbPointer) (z : Layer) → Decides (unfolded (roll-Bson (Bson-F.DbPointer x)) (roll-Bson z)) (Equal (scalar (db_pointer (string_bytes x.namespace) (id_bytes x.id))) (seen z))
unfolding bson.out-Bson denote.Hole.Carrier.out roll-Bson denote.Hole.Carrier.roll
leaf-DbPointer x (Bson-F.DbPointer y) = Decides-like _ (λ h. λ i. db_pointer (h.0 i) (h.1 i)) (λ e. (cc, cc)) (Decides-and (bytes_eq (string_bytes x.namespace) (string_bytes y.namespace)) (bytes_eq (id_bytes x.id) (id_bytes y.id)) (bytes_eq-Decides (string_bytes x.namespace) (string_bytes y.namespace)) (bytes_eq-Decides (id_bytes x.id) (id_bytes y.id)))
leaf-DbPointer x (Bson-F.Array w) = (λ h. absurd (true≢false (sym h)), λ e. absurd e)
leaf-DbPointer x (Bson-F.Document w) = (λ h. absurd (true≢false (sym h)), λ e. absurd e)
leaf-DbPointer x (Bson-F.JavaScriptCodeWithScope w) = (λ h. absurd (true≢false (sym h)), λ e. absurd e)
leaf-DbPointer x _ = (λ h. absurd (true≢false (sym h)), λ e. absurd (cc))

-- ---- layers with values inside

pub other-Array : (x y : Vec Bson Global) → bson_eq (roll-Bson (Bson-F.Array x)) (roll-Bson (Bson-F.Array y)) ≡ pointwise bson_eq x.items y.items
other-Array x y = search (rules, the_lemmas, is)

eq-pairs : (x y : Document) → document_eq x y ≡ pairs_eq bson_eq x.pairs y.pairs
eq-pairs x y = document_laws.is x y

pub family-Document : (x y : Document) → family member-Document x y ≡ pairs_eq bson_eq x.pairs y.pairs
family-Document x y = eq-pairs x y

pub other-Document : (x y : Document) → bson_eq (roll-Bson (Bson-F.Document x)) (roll-Bson (Bson-F.Document y)) ≡ pairs_eq bson_eq x.pairs y.pairs
other-Document x y = search (rules, the_lemmas, is, family-Document)

pub family-Code : (x y : JavaScriptCodeWithScope) → family member-JavaScriptCodeWithScope x y ≡ (string_eq x.code y.code && document_eq x.scope y.scope)
family-Code x y = code_laws.is x y

pub other-Code : (x y : JavaScriptCodeWithScope) → bson_eq (roll-Bson (Bson-F.JavaScriptCodeWithScope x)) (roll-Bson (Bson-F.JavaScriptCodeWithScope y)) ≡ (string_eq x.code y.code && document_eq x.scope y.scope)
other-Code x y = search (rules, the_lemmas, is, family-Code)

-- a layer with values inside, compared with one of another kind
pub apart-Array : (x : Vec Bson Global) (z : Layer)
    → ((y : Vec Bson Global) → HasDistinctKeys (seen (Bson-F.Array y)) → Decides (unfolded (roll-Bson (Bson-F.Array x)) (roll-Bson (Bson-F.Array y))) (Equal (seen (Bson-F.Array x)) (seen (Bson-F.Array y))))
    → HasDistinctKeys (seen z) → Decides (unfolded (roll-Bson (Bson-F.Array x)) (roll-Bson z)) (Equal (seen (Bson-F.Array x)) (seen z))
unfolding bson.out-Bson denote.Hole.Carrier.out roll-Bson denote.Hole.Carrier.roll
apart-Array x (Bson-F.Array y) f d = f y d
apart-Array x _ f d = (λ h. absurd (true≢false (sym h)), λ e. absurd e)

pub apart-Document : (x : Document) (z : Layer)
    → ((y : Document) → HasDistinctKeys (seen (Bson-F.Document y)) → Decides (unfolded (roll-Bson (Bson-F.Document x)) (roll-Bson (Bson-F.Document y))) (Equal (seen (Bson-F.Document x)) (seen (Bson-F.Document y))))
    → HasDistinctKeys (seen z) → Decides (unfolded (roll-Bson (Bson-F.Document x)) (roll-Bson z)) (Equal (seen (Bson-F.Document x)) (seen z))
unfolding bson.out-Bson denote.Hole.Carrier.out roll-Bson denote.Hole.Carrier.roll
apart-Document x (Bson-F.Document y) f d = f y d
apart-Document x _ f d = (λ h. absurd (true≢false (sym h)), λ e. absurd e)

pub apart-JavaScriptCodeWithScope : (x : JavaScriptCodeWithScope) (z : Layer)
    → ((y : JavaScriptCodeWithScope) → HasDistinctKeys (seen (Bson-F.JavaScriptCodeWithScope y)) → Decides (unfolded (roll-Bson (Bson-F.JavaScriptCodeWithScope x)) (roll-Bson (Bson-F.JavaScriptCodeWithScope y))) (Equal (seen (Bson-F.JavaScriptCodeWithScope x)) (seen (Bson-F.JavaScriptCodeWithScope y))))
    → HasDistinctKeys (seen z) → Decides (unfolded (roll-Bson (Bson-F.JavaScriptCodeWithScope x)) (roll-Bson z)) (Equal (seen (Bson-F.JavaScriptCodeWithScope x)) (seen z))
unfolding bson.out-Bson denote.Hole.Carrier.out roll-Bson denote.Hole.Carrier.roll
apart-JavaScriptCodeWithScope x (Bson-F.JavaScriptCodeWithScope y) f d = f y d
apart-JavaScriptCodeWithScope x _ f d = (λ h. absurd (true≢false (sym h)), λ e. absurd e)

-- A `Bson`, level by level.
use Rattle.std.specs.Option.{option_map, option_copied, option_copied_mut}
use Rattle.std.proofs.Common.{◌≡◌, ℕ, ℤ, Bool, Option, Some, None, Bor, MutBor, is_some, List, map, String, Vec, Global, string_bytes, refl, rules}
use Rattle.bson_base.specs.Value.{Value, scalar, array, scoped_code, binary}
use Rattle.std.specs.Option.{OnSome}
use Rattle.bson_base.specs.declared.binary.Binary.{Binary}
use Rattle.bson_base.specs.declared.datetime.DateTime.{DateTime}
use Rattle.bson_base.specs.declared.decimal128.Decimal128.{Decimal128}
use Rattle.bson_base.specs.declared.double.DoubleBits.{DoubleBits}
use Rattle.bson_base.specs.declared.oid.ObjectId.{ObjectId}
use Rattle.bson_base.specs.declared.spec.BinarySubtype.{BinarySubtype}
use Rattle.bson_base.specs.declared.spec.BinarySubtype.TheVariants.{Generic}
use Rattle.bson_base.specs.declared.timestamp.Timestamp.{Timestamp}
use Rattle.bson_model.specs.Accessors.{as_binary, as_binary_generic}
use Rattle.bson_model.specs.Trees.{f64_tree, text_tree, document_tree, bool_tree, i32_tree, i64_tree, timestamp_tree, binary_tree, object_id_tree, date_time_tree, decimal128_tree}
use Rattle.bson_model.specs.View.{view, items_of, members_of, pairs_of}
use Rattle.bson_model.specs.declared.bson.JavaScriptCodeWithScope.{JavaScriptCodeWithScope}
use Rattle.bson_model.specs.declared.document.Document.{Document}
use Rattle.bson_model.specs.declared.bson.Bson as bson
use Rattle.bson_model.specs.declared.bson.Bson.{Bson, Array, JavaScriptCodeWithScope as WithScope, the_lemmas}

pub view-Array : (v : Vec Bson Global) → view (Array v) ≡ array (items_of (map view v.items))
view-Array v = search (rules, the_lemmas)

pub view-Document : (d : Document) → view (bson.Document d) ≡ document_tree d
view-Document d = search (rules, the_lemmas)

pub view-WithScope : (c : JavaScriptCodeWithScope) → view (WithScope c) ≡ scoped_code (string_bytes c.code) (members_of (pairs_of c.scope))
view-WithScope c = search (rules, the_lemmas)

pub view_of_ref : (r : Option (Bor Bson)) → option_map (λ x. view x.now) r ≡ option_map view (option_copied r)
view_of_ref None = refl
view_of_ref (Some x) = refl

pub view_of_mut : (r : Option (MutBor Bson)) → option_map (λ x. view x.now) r ≡ option_map view (option_copied_mut r)
view_of_mut None = refl
view_of_mut (Some x) = refl

pub is_some-map : {A B : Type 0} (h : A → B) (r : Option A) → is_some (option_map h r) ≡ is_some r
is_some-map h None = refl
is_some-map h (Some x) = refl

pub view-Double : (x : DoubleBits) → view (bson.Double x) ≡ f64_tree x
view-Double x = search (rules, the_lemmas)

pub view-String : (x : String Global) → view (bson.String x) ≡ text_tree x
view-String x = search (rules, the_lemmas)

pub view-Boolean : (x : Bool) → view (bson.Boolean x) ≡ bool_tree x
view-Boolean x = search (rules, the_lemmas)

pub view-Int32 : (x : ℤ) → view (bson.Int32 x) ≡ i32_tree x
view-Int32 x = search (rules, the_lemmas)

pub view-Int64 : (x : ℤ) → view (bson.Int64 x) ≡ i64_tree x
view-Int64 x = search (rules, the_lemmas)

pub view-Timestamp : (x : Timestamp) → view (bson.Timestamp x) ≡ timestamp_tree x
view-Timestamp x = search (rules, the_lemmas)

pub view-Binary : (x : Binary) → view (bson.Binary x) ≡ binary_tree x
view-Binary x = search (rules, the_lemmas)

pub view-ObjectId : (x : ObjectId) → view (bson.ObjectId x) ≡ object_id_tree x
view-ObjectId x = search (rules, the_lemmas)

pub view-DateTime : (x : DateTime) → view (bson.DateTime x) ≡ date_time_tree x
view-DateTime x = search (rules, the_lemmas)

pub view-Decimal128 : (x : Decimal128) → view (bson.Decimal128 x) ≡ decimal128_tree x
view-Decimal128 x = search (rules, the_lemmas)

-- a binary that is asked for as it is
pub is_binary : (v w : Value) → Some w ≡ as_binary v → v ≡ w
is_binary (scalar (binary s bs)) w e = let same : scalar (binary s bs) ≡ w = cc in same
is_binary v w e = absurd (cc)

-- if the bytes of a generic binary are lent, its subtype is Generic
pub is_generic : {X : Type 0} (h : X → List ℕ) (s : BinarySubtype) (bs : List ℕ) (r : Option X) → option_map h r ≡ as_binary_generic (scalar (binary s bs)) → OnSome r (s ≡ Generic)
is_generic h s bs None e = tt
is_generic h Generic bs (Some x) e = refl
is_generic h _ bs (Some x) e = absurd (cc)

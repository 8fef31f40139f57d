-- The grammar of Extended JSON as it is read (MongoDB Extended JSON v2, "Conversion table" and "Parsing"): which value
-- a JSON tree stands for. The members of an object are in the order of their keys, each key once.
use Rattle.std.specs.Prelude.{◌≡◌, ℕ, ◌^◌, ◌<◌, ℤ, MatchBool, true, List, codes, Some, Ok}
use Rattle.base64.specs.GeneralPurpose.{decode_of}
use Rattle.base64.specs.Engines.{standard}
use Rattle.serde_json.specs.Data as json
use Rattle.serde_json.specs.Data.{unsigned, Data, number, string as text, object}
use Rattle.serde_json.specs.Find.{as_i64}
use Rattle.bson_base.specs.DateText.{date_of}
use Rattle.bson_base.specs.Decimal.{read as decimal_of, sixteen_bytes}
use Rattle.bson_base.specs.ObjectIdText.{object_id_of}
use Rattle.bson_base.specs.Options.{sorted_text}
use Rattle.bson_base.specs.ScalarTexts.{read_uuid}
use Rattle.bson_base.specs.Tags.{subtype_of}
use Rattle.bson_base.specs.Value.{Scalar, double, string, binary, undefined, object_id, boolean, date_time, null, regex, db_pointer, code, symbol, int32, timestamp, int64, decimal, max_key, min_key, Value, scalar, array, document, scoped_code, Items, no_items, item, Members, no_members, member}
use Rattle.bson_base.specs.declared.spec.BinarySubtype.TheVariants.{Uuid}
use Rattle.bson_model.specs.JsonKeys.{Reserved, of_id, of_symbol, of_regex, of_int, of_long, of_double, of_decimal, of_binary, of_uuid, of_code, of_timestamp, of_date, of_min, of_max, of_pointer, of_undefined, key_of, scope_key, reserved_of, any_reserved, object_of_one, object_of_two}
use Rattle.bson_model.specs.JsonTexts.{int_of, long_of, double_of, byte_of}
use Rattle.bson_model.specs.JsonRead.{integer}

abbrev pub ReadsDate : Data → ℤ → Type 0
ReadsDate (text t) z = date_of t ≡ Ok z
ReadsDate (number n) z = as_i64 n ≡ Some z
ReadsDate (object js) z = (t : List ℕ) × (object js ≡ object_of_one (key_of of_long) (text t)) × (long_of t ≡ Some z)
ReadsDate _ z = ⊥

-- the body under each reserved key
abbrev pub ReadsBody : Reserved → Data → Scalar → Type 0
ReadsBody of_id j s = (t : List ℕ) × (bs : List ℕ) × (j ≡ text t) × (object_id_of t ≡ Ok bs) × (s ≡ object_id bs)
ReadsBody of_symbol j s = (t : List ℕ) × (j ≡ text t) × (s ≡ symbol t)
ReadsBody of_regex j s = (p : List ℕ) × (o : List ℕ) × (j ≡ object_of_two (codes "options") (text o) (codes "pattern") (text p)) × (s ≡ regex p (sorted_text o))
ReadsBody of_int j s = (t : List ℕ) × (z : ℤ) × (j ≡ text t) × (int_of t ≡ Some z) × (s ≡ int32 z)
ReadsBody of_long j s = (t : List ℕ) × (z : ℤ) × (j ≡ text t) × (long_of t ≡ Some z) × (s ≡ int64 z)
ReadsBody of_double j s = (t : List ℕ) × (n : ℕ) × (j ≡ text t) × (double_of t ≡ Ok n) × (s ≡ double n)
ReadsBody of_decimal j s = (t : List ℕ) × (n : ℕ) × (j ≡ text t) × (decimal_of t ≡ Ok n) × (s ≡ decimal (sixteen_bytes n))
ReadsBody of_binary j s = (t : List ℕ) × (u : List ℕ) × (bs : List ℕ) × (b : ℕ)
    × (j ≡ object_of_two (codes "base64") (text t) (codes "subType") (text u)) × (decode_of standard t ≡ Ok bs) × (byte_of u ≡ Some b) × (s ≡ binary (subtype_of b) bs)
ReadsBody of_uuid j s = (t : List ℕ) × (bs : List ℕ) × (j ≡ text t) × (read_uuid t ≡ Ok bs) × (s ≡ binary Uuid bs)
ReadsBody of_code j s = (t : List ℕ) × (j ≡ text t) × (s ≡ code t)
ReadsBody of_timestamp j s = (t : ℕ) × (i : ℕ) × (j ≡ object_of_two (codes "i") (number (unsigned i)) (codes "t") (number (unsigned t))) × (i < 2 ^ 32) × (t < 2 ^ 32) × (s ≡ timestamp t i)
ReadsBody of_date j s = (z : ℤ) × ReadsDate j z × (s ≡ date_time z)
ReadsBody of_min j s = (j ≡ number (unsigned 1)) × (s ≡ min_key)
ReadsBody of_max j s = (j ≡ number (unsigned 1)) × (s ≡ max_key)
ReadsBody of_pointer j s = (t : List ℕ) × (u : List ℕ) × (bs : List ℕ)
    × (j ≡ object_of_two (codes "$id") (object_of_one (key_of of_id) (text t)) (codes "$ref") (text u)) × (object_id_of t ≡ Ok bs) × (s ≡ db_pointer u bs)
ReadsBody of_undefined j s = (j ≡ json.boolean true) × (s ≡ undefined)

abbrev mutual
  pub Reads : Data → Value → Type 0
  Reads json.null v = v ≡ scalar null
  Reads (json.boolean b) v = v ≡ scalar (boolean b)
  Reads (number n) v = (z : ℤ) × (as_i64 n ≡ Some z) × (v ≡ integer z)
  Reads (text t) v = v ≡ scalar (string t)
  Reads (json.array js) v = (vs : Items) × ReadsItems js vs × (v ≡ array vs)
  Reads (object js) v = MatchBool (any_reserved js) (ReadsTyped js v) ((ms : Members) × ReadsMembers js ms × (v ≡ document ms))

  pub ReadsItems : json.Items → Items → Type 0
  ReadsItems json.no_items no_items = Unit {0}
  ReadsItems (json.item j js) (item v vs) = Reads j v × ReadsItems js vs
  ReadsItems _ _ = ⊥

  -- the keys are not tested
  pub ReadsMembers : json.Members → Members → Type 0
  ReadsMembers json.no_members no_members = Unit {0}
  ReadsMembers (json.member k j js) (member l v ms) = (k ≡ l) × Reads j v × ReadsMembers js ms
  ReadsMembers _ _ = ⊥

  -- a wrapper has no other key, except `$scope` beside `$code`
  pub ReadsTyped : json.Members → Value → Type 0
  ReadsTyped json.no_members v = ⊥
  ReadsTyped (json.member k j json.no_members) v = (r : Reserved) × (s : Scalar) × (reserved_of k ≡ Some r) × ReadsBody r j s × (v ≡ scalar s)
  ReadsTyped (json.member k j (json.member l i json.no_members)) v = (t : List ℕ) × (k ≡ key_of of_code) × (l ≡ scope_key) × (j ≡ text t) × ReadsScope t i v
  ReadsTyped (json.member k j (json.member l i (json.member m h js))) v = ⊥

  pub ReadsScope : List ℕ → Data → Value → Type 0
  ReadsScope t json.null v = v ≡ scalar (code t)
  ReadsScope t (object js) v = (ms : Members) × ReadsMembers js ms × (v ≡ scoped_code t ms)
  ReadsScope t (json.boolean b) v = ⊥
  ReadsScope t (number n) v = ⊥
  ReadsScope t (text u) v = ⊥
  ReadsScope t (json.array js) v = ⊥

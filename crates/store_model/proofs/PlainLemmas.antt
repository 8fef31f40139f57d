-- Whether a tree is plain is decided, so every JSON tree has a reading.
use Rattle.std.proofs.Common.{◌≡◌, ◌⊎◌, inl, inr, ℕ, zero, suc, ◌<◌, ◌≤◌, List, [], ◌∷◌, true, false, refl, arith}
use Rattle.std.specs.Prelude.{Result, Ok, Err}
use Rattle.std.proofs.Math.Dec.{leb}
use Rattle.std.proofs.lemmas.Bool.Decides.{leb_tells}
use Rattle.serde_json.specs.Data.{Data, object, Members as JsonMembers}
use Rattle.serde_json.specs.Data as json
use Rattle.bson_base.specs.Kinds.{HasNo00, IsPlain, IsPlainScalar}
use Rattle.bson_base.specs.Value.{Scalar, double, string, binary, undefined, object_id, boolean, date_time, null, regex, db_pointer, code, symbol, int32, timestamp, int64, decimal, max_key, min_key, Value, scalar, array, document, scoped_code, Items, no_items, item, Members, no_members, member, EachItem, EachMember, levels}
use Rattle.bson_model.specs.JsonRead.{read_members}
use Rattle.bson_model.specs.declared.extjson.de.Error.{Error}
use Rattle.bson_meaning.specs.Gate.{level_limit}
use Rattle.bson_meaning.specs.Meaning.{norm_members_in_order}
use Rattle.store_model.specs.Reading.{Reading, readable, unreadable, ReadsTree}
use Rattle.store_model.specs.State.{in_json}
use Rattle.store_model.specs.Run.{IsUnread}
use Rattle.store_model.specs.declared.error.ErrorKind.TheVariants.{JsonRefused, NotAnObject, TooDeep, Nul}

abbrev Decided : Type 0 → Type 0
Decided A = A ⊎ (A → ⊥)

both : {A B : Type 0} → Decided A → Decided B → Decided (A × B)
both (inl a) (inl b) = inl (a, b)
both (inl a) (inr b) = inr (λ h. b h.1)
both (inr a) b = inr (λ h. a h.0)

three : {A B C : Type 0} → Decided A → Decided B → Decided C → Decided (A × B × C)
three (inl a) (inl b) (inl c) = inl (a, b, c)
three (inl a) (inl b) (inr c) = inr (λ h. c h.2)
three (inl a) (inr b) c = inr (λ h. b h.1)
three (inr a) b c = inr (λ h. a h.0)

no_00 : (bs : List ℕ) → Decided (HasNo00 bs)
no_00 [] = inl tt
no_00 (zero ∷ bs) = inr (λ h. absurd (omega (arith, h.0)))
no_00 (suc b ∷ bs) = both (inl (omega arith)) (no_00 bs)

plain_scalar : (s : Scalar) → Decided (IsPlainScalar s)
plain_scalar (double n) = inl tt
plain_scalar (string t) = inl tt
plain_scalar (binary s bs) = inl tt
plain_scalar undefined = inl tt
plain_scalar (object_id bs) = inl tt
plain_scalar (boolean b) = inl tt
plain_scalar (date_time z) = inl tt
plain_scalar null = inl tt
plain_scalar (regex p o) = both (no_00 p) (no_00 o)
plain_scalar (db_pointer t bs) = inl tt
plain_scalar (code t) = inl tt
plain_scalar (symbol t) = inl tt
plain_scalar (int32 z) = inl tt
plain_scalar (timestamp t i) = inl tt
plain_scalar (int64 z) = inl tt
plain_scalar (decimal bs) = inl tt
plain_scalar max_key = inl tt
plain_scalar min_key = inl tt

mutual
  pub plain : (v : Value) → Decided (IsPlain v)
  plain (scalar s) = plain_scalar s
  plain (array vs) = plain_items vs
  plain (document ms) = plain_members ms
  plain (scoped_code t ms) = both (plain_scalar (code t)) (plain_members ms)

  plain_items : (vs : Items) → Decided (EachItem HasNo00 IsPlainScalar vs)
  plain_items no_items = inl tt
  plain_items (item v vs) = both (plain v) (plain_items vs)

  plain_members : (ms : Members) → Decided (EachMember HasNo00 IsPlainScalar ms)
  plain_members no_members = inl tt
  plain_members (member k v ms) = three (no_00 k) (plain v) (plain_members ms)

-- what a JSON object reads as, unless it is out of memory
pub record HasReading (js : JsonMembers) : Type 0 where
  pub x : Reading
  pub reads : ReadsTree (object js) x
  pub undecided : IsUnread in_json x → ⊥

pub has_reading : (js : JsonMembers) → HasReading js
has_reading js = by (read_members js) refl
  where
    kept : (r : Result Members Error) (e : Members) → read_members js ≡ r → r ≡ Ok e → ((leb (levels (document e)) level_limit ≡ true) × (levels (document e) ≤ level_limit)) ⊎ ((leb (levels (document e)) level_limit ≡ false) × (level_limit < levels (document e))) → Decided (IsPlain (document e)) → HasReading js
    kept r e i j (inl low) (inl p) = record { x = readable (norm_members_in_order e); reads = rw (i, j) (low.1, p, refl); undecided = λ u. u }
    kept r e i j (inl low) (inr p) = record { x = unreadable Nul; reads = rw (i, j) (low.1, p); undecided = λ u. u }
    kept r e i j (inr high) p = record { x = unreadable TooDeep; reads = rw (i, j) high.1; undecided = λ u. u }

    by : (r : Result Members Error) → read_members js ≡ r → HasReading js
    by (Ok e) i = kept (Ok e) e i refl (leb_tells (levels (document e)) level_limit) (plain (document e))
    by (Err x) i = record { x = unreadable JsonRefused; reads = rw i refl; undecided = λ u. u }

pub object_tree : (js : JsonMembers) → (a : Reading) × ReadsTree (object js) a × (IsUnread in_json a → ⊥)
object_tree js = let h = has_reading js in (h.x, h.reads, h.undecided)

pub any_tree : (j : Data) → (a : Reading) × ReadsTree j a
any_tree json.null = (unreadable NotAnObject, refl)
any_tree (json.boolean b) = (unreadable NotAnObject, refl)
any_tree (json.number n) = (unreadable NotAnObject, refl)
any_tree (json.string t) = (unreadable NotAnObject, refl)
any_tree (json.array js) = (unreadable NotAnObject, refl)
any_tree (object js) = let h = has_reading js in (h.x, h.reads)

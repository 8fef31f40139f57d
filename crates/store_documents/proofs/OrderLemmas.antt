-- Documents that are written in order, without the tree of their normal form.
use Rattle.std.proofs.Common.{◌≡◌, ◌≢◌, ◌⊎◌, inl, inr, ℕ, ◌<◌, ◌≤◌, List, length, Some, None, Result, Ok, Err, refl, sym, ap, ◌∙◌, arith}
use Rattle.std.specs.Prelude.{IsUtf8, option_map}
use Rattle.std.specs.Cow.{cow_slice_items}
use Rattle.std.proofs.lemmas.Bool.{lt-ltb}
use Rattle.serde_json.specs.Data.{Data, object, Members as JsonMembers}
use Rattle.bson_base.specs.Kinds.{HasNo00, IsPlain, IsPlainScalar, IsRangedScalar, IsSound}
use Rattle.bson_base.specs.Value.{Value, document, levels, Members, look_up}
use Rattle.bson_base.proofs.MemberLemmas.{key_at}
use Rattle.bson_bytes.specs.Encode.{encode, size}
use Rattle.bson_bytes.proofs.LengthLemmas.{encode_length}
use Rattle.bson_frame.specs.Frame.{size_limit}
use Rattle.bson_meaning.specs.Gate.{level_limit}
use Rattle.bson_meaning.specs.Meaning.{key, norm_in_order, norm_members_in_order}
use Rattle.bson_meaning.specs.declared.key.KeyError.{KeyError}
use Rattle.bson_meaning.specs.declared.key.KeyError.TheVariants as key_errors
use Rattle.bson_meaning.proofs.NowLemmas.{in_order_same, look_up-in_order}
use Rattle.bson_model.specs.JsonRead.{read_members, Fails}
use Rattle.bson_model.specs.declared.extjson.de.Error.{Error}
use Rattle.bson_model.specs.declared.extjson.de.Error.TheVariants as json_faults
use Rattle.store_model.specs.Reading.{readable, IsRead, Keeps, ReadsTree}
use Rattle.store_model.specs.State.{id_key}
use Rattle.store_model.specs.Table.{only_id, own_id}
use Rattle.store_model.specs.declared.error.ErrorKind.{ErrorKind}
use Rattle.store_model.specs.declared.error.ErrorKind.TheVariants.{JsonRefused, Memory, NoId, Nul}
use Rattle.store_model.proofs.IdLemmas.{key_long, own_is, own_of}
use Rattle.store_model.proofs.RestoreLemmas.{in_order_read, in_order_same_form}
use Rattle.store_documents.specs.Bodies.{AnswersInput, IsKeyOf, IsOrderedBody, IsUnordered, refusal_of_key}
use Rattle.store_documents.specs.declared.write.KeptRow.{KeptRow}
use Rattle.store_documents.proofs.BodyLemmas.{kept_read, no_refusal}

-- ---- ids

-- an id has the key of its normal form
same_key : (e : Members) (id : Value) → IsSound (document e) → IsSound id → look_up id_key e ≡ Some id → key (only_id id) ≡ key (own_id (norm_members_in_order e))
same_key e id sound id_sound has =
    let text = (key_at IsUtf8 IsRangedScalar e id_key id sound.ranged has).0 in
    let alone : IsSound (document (only_id id)) = record { ranged = (text, id_sound.ranged, tt); distinct = (refl, id_sound.distinct, tt) } in
    let same : document (norm_members_in_order (only_id id)) ≡ document (norm_members_in_order (norm_members_in_order (only_id id))) = in_order_same (document (only_id id)) (document (norm_members_in_order (only_id id))) (in_order_same_form (only_id id) alone) in
    let members : norm_members_in_order (only_id id) ≡ norm_members_in_order (norm_members_in_order (only_id id)) = cc in
    ap encode members ∙ ap key (sym (own_is (norm_members_in_order e) (norm_in_order id) (look_up-in_order id_key e ∙ ap (option_map norm_in_order) has)))

-- ---- one document

module _ (e : Members) (shallow : levels (document e) ≤ level_limit) where
  keeps : IsPlain (document e) → Keeps e (readable (norm_members_in_order e))
  keeps plain = (shallow, plain, refl)

  found : (id : Value) → look_up id_key e ≡ Some id → look_up id_key (norm_members_in_order e) ≡ Some (norm_in_order id)
  found id has = look_up-in_order id_key e ∙ ap (option_map norm_in_order) has

  nul : (k : ErrorKind) → k ≡ Nul → (IsPlain (document e) → ⊥) → AnswersInput (Keeps e) (Err k)
  nul k is not = rw is (inl (shallow, not))

  -- it has no `_id`
  pub unidentified : (k : ErrorKind) → look_up id_key e ≡ None → ((k ≡ Nul) × (IsPlain (document e) → ⊥)) ⊎ ((k ≡ NoId) × IsPlain (document e)) → AnswersInput (Keeps e) (Err k)
  unidentified k none (inl h) = nul k h.0 h.1
  unidentified k none (inr h) =
      let there : look_up id_key (norm_members_in_order e) ≡ None = look_up-in_order id_key e ∙ ap (option_map norm_in_order) none in
      rw h.0 (inr (inl (norm_members_in_order e, keeps h.1, rw there refl)))

  -- its bytes aren't written
  pub unordered : (id : Value) (k : ErrorKind) → look_up id_key e ≡ Some id → IsUnordered e k → AnswersInput (Keeps e) (Err k)
  unordered id k has (inl h) = nul k h.0 h.1
  unordered id k has (inr (inl h)) =
      let long : size_limit < size (norm_members_in_order e) = omega (arith, h.2, encode_length (norm_members_in_order e)) in
      rw h.0 (inr (inl (norm_members_in_order e, keeps h.1, rw (found id has, lt-ltb size_limit (size (norm_members_in_order e)) long) refl)))
  unordered id k has (inr (inr h)) = inr (inr h)

  module _ (id : Value) (b : List ℕ) (has : look_up id_key e ≡ Some id) (o : IsOrderedBody b e) where
    short : size (norm_members_in_order e) ≤ size_limit
    short = omega (arith, o.3, encode_length (norm_members_in_order e))

    read : IsRead (norm_members_in_order e)
    read = in_order_read e o.2 o.1 shallow

    -- the row
    pub ordered : (w : KeptRow) → IsKeyOf w.key.items id → cow_slice_items w.body ≡ b → AnswersInput (Keeps e) (Ok w)
    ordered w is body = (
      norm_members_in_order e,
      keeps o.2,
      read,
      (no_refusal (norm_members_in_order e) (norm_in_order id) (found id has) short, is.key ∙ same_key e id o.1 is.sound has, body ∙ o.0),
    )

    -- the `_id` has no key: it is out of memory
    pub no_key : (x : KeyError) (k : ErrorKind) → k ≡ refusal_of_key x → IsSound id
        → (x ≡ key_errors.NotPlain → IsPlain id → ⊥) → (x ≡ key_errors.TooLong → 2147483647 < length (key (only_id id))) → AnswersInput (Keeps e) (Err k)
    no_key key_errors.NotPlain k is sound not_plain too_long = absurd (not_plain refl (key_at HasNo00 IsPlainScalar e id_key id o.2 has).1)
    no_key key_errors.TooLong k is sound not_plain too_long =
        let kept = kept_read (norm_members_in_order e) (norm_in_order id) read (found id has) short in
        let own = own_of (norm_members_in_order e) (norm_in_order id) kept (found id has) in
        let same = same_key e id o.1 sound has ∙ ap key (own_is (norm_members_in_order e) (norm_in_order id) (found id has)) in
        absurd (omega (arith, too_long refl, ap length same, key_long (norm_members_in_order e) (norm_in_order id) own))
    no_key key_errors.Memory k is sound not_plain too_long = inr (inr is)

-- ---- trees

pub from_tree : (j : Data) (js : JsonMembers) (e : Members) (r : Result KeptRow ErrorKind) → j ≡ object js → read_members js ≡ Ok e → AnswersInput (Keeps e) r → AnswersInput (ReadsTree j) r
from_tree j js e (Ok w) is reads (m, kept, read, row) = (m, rw (is, reads) kept, read, row)
from_tree j js e (Err k) is reads (inl unfit) = inl (rw (is, reads) unfit)
from_tree j js e (Err k) is reads (inr (inl (m, kept, refused))) = inr (inl (m, rw (is, reads) kept, refused))
from_tree j js e (Err k) is reads (inr (inr memory)) = inr (inr memory)

-- the refusal for a fault of the reader
abbrev pub TellsJsonFault : Error → ErrorKind → Type 0
TellsJsonFault x k = ((x ≡ json_faults.Memory) × (k ≡ Memory)) ⊎ ((x ≢ json_faults.Memory) × (k ≡ JsonRefused))

-- the JSON reader returned a fault
pub faulted : (j : Data) (js : JsonMembers) (x : Error) (k : ErrorKind) → j ≡ object js → Fails x (read_members js) → TellsJsonFault x k → AnswersInput (ReadsTree j) (Err k)
faulted j js x k is fails (inl h) = inr (inr h.1)
faulted j js json_faults.Memory k is fails (inr h) = absurd (h.0 refl)
faulted j js (json_faults.InvalidObjectId e) k is fails (inr h) = inl (rw (is, fails, h.1) refl)
faulted j js json_faults.DeserializationError k is fails (inr h) = inl (rw (is, fails, h.1) refl)
faulted j js json_faults.FiniteDouble k is fails (inr h) = inl (rw (is, fails, h.1) refl)

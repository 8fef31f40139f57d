-- Bytes that are kept as they are.
use Rattle.std.proofs.Common.{◌≡◌, inr, ℕ, ◌+◌, ◌^◌, ◌<◌, ◌≤◌, List, [], ◌∷◌, ◌++◌, drop, length, refl, sym, ap, ◌∙◌, subst, append-nil, arith}
use Rattle.std.specs.Prelude.{is_some, Result, Ok, Err}
use Rattle.std.specs.Cow.{cow_slice_items}
use Rattle.std.specs.Int.{w32, to_le_bytes}
use Rattle.bson_base.specs.Kinds.{AreBytes, IsClean, IsPlain, IsSound}
use Rattle.bson_base.specs.Tags.{tag_byte}
use Rattle.bson_base.specs.Value.{Value, value_kind, scalar, array, document, scoped_code, double, string, binary, undefined, object_id, boolean, date_time, null, regex, db_pointer, code, symbol, int32, timestamp, int64, decimal, max_key, min_key, levels, Members}
use Rattle.bson_bytes.specs.Encode.{encode, cstring_of, frame_of, le32, size, value_bytes}
use Rattle.bson_bytes.specs.Spells.{Means, SpellsMembers, settle}
use Rattle.bson_bytes.proofs.LengthLemmas.{encode_length, framed_length}
use Rattle.bson_bytes.proofs.OneTreeLemmas.{one_meaning}
use Rattle.bson_bytes.proofs.SettledLemmas.{comes_back}
use Rattle.bson_frame.specs.Frame.{Element, size_limit}
use Rattle.bson_frame.specs.Payload.{IsEnvelope}
use Rattle.bson_meaning.specs.Gate.{IsCounted, Passes}
use Rattle.bson_meaning.specs.Meaning.{key}
use Rattle.bson_meaning.specs.declared.key.KeyError.{KeyError}
use Rattle.bson_meaning.specs.declared.key.KeyError.TheVariants as key_errors
use Rattle.bson_bytes.specs.Written.{IsWrittenUnder}
use Rattle.store_model.specs.Reading.{IsRead, readable, ReadsBytes}
use Rattle.store_model.specs.State.{id_key, IsKept}
use Rattle.store_model.specs.Table.{only_id, own_id}
use Rattle.store_model.specs.declared.error.ErrorKind.{ErrorKind}
use Rattle.store_model.specs.declared.error.ErrorKind.TheVariants.{Memory}
use Rattle.store_model.proofs.IdLemmas.{key_long, Own, own_is, own_of, plain_of}
use Rattle.store_model.proofs.ReadingLemmas.{bytes_read}
use Rattle.store_documents.specs.Bodies.{AnswersKept, AnswersWritten, MeansItself, refusal_of_key}
use Rattle.store_documents.specs.declared.write.KeptRow.{KeptRow}
use Rattle.store_documents.proofs.BodyLemmas.{no_refusal}

-- ---- the document of an `_id` alone

-- what is put around a payload, piece by piece
pub around : (tag n : ℕ) (p b0 b1 b2 b3 b4 b5 : List ℕ) → n ≡ length p + 10 → b0 ≡ to_le_bytes w32 n → b1 ≡ b0 ++ tag ∷ [] → b2 ≡ b1 ++ id_key → b3 ≡ b2 ++ 0 ∷ [] → b4 ≡ b3 ++ p → b5 ≡ b4 ++ 0 ∷ []
    → b5 ≡ frame_of (tag ∷ (cstring_of id_key ++ p))
unfolding frame_of cstring_of le32
around tag n p b0 b1 b2 b3 b4 b5 size e0 e1 e2 e3 e4 e5 =
    let named : b3 ≡ to_le_bytes w32 n ++ tag ∷ 0x5F ∷ 0x69 ∷ 0x64 ∷ 0 ∷ [] = e3 ∙ ap (λ (x : List ℕ). x ++ 0 ∷ []) (e2 ∙ ap (λ (x : List ℕ). x ++ id_key) (e1 ∙ ap (λ (x : List ℕ). x ++ tag ∷ []) e0)) in
    let counted : n ≡ length (tag ∷ 0x5F ∷ 0x69 ∷ 0x64 ∷ 0 ∷ p) + 5 = omega (arith, size) in
    e5 ∙ ap (λ (x : List ℕ). x ++ 0 ∷ []) (e4 ∙ ap (λ (x : List ℕ). x ++ p) named)
    ∙ ap (λ (m : ℕ). to_le_bytes w32 m ++ tag ∷ 0x5F ∷ 0x69 ∷ 0x64 ∷ 0 ∷ (p ++ 0 ∷ [])) counted

behind_key : (x : List ℕ) → length (cstring_of id_key ++ x) ≡ length x + 4
unfolding cstring_of
behind_key x = omega arith

-- such a value's bytes are the key
its_form : (v : Value) → MeansItself (value_kind v) → key (only_id v) ≡ encode (only_id v)
its_form (scalar (double n)) h = absurd h
its_form (scalar (string t)) h = refl
its_form (scalar (binary s bs)) h = absurd h
its_form (scalar undefined) h = refl
its_form (scalar (object_id bs)) h = refl
its_form (scalar (boolean b)) h = refl
its_form (scalar (date_time z)) h = refl
its_form (scalar null) h = refl
its_form (scalar (regex p o)) h = absurd h
its_form (scalar (db_pointer t bs)) h = refl
its_form (scalar (code t)) h = refl
its_form (scalar (symbol t)) h = refl
its_form (scalar (int32 z)) h = refl
its_form (scalar (timestamp t i)) h = refl
its_form (scalar (int64 z)) h = refl
its_form (scalar (decimal bs)) h = absurd h
its_form (scalar max_key) h = refl
its_form (scalar min_key) h = refl
its_form (array vs) h = absurd h
its_form (document ms) h = absurd h
its_form (scoped_code t ms) h = absurd h

module _ (d : Members) (e : Element) (kept : IsKept d) (w : IsWrittenUnder id_key d e) where
  own : Own d w.0
  own = own_of d w.0 kept w.1

  clean : IsClean (document (only_id w.0))
  clean = (own.plain_key, own.clean, tt)

  plain : IsPlain (document (only_id w.0))
  plain = (own.plain_key, plain_of w.0 own.clean, tt)

  sound : IsSound (document (only_id w.0))
  sound = record { ranged = (own.text, own.sound.ranged, tt); distinct = (refl, own.sound.distinct, tt) }

  -- the bytes around the payload
  pub alone_is : frame_of (tag_byte e.tag ∷ (cstring_of id_key ++ e.payload)) ≡ encode (only_id w.0)
  alone_is =
      ap (λ t. frame_of (tag_byte t ∷ (cstring_of id_key ++ e.payload))) (sym w.2)
      ∙ ap (λ (x : List ℕ). frame_of (tag_byte (value_kind w.0) ∷ (cstring_of id_key ++ x))) (w.3 ∙ sym (append-nil (value_bytes w.0)))

  -- and if its value is its own normal form they are the key
  pub alone_itself : (bytes : List ℕ) → bytes ≡ frame_of (tag_byte e.tag ∷ (cstring_of id_key ++ e.payload)) → MeansItself e.tag → bytes ≡ key (own_id d)
  alone_itself bytes is itself = is ∙ alone_is ∙ sym (its_form w.0 (subst MeansItself (sym w.2) itself)) ∙ ap key (sym (own_is d w.0 w.1))

  pub alone_short : length e.payload + 10 < 2 ^ 32
  alone_short =
      let whole = ap length alone_is ∙ encode_length (only_id w.0) in
      omega (arith, framed_length (tag_byte e.tag ∷ (cstring_of id_key ++ e.payload)), behind_key e.payload, whole, own.small)

  pub alone_means : (bytes : List ℕ) → bytes ≡ frame_of (tag_byte e.tag ∷ (cstring_of id_key ++ e.payload)) → Means bytes (only_id w.0)
  alone_means bytes is = subst (λ b. Means b (only_id w.0)) (sym (is ∙ alone_is)) (comes_back (only_id w.0) clean sound (omega (arith, own.small)))

  -- its key is that of the whole document's id
  pub alone_key : (bytes : List ℕ) (m : Members) → bytes ≡ frame_of (tag_byte e.tag ∷ (cstring_of id_key ++ e.payload)) → Means bytes m → key m ≡ key (own_id d)
  alone_key bytes m is means = ap key (one_meaning bytes m (only_id w.0) means (alone_means bytes is) ∙ sym (own_is d w.0 w.1))

  -- and only out of memory is reported in its place
  pub alone_refused : (bytes : List ℕ) (m : Members) (x : KeyError) (k : ErrorKind) → bytes ≡ frame_of (tag_byte e.tag ∷ (cstring_of id_key ++ e.payload)) → Means bytes m → k ≡ refusal_of_key x
      → (x ≡ key_errors.NotPlain → IsPlain (document m) → ⊥) → (x ≡ key_errors.TooLong → 2147483647 < length (key m)) → k ≡ Memory
  alone_refused bytes m key_errors.NotPlain k is means told not_plain too_long =
      absurd (not_plain refl (subst (λ (n : Members). IsPlain (document n)) (one_meaning bytes (only_id w.0) m (alone_means bytes is) means) plain))
  alone_refused bytes m key_errors.TooLong k is means told not_plain too_long =
      let same : m ≡ only_id w.0 = one_meaning bytes m (only_id w.0) means (alone_means bytes is) in
      absurd (omega (arith, too_long refl, ap (λ (n : Members). length (key n)) same, key_long d w.0 own))
  alone_refused bytes m key_errors.Memory k is means told not_plain too_long = told

-- ---- bytes that are their document's written form

-- whole bytes that spell a document which isn't deep pass the gate
pub passing : (bytes : List ℕ) → IsCounted bytes × IsEnvelope bytes → ((ms : Members) × SpellsMembers (drop 4 bytes) ms × (levels (document ms) ≤ 100)) → Passes bytes
passing bytes whole spelled = (whole.0, whole.1, spelled)

-- the document that passing bytes mean
pub meant : (bytes : List ℕ) → (p : Passes bytes) → Means bytes (settle p.2.0)
meant bytes p = (p.2.0, p.1, p.2.1, refl)

module _ (bytes : List ℕ) (are : AreBytes bytes) (p : Passes bytes) where
  pub read : IsRead (settle p.2.0)
  read = bytes_read bytes (readable (settle p.2.0)) are (p, meant bytes p)

  pub reads : ReadsBytes bytes (readable (settle p.2.0))
  reads = (p, meant bytes p)

  -- out of memory for a document that can be read
  pub wants : (k : ErrorKind) → k ≡ Memory → AnswersKept bytes (Err k)
  wants k is = inr (settle p.2.0, reads, read, inr is)

  module _ (form : (d : Members) → Means bytes d → bytes ≡ encode d) (settled : (ms : Members) → SpellsMembers (drop 4 bytes) ms → settle ms ≡ ms)
      (e : Element) (under : (ms : Members) → SpellsMembers (drop 4 bytes) ms → IsWrittenUnder id_key ms e) where
    pub found : IsWrittenUnder id_key (settle p.2.0) e
    found = subst (λ (ms : Members). IsWrittenUnder id_key ms e) (sym (settled p.2.0 p.2.1)) (under p.2.0 p.2.1)

    short : size (settle p.2.0) ≤ size_limit
    short = omega (arith, p.0.1, p.0.2, sym (encode_length (settle p.2.0)) ∙ ap length (sym (form (settle p.2.0) (meant bytes p))))

    pub stands : IsKept (settle p.2.0)
    stands = record { read = read; identified = ap is_some found.1; small = short }

    pub row : (w : KeptRow) → w.key.items ≡ key (own_id (settle p.2.0)) → cow_slice_items w.body ≡ bytes → AnswersKept bytes (Ok w)
    row w key_is body_is = (settle p.2.0, reads, read, (no_refusal (settle p.2.0) found.0 found.1 short, key_is, body_is ∙ form (settle p.2.0) (meant bytes p)))

-- what a document's bytes are written as, from its tree
pub by_tree : (bytes : List ℕ) (d : Members) (r : Result KeptRow ErrorKind) → AreBytes bytes → Passes bytes → Means bytes d → (IsRead d → AnswersWritten d r) → AnswersKept bytes r
by_tree bytes d (Ok w) are p means written = let read = bytes_read bytes (readable d) are (p, means) in (d, (p, means), read, written read)
by_tree bytes d (Err k) are p means written = let read = bytes_read bytes (readable d) are (p, means) in inr (d, (p, means), read, written read)

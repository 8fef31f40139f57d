-- Documents as they are written.
use Rattle.std.proofs.Common.{◌≡◌, ◌⊎◌, inl, inr, ℕ, ◌<◌, ◌≤◌, List, length, Some, None, refl, ap, ◌∙◌, sym, arith}
use Rattle.std.specs.Prelude.{is_some}
use Rattle.std.proofs.lemmas.Bool.{lt-ltb, le-ltb}
use Rattle.bson_base.specs.Kinds.{IsPlain}
use Rattle.bson_base.specs.Value.{Value, Members, look_up}
use Rattle.bson_bytes.specs.Encode.{size}
use Rattle.bson_frame.specs.Frame.{size_limit}
use Rattle.bson_meaning.specs.Meaning.{key}
use Rattle.bson_meaning.specs.declared.key.KeyError.{KeyError}
use Rattle.bson_meaning.specs.declared.key.KeyError.TheVariants as key_errors
use Rattle.store_model.specs.Reading.{IsRead}
use Rattle.store_model.specs.State.{id_key, IsKept, refusal_of}
use Rattle.store_model.specs.Table.{only_id, own_id}
use Rattle.store_model.specs.declared.error.ErrorKind.{ErrorKind}
use Rattle.store_model.specs.declared.error.ErrorKind.TheVariants.{NoId, TooLong, Memory}
use Rattle.store_model.proofs.IdLemmas.{own_of, plain_of, key_long, own_is}
use Rattle.store_model.proofs.LevelLemmas.{clean_plain}
use Rattle.store_documents.specs.Bodies.{IsKeyOf, IsUnwritten, refusal_of_key}

-- why a document isn't kept
abbrev pub Refused : Members → ErrorKind → Type 0
Refused d k = (refusal_of d ≡ Some k) ⊎ (k ≡ Memory)

pub no_id : (d : Members) → look_up id_key d ≡ None → Refused d NoId
no_id d none = inl (rw none refl)

too_long : (d : Members) (id : Value) → look_up id_key d ≡ Some id → size_limit < size d → refusal_of d ≡ Some TooLong
too_long d id has long = rw (has, lt-ltb size_limit (size d) long) refl

pub no_refusal : (d : Members) (id : Value) → look_up id_key d ≡ Some id → size d ≤ size_limit → refusal_of d ≡ None
no_refusal d id has short = rw (has, le-ltb size_limit (size d) short) refl

-- the bytes aren't written
pub unwritten : (d : Members) (id : Value) (k : ErrorKind) → IsRead d → look_up id_key d ≡ Some id → IsUnwritten d k → Refused d k
unwritten d id k read has (inl nul) = absurd (nul.1 (clean_plain d read.clean))
unwritten d id k read has (inr (inl long)) = inl (too_long d id has long.2 ∙ ap Some (sym long.0))
unwritten d id k read has (inr (inr memory)) = inr memory

pub kept_read : (d : Members) (id : Value) → IsRead d → look_up id_key d ≡ Some id → size d ≤ size_limit → IsKept d
kept_read d id read has short = record { read = read; identified = ap is_some has; small = short }

-- the `_id` has no key: it is out of memory
pub no_key : (d : Members) (id : Value) (e : KeyError) (k : ErrorKind) → IsRead d → look_up id_key d ≡ Some id → size d ≤ size_limit → k ≡ refusal_of_key e
    → (e ≡ key_errors.NotPlain → IsPlain id → ⊥) → (e ≡ key_errors.TooLong → 2147483647 < length (key (only_id id))) → Refused d k
no_key d id key_errors.NotPlain k read has short is not_plain too_long = absurd (not_plain refl (plain_of id (own_of d id (kept_read d id read has short) has).clean))
no_key d id key_errors.TooLong k read has short is not_plain too_long = absurd (omega (arith, too_long refl, key_long d id (own_of d id (kept_read d id read has short) has)))
no_key d id key_errors.Memory k read has short is not_plain too_long = inr is

pub own_key : (d : Members) (id : Value) (k : List ℕ) → look_up id_key d ≡ Some id → IsKeyOf k id → k ≡ key (own_id d)
own_key d id k has h = h.key ∙ ap key (sym (own_is d id has))

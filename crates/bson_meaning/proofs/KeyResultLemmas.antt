-- What a call for a key returns, at each of its ends.
use Rattle.std.proofs.Common.{◌≡◌, ◌≢◌, ℕ, ◌<◌, Result, Err, Vec, IfOk, OnOk, refl}
use Rattle.std.proofs.lemmas.Result.{on_ok_weaker}
use Rattle.std.specs.declared.alloc.Global.{Global}
use Rattle.bson_base.specs.Kinds.{IsPlain, IsSound}
use Rattle.bson_base.specs.Value.{document, Members}
use Rattle.bson_bytes.specs.Encode.{size}
use Rattle.bson_bytes.specs.Writing.{CanBeWritten}
use Rattle.bson_frame.specs.Frame.{length_limit}
use Rattle.bson_meaning.specs.Forms.{key, norm_members, norm_members_in_order}
use Rattle.bson_meaning.specs.Keys.{AnswersKey}
use Rattle.bson_meaning.specs.declared.key.KeyError.{KeyError}
use Rattle.bson_meaning.specs.declared.key.KeyError.TheVariants.{NotPlain, TooLong}
use Rattle.bson_meaning.specs.declared.scalars.Zeros.{Zeros}
use Rattle.bson_meaning.proofs.KeyLemmas.{key_law, key_exceeds, key_fits, key_long, key_within}

module _ (zeros : Zeros) (d : Members) where
  -- there is a 00 in a key, a pattern or options
  pub with_zero : (IsPlain (document d) → ⊥) → AnswersKey zeros d (Err NotPlain)
  with_zero h = record {
    bytes = tt;
    fits = tt;
    plain = tt;
    sound = tt;
    not_plain = (λ _. h, λ _. refl);
    too_long = (λ e. absurd (cc), λ p. absurd (h p.0));
    tells = λ e p s n. tt;
  }

  -- the normal form is too long
  pub too_long : IsPlain (document d) → IsSound (document d) → length_limit < size (norm_members zeros d) → AnswersKey zeros d (Err TooLong)
  too_long p s long = record {
    bytes = tt;
    fits = tt;
    plain = tt;
    sound = tt;
    not_plain = (λ e. absurd (cc), λ h. absurd (h p));
    too_long = (λ _. (p, key_exceeds zeros d s long), λ _. refl);
    tells = λ e q t n. tt;
  }

  -- it is written, or it is out of memory
  pub written : (r : Result (Vec ℕ Global) KeyError) → IsPlain (document d) → IsSound (document d) → (length_limit < size (norm_members zeros d) → ⊥)
      → IfOk r (λ k. k.items ≡ key zeros d) → OnOk r (CanBeWritten (document (norm_members_in_order zeros d))) → r ≢ Err NotPlain
      → (r ≡ Err TooLong → CanBeWritten (document (norm_members_in_order zeros d)) → ⊥) → AnswersKey zeros d r
  written r p s short bytes fits no_zero long = record {
    bytes = bytes;
    fits = on_ok_weaker r (key_fits zeros d _ refl) fits;
    plain = on_ok_weaker r (λ _. p) fits;
    sound = on_ok_weaker r (λ _. s) fits;
    not_plain = (λ e. absurd (no_zero e), λ h. absurd (h p));
    too_long = (λ e. (p, key_long zeros d _ refl p s (long e)), λ h. absurd (short (key_within zeros d s h.1)));
    tells = λ e q t n. on_ok_weaker r (λ fit. key_law zeros d e p s q t (key_fits zeros d _ refl fit) n) fits;
  }

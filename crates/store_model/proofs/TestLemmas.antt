-- The tests of a changed document, one after the other.
use Rattle.std.proofs.Common.{◌≡◌, inl, inr, ◌<◌, ◌++◌, ◌∷◌, arith}
use Rattle.bson_base.specs.Kinds.{IsPlain}
use Rattle.bson_base.specs.Value.{document, Members, levels}
use Rattle.bson_bytes.specs.Encode.{size}
use Rattle.bson_frame.specs.Frame.{size_limit}
use Rattle.bson_meaning.specs.Gate.{level_limit}
use Rattle.store_model.specs.Reading.{Documents}
use Rattle.store_model.specs.State.{Reply, done, PutsBack, Refuses, When}
use Rattle.store_model.specs.declared.error.ErrorKind.TheVariants.{TooDeep, Nul, TooLong}

-- what comes of each
abbrev pub PutsInTurn : Documents → Documents → Members → Documents → Reply → Documents → Type 0
PutsInTurn ds front d back r es = When (level_limit < levels (document d))
    (Refuses TooDeep ds r es)
    (When (IsPlain (document d))
    (When (size_limit < size d) (Refuses TooLong ds r es) ((r ≡ done) × (es ≡ front ++ d ∷ back)))
    (Refuses Nul ds r es))

pub in_turn : (ds front : Documents) (d : Members) (back : Documents) (r : Reply) (es : Documents) → PutsBack ds front d back r es → PutsInTurn ds front d back r es
in_turn ds front d back r es (inl (fits, is, put)) = inr (λ deep. absurd (omega (arith, deep, fits.shallow)), inl (fits.plain, inr (λ long. absurd (omega (arith, long, fits.small)), (is, put))))
in_turn ds front d back r es (inr (TooDeep, why, refused)) = inl (why, refused)
in_turn ds front d back r es (inr (Nul, why, refused)) = inr (λ deep. absurd (omega (arith, deep, why.0)), inr (why.1, refused))
in_turn ds front d back r es (inr (TooLong, why, refused)) = inr (λ deep. absurd (omega (arith, deep, why.0)), inl (why.1, inl (why.2, refused)))
in_turn ds front d back r es (inr (_, why, refused)) = absurd why

-- The gate refuses bytes in one way, except that it may report either Faulty or TooDeep; and what passing bytes mean
-- isn't deep.
use Rattle.std.proofs.Common.{◌≡◌, ◌⊎◌, inl, inr, ℕ, ◌≤◌, List, refl, sym, subst, arith}
use Rattle.bson_base.specs.Value.{document, Members, levels}
use Rattle.bson_bytes.specs.Spells.{Means, settle}
use Rattle.bson_bytes.proofs.OneTreeLemmas.{one_meaning}
use Rattle.bson_meaning.specs.Gate.{level_limit, IsCounted, IsRefused, IsFaultyOrDeep, Passes}
use Rattle.bson_meaning.specs.declared.gating.GateError.{GateError}
use Rattle.bson_meaning.specs.declared.gating.GateError.TheVariants as gate
use Rattle.bson_meaning.proofs.HeightLemmas.{settled_low}

counted_end : (bytes : List ℕ) → IsCounted bytes → IsRefused bytes gate.EndInside → ⊥
counted_end bytes c (inl few) = omega (arith, few, c.0, c.2)
counted_end bytes c (inr few) = omega (arith, few.2, c.2)

counted_bad : (bytes : List ℕ) → IsCounted bytes → IsRefused bytes gate.BadLength → ⊥
counted_bad bytes c (four, inl low) = omega (arith, low, c.0)
counted_bad bytes c (four, inr (inl high)) = omega (arith, high, c.1)
counted_bad bytes c (four, inr (inr more)) = omega (arith, more, c.2)

end_bad : (bytes : List ℕ) → IsRefused bytes gate.EndInside → IsRefused bytes gate.BadLength → ⊥
end_bad bytes (inl few) (four, h) = omega (arith, few, four)
end_bad bytes (inr few) (four, inl low) = omega (arith, few.0, low)
end_bad bytes (inr few) (four, inr (inl high)) = omega (arith, few.1, high)
end_bad bytes (inr few) (four, inr (inr more)) = omega (arith, few.2, more)

pub one_refusal : (bytes : List ℕ) (e f : GateError) → IsRefused bytes e → IsRefused bytes f → (e ≡ f) ⊎ (IsFaultyOrDeep e × IsFaultyOrDeep f)
one_refusal bytes gate.EndInside gate.EndInside h k = inl refl
one_refusal bytes gate.BadLength gate.BadLength h k = inl refl
one_refusal bytes gate.NotTerminated gate.NotTerminated h k = inl refl
one_refusal bytes gate.Faulty gate.Faulty h k = inl refl
one_refusal bytes gate.TooDeep gate.TooDeep h k = inl refl
one_refusal bytes gate.Faulty gate.TooDeep h k = inr (tt, tt)
one_refusal bytes gate.TooDeep gate.Faulty h k = inr (tt, tt)
one_refusal bytes gate.EndInside gate.BadLength h k = absurd (end_bad bytes h k)
one_refusal bytes gate.EndInside gate.NotTerminated h k = absurd (counted_end bytes k.0 h)
one_refusal bytes gate.EndInside gate.Faulty h k = absurd (counted_end bytes k.0 h)
one_refusal bytes gate.EndInside gate.TooDeep h k = absurd (counted_end bytes k.0 h)
one_refusal bytes gate.BadLength gate.EndInside h k = absurd (end_bad bytes k h)
one_refusal bytes gate.BadLength gate.NotTerminated h k = absurd (counted_bad bytes k.0 h)
one_refusal bytes gate.BadLength gate.Faulty h k = absurd (counted_bad bytes k.0 h)
one_refusal bytes gate.BadLength gate.TooDeep h k = absurd (counted_bad bytes k.0 h)
one_refusal bytes gate.NotTerminated gate.EndInside h k = absurd (counted_end bytes h.0 k)
one_refusal bytes gate.NotTerminated gate.BadLength h k = absurd (counted_bad bytes h.0 k)
one_refusal bytes gate.NotTerminated gate.Faulty h k = absurd (h.1 k.1.ended)
one_refusal bytes gate.NotTerminated gate.TooDeep h k = absurd (h.1 k.1.ended)
one_refusal bytes gate.Faulty gate.EndInside h k = absurd (counted_end bytes h.0 k)
one_refusal bytes gate.Faulty gate.BadLength h k = absurd (counted_bad bytes h.0 k)
one_refusal bytes gate.Faulty gate.NotTerminated h k = absurd (k.1 h.1.ended)
one_refusal bytes gate.TooDeep gate.EndInside h k = absurd (counted_end bytes h.0 k)
one_refusal bytes gate.TooDeep gate.BadLength h k = absurd (counted_bad bytes h.0 k)
one_refusal bytes gate.TooDeep gate.NotTerminated h k = absurd (k.1 h.1.ended)

pub passing_low : (bytes : List ℕ) (d : Members) → Passes bytes → Means bytes d → levels (document d) ≤ level_limit
passing_low bytes d h m =
    let i : d ≡ settle h.2.0 = one_meaning bytes d (settle h.2.0) m (h.2.0, h.1, h.2.1, refl) in
    subst (λ x. levels (document x) ≤ level_limit) (sym i) (omega (arith, settled_low h.2.0, h.2.2))

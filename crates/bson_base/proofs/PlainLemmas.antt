-- What a value writes through a formatter's writer, said of the formatter.
use Rattle.std.proofs.Common.{◌≡◌, ℕ, List, [], ◌∷◌, Option, Some, None, Result, Ok, Err, sym, ap, ◌∙◌, subst, true≢false}
use Rattle.std.specs.Fmt.{IsFlush, HasWrittenStyled, DisplaysOnOk, DisplaysStyledOnOk, IsDefaultSpec, WritesText}
use Rattle.std.specs.List.{FoldsTo, concat}
use Rattle.std.specs.Result.{OnOk}
use Rattle.std.specs.declared.fmt.Error.{Error}
use Rattle.std.specs.declared.fmt.Formatter.{Formatter}
use Rattle.std.proofs.Output.{has_written_styled_nil, has_written_styled_append, has_written_styled_of_eq}
use Rattle.bson_base.specs.declared.plain.Through.{Through}

module _ {W : Type 0} (took : W → List ℕ → W → Type 0) where
  -- what `write_str` of `Through` says
  abbrev pub Took : Through W → List ℕ → Through W → Type 0
  Took s bs t = (IsFlush s.f.now → HasWrittenStyled took s.f.now bs t.f.now) × (t.f.ghost_name ≡ s.f.ghost_name)

  calls : (s : Through W) (xs : List (List ℕ)) (t : Through W) → FoldsTo Took s xs t → (IsFlush s.f.now → HasWrittenStyled took s.f.now (concat xs) t.f.now) × (t.f.ghost_name ≡ s.f.ghost_name)
  calls s [] t p = (λ flush. subst (λ (x : Through W). HasWrittenStyled took s.f.now [] x.f.now) p (has_written_styled_nil _ _ flush), ap (λ (x : Through W). x.f.ghost_name) (sym p))
  calls s (x ∷ xs) t p =
      let rest = calls p.0 xs t p.2 in (
        λ flush. let first = p.1.0 flush in has_written_styled_append _ _ _ _ _ _ first (rest.0 first.flush),
        rest.1 ∙ p.1.1,
      )

  -- v is what the formatter is when the loan ends
  pub written_styled : (s t : Through W) (v : Formatter W) (r : Result (Unit {0}) Error) (o : Option (List ℕ)) → (t.f.ghost_name ≡ s.f.ghost_name → v ≡ t.f.now) → OnOk r (WritesText Took s o t) → DisplaysStyledOnOk took s.f.now r o v
  written_styled s t v r None back h = tt
  written_styled s t v (Err e) (Some bs) back h = λ flush ok. absurd (true≢false (sym ok))
  written_styled s t v (Ok u) (Some bs) back h = λ flush ok.
      let p = calls s h.parts t h.calls in
      subst (HasWrittenStyled took s.f.now bs) (sym (back p.1)) (has_written_styled_of_eq _ _ _ _ _ h.whole (p.0 flush))

  -- a formatter that has no options is one that may have any
  pub plain_from_styled : (f g : Formatter W) (r : Result (Unit {0}) Error) (o : Option (List ℕ)) → DisplaysStyledOnOk took f r o g → DisplaysOnOk took f r o g
  plain_from_styled f g r None h = tt
  plain_from_styled f g r (Some bs) h = λ plain ok.
      let w = h plain.flush ok in
      record { wrote = w.wrote; plain = record { bare = subst IsDefaultSpec (sym w.spec) plain.bare; flush = w.flush } }

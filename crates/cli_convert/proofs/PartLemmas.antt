-- Parts after parts, and what devices gave and took in two steps.
use Rattle.std.proofs.Common.{ℕ, List, [], ◌∷◌, ◌++◌, refl, sym, ap, subst, ◌∙◌, append_assoc}
use Rattle.std.proofs.lemmas.List.{append-nil}
use Rattle.std.proofs.KnownBytes.{Appends-trans, Appends-nil, Consumes-nil}
use Rattle.bson_base.proofs.DeviceLemmas.{Gives-trans}
use Rattle.bson_base.specs.Device.{Feed, Tally, Took}
use Rattle.cli_convert.specs.Parts.{InParts, Passed}

pub one_part : {T : Type 0} (P : List ℕ → T → Type 0) (part : List ℕ) (x : T) → P part x → InParts P part (x ∷ [])
one_part P part x h = (part, [], sym (append-nil part), h, refl)

pub more_parts : {T : Type 0} (P : List ℕ → T → Type 0) (bs : List ℕ) (xs : List T) (cs : List ℕ) (ys : List T) → InParts P bs xs → InParts P cs ys → InParts P (bs ++ cs) (xs ++ ys)
more_parts P bs [] cs ys h k = subst (λ l. InParts P (l ++ cs) ys) (sym h) k
more_parts P bs (x ∷ xs) cs ys (part, rest, e, p, h) k = (part, rest ++ cs, ap (λ l. l ++ cs) e ∙ append_assoc part rest cs, p, more_parts P rest xs cs ys h k)

pub took_both : (old mid new : Feed) (xs ys : List ℕ) → Took old mid xs → Took mid new ys → Took old new (xs ++ ys)
took_both old mid new xs ys first second = (second.0 ∙ first.0, Gives-trans old.supply mid.supply new.supply xs ys first.1 second.1)

pub passed_both : (old mid new : Tally) (xs ys : List ℕ) → Passed old mid xs → Passed mid new ys → Passed old new (xs ++ ys)
passed_both old mid new xs ys first second = (second.0 ∙ first.0, Appends-trans old.taken mid.taken new.taken xs ys first.1 second.1)

pub took_none : (feed : Feed) → Took feed feed []
took_none feed = (refl, (Appends-nil feed.supply.given, Consumes-nil feed.supply.left))

pub passed_none : (tally : Tally) → Passed tally tally []
passed_none tally = (refl, Appends-nil tally.taken)

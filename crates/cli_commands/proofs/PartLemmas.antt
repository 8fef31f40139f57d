-- Texts that are written one after the other.
use Rattle.std.proofs.Common.{◌≡◌, ℕ, suc, ◌+◌, ◌<◌, List, [], ◌∷◌, ◌++◌, length, take, drop, get_or, add-one, append_assoc, Option, refl, ap, sym, ◌∙◌, subst, Bor}
use Rattle.std.proofs.Math.Seq.{take-suc, drop-cons}
use Rattle.std.proofs.lemmas.List.{take-append-drop}
use Rattle.std.proofs.KnownBytes.{Appends-trans}
use Rattle.std.specs.Io.KnownBytes.{Appends}
use Rattle.bson_base.specs.Device.{TakesBeginning}
use Rattle.cli_commands.specs.Lines.{concatenation}
use Rattle.bson_base.proofs.BeginningLemmas.{begun_first, begun_after}

joined-append : (ps qs : List (Bor (List ℕ))) → concatenation (ps ++ qs) ≡ concatenation ps ++ concatenation qs
joined-append [] qs = refl
joined-append (p ∷ ps) qs = ap (λ x. p.now ++ x) (joined-append ps qs) ∙ sym (append_assoc p.now (concatenation ps) (concatenation qs))

-- one part more was written
part_more : (a b c : Option (List ℕ)) (done more : List (Bor (List ℕ))) (p : Bor (List ℕ)) → more ≡ done ++ p ∷ [] → Appends a b (concatenation done) → Appends b c p.now → Appends a c (concatenation more)
part_more a b c done more p e first next =
    let whole : concatenation done ++ p.now ≡ concatenation more = ap (λ x. concatenation done ++ x) (sym (append-none p.now)) ∙ sym (joined-append done (p ∷ [])) ∙ ap concatenation (sym e) in
    subst (Appends a c) whole (Appends-trans a b c (concatenation done) p.now first next)
  where
    append-none : (xs : List ℕ) → xs ++ [] ≡ xs
    append-none [] = refl
    append-none (x ∷ xs) = ap (λ (l : List ℕ). x ∷ l) (append-none xs)

-- a prefix of the next part was written
part_begun : (a b c : Option (List ℕ)) (all done left : List (Bor (List ℕ))) (p : Bor (List ℕ)) → all ≡ done ++ p ∷ left → Appends a b (concatenation done) → TakesBeginning b c p.now → TakesBeginning a c (concatenation all)
part_begun a b c all done left p e first begun =
    subst (TakesBeginning a c) (sym (ap concatenation e ∙ joined-append done (p ∷ left)))
    (begun_after a b c (concatenation done) (p.now ++ concatenation left) first (begun_first b c p.now (concatenation left) begun))

-- ---- at the place i of the texts

pub parts_more : (a b c : Option (List ℕ)) (parts : List (Bor (List ℕ))) (i : ℕ) (d : Bor (List ℕ)) (text : List ℕ) → i < length parts → text ≡ (get_or parts i d).now
    → Appends a b (concatenation (take i parts)) → Appends b c text → Appends a c (concatenation (take (i + 1) parts))
parts_more a b c parts i d text h e first next =
    part_more a b c (take i parts) (take (i + 1) parts) (get_or parts i d) (rw add-one (take-suc parts i d h)) first (subst (Appends b c) e next)

pub parts_begun : (a b c : Option (List ℕ)) (parts : List (Bor (List ℕ))) (i : ℕ) (d : Bor (List ℕ)) (text : List ℕ) → i < length parts → text ≡ (get_or parts i d).now
    → Appends a b (concatenation (take i parts)) → TakesBeginning b c text → TakesBeginning a c (concatenation parts)
parts_begun a b c parts i d text h e first begun =
    part_begun a b c parts (take i parts) (drop (suc i) parts) (get_or parts i d) (sym (take-append-drop i parts) ∙ ap (λ l. take i parts ++ l) (drop-cons parts i d h)) first (subst (TakesBeginning b c) e begun)

-- The texts of the answers of a list, one after the other.
use Rattle.std.proofs.Common.{◌≡◌, ◌<◌, ◌≤◌, ◌+◌, ℕ, zero, suc, List, [], ◌∷◌, ◌++◌, codes, length, drop, get_or, Ok, Option, refl, ap, sym, ◌∙◌, subst, append_assoc, append-nil, arith}
use Rattle.std.proofs.lemmas.List.{drop_all, drop_more}
use Rattle.json.specs.Json.{Json}
use Rattle.json.specs.Print.{print}
use Rattle.json.specs.Token.{Token, key}
use Rattle.fallowtime_commands.specs.declared.answer.Answer.{Answer}
use Rattle.fallowtime_commands.specs.ListAnswers.{AreTold, PutsAnswer, PutsAnswers, TellsAll, separated, without_feed}
use Rattle.fallowtime_commands.specs.Objects.{begun, comma_before}

-- after i answers: the texts of the rest behind this line are those of all
pub record SoFar (answers : List Answer) (old now : List ℕ) (i : ℕ) : Type 0 where
  pub ends : (texts : List (List ℕ)) → AreTold (drop i answers) texts → (all : List (List ℕ)) × AreTold answers all × (now ++ separated i texts ≡ old ++ separated 0 all)

pub none_yet : (answers : List Answer) (old : List ℕ) → SoFar answers old old 0
none_yet answers old = record { ends = λ texts told. (texts, told, refl) }

pub one_more : (answers : List Answer) (old now more : List ℕ) (i : ℕ) (a : Answer) → SoFar answers old now i → i < length answers → get_or answers i a ≡ a → PutsAnswer i a now more → SoFar answers old more (suc i)
one_more answers old now more i a so within at (line, shows, e) = record { ends = ends }
  where
    from_here : drop i answers ≡ a ∷ drop (i + 1) answers
    from_here = drop_more answers i a within ∙ ap (λ v. v ∷ drop (i + 1) answers) at

    behind : drop (i + 1) answers ≡ drop (suc i) answers
    behind = ap (λ (n : ℕ). drop n answers) (let same : i + 1 ≡ suc i = omega arith in same)

    ends : (texts : List (List ℕ)) → AreTold (drop (suc i) answers) texts → (all : List (List ℕ)) × AreTold answers all × (more ++ separated (suc i) texts ≡ old ++ separated 0 all)
    ends texts rest =
        let text = without_feed line in
        let whole : AreTold (drop i answers) (text ∷ texts) = subst (λ xs. AreTold xs (text ∷ texts)) (sym from_here) (line, texts, shows, subst (λ xs. AreTold xs texts) (sym behind) rest, refl) in
        let r = so.ends (text ∷ texts) whole in
        let back = separated (suc i) texts in
        let joined : more ++ back ≡ now ++ (comma_before i ++ (text ++ back)) =
        ap (λ bs. bs ++ back) e ∙ append_assoc now (comma_before i ++ text) back ∙ ap (λ bs. now ++ bs) (append_assoc (comma_before i) text back) in
        (r.0, r.1, joined ∙ r.2)

pub all_put : (answers : List Answer) (old now : List ℕ) (i : ℕ) → SoFar answers old now i → length answers ≤ i → PutsAnswers answers old now
all_put answers old now i so past =
    let none : AreTold (drop i answers) [] = subst (λ xs. AreTold xs []) (sym (drop_all i answers past)) refl in
    let r = so.ends [] none in
    (r.0, r.1, sym (append-nil now) ∙ r.2)

-- the line of all of them
pub all_told : (id : Option Json) (answers : List Answer) (written : List Token) (old new line : List ℕ) → old ≡ print written ++ 91 ∷ [] → written ≡ begun id ++ key (codes "all") ∷ [] → PutsAnswers answers old new → line ≡ new ++ codes "]}\n" → TellsAll id answers line
all_told id answers written old new line opened named (texts, told, put) made =
    let text = separated 0 texts in
    let front = print (begun id ++ key (codes "all") ∷ []) in
    let begins : old ≡ front ++ 91 ∷ [] = opened ∙ ap (λ ts. print ts ++ 91 ∷ []) named in
    let whole : line ≡ ((front ++ 91 ∷ []) ++ text) ++ codes "]}\n" = made ∙ ap (λ bs. bs ++ codes "]}\n") (put ∙ ap (λ bs. bs ++ text) begins) in
    (texts, told, whole ∙ append_assoc (front ++ 91 ∷ []) text (codes "]}\n") ∙ append_assoc front (91 ∷ []) (text ++ codes "]}\n"))

-- The lines of `load`, one after the other.
use Rattle.std.proofs.Common.{◌≡◌, ◌≢◌, ℕ, suc, ◌+◌, ◌<◌, List, [], ◌∷◌, ◌++◌, length, map, take, drop, get_or, add-one, refl, sym, ap, ◌∙◌, subst, arith, length-append, take-append-drop, Bor}
use Rattle.std.proofs.Math.Seq.{take-suc, drop-cons}
use Rattle.std.proofs.lemmas.Grind.{common_steps}
use Rattle.serde_json.specs.Data.{Data}
use Rattle.cli_commands.specs.Inputs.{HaveTrees, IsBadLine, IsTreeLine}
use Rattle.cli_commands.specs.declared.lines.UsageError.TheVariants.{Line}
use Rattle.cli_commands.proofs.ReadLemmas.{no_tree_more, tree_more}
use Rattle.cli_commands.specs.Execute.{StopsFor}
use Rattle.cli_commands.specs.Loading.{StopsAtLine, TakesLine}
use Rattle.cli_commands.specs.declared.stop.Failure.{Failure}
use Rattle.cli_commands.specs.declared.stop.Failure.TheVariants.{Words, Refused}

-- the tree of a line is taken
pub takes_tree : (line : List ℕ) (j : Data) (js : List Data) (Taken : List Data → Type 0) → line ≢ [] → IsTreeLine line j → Taken (js ++ j ∷ []) → TakesLine line js Taken
takes_tree [] j js Taken some is taken = absurd (some refl)
takes_tree (b ∷ bs) j js Taken some is taken = (j, is, taken)

pub takes_none : (line : List ℕ) (js : List Data) (Taken : List Data → Type 0) → line ≡ [] → Taken js → TakesLine line js Taken
takes_none line js Taken none taken = subst (λ l. TakesLine l js Taken) (sym none) taken

-- a line more
pub one_line : (front : List (List ℕ)) (js : List Data) (line : List ℕ) (Taken : List Data → Type 0) → HaveTrees front js → TakesLine line js Taken → (all : List Data) × HaveTrees (front ++ line ∷ []) all × Taken all
one_line front js [] Taken have taken = (js, no_tree_more front js have, taken)
one_line front js (b ∷ bs) Taken have (j, is, taken) = (js ++ j ∷ [], tree_more front js (b ∷ bs) j (λ e. cc) is have, taken)

-- one that can't be read
pub stops_here : (lines front back : List (List ℕ)) (line : List ℕ) (js : List Data) (n : ℕ) (stop : Failure) → lines ≡ front ++ line ∷ back → HaveTrees front js → n ≡ length front + 1 → StopsFor (Line n) (IsBadLine line) stop → StopsAtLine lines stop
stops_here lines front back line js n (Words c) whole have at (is, bad) = subst (λ w. StopsAtLine lines (Words w)) (sym is) (front, line, back, js, whole, have, bad, at)
stops_here lines front back line js n (Refused e) whole have at memory = memory

-- ---- as they are yielded

abbrev pub shown : List (Bor (List ℕ)) → List (List ℕ)
shown = map (λ (x : Bor (List ℕ)). x.now)

shown_more : (xs : List (Bor (List ℕ))) (x : Bor (List ℕ)) → shown (xs ++ x ∷ []) ≡ shown xs ++ x.now ∷ []
shown_more [] x = refl
shown_more (y ∷ xs) x = ap (λ (l : List (List ℕ)). y.now ∷ l) (shown_more xs x)

pub length-shown : (xs : List (Bor (List ℕ))) → length (shown xs) ≡ length xs
length-shown [] = refl
length-shown (y ∷ xs) = ap suc (length-shown xs)

-- the line at the place of the iteration is the next of all
abbrev pub IsNext : List (Bor (List ℕ)) → Bor (List ℕ) → List (List ℕ) → Type 0
IsNext xs x all = (length xs < length all) × (x.now ≡ get_or all (length xs) x.now)

pub front_more : (xs : List (Bor (List ℕ))) (x : Bor (List ℕ)) (all : List (List ℕ)) → shown xs ≡ take (length xs) all → IsNext xs x all → shown (xs ++ x ∷ []) ≡ take (length (xs ++ x ∷ [])) all
front_more xs x all front next =
    let one : take (length xs + 1) all ≡ take (length xs) all ++ get_or all (length xs) x.now ∷ [] = rw add-one (take-suc all (length xs) x.now next.0) in
    let many : length (xs ++ x ∷ []) ≡ length xs + 1 = length-append xs (x ∷ []) in
    shown_more xs x ∙ ap (λ (f : List (List ℕ)). f ++ x.now ∷ []) front ∙ ap (λ (y : List ℕ). take (length xs) all ++ y ∷ []) next.1 ∙ sym one ∙ ap (λ n. take n all) (sym many)

-- the lines before it, it, and those after it
pub cut_at : (xs : List (Bor (List ℕ))) (x : Bor (List ℕ)) (all : List (List ℕ)) → shown xs ≡ take (length xs) all → IsNext xs x all → all ≡ shown xs ++ x.now ∷ drop (suc (length xs)) all
cut_at xs x all front next =
    sym (take-append-drop (length xs) all) ∙ ap (λ (l : List (List ℕ)). take (length xs) all ++ l) (drop-cons all (length xs) x.now next.0) ∙ ap (λ (f : List (List ℕ)). f ++ get_or all (length xs) x.now ∷ drop (suc (length xs)) all) (sym front)
    ∙ ap (λ (y : List ℕ). shown xs ++ y ∷ drop (suc (length xs)) all) (sym next.1)

-- the trees with those of the line
pub trees_more : (xs : List (Bor (List ℕ))) (x : Bor (List ℕ)) (js : List Data) (Taken : List Data → Type 0) → HaveTrees (shown xs) js → TakesLine x.now js Taken → (more : List Data) × HaveTrees (shown (xs ++ x ∷ [])) more × Taken more
trees_more xs x js Taken have takes =
    let m = one_line (shown xs) js x.now Taken have takes in
    (m.0, subst (λ (l : List (List ℕ)). HaveTrees l m.0) (sym (shown_more xs x)) m.1, m.2)

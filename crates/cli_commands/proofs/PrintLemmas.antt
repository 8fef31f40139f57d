-- What is printed, one part after the other.
use Rattle.std.proofs.Common.{◌≡◌, ℕ, ◌+◌, ◌<◌, List, [], ◌∷◌, ◌++◌, length, map, take, get_or, add-one, refl, sym, ap, ◌∙◌, subst}
use Rattle.std.proofs.Math.Seq.{take-suc}
use Rattle.std.specs.List.{flat_map}
use Rattle.std.specs.Io.KnownBytes.{Appends}
use Rattle.std.proofs.KnownBytes.{Appends-nil, Appends-trans}
use Rattle.std.proofs.lemmas.List.{flat_map_more, map-append}
use Rattle.serde_json.specs.Data.{Data}
use Rattle.serde_json.specs.Written.{compact_text}
use Rattle.bson_base.specs.Device.{Tally}
use Rattle.store_model.specs.State.{json_list}
use Rattle.cli_commands.specs.Lines.{line}
use Rattle.cli_commands.specs.Printing.{Prints}

-- no part
pub none_passed : (t : Tally) → (t.failures ≡ t.failures) × Appends t.taken t.taken []
none_passed t = (refl, Appends-nil t.taken)

-- the parts of the first ones were written
abbrev pub FirstPassed : {X : Type 0} → (X → List ℕ) → List X → Tally → Tally → Type 0
FirstPassed f xs old new = (new.failures ≡ old.failures) × Appends old.taken new.taken (flat_map f xs)

-- and that of one more
pub one_more : {X : Type 0} (f : X → List ℕ) (xs : List X) (x : X) (a b c : Tally) → FirstPassed f xs a b → c.failures ≡ b.failures → Appends b.taken c.taken (f x) → FirstPassed f (xs ++ x ∷ []) a c
one_more f xs x a b c first same next = (same ∙ first.0, subst (Appends a.taken c.taken) (flat_map_more f [] xs x) (Appends-trans a.taken b.taken c.taken (flat_map f xs) (f x) first.1 next))

-- the same of the parts of a list, up to a place
pub next_passed : {X : Type 0} (seen : X → List ℕ) (f : List ℕ → List ℕ) (xs : List X) (i : ℕ) (d : X) (x : List ℕ) (a b c : Tally) → i < length xs → x ≡ seen (get_or xs i d) → FirstPassed f (map seen (take i xs)) a b → c.failures ≡ b.failures → Appends b.taken c.taken (f x)
    → FirstPassed f (map seen (take (i + 1) xs)) a c
next_passed seen f xs i d x a b c below is first same next =
    let step : map seen (take (i + 1) xs) ≡ map seen (take i xs) ++ seen (get_or xs i d) ∷ [] = ap (map seen) (rw add-one (take-suc xs i d below)) ∙ map-append seen (take i xs) (get_or xs i d ∷ []) in
    subst (λ (ys : List (List ℕ)). FirstPassed f ys a c) (sym step) (one_more f (map seen (take i xs)) (seen (get_or xs i d)) a b c first same (subst (λ (y : List ℕ). Appends b.taken c.taken (f y)) is next))

-- the lines of a dump
pub no_lines : (t : Tally) → Prints (json_list []) t t
no_lines t = (refl, ([], refl, Appends-nil t.taken))

pub one_line_more : (js : List Data) (j : Data) (text : List ℕ) (a b c : Tally) → text ≡ compact_text j → Prints (json_list js) a b → c.failures ≡ b.failures → Appends b.taken c.taken (line text) → Prints (json_list (js ++ j ∷ [])) a c
one_line_more js j text a b c is (same, (out, are, first)) still next =
    let f = λ (x : Data). line (compact_text x) in
    let more = one_more f js j a b c (same, subst (Appends a.taken b.taken) are first) still (subst (λ x. Appends b.taken c.taken (line x)) is next) in
    (more.0, (flat_map f (js ++ j ∷ []), refl, more.1))

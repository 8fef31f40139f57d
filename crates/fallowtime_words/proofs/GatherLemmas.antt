-- Options that are gathered one after the other.
use Rattle.std.proofs.Common.{◌≡◌, ◌≢◌, ◌↔◌, ℕ, List, [], ◌∷◌, true, false, Option, Some, None, length, map, String, Global, string_bytes, ◌==◌, option_and_then, refl, sym, ◌∙◌, ap, subst, arith}
use Rattle.fallowtime_words.specs.Options.{HasValue, IsNamed, Lead, Spell, added, value_taken_by, no_options, option_named, with_all}
use Rattle.fallowtime_words.specs.declared.options.OptionValue.{OptionValue}
use Rattle.fallowtime_words.specs.declared.options.OptionValue.TheVariants.{Nothing, Number, Text}
use Rattle.fallowtime_words.specs.declared.options.Given.{Given}
use Rattle.fallowtime_words.specs.declared.options.OptionName.{OptionName}
use Rattle.fallowtime_words.specs.declared.options.Options.{Options}

-- what the options become with those of the words
abbrev pub Left : Options → List (List ℕ) → Options → Type 0
Left o words all = (gs : List Given) × Spell words gs × (with_all gs o ≡ Some all)

pub not_empty : (words : List (List ℕ)) (g : Given) (b : List (List ℕ)) → Lead words g b → words ≡ [] → ⊥
not_empty words g b (rest, (word, is, named), value) e = cc

-- with no word after them they are all
pub at_end : (o all : Options) → Left o [] all ↔ (o ≡ all)
at_end o all = (forth, λ e. ([], refl, ap Some e))
  where
    forth : Left o [] all → o ≡ all
    forth ([], s, h) = cc
    forth (g ∷ gs, (b, l, s), h) = absurd (not_empty [] g b l refl)

-- the words begin with one option at the most
one_name : (words : List (List ℕ)) (n m : OptionName) (rest other : List (List ℕ)) → IsNamed words n rest → IsNamed words m other → (n ≡ m) × (rest ≡ other)
one_name words n m rest other (word, is, named) (word', is', named') =
    let same : word ≡ word' = cc in
    let name : Some n ≡ Some m = sym named ∙ (ap option_named same ∙ named') in
    (cc, cc)

one_value : (f : OptionValue) (n m : ℕ) (words b b' : List (List ℕ)) → HasValue f n words b → HasValue f m words b' → (n ≡ m) × (b ≡ b')
one_value Nothing n m words b b' (zero, is) (zero', is') = (zero ∙ sym zero', sym is ∙ is')
one_value Number n m words b b' (t, is, number) (t', is', number') =
    let same : t ≡ t' = cc in
    (cc, cc)
one_value Text n m words b b' (t, is, long) (t', is', long') =
    let same : b ≡ b' = cc in
    (long ∙ (ap length same ∙ sym long'), same)

pub one_lead : (words : List (List ℕ)) (g g' : Given) (b b' : List (List ℕ)) → Lead words g b → Lead words g' b' → (g ≡ g') × (b ≡ b')
one_lead words g g' b b' (rest, named, value) (rest', named', value') =
    let p = one_name words g.name g'.name rest rest' named named' in
    let there : HasValue (value_taken_by g.name) g'.number rest b' = subst (λ n. HasValue (value_taken_by n) g'.number rest b') (sym p.0) (subst (λ x. HasValue (value_taken_by g'.name) g'.number x b') (sym p.1) value') in
    let q = one_value (value_taken_by g.name) g.number g'.number rest b b' value there in
    (λ i. record { name = p.0 i; number = q.0 i }, q.1)

-- what the words make of the options, turn by turn
pub goes_on : (words : List (List ℕ)) (g : Given) (b : List (List ℕ)) (o o1 all : Options) → Lead words g b → added g o ≡ Some o1
    → Left o words all ↔ Left o1 b all
goes_on words g b o o1 all l e = (forth, λ (gs, s, h). (g ∷ gs, (b, l, s), ap (option_and_then (λ more. with_all gs more)) e ∙ h))
  where
    first : (g' : Given) (gs : List Given) (b' : List (List ℕ)) → g ≡ g' → b ≡ b' → Spell b' gs → with_all (g' ∷ gs) o ≡ Some all → Left o1 b all
    first g' gs b' same end s h =
        (gs, subst (λ x. Spell x gs) (sym end) s, sym (ap (option_and_then (λ more. with_all gs more)) e) ∙ (ap (λ x. with_all (x ∷ gs) o) same ∙ h))

    forth : Left o words all → Left o1 b all
    forth ([], s, h) = absurd (not_empty words g b l s)
    forth (g' ∷ gs, (b', l', s), h) = let p = one_lead words g g' b b' l l' in first g' gs b' p.0 p.1 s h

pub no_option : (words : List (List ℕ)) (o all : Options) → words ≢ [] → ((g : Given) (b : List (List ℕ)) → Lead words g b → ⊥) → Left o words all → ⊥
no_option words o all some none_leads ([], s, h) = some s
no_option words o all some none_leads (g ∷ gs, (b, l, s), h) = none_leads g b l

pub no_more : (words : List (List ℕ)) (g : Given) (b : List (List ℕ)) (o all : Options) → Lead words g b → added g o ≡ None → Left o words all → ⊥
no_more words g b o all l e ([], s, h) = not_empty words g b l s
no_more words g b o all l e (g' ∷ gs, (b', l', s), h) =
    let p = one_lead words g g' b b' l l' in
    let nothing : None ≡ Some all = sym (ap (option_and_then (λ more. with_all gs more)) (sym (ap (λ x. added x o) p.0) ∙ e)) ∙ h in
    cc

-- there is no result if there can't be one
pub nothing : (P L : Options → Type 0) (r : Option Options) → r ≡ None → ((all : Options) → P all ↔ L all) → ((all : Options) → L all → ⊥)
    → (all : Options) → P all ↔ (r ≡ Some all)
nothing P L r e same never all = (λ p. absurd (never all ((same all).0 p)), λ s. cc)

pub no_words : (rest : List (String Global)) → true ≡ (length rest == 0) → map string_bytes rest ≡ []
no_words [] e = refl
no_words (x ∷ xs) e = grind arith

pub some_words : (rest : List (String Global)) → false ≡ (length rest == 0) → map string_bytes rest ≢ []
some_words [] e = cc
some_words (x ∷ xs) e = λ same. cc

pub everything : (P : Options → Type 0) (o : Options) (words : List (List ℕ)) → words ≡ [] → ((all : Options) → P all ↔ Left o words all)
    → (all : Options) → P all ↔ (Some o ≡ Some all)
everything P o words e same all = (forth, back)
  where
    forth : P all → Some o ≡ Some all
    forth p = ap Some ((at_end o all).0 (subst (λ x. Left o x all) e ((same all).0 p)))

    back : Some o ≡ Some all → P all
    back s = let is : o ≡ all = cc in (same all).1 (subst (λ x. Left o x all) (sym e) ((at_end o all).1 is))

-- what is given makes one set of options
pub same_gathered : (gs : List Given) (o all : Options) → with_all gs no_options ≡ Some o → with_all gs no_options ≡ Some all → o ≡ all
same_gathered gs o all h k = let same : Some o ≡ Some all = sym h ∙ k in cc

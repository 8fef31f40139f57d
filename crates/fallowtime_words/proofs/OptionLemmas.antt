-- Places, and the options after them.
use Rattle.std.proofs.Common.{◌≡◌, ◌≤◌, ◌<◌, ◌↔◌, ℕ, List, [], ◌∷◌, ◌++◌, Option, Some, None, MatchOption, String, Global, string_bytes, length, take, drop, map, codes, refl, sym, ◌∙◌, ap, subst, arith, length-append}
use Rattle.std.proofs.Math.Seq.{take-append_seam, drop-append_seam}
use Rattle.std.proofs.lemmas.List.{take-append-drop, take-map, drop-map, length-map}
use Rattle.std.specs.List.{IsSplitAt}
use Rattle.fallowtime_words.specs.Commands.{arguments, AreWords}
use Rattle.fallowtime_words.specs.Options.{Lead, AreOptions, Takes}
use Rattle.fallowtime_words.specs.Reading.{MayFollow}
use Rattle.fallowtime_words.specs.Words.{HasRest}
use Rattle.fallowtime_words.specs.declared.command.Command.{Command}
use Rattle.fallowtime_words.specs.declared.options.Given.{Given}
use Rattle.fallowtime_words.specs.declared.options.Options.{Options}

-- an option begins with two hyphens
lead_follows : (words : List (List ℕ)) (g : Given) (b : List (List ℕ)) → Lead words g b → MayFollow words
lead_follows words g b (rest, (name, is, named), value) word more e = let same : word ≡ codes "--" ++ name = cc in (name, same)

pub options_follow : (words : List (List ℕ)) (o : Options) → AreOptions words o → MayFollow words
options_follow words o ([], s, h) word more e = cc
options_follow words o (g ∷ gs, (b, l, s), h) word more e = lead_follows words g b l word more e

-- n is the only number of words that can be places
abbrev pub Only : Command → List (List ℕ) → ℕ → Type 0
Only command words n = (places given : List (List ℕ)) → words ≡ places ++ given → AreWords (arguments command) places → MayFollow given → length places ≡ n

-- so there is one way to cut the words
pub cut : (words places given : List (List ℕ)) (n : ℕ) → words ≡ places ++ given → length places ≡ n → (n ≤ length words) × (places ≡ take n words) × (given ≡ drop n words)
cut words places given n e len = (omega (arith, ap length e, length-append places given), front, back)
  where
    front : places ≡ take n words
    front = sym (take-append_seam places given) ∙ (ap (λ k. take k (places ++ given)) len ∙ ap (take n) (sym e))

    back : given ≡ drop n words
    back = sym (drop-append_seam places given) ∙ (ap (λ k. drop k (places ++ given)) len ∙ ap (drop n) (sym e))

abbrev pub Cut : Command → List (List ℕ) → ℕ → List (List ℕ) → Options → Type 0
Cut command words n places o = (n ≤ length words) × (places ≡ take n words) × AreOptions (drop n words) o × Takes command o

pub one_way : (command : Command) (words places : List (List ℕ)) (n : ℕ) (o : Options) → Only command words n → HasRest command words places o → Cut command words n places o
one_way command words places n o only (given, e, hp, ho, t) =
    let c = cut words places given n e (only places given e hp (options_follow given o ho)) in
    (c.0, c.1, subst (λ x. AreOptions x o) c.2 ho, t)

-- strings that are cut
seen_front : (ws p g : List (String Global)) (n : ℕ) → IsSplitAt ws n p g → map string_bytes p ≡ take n (map string_bytes ws)
seen_front ws p g n (fits, front, back, long, rest) = ap (map string_bytes) front ∙ sym (take-map string_bytes n ws)

seen_back : (ws p g : List (String Global)) (n : ℕ) → IsSplitAt ws n p g → map string_bytes g ≡ drop n (map string_bytes ws)
seen_back ws p g n (fits, front, back, long, rest) = ap (map string_bytes) back ∙ sym (drop-map string_bytes n ws)

-- what there is none of
pub none_is : {T : Type 0} (r : Option T) (P : Type 0) (Q : T → Type 0) → r ≡ None → P → MatchOption r P Q
none_is None P Q e p = p
none_is (Some x) P Q e p = cc

-- too few words, words that are no options, and options that the command hasn't
pub too_few : (command : Command) (ws : List (String Global)) (n : ℕ) → Only command (map string_bytes ws) n → length ws < n
    → (places : List (List ℕ)) (o : Options) → HasRest command (map string_bytes ws) places o → ⊥
too_few command ws n only few places o h =
    let w = one_way command (map string_bytes ws) places n o only h in
    omega (arith, w.0, length-map ws string_bytes)

pub no_options : (command : Command) (ws p g : List (String Global)) (n : ℕ) → Only command (map string_bytes ws) n → IsSplitAt ws n p g
    → ((o : Options) → AreOptions (map string_bytes g) o ↔ (None ≡ Some o)) → (places : List (List ℕ)) (o : Options) → HasRest command (map string_bytes ws) places o → ⊥
no_options command ws p g n only split same places o h =
    let w = one_way command (map string_bytes ws) places n o only h in
    let e : None ≡ Some o = (same o).0 (subst (λ x. AreOptions x o) (sym (seen_back ws p g n split)) w.2) in
    cc

pub not_taken : (command : Command) (ws p g : List (String Global)) (n : ℕ) (read : Options) → Only command (map string_bytes ws) n → IsSplitAt ws n p g
    → ((o : Options) → AreOptions (map string_bytes g) o ↔ (Some read ≡ Some o)) → (Takes command read → ⊥)
    → (places : List (List ℕ)) (o : Options) → HasRest command (map string_bytes ws) places o → ⊥
not_taken command ws p g n read only split same without places o h =
    let w = one_way command (map string_bytes ws) places n o only h in
    let e : Some read ≡ Some o = (same o).0 (subst (λ x. AreOptions x o) (sym (seen_back ws p g n split)) w.2) in
    let is : o ≡ read = cc in
    without (subst (Takes command) is w.3)

pub read_so : (command : Command) (ws p g : List (String Global)) (n : ℕ) (read : Options) → IsSplitAt ws n p g
    → (n ≤ length ws → AreWords (arguments command) (take n (map string_bytes ws))) → ((o : Options) → AreOptions (map string_bytes g) o ↔ (Some read ≡ Some o))
    → Takes command read → HasRest command (map string_bytes ws) (map string_bytes p) read
read_so command ws p g n read split fits same has = (
  map string_bytes g,
  sym (ap (λ x. x ++ map string_bytes g) (seen_front ws p g n split) ∙ (ap (λ x. take n (map string_bytes ws) ++ x) (seen_back ws p g n split)
      ∙ take-append-drop n (map string_bytes ws))),
  subst (AreWords (arguments command)) (sym (seen_front ws p g n split)) (fits split.0),
  (same read).1 refl,
  has,
)

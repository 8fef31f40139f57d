-- What there is no task for, at each exit.
use Rattle.std.proofs.Common.{◌≡◌, ◌↔◌, ℕ, Bool, List, ◌∷◌, Option, Some, None, MatchOption, option_map, map, String, Global, string_bytes, sym, ◌∙◌, ap, subst}
use Rattle.fallowtime_words.specs.Commands.{command_name}
use Rattle.fallowtime_words.specs.Options.{AreOptions, IsOfSession}
use Rattle.fallowtime_words.specs.Words.{Asked, line, session, HasRest, AreOfSession, IsTask, asked_of}
use Rattle.fallowtime_words.specs.declared.command.Command.{Command}
use Rattle.fallowtime_words.specs.declared.options.Options.{Options}
use Rattle.fallowtime_words.specs.declared.words.Task.{Task}
use Rattle.fallowtime_words.proofs.SingleLemmas.{one_name, no_option_name, one_task}
use Rattle.fallowtime_words.proofs.OptionLemmas.{options_follow}

pub no_options : (words : List (List ℕ)) → ((o : Options) → AreOptions words o ↔ (None ≡ Some o)) → (messages : Bool) (seconds : Option ℕ) → AreOfSession words messages seconds → ⊥
no_options words same messages seconds (o, a, w, m, is) = let e : None ≡ Some o = (same o).0 a in cc

pub more_options : (words : List (List ℕ)) (read : Options) → ((o : Options) → AreOptions words o ↔ (Some read ≡ Some o)) → (IsOfSession read → ⊥)
    → (messages : Bool) (seconds : Option ℕ) → AreOfSession words messages seconds → ⊥
more_options words read same more messages seconds (o, a, w, m, is) =
    let e : Some read ≡ Some o = (same o).0 a in
    let here : o ≡ read = cc in
    more (subst IsOfSession here w)

pub no_line : (file : List ℕ) (words : List (List ℕ)) (c : Command) (behind : List (List ℕ)) → words ≡ command_name c ∷ behind
    → ((taken : List (List ℕ)) (o : Options) → HasRest c behind taken o → ⊥) → (asked : Asked) → IsTask (file ∷ words) asked → ⊥
no_line file words c behind e never (line f c' taken o) (is, (b, e', h)) =
    let named : command_name c' ≡ command_name c = cc in
    let rest : b ≡ behind = cc in
    never taken o (subst (λ x. HasRest x behind taken o) (one_name c' c named) (subst (λ x. HasRest c' x taken o) rest h))
no_line file words c behind e never (session f messages seconds) (is, (given, e', (o, a, w, m, s))) =
    let same : given ≡ command_name c ∷ behind = cc in
    no_option_name c (options_follow given o a (command_name c) behind same)

pub no_session_either : (file : List ℕ) (words : List (List ℕ)) → ((c : Command) (behind : List (List ℕ)) → words ≡ command_name c ∷ behind → ⊥)
    → ((messages : Bool) (seconds : Option ℕ) → AreOfSession words messages seconds → ⊥) → (asked : Asked) → IsTask (file ∷ words) asked → ⊥
no_session_either file words no_command never (line f c taken o) (is, (b, e, h)) = let same : words ≡ command_name c ∷ b = cc in no_command c b same
no_session_either file words no_command never (session f messages seconds) (is, (given, e, w)) =
    let same : given ≡ words = cc in never messages seconds (subst (λ x. AreOfSession x messages seconds) same w)

-- what is asked for, as a clause says it
abbrev pub Tells : List (List ℕ) → Option Task → Type 0
Tells words r = MatchOption r ((asked : Asked) → IsTask words asked → ⊥) (λ t. IsTask words (asked_of t))

pub only_one : (words : List (List ℕ)) (r : Option Task) → Tells words r → (asked : Asked) → IsTask words asked → option_map asked_of r ≡ Some asked
only_one words None h asked t = absurd (h asked t)
only_one words (Some task) h asked t = ap Some (one_task words (asked_of task) asked h t)

pub told_of_strings : (ws : List (String Global)) (first : String Global) (behind : List (String Global)) (file : List ℕ) (r : Option Task)
    → ws ≡ first ∷ behind → file ≡ string_bytes first → Tells (file ∷ map string_bytes behind) r → Tells (map string_bytes ws) r
told_of_strings ws first behind file r e is h =
    let same : file ∷ map string_bytes behind ≡ map string_bytes ws = ap (λ x. x ∷ map string_bytes behind) is ∙ sym (ap (map string_bytes) e) in
    subst (λ x. Tells x r) same h

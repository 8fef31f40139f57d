-- The words ask for one thing at the most.
use Rattle.std.proofs.Common.{◌≡◌, ℕ, suc, Bool, List, [], ◌∷◌, ◌++◌, Option, Some, slice_index, length, codes, inl, inr, refl, sym, ◌∙◌, ap, subst, arith}
use Rattle.fallowtime_words.specs.Commands.{arguments, command_name, command_of, AreWords, BeginsWith, IsLast, IsQuery}
use Rattle.fallowtime_words.specs.Options.{Spell, AreOptions, no_options, with_all}
use Rattle.fallowtime_words.specs.Reading.{MayFollow}
use Rattle.fallowtime_words.specs.Words.{Asked, line, session, AreOfSession, HasRest, IsTask}
use Rattle.fallowtime_words.specs.declared.command.Command.{Command}
use Rattle.fallowtime_words.specs.declared.command.Command.TheVariants.{Insert, Put, Replace, Get, Set, Unset, Update, ReplaceOne, Delete, FindAndUpdate, FindAndReplace, FindAndDelete, Remove, Find, Count, Distinct, Aggregate, Import, Export, Drop, Rename, Copy, Collections, Check, Backup, Apply, Index, DropIndex, Version, ImportAll, ExportAll, Edit}
use Rattle.fallowtime_words.specs.declared.options.Given.{Given}
use Rattle.fallowtime_words.specs.declared.options.Options.{Options}
use Rattle.fallowtime_words.specs.declared.table.Argument.{Argument}
use Rattle.fallowtime_words.specs.declared.table.Argument.TheVariants.{Collection, Document, Id, Key, Value, Query, Selection, Update as Change, Options as Further, Pipeline, Documents, IndexPath, NewName, File, Folder}
use Rattle.fallowtime_words.proofs.OptionLemmas.{options_follow, cut}
use Rattle.fallowtime_words.proofs.GatherLemmas.{one_lead, not_empty, same_gathered}

pub command_is : (c : Command) → command_of (command_name c) ≡ Some c
unfolding command_of
command_is Insert = refl
command_is Put = refl
command_is Replace = refl
command_is Get = refl
command_is Set = refl
command_is Unset = refl
command_is Update = refl
command_is ReplaceOne = refl
command_is Delete = refl
command_is FindAndUpdate = refl
command_is FindAndReplace = refl
command_is FindAndDelete = refl
command_is Remove = refl
command_is Find = refl
command_is Count = refl
command_is Distinct = refl
command_is Aggregate = refl
command_is Import = refl
command_is Export = refl
command_is Drop = refl
command_is Rename = refl
command_is Copy = refl
command_is Collections = refl
command_is Check = refl
command_is Backup = refl
command_is Apply = refl
command_is Index = refl
command_is DropIndex = refl
command_is Version = refl
command_is ImportAll = refl
command_is ExportAll = refl
command_is Edit = refl

pub one_name : (c c' : Command) → command_name c ≡ command_name c' → c ≡ c'
one_name c c' e = let same : Some c ≡ Some c' = sym (command_is c) ∙ (ap command_of e ∙ command_is c') in cc

-- no command begins with two hyphens
pub no_option_name : (c : Command) → BeginsWith (codes "--") (command_name c) → ⊥
no_option_name Insert (rest, e) = let first : 105 ≡ 45 = ap (λ w. slice_index w 0) e in absurd (omega (arith, first))
no_option_name Put (rest, e) = let first : 112 ≡ 45 = ap (λ w. slice_index w 0) e in absurd (omega (arith, first))
no_option_name Replace (rest, e) = let first : 114 ≡ 45 = ap (λ w. slice_index w 0) e in absurd (omega (arith, first))
no_option_name Get (rest, e) = let first : 103 ≡ 45 = ap (λ w. slice_index w 0) e in absurd (omega (arith, first))
no_option_name Set (rest, e) = let first : 115 ≡ 45 = ap (λ w. slice_index w 0) e in absurd (omega (arith, first))
no_option_name Unset (rest, e) = let first : 117 ≡ 45 = ap (λ w. slice_index w 0) e in absurd (omega (arith, first))
no_option_name Update (rest, e) = let first : 117 ≡ 45 = ap (λ w. slice_index w 0) e in absurd (omega (arith, first))
no_option_name ReplaceOne (rest, e) = let first : 114 ≡ 45 = ap (λ w. slice_index w 0) e in absurd (omega (arith, first))
no_option_name Delete (rest, e) = let first : 100 ≡ 45 = ap (λ w. slice_index w 0) e in absurd (omega (arith, first))
no_option_name FindAndUpdate (rest, e) = let first : 102 ≡ 45 = ap (λ w. slice_index w 0) e in absurd (omega (arith, first))
no_option_name FindAndReplace (rest, e) = let first : 102 ≡ 45 = ap (λ w. slice_index w 0) e in absurd (omega (arith, first))
no_option_name FindAndDelete (rest, e) = let first : 102 ≡ 45 = ap (λ w. slice_index w 0) e in absurd (omega (arith, first))
no_option_name Remove (rest, e) = let first : 114 ≡ 45 = ap (λ w. slice_index w 0) e in absurd (omega (arith, first))
no_option_name Find (rest, e) = let first : 102 ≡ 45 = ap (λ w. slice_index w 0) e in absurd (omega (arith, first))
no_option_name Count (rest, e) = let first : 99 ≡ 45 = ap (λ w. slice_index w 0) e in absurd (omega (arith, first))
no_option_name Distinct (rest, e) = let first : 100 ≡ 45 = ap (λ w. slice_index w 0) e in absurd (omega (arith, first))
no_option_name Aggregate (rest, e) = let first : 97 ≡ 45 = ap (λ w. slice_index w 0) e in absurd (omega (arith, first))
no_option_name Import (rest, e) = let first : 105 ≡ 45 = ap (λ w. slice_index w 0) e in absurd (omega (arith, first))
no_option_name Export (rest, e) = let first : 101 ≡ 45 = ap (λ w. slice_index w 0) e in absurd (omega (arith, first))
no_option_name Drop (rest, e) = let first : 100 ≡ 45 = ap (λ w. slice_index w 0) e in absurd (omega (arith, first))
no_option_name Rename (rest, e) = let first : 114 ≡ 45 = ap (λ w. slice_index w 0) e in absurd (omega (arith, first))
no_option_name Copy (rest, e) = let first : 99 ≡ 45 = ap (λ w. slice_index w 0) e in absurd (omega (arith, first))
no_option_name Collections (rest, e) = let first : 99 ≡ 45 = ap (λ w. slice_index w 0) e in absurd (omega (arith, first))
no_option_name Check (rest, e) = let first : 99 ≡ 45 = ap (λ w. slice_index w 0) e in absurd (omega (arith, first))
no_option_name Backup (rest, e) = let first : 98 ≡ 45 = ap (λ w. slice_index w 0) e in absurd (omega (arith, first))
no_option_name Apply (rest, e) = let first : 97 ≡ 45 = ap (λ w. slice_index w 0) e in absurd (omega (arith, first))
no_option_name Index (rest, e) = let first : 105 ≡ 45 = ap (λ w. slice_index w 0) e in absurd (omega (arith, first))
no_option_name DropIndex (rest, e) = let first : 100 ≡ 45 = ap (λ w. slice_index w 0) e in absurd (omega (arith, first))
no_option_name Version (rest, e) = let first : 118 ≡ 45 = ap (λ w. slice_index w 0) e in absurd (omega (arith, first))
no_option_name ImportAll (rest, e) = let first : 105 ≡ 45 = ap (λ w. slice_index w 0) e in absurd (omega (arith, first))
no_option_name ExportAll (rest, e) = let first : 101 ≡ 45 = ap (λ w. slice_index w 0) e in absurd (omega (arith, first))
no_option_name Edit (rest, e) = let first : 101 ≡ 45 = ap (λ w. slice_index w 0) e in absurd (omega (arith, first))

-- one list of options
one_given : (words : List (List ℕ)) (gs hs : List Given) → Spell words gs → Spell words hs → gs ≡ hs
one_given words [] [] s t = refl
one_given words [] (g ∷ gs) s (b, l, t) = absurd (not_empty words g b l s)
one_given words (g ∷ gs) [] (b, l, s) t = absurd (not_empty words g b l t)
one_given words (g ∷ gs) (h ∷ hs) (b, l, s) (b', l', t) =
    let p = one_lead words g h b b' l l' in
    let more : gs ≡ hs = one_given b gs hs s (subst (λ x. Spell x hs) (sym p.1) t) in
    ap (λ x. x ∷ gs) p.0 ∙ ap (λ x. h ∷ x) more

pub one_options : (words : List (List ℕ)) (o all : Options) → AreOptions words o → AreOptions words all → o ≡ all
one_options words o all (gs, s, h) (hs, t, k) = same_gathered gs o all h (ap (λ x. with_all x no_options) (one_given words gs hs s t) ∙ k)

-- a word that begins with two hyphens is no query
no_query : (query : List ℕ) (given more : List (List ℕ)) → MayFollow given → given ≡ query ∷ more → ¬ BeginsWith (codes "--") query → ⊥
no_query query given more follow e not = not (follow query more e)

same_queries : (words places places' given given' : List (List ℕ)) → words ≡ places ++ given → words ≡ places' ++ given' → MayFollow given → MayFollow given'
    → IsQuery places → IsQuery places' → length places ≡ length places'
same_queries words places places' given given' e e' m m' (inl h) (inl h') = ap length (h ∙ sym h')
same_queries words places places' given given' e e' m m' (inl h) (inr (q, h', not)) =
    absurd (no_query q given given' m (sym (ap (λ x. x ++ given) h) ∙ (sym e ∙ (e' ∙ ap (λ x. x ++ given') h'))) not)
same_queries words places places' given given' e e' m m' (inr (q, h, not)) (inl h') =
    absurd (no_query q given' given m' (sym (ap (λ x. x ++ given') h') ∙ (sym e' ∙ (e ∙ ap (λ x. x ++ given) h))) not)
same_queries words places places' given given' e e' m m' (inr (q, h, not)) (inr (q', h', not')) = ap length h ∙ sym (ap length h')

-- as many words for a last argument, and for arguments
as_many_last : (words taken taken' given given' : List (List ℕ)) → words ≡ taken ++ given → words ≡ taken' ++ given' → MayFollow given → MayFollow given'
    → (a : Argument) → IsLast a taken → IsLast a taken' → length taken ≡ length taken'
as_many_last words taken taken' given given' e e' m m' Query h h' = same_queries words taken taken' given given' e e' m m' h h'
as_many_last words taken taken' given given' e e' m m' Further h h' = ap length (h ∙ sym h')
as_many_last words taken taken' given given' e e' m m' Documents h h' = ap length (h ∙ sym h')
as_many_last words taken taken' given given' e e' m m' Collection h h' = h ∙ sym h'
as_many_last words taken taken' given given' e e' m m' Document h h' = h ∙ sym h'
as_many_last words taken taken' given given' e e' m m' Id h h' = h ∙ sym h'
as_many_last words taken taken' given given' e e' m m' Key h h' = h ∙ sym h'
as_many_last words taken taken' given given' e e' m m' Value h h' = h ∙ sym h'
as_many_last words taken taken' given given' e e' m m' Selection h h' = h ∙ sym h'
as_many_last words taken taken' given given' e e' m m' Change h h' = h ∙ sym h'
as_many_last words taken taken' given given' e e' m m' Pipeline h h' = h ∙ sym h'
as_many_last words taken taken' given given' e e' m m' IndexPath h h' = h ∙ sym h'
as_many_last words taken taken' given given' e e' m m' NewName h h' = h ∙ sym h'
as_many_last words taken taken' given given' e e' m m' File h h' = h ∙ sym h'
as_many_last words taken taken' given given' e e' m m' Folder h h' = h ∙ sym h'

as_many : (words taken taken' given given' : List (List ℕ)) → words ≡ taken ++ given → words ≡ taken' ++ given' → MayFollow given → MayFollow given'
    → (all : List Argument) → AreWords all taken → AreWords all taken' → length taken ≡ length taken'
as_many words taken taken' given given' e e' m m' [] h h' = ap length (h ∙ sym h')
as_many words taken taken' given given' e e' m m' (a ∷ []) h h' = as_many_last words taken taken' given given' e e' m m' a h h'
as_many words taken taken' given given' e e' m m' (a ∷ b ∷ more) (w, rest, is, h) (w', rest', is', h') =
    let whole : words ≡ w ∷ (rest ++ given) = e ∙ ap (λ x. x ++ given) is in
    let whole' : words ≡ w' ∷ (rest' ++ given') = e' ∙ ap (λ x. x ++ given') is' in
    let same : rest ++ given ≡ rest' ++ given' = cc in
    ap length is ∙ (ap suc (as_many (rest ++ given) rest rest' given given' refl same m m' (b ∷ more) h h') ∙ sym (ap length is'))

pub one_rest : (c : Command) (words places places' : List (List ℕ)) (o all : Options) → HasRest c words places o → HasRest c words places' all → (places ≡ places') × (o ≡ all)
one_rest c words places places' o all (given, e, h, s, t) (given', e', h', s', t') =
    let many = as_many words places places' given given' e e' (options_follow given o s) (options_follow given' all s') (arguments c) h h' in
    let a = cut words places given (length places) e refl in
    let b = cut words places' given' (length places) e' (sym many) in
    let same : given' ≡ given = b.2 ∙ sym a.2 in
    (a.1 ∙ sym b.1, one_options given o all s (subst (λ x. AreOptions x all) same s'))

-- a command's words are no session's
no_session : (words given : List (List ℕ)) (file file' : List ℕ) (c : Command) (behind : List (List ℕ)) (messages : Bool) (seconds : Option ℕ)
    → words ≡ file ∷ command_name c ∷ behind → words ≡ file' ∷ given → AreOfSession given messages seconds → ⊥
no_session words given file file' c behind messages seconds e e' (o, s, w, m, is) =
    let same : given ≡ command_name c ∷ behind = cc in
    no_option_name c (options_follow given o s (command_name c) behind same)

same_line : (words : List (List ℕ)) (file file' : List ℕ) (c c' : Command) (taken taken' behind behind' : List (List ℕ)) (o o' : Options)
    → words ≡ file ∷ command_name c ∷ behind → words ≡ file' ∷ command_name c' ∷ behind' → HasRest c behind taken o → HasRest c' behind' taken' o'
    → line file c taken o ≡ line file' c' taken' o'
same_line words file file' c c' taken taken' behind behind' o o' e e' h h' =
    let named : command_name c ≡ command_name c' = cc in
    let first : file ≡ file' = cc in
    let is : c ≡ c' = one_name c c' named in
    let rest : behind' ≡ behind = cc in
    let p = one_rest c behind taken taken' o o' h (subst (λ x. HasRest x behind taken' o') (sym is) (subst (λ x. HasRest c' x taken' o') rest h')) in
    let third : taken ≡ taken' = p.0 in
    let fourth : o ≡ o' = p.1 in
    cc

pub one_task : (words : List (List ℕ)) (s t : Asked) → IsTask words s → IsTask words t → s ≡ t
one_task words (line file c taken o) (line file' c' taken' o') (f, (b, e, h)) (f', (b', e', h')) = same_line words file file' c c' taken taken' b b' o o' e e' h h'
one_task words (line file c taken o) (session file' m s) (f, (b, e, h)) (f', (given, e', w)) = absurd (no_session words given file file' c b m s e e' w)
one_task words (session file m s) (line file' c taken o) (f, (given, e, w)) (f', (b, e', h)) = absurd (no_session words given file' file c b m s e' e w)
one_task words (session file m s) (session file' m' s') (f, (given, e, (o, a, w, of, is))) (f', (given', e', (o', a', w', of', is'))) =
    let first : file ≡ file' = cc in
    let same : given' ≡ given = cc in
    let all : o ≡ o' = one_options given o o' a (subst (λ x. AreOptions x o') same a') in
    let form : m ≡ m' = sym of ∙ (ap (λ x. x.messages) all ∙ of') in
    let last : s ≡ s' = sym is ∙ (ap (λ x. x.seconds) all ∙ is') in
    cc

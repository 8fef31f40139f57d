use Rattle.std.proofs.Common.{◌≡◌, ◌∷◌, IfOk, codes, map, string_bytes, subst, sym, ◌∙◌, ap}
use Rattle.fallowtime_words.specs.Commands.{BeginsWith, command_of}
use Rattle.fallowtime_words.specs.Hints.{HintsAt, HintsIf}
use Rattle.fallowtime_words.specs.declared.hint.TheConstants.{JOINED}
use Rattle.fallowtime_words.proofs.WordLemmas.{hints_so, same_behind, same_file, same_word, no_words, one_word}
use Rattle.fallowtime_words.proofs.hint.hint_of.Goals as goal

pub returns-in_default : goal.returns-in_default
returns-in_default c = λ file word more e is_file none. absurd (no_words c.args.words.now file _ c.in_default.ensures.cases e)

pub returns-then-is_option : goal.returns-then-is_option
returns-then-is_option c = λ file word more e is_file none.
    absurd (is_file (subst (BeginsWith (codes "-")) (c.as_str.ensures.value ∙ same_file c.args.words.now c.in-Some.behind.now c.in-Some.file.now file _ c.in-Some.ensures.cases.0 e)
    (c.is_option.ensures.0 c.if-is_option.true)))

pub returns-in_default-split_first : goal.returns-in_default-split_first
returns-in_default-split_first c = λ file word more e is_file none.
    absurd (one_word c.args.words.now c.in-Some.behind.now c.in-Some.file.now file word more c.in-Some.ensures.cases.0 c.in_default-split_first.ensures.cases e)

pub returns-then-has_joined : goal.returns-then-has_joined
returns-then-has_joined c = λ file word more e is_file none.
    hints_so c.from_str-then-has_joined.result (λ t. string_bytes t ≡ JOINED.now) c.has_joined.result word (map string_bytes c.in-Some.behind.now) (word ∷ more) c.has_joined.ensures
    (same_behind c.args.words.now c.in-Some.behind.now c.in-Some.file.now file _ c.in-Some.ensures.cases.0 e)
    (λ t is. subst (λ b. HintsIf b word (string_bytes t)) (sym c.if-has_joined.true) is) c.from_str-then-has_joined.ensures.ok

pub returns : goal.returns
returns c = λ file word more e is_file none.
    let f : c.as_str-2.result.now ≡ file = c.as_str-2.ensures.value ∙ same_file c.args.words.now c.in-Some.behind.now c.in-Some.file.now file _ c.in-Some.ensures.cases.0 e in
    let w : c.as_str-3.result.now ≡ word = c.as_str-3.ensures.value
    ∙ same_word c.args.words.now c.in-Some.behind.now c.in-Some-split_first.field-0-1.now c.in-Some.file.now c.in-Some-split_first.word.now file word more c.in-Some.ensures.cases.0 c.in-Some-split_first.ensures.cases.0 e in
    hints_so c.behind_either.result (λ t. HintsAt word (command_of word) (string_bytes t)) c.has_joined.result word (map string_bytes c.in-Some.behind.now) (word ∷ more) c.has_joined.ensures
    (same_behind c.args.words.now c.in-Some.behind.now c.in-Some.file.now file _ c.in-Some.ensures.cases.0 e)
    (λ t is. subst (λ b. HintsIf b word (string_bytes t)) (sym c.if-has_joined.false) is)
    (subst (λ x. IfOk c.behind_either.result (λ t. HintsAt x (command_of x) (string_bytes t))) w (c.behind_either.ensures (ap command_of f ∙ none)))

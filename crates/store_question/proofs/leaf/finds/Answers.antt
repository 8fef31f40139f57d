use Rattle.std.proofs.Common.{ℕ, ◌<◌, All, is_some, ap, ◌∙◌}
use Rattle.std.proofs.lemmas.List.{get_or_default}
use Rattle.regex.specs.Patterns.{Re, find_str}
use Rattle.regex.specs.Strings.{regex_pattern}
use Rattle.store_question.proofs.PatternLemmas.{found_so}
use Rattle.store_question.proofs.leaf.finds.Goals as goal

pub returns : goal.returns
returns c = λ options source r.
    let bytes : All (λ x. x < 256) c.args.text.now = λ k d h. rw (get_or_default c.args.text.now k d 0 h) ((c.type_inv.text k).fits) in
    c.is_match.ensures.found
    ∙ ap (λ (p : Re). is_some (find_str p c.args.text.now 0)) c.in_ok-matcher.ensures.pattern
    ∙ found_so options source (regex_pattern c.args.pattern.now) r c.args.text.now bytes

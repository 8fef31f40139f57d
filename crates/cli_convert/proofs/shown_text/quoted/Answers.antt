use Rattle.std.proofs.Common.{◌++◌, ap, ◌∙◌, sym, chars, append_assoc, string_bytes}
use Rattle.std.specs.Str.Iter.{chars_rest}
use Rattle.cli_convert.specs.Shown.{quoted_char, quoted_rest}
use Rattle.cli_convert.proofs.ShownLemmas.{no_more, step}
use Rattle.cli_convert.proofs.shown_text.quoted.Goals as goal

pub loop-character-preserved : goal.loop-character-preserved
loop-character-preserved c =
    let inv = c.loop-character.invariant in
    let rest = chars_rest c.next.new.self in
    let s = step (chars_rest c.loop-character.character-iterator) rest c.in-Some.character inv.1 c.in-Some.ensures.steps.0 in
    let line = string_bytes c.loop-character.line in
    let later = quoted_rest (chars rest) in
    let pushed = ap (λ bytes. bytes ++ later) c.in_ok-push_quoted.ensures ∙ append_assoc line (quoted_char c.in-Some.character) later in
    (pushed ∙ sym (ap (λ cs. line ++ quoted_rest cs) s.0) ∙ inv.0, s.1, tt, tt)

pub returns : goal.returns
returns c =
    let inv = c.loop-character.invariant in
    let none = no_more (chars_rest c.loop-character.character-iterator) c.in-None.ensures.steps.0.0 in
    c.in_ok-push_str.ensures.bytes ∙ sym (ap (λ cs. string_bytes c.loop-character.line ++ quoted_rest cs) none) ∙ inv.0

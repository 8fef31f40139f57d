use Rattle.std.proofs.Common.{ap, ◌∙◌, sym, chars}
use Rattle.std.specs.List.{list_any}
use Rattle.std.specs.Str.Iter.{chars_rest}
use Rattle.cli_convert.specs.Shown.{is_control}
use Rattle.cli_convert.proofs.ShownLemmas.{no_more, step, any_first, any_later}
use Rattle.cli_convert.proofs.shown_text.has_control.Goals as goal

pub returns-then-is_control : goal.returns-then-is_control
returns-then-is_control c =
    let inv = c.loop-character.invariant in
    let rest = chars_rest c.next.new.self in
    let s = step (chars_rest c.loop-character.character-iterator) rest c.in-Some.character inv.1 c.in-Some.ensures.steps.0 in
    sym (inv.0 ∙ ap (list_any is_control) s.0 ∙ any_first is_control c.in-Some.character (chars rest) (sym c.is_control.ensures ∙ c.if-is_control.true))

pub loop-character-preserved : goal.loop-character-preserved
loop-character-preserved c =
    let inv = c.loop-character.invariant in
    let rest = chars_rest c.next.new.self in
    let s = step (chars_rest c.loop-character.character-iterator) rest c.in-Some.character inv.1 c.in-Some.ensures.steps.0 in
    (inv.0 ∙ ap (list_any is_control) s.0 ∙ any_later is_control c.in-Some.character (chars rest) (sym c.is_control.ensures ∙ c.if-is_control.false), s.1, tt, tt)

pub returns : goal.returns
returns c =
    let inv = c.loop-character.invariant in
    sym (inv.0 ∙ ap (list_any is_control) (no_more (chars_rest c.loop-character.character-iterator) c.in-None.ensures.steps.0.0))

use Rattle.std.proofs.Common.{ap, ◌∙◌, chars, arith}
use Rattle.std.specs.Str.Iter.{chars_rest}
use Rattle.bson_meaning.specs.Counts.{count}
use Rattle.bson_meaning.proofs.CharacterLemmas.{step, no_more, count_first, count_other}
use Rattle.bson_meaning.proofs.options.count_of.Goals as goal

pub loop-other-preserved-then-other-character : goal.loop-other-preserved-then-other-character
loop-other-preserved-then-other-character c =
    let inv = c.loop-other.invariant in
    let rest = chars_rest c.next.new.self in
    let s = step (chars_rest c.loop-other.other-iterator) rest c.in-Some.other inv.2 c.in-Some.ensures.steps.0 in
    let first = ap (count c.args.character) s.0 ∙ count_first c.args.character c.in-Some.other (chars rest) c.if-other-character.true in
    (omega (arith, inv.0, first), omega (arith, inv.1, s.2), s.1, tt, tt)

pub loop-other-preserved : goal.loop-other-preserved
loop-other-preserved c =
    let inv = c.loop-other.invariant in
    let rest = chars_rest c.next.new.self in
    let s = step (chars_rest c.loop-other.other-iterator) rest c.in-Some.other inv.2 c.in-Some.ensures.steps.0 in
    let other = ap (count c.args.character) s.0 ∙ count_other c.args.character c.in-Some.other (chars rest) c.if-other-character.false in
    (omega (arith, inv.0, other), omega (arith, inv.1, s.2), s.1, tt, tt)

pub returns : goal.returns
returns c =
    let inv = c.loop-other.invariant in
    let none = ap (count c.args.character) (no_more (chars_rest c.loop-other.other-iterator) c.in-None.ensures.steps.0.0) in
    omega (arith, inv.0, none)

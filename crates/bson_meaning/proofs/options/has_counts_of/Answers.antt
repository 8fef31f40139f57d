use Rattle.std.proofs.Common.{sym, ◌∙◌, chars, subst, refl, List, ℕ}
use Rattle.std.specs.Str.Iter.{chars_rest}
use Rattle.bson_meaning.specs.Counts.{StandAlike}
use Rattle.bson_meaning.proofs.CharacterLemmas.{step, no_more}
use Rattle.bson_meaning.proofs.options.has_counts_of.Goals as goal

pub returns-then-count_of : goal.returns-then-count_of
returns-then-count_of c =
    let inv = c.loop-character.invariant in
    let s = step (chars_rest c.loop-character.character-iterator) (chars_rest c.next.new.self) c.in-Some.character inv.1 c.in-Some.ensures.steps.0 in
    let P : List ℕ → Type 0 = λ cs. StandAlike (chars c.args.text.now) (chars c.args.other.now) cs in
    (λ h. absurd cc, λ h. absurd (c.if-count_of.true (c.count_of.ensures ∙ (subst P s.0 (inv.0.0 h)).0 ∙ sym c.count_of-in-loop-character.ensures)))

pub loop-character-preserved : goal.loop-character-preserved
loop-character-preserved c =
    let inv = c.loop-character.invariant in
    let s = step (chars_rest c.loop-character.character-iterator) (chars_rest c.next.new.self) c.in-Some.character inv.1 c.in-Some.ensures.steps.0 in
    let P : List ℕ → Type 0 = λ cs. StandAlike (chars c.args.text.now) (chars c.args.other.now) cs in
    ((λ h. (subst P s.0 (inv.0.0 h)).1, λ h. inv.0.1 (subst P (sym s.0) (sym c.count_of.ensures ∙ c.if-count_of.false ∙ c.count_of-in-loop-character.ensures, h))), s.1, tt, tt)

pub returns : goal.returns
returns c =
    let inv = c.loop-character.invariant in
    let P : List ℕ → Type 0 = λ cs. StandAlike (chars c.args.text.now) (chars c.args.other.now) cs in
    (λ _. inv.0.1 (subst P (sym (no_more (chars_rest c.loop-character.character-iterator) c.in-None.ensures.steps.0.0)) tt), λ _. refl)

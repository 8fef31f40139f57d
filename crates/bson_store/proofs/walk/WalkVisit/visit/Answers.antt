use Rattle.std.proofs.Common.{sym, ◌∙◌}
use Rattle.bson_store.proofs.DumpLemmas.{handed_stays, handed_one, handed_none}
use Rattle.bson_store.proofs.StandLemmas.{stands_on, stops}
use Rattle.bson_store.proofs.walk.WalkVisit.visit.Goals as goal

pub returns-then-is_some-clause-took : goal.returns-then-is_some-clause-took
returns-then-is_some-clause-took g c first bodies h =
    let v = c.args.self.now in (
      λ start. handed_stays (g.T.Step.took first.step v.step) (g.T.Step.refused first.step v.step) v.place bodies c.args.body.now v.refusal (sym c.is_some.ensures ∙ c.if-is_some.true) (h.0 start),
      h.1,
    )

pub returns-in-Ok-clause-took : goal.returns-in-Ok-clause-took
returns-in-Ok-clause-took g c first bodies h =
    let v = c.args.self.now in
    let new = c.advance.new.step in
    let none = sym c.is_some.ensures ∙ c.if-is_some.false in (
      λ start. handed_one (g.T.Step.took first.step v.step) (g.T.Step.took first.step new) (g.T.Step.refused first.step v.step) (g.T.Step.refused first.step new) v.place c.in-Ok.next bodies c.args.body.now v.refusal none (c.in-Ok.ensures.hands first.step) (h.0 start),
      λ stood. stands_on (g.T.Step.stands first.step v.step) (g.T.Step.stands first.step new) (g.T.Step.stopped first.step v.step) (g.T.Step.stopped first.step new) v.refusal none (c.in-Ok.ensures.stands first.step) (h.1 stood),
    )

pub returns-in-Err-clause-took : goal.returns-in-Err-clause-took
returns-in-Err-clause-took g c first bodies h =
    let v = c.args.self.now in
    let new = c.advance.new.step in
    let none = sym c.is_some.ensures ∙ c.if-is_some.false in (
      λ start. handed_none (g.T.Step.took first.step v.step) (g.T.Step.took first.step new) (g.T.Step.refused first.step v.step) (g.T.Step.refused first.step new) v.place v.place bodies c.args.body.now v.refusal c.in-Err.error none (c.in-Err.ensures.hands first.step) (h.0 start),
      λ stood. stops (g.T.Step.stands first.step v.step) (g.T.Step.stands first.step new) (g.T.Step.stopped first.step v.step) (g.T.Step.stopped first.step new) v.refusal c.in-Err.error none (c.in-Err.ensures.stands first.step) (h.1 stood),
    )

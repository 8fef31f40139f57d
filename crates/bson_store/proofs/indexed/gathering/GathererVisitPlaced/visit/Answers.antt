use Rattle.std.proofs.Common.{◌≡◌, ◌∙◌, w64, to_z, of_z}
use Rattle.std.proofs.lemmas.Int.{to_z-of_z}
use Rattle.bson_store.proofs.GatherLemmas.{gathers_more, only_more}
use Rattle.bson_store.proofs.indexed.gathering.GathererVisitPlaced.visit.Goals as goal

pub returns-in-Ok-clause-took : goal.returns-in-Ok-clause-took
returns-in-Ok-clause-took c first rows h =
    let same : to_z w64 (of_z w64 c.args.place) ≡ c.args.place = to_z-of_z w64 c.args.place c.ranges.place in
    let index = c.args.self.now.index in (
      (c.note.ensures.same.0 ∙ h.0.0, c.note.ensures.same.1 ∙ h.0.1),
      gathers_more c.args.self.now.index c.note.new.self rows c.args.place c.args.body.now c.args.self.now.failed (λ q b. c.in-Ok.ensures.kept q b) (rw same at c.in-Ok.ensures.noted) h.1,
      only_more first.index index c.note.new.self rows c.args.place c.args.body.now c.args.self.now.failed (λ q b n. c.in-Ok.ensures.others q b (λ e. n (e ∙ same))) h.2,
    )

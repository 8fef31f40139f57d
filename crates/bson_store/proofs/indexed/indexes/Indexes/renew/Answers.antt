use Rattle.std.proofs.Common.{◌≡◌, ◌∙◌, ℤ, subst, w64, to_z, of_z}
use Rattle.std.proofs.lemmas.Int.{to_z-of_z}
use Rattle.bson_store.specs.Find.{Renews}
use Rattle.bson_store.proofs.indexed.indexes.Indexes.renew.Goals as goal

pub returns-clause-kept : goal.returns-clause-kept
returns-clause-kept c k p b other h =
    let same : to_z w64 (of_z w64 c.args.place) ≡ c.args.place = to_z-of_z w64 c.args.place c.ranges.place in
    c.note.ensures.kept k p b (c.forget.ensures.kept k p b (λ e. other (e ∙ same)) h)

pub returns-clause-gone : goal.returns-clause-gone
returns-clause-gone c =
    let same : to_z w64 (of_z w64 c.args.place) ≡ c.args.place = to_z-of_z w64 c.args.place c.ranges.place in
    subst (λ (p : ℤ). Renews c.note.new.self p c.args.old.now c.args.body.now) same (c.note.ensures.renewed _ c.args.old.now c.forget.ensures.gone)

pub returns-clause-renewed : goal.returns-clause-renewed
returns-clause-renewed c p b h = c.note.ensures.renewed p b (c.forget.ensures.missed p b h)

pub returns-clause-others : goal.returns-clause-others
returns-clause-others c p b n h = c.note.ensures.others p b (λ e. n (e ∙ to_z-of_z w64 c.args.place c.ranges.place)) (c.forget.ensures.missed p b h)

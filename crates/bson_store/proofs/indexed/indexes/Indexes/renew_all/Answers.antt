use Rattle.std.proofs.Common.{◌≡◌, ◌∙◌, ℤ, subst, w64, to_z, of_z}
use Rattle.std.proofs.lemmas.Int.{to_z-of_z}
use Rattle.bson_store.specs.Find.{Finds, Renews}
use Rattle.bson_store.proofs.indexed.indexes.Indexes.renew_all.Goals as goal

pub returns-clause-noted : goal.returns-clause-noted
returns-clause-noted c k =
    let same : to_z w64 (of_z w64 c.args.place) ≡ c.args.place = to_z-of_z w64 c.args.place c.ranges.place in
    subst (λ (p : ℤ). Finds c.note_all.new.self k p c.args.body.now) same (c.note_all.ensures.noted k)

pub returns-clause-kept : goal.returns-clause-kept
returns-clause-kept c k p b other h =
    let same : to_z w64 (of_z w64 c.args.place) ≡ c.args.place = to_z-of_z w64 c.args.place c.ranges.place in
    c.note_all.ensures.kept k p b (c.forget.ensures.kept k p b (λ e. other (e ∙ same)) h)

pub returns-clause-gone : goal.returns-clause-gone
returns-clause-gone c =
    let same : to_z w64 (of_z w64 c.args.place) ≡ c.args.place = to_z-of_z w64 c.args.place c.ranges.place in
    subst (λ (p : ℤ). Renews c.note_all.new.self p c.args.old.now c.args.body.now) same (c.note_all.ensures.renewed _ c.args.old.now c.forget.ensures.gone)

pub returns-clause-renewed : goal.returns-clause-renewed
returns-clause-renewed c p b h = c.note_all.ensures.renewed p b (c.forget.ensures.missed p b h)

pub returns-clause-others : goal.returns-clause-others
returns-clause-others c p b n h = c.note_all.ensures.others p b (λ e. n (e ∙ to_z-of_z w64 c.args.place c.ranges.place)) (c.forget.ensures.missed p b h)

use Rattle.std.proofs.Common.{◌≡◌, ℤ, subst, w64, to_z, of_z}
use Rattle.std.proofs.lemmas.Int.{to_z-of_z}
use Rattle.std.specs.Prelude.{OnOk}
use Rattle.bson_store.specs.Find.{FindsOf}
use Rattle.bson_store.proofs.IndexFindLemmas.{note_of, find_of}
use Rattle.bson_store.proofs.indexed.index.Index.note_any.Goals as goal

pub returns-clause-noted : goal.returns-clause-noted
returns-clause-noted c k =
    let same : to_z w64 (of_z w64 c.args.place) ≡ c.args.place = to_z-of_z w64 c.args.place c.ranges.place in
    subst (λ (p : ℤ). OnOk c.note.result (FindsOf c.note.new.self k p c.args.body.now)) same (find_of c.note.new.self _ c.args.body.now c.note.result c.note.ensures.noted k)

pub returns-clause-kept : goal.returns-clause-kept
returns-clause-kept c k p b h = note_of c.args.self.now c.note.new.self k p b c.note.result c.note.ensures.same (c.note.ensures.kept p b) h

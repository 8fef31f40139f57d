use Rattle.std.proofs.Common.{◌≡◌, w64, to_z, of_z, rules}
use Rattle.sqlite_pool.specs.StoredLaws.{Keeps-trans}
use Rattle.fallowtime_front.proofs.WriteLemmas.{no_row, row_found}
use Rattle.fallowtime_front.proofs.rows.find_row.Goals as goal

pub returns-in-Ok-None-clause-reads : goal.returns-in-Ok-None-clause-reads
returns-in-Ok-None-clause-reads g c clean first docs serves =
    (no_row c.args.coll.now c.args.key.now docs c.in-Ok-None.field-0 c.in-Ok-None.field-0-is (c.in-Ok-None.ensures.found clean first docs serves), c.in-Ok-None.ensures.same clean first docs serves)

pub returns-in_default-clause-keeps : goal.returns-in_default-clause-keeps
returns-in_default-clause-keeps g c = Keeps-trans _ _ _ c.place_of.ensures.keeps c.body_of.ensures.keeps

pub returns-then-not-is_sound-clause-keeps : goal.returns-then-not-is_sound-clause-keeps
returns-then-not-is_sound-clause-keeps g c = Keeps-trans _ _ _ c.place_of.ensures.keeps c.body_of.ensures.keeps

pub returns-clause-reads : goal.returns-clause-reads
returns-clause-reads g c clean first docs serves =
    let early = c.body_of.ensures.keeps.stays.clean clean in
    let there = c.in-Ok-Some.ensures.same early first docs serves in
    let same : to_z w64 (of_z w64 c.in-Ok-Some.place) ≡ c.in-Ok-Some.place = search rules in (
      row_found c.args.coll.now c.args.key.now docs c.in-Ok-Some.place _ c.in-Ok-Some-body_of.body c.in-Ok-Some.field-0 c.in-Ok-Some-body_of.field-0 same c.in-Ok-Some.field-0-is (c.in-Ok-Some.ensures.found early first docs serves)
          c.in-Ok-Some-body_of.field-0-is (c.in-Ok-Some-body_of.ensures.found clean first docs there),
      c.in-Ok-Some-body_of.ensures.same clean first docs there,
    )

pub returns-clause-keeps : goal.returns-clause-keeps
returns-clause-keeps g c = Keeps-trans _ _ _ c.place_of.ensures.keeps c.body_of.ensures.keeps

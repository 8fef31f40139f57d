use Rattle.std.proofs.Common.{IsTrue, inl, inr, sym, ap, subst, ◌∙◌}
use Rattle.sqlite_wal.proofs.StateLemmas.{StaysOrFails-trans}
use Rattle.sqlite_pool.proofs.StateLemmas.{settled}
use Rattle.sqlite_pool.specs.File.{version_in, SameButHeader}
use Rattle.sqlite_pool.specs.Pool.{state, usable}
use Rattle.store_table.proofs.WriterLemmas.{kept, all_kept, all_made, either_left}
use Rattle.store_table.proofs.pages.writer.Writer.commit.Goals as goal

pub returns-in-Ok-clause-done : goal.returns-in-Ok-clause-done
returns-in-Ok-clause-done g c clean first docs serves =
    let it = c.args.self.now in
    let old = state it.pool in
    let mid = state c.set_version.new.self in
    let late = state c.commit.new.self in
    let tidy = c.in-Ok.ensures.clean clean in
    let was : IsTrue mid.is_open = c.commit.ensures.crash.stays.was_open tidy.is_open in
    let opened : IsTrue old.is_open = c.set_version.ensures.keeps.stays.was_open was in
    let has = kept first old mid (usable it.pool) (usable c.set_version.new.self) it.roots.table it.roots.index docs c.set_version.ensures.keeps c.set_version.ensures.pages serves in
    let same = subst (λ p. SameButHeader (usable c.set_version.new.self) p) tidy.fresh (c.in-Ok.ensures.durable clean) in
    all_made first mid late (usable c.set_version.new.self) it.roots.table it.roots.index docs c.commit.ensures.crash.stays.size was (settled c.commit.new.self g.met.D.Disk.seen_may_stay tidy.is_open) tidy.sound same
    (c.in-Ok.ensures.version clean ∙ c.set_version.ensures.version ∙ c.stored_version-version.ensures opened ∙ sym (ap version_in (c.set_version.ensures.keeps.committed was))) has

pub returns-in-Ok-clause-crash : goal.returns-in-Ok-clause-crash
returns-in-Ok-clause-crash g c first docs made all serves =
    let it = c.args.self.now in
    let old = state it.pool in
    let mid = state c.set_version.new.self in
    let late = state c.commit.new.self in
    let k = c.set_version.ensures.keeps in
    let has = kept first old mid (usable it.pool) (usable c.set_version.new.self) it.roots.table it.roots.index made k c.set_version.ensures.pages serves in
    either_left first mid late (usable c.set_version.new.self) it.roots.table it.roots.index _ docs made c.commit.ensures.crash.stays.size
    (λ was. c.set_version.ensures.version ∙ c.stored_version-version.ensures (k.stays.was_open was) ∙ sym (ap version_in (k.committed was)))
    (λ image may. elim (c.commit.ensures.crash.crash image may) [ inl same ↦ inl same | inr new ↦ inr (new.0, (new.1.0, new.1.1, new.1.2, new.1.4)) ])
    (all_kept first old mid docs k all) has

pub returns-in-Err-clause-crash : goal.returns-in-Err-clause-crash
returns-in-Err-clause-crash g c first docs made all serves =
    let it = c.args.self.now in
    let old = state it.pool in
    let mid = state c.set_version.new.self in
    let late = state c.commit.new.self in
    let k = c.set_version.ensures.keeps in
    let has = kept first old mid (usable it.pool) (usable c.set_version.new.self) it.roots.table it.roots.index made k c.set_version.ensures.pages serves in
    either_left first mid late (usable c.set_version.new.self) it.roots.table it.roots.index _ docs made c.commit.ensures.crash.stays.size
    (λ was. c.set_version.ensures.version ∙ c.stored_version-version.ensures (k.stays.was_open was) ∙ sym (ap version_in (k.committed was)))
    (λ image may. elim (c.commit.ensures.crash.crash image may) [ inl same ↦ inl same | inr new ↦ inr (new.0, (new.1.0, new.1.1, new.1.2, new.1.4)) ])
    (all_kept first old mid docs k all) has

pub returns-in-Ok-clause-stays : goal.returns-in-Ok-clause-stays
returns-in-Ok-clause-stays g c = StaysOrFails-trans _ _ _ c.set_version.ensures.keeps.stays c.commit.ensures.crash.stays

pub returns-in-Err-clause-stays : goal.returns-in-Err-clause-stays
returns-in-Err-clause-stays g c = StaysOrFails-trans _ _ _ c.set_version.ensures.keeps.stays c.commit.ensures.crash.stays

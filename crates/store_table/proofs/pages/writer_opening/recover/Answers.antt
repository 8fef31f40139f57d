use Rattle.std.proofs.Common.{refl, sym, subst, subst₂}
use Rattle.sqlite_wal.specs.PageSize.{IsPageSize}
use Rattle.sqlite_pool.specs.Pool.{state}
use Rattle.sqlite_pool.specs.Stored.{Recovers}
use Rattle.sqlite_pool.specs.StoredLaws.{readable}
use Rattle.sqlite.specs.Files.{image_of}
use Rattle.store_table.specs.Frames.{NamesSize}
use Rattle.store_table.proofs.GivenBackLemmas.{Begun, allowed, alike, given_back, named_early, seen, unread}
use Rattle.store_table.proofs.pages.writer_opening.recover.Goals as goal

pub returns-in-Ok-recover-clause-open : goal.returns-in-Ok-recover-clause-open
returns-in-Ok-recover-clause-open g c still =
    let it : Begun c.args.files c.page_size.new.files c.begins_well.new.files c.in-Ok.pool c.recover.new.self c.in-Some.size = record {
      read_log = c.page_size.ensures.log;
      read_db = c.page_size.ensures.db;
      probe_log = c.begins_well.ensures.log;
      probe_db = c.begins_well.ensures.db;
      named = c.in-Some.ensures.named;
      begins = c.if-not-begins_well.ensures.begins refl;
      those = c.in-Ok.ensures.files;
      sized = c.in-Ok.ensures.size;
      kept = c.recover.ensures.kept;
    } in
    let same = sym c.recover.ensures.kept.size in
    record {
      clean = c.in-Ok-recover.ensures.clean still;
      sized = subst IsPageSize same (allowed _ _ _ _ _ _ it);
      named = subst (λ n. NamesSize (image_of g.D.Disk c.args.files) n) same (named_early _ _ _ _ _ _ it still);
      found = subst₂ (λ n i. Recovers n i (state c.recover.new.self).committed) same (seen _ _ _ _ _ _ it) (c.in-Ok-recover.ensures.found still);
    }

pub returns-in-Ok-recover-clause-something : goal.returns-in-Ok-recover-clause-something
returns-in-Ok-recover-clause-something g c still nothing =
    let it : Begun c.args.files c.page_size.new.files c.begins_well.new.files c.in-Ok.pool c.recover.new.self c.in-Some.size = record {
      read_log = c.page_size.ensures.log;
      read_db = c.page_size.ensures.db;
      probe_log = c.begins_well.ensures.log;
      probe_db = c.begins_well.ensures.db;
      named = c.in-Some.ensures.named;
      begins = c.if-not-begins_well.ensures.begins refl;
      those = c.in-Ok.ensures.files;
      sized = c.in-Ok.ensures.size;
      kept = c.recover.ensures.kept;
    } in
    let found = subst (λ i. Recovers (state c.in-Ok.pool).page_size i (state c.recover.new.self).committed) (seen _ _ _ _ _ _ it) (c.in-Ok-recover.ensures.found still) in
    readable _ _ _ found (unread _ _ _ _ _ _ it still nothing)

pub returns-in-Ok-recover-clause-alike : goal.returns-in-Ok-recover-clause-alike
returns-in-Ok-recover-clause-alike g c =
    let it : Begun c.args.files c.page_size.new.files c.begins_well.new.files c.in-Ok.pool c.recover.new.self c.in-Some.size = record {
      read_log = c.page_size.ensures.log;
      read_db = c.page_size.ensures.db;
      probe_log = c.begins_well.ensures.log;
      probe_db = c.begins_well.ensures.db;
      named = c.in-Some.ensures.named;
      begins = c.if-not-begins_well.ensures.begins refl;
      those = c.in-Ok.ensures.files;
      sized = c.in-Ok.ensures.size;
      kept = c.recover.ensures.kept;
    } in
    alike _ _ _ _ _ _ it c.recover.ensures.outcomes

pub returns-in-Err-recover-clause-back : goal.returns-in-Err-recover-clause-back
returns-in-Err-recover-clause-back g c clean =
    let it : Begun c.args.files c.page_size.new.files c.begins_well.new.files c.in-Ok.pool c.recover.new.self c.in-Some.size = record {
      read_log = c.page_size.ensures.log;
      read_db = c.page_size.ensures.db;
      probe_log = c.begins_well.ensures.log;
      probe_db = c.begins_well.ensures.db;
      named = c.in-Some.ensures.named;
      begins = c.if-not-begins_well.ensures.begins refl;
      those = c.in-Ok.ensures.files;
      sized = c.in-Ok.ensures.size;
      kept = c.recover.ensures.kept;
    } in
    given_back _ _ _ _ _ _ it c.close.result c.close.ensures clean c.recover.ensures.outcomes c.recover.ensures.unreadable c.recover.ensures.still

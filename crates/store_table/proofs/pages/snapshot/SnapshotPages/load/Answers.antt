use Rattle.std.proofs.Common.{◌≡◌, ℕ, ◌∙◌, ◌<◌, List, length, Some, sym, ap, subst, refl, arith, rules}
use Rattle.std.specs.Vec.{with_items}
use Rattle.std.proofs.lemmas.List.{with_items_is}
use Rattle.store_table.specs.Snapshot.{pages_of}
use Rattle.sqlite_wal.specs.Recovery.{page_count, pages_after}
use Rattle.sqlite_wal.proofs.CleanLemmas.{both_clean}
use Rattle.sqlite_wal.proofs.ChangeLemmas.{pages_range}
use Rattle.sqlite_wal.proofs.FileLemmas.{pages_inside}
use Rattle.sqlite_pages.proofs.Doubt.{clean_of, only_falls}
use Rattle.store_table.specs.Frames.{AreNumbered}
use Rattle.store_table.proofs.FrameLemmas.{if_this, keeps, same_image}
use Rattle.store_table.proofs.pages.snapshot.SnapshotPages.load.Goals as goal

pub returns-then-page-eq0-clause-err : goal.returns-then-page-eq0-clause-err
returns-then-page-eq0-clause-err g c clean some =
    let range = pages_range _ _ _ _ _ some in
    omega (arith, range.0)

pub returns-then-page-self-clause-err : goal.returns-then-page-self-clause-err
returns-then-page-self-clause-err g c clean some =
    let range = pages_range _ _ _ _ _ some in
    let counted = c.args.self.now.counted (clean_of _ clean) in
    omega (arith, range.1, counted)

pub returns-then-page-self-2-clause-ok : goal.returns-then-page-self-2-clause-ok
returns-then-page-self-2-clause-ok g c clean =
    let self = c.args.self.now in
    let same : c.args.page ≡ self.number = search rules in
    let some : 0 < self.number = omega arith in
    if_this (λ bytes. self.page.items ≡ bytes) _ self.page.items (subst (λ (n : ℕ). pages_of self n ≡ Some self.page.items) (sym same) (self.loaded (clean_of _ clean) some)) refl

pub invariant_of-self : goal.invariant_of-self
invariant_of-self g c =
    let self = c.args.self.now in
    let log = c.read_page.ensures.log in
    let db = c.read_page.ensures.db in
    let is = with_items_is self.page c.read_page.new.buf (c.read_page.auto.buf ∙ c.as_mut_slice.ensures.len) in
    record {
      log_usable = log.usable;
      db_usable = db.usable;
      sized = ap length is ∙ c.read_page.auto.buf ∙ ap length c.as_mut_slice.ensures.value ∙ self.sized;
      size_ok = self.size_ok;
      few = self.few;
      numbered = λ clean. subst (λ (x : List ℕ). AreNumbered self.size x self.frames.items) (sym log.seen) (self.numbered (log.clean clean));
      counted = λ clean. keeps (λ x y. self.count ≡ page_count self.size x y (length self.frames.items)) _ _ _ _ log.seen db.seen (self.counted (both_clean _ _ _ _ log.clean db.clean clean));
      loaded = λ clean some. keeps (λ x y. pages_after self.size x y (length self.frames.items) c.args.page ≡ Some (with_items self.page c.read_page.new.buf).items) _ _ _ _ log.seen db.seen
          (let counted = self.counted (both_clean _ _ _ _ log.clean db.clean clean) in
          pages_inside _ _ _ _ _ (omega arith) (omega arith) ∙ ap Some ((rw c.as_slice.ensures.value at (c.in-Ok.ensures.ok clean)) ∙ sym is));
    }

pub returns-in-Ok-clause-ok : goal.returns-in-Ok-clause-ok
returns-in-Ok-clause-ok g c clean =
    let self = c.args.self.now in
    let log = c.read_page.ensures.log in
    let db = c.read_page.ensures.db in
    let is = with_items_is self.page c.read_page.new.buf (c.read_page.auto.buf ∙ c.as_mut_slice.ensures.len) in
    let counted = self.counted (both_clean _ _ _ _ log.clean db.clean (clean_of _ clean)) in
    if_this (λ bytes. (with_items self.page c.read_page.new.buf).items ≡ bytes) (pages_of self c.args.page) c.read_page.new.buf
    (pages_inside _ _ _ _ _ (omega arith) (omega arith) ∙ ap Some (rw c.as_slice.ensures.value at (c.in-Ok.ensures.ok (clean_of _ clean)))) is

pub returns-in-Ok-clause-steps : goal.returns-in-Ok-clause-steps
returns-in-Ok-clause-steps g c =
    let log = c.read_page.ensures.log in
    let db = c.read_page.ensures.db in
    record {
      same_size = refl;
      more_faults = c.read_page.ensures.counts;
      clean = only_falls _ _ (both_clean _ _ _ _ log.clean db.clean);
      in_order = same_image _ _ _ _ log.seen db.seen;
    }

pub returns-in-Err-clause-steps : goal.returns-in-Err-clause-steps
returns-in-Err-clause-steps g c =
    let log = c.read_page.ensures.log in
    let db = c.read_page.ensures.db in
    record {
      same_size = refl;
      more_faults = c.read_page.ensures.counts;
      clean = only_falls _ _ (both_clean _ _ _ _ log.clean db.clean);
      in_order = same_image _ _ _ _ log.seen db.seen;
    }

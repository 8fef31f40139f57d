-- Files that were given back are as before, or stand for the same pages.
use Rattle.std.proofs.Common.{◌≡◌, inl, inr, ℕ, false, IsTrue, sym, ap, subst, subst₂, ◌∙◌, arith}
use Rattle.std.proofs.lemmas.Bool.{cases_eq}
use Rattle.sqlite_disk.specs.declared.Disk.{Ghosts}
use Rattle.sqlite_disk.specs.declared.Files.{Files}
use Rattle.sqlite_wal.specs.Files.{outcomes, seen_image}
use Rattle.sqlite_wal.specs.Recovery.{Image, IsIgnored}
use Rattle.sqlite_wal.specs.PageSize.{IsPageSize, bytes_of}
use Rattle.sqlite_wal.specs.declared.page_size.PageSize.{PageSize}
use Rattle.sqlite_wal.specs.Reads.{AreClean, OnlyReads}
use Rattle.sqlite_pool.specs.Backing.{Reopens}
use Rattle.sqlite_pool.specs.Opening.{image}
use Rattle.sqlite_pool.specs.Pool.{state, files}
use Rattle.sqlite_pool.specs.Stored.{stored_size, used_size, IsUnreadable, Keeps, KeepsImage, RecoversAs}
use Rattle.sqlite_pool.specs.declared.pool.Pool.{Pool}
use Rattle.sqlite_pool.proofs.StateLemmas.{clean_if_left}
use Rattle.sqlite.specs.Files.{BeginsWell, IsNothing, image_of}
use Rattle.sqlite_wal.proofs.CleanLemmas.{both_clean}
use Rattle.sqlite.proofs.FileLemmas.{reads_then, same_image, stays_something}
use Rattle.sqlite.proofs.OpenLemmas.{pool_files}
use Rattle.store_table.specs.Frames.{NamesSize}
use Rattle.store_table.specs.GivenBack.{AreGivenBack, StandAlike}
use Rattle.store_table.proofs.PoolLemmas.{none_reserved}
use Rattle.store_table.proofs.WriterLemmas.{left_of}

-- two sizes that the same files name are one
pub named_once : (image : Image) (a b : ℕ) → NamesSize image a → NamesSize image b → a ≡ b
unfolding NamesSize
named_once image a b p q = elim (cases_eq a b) [
  | inl same ↦ same
  | inr other ↦ absurd (
      let seen = λ (s : ¬ IsIgnored image.log). other (p.0 s ∙ sym (q.0 s)) in
      seen (λ ignored. other (p.1 ignored ∙ sym (q.1 ignored)))
      )
]

pub stored_whole : (size : ℕ) → IsPageSize size → stored_size size ≡ size
stored_whole size sized = let plain = none_reserved size sized in omega (arith, plain)

-- no pages can be read where there is no database yet, if the first page were to begin as one
pub unreadable : (size : ℕ) (image : Image) → IsPageSize size → BeginsWell size image → IsNothing image → IsUnreadable size image
unreadable size image sized begins nothing pages found whole =
    let same = stored_whole size sized in
    stays_something size image image (omega (arith, same, sized.0)) (subst (λ n. BeginsWell n image) (sym same) begins) (inl (λ p was. was), λ p was. was)
    (λ none. none pages found whole) nothing

-- A pool over files of which a size was read, and then how they begin; and the same pool after its recovery.
pub record Begun {D : Type 0} {g : Ghosts D} (old mid now : Files D) (early late : Pool D g) (size : PageSize) : Type 0 where
  pub read_log : OnlyReads g old.log mid.log
  pub read_db : OnlyReads g old.db mid.db
  pub probe_log : OnlyReads g mid.log now.log
  pub probe_db : OnlyReads g mid.db now.db
  pub named : AreClean g mid.log mid.db → NamesSize (image_of g old) (bytes_of size)
  pub begins : AreClean g now.log now.db → BeginsWell (bytes_of size) (image_of g mid)
  pub those : files early ≡ (now.log, now.db)
  pub sized : (state early).page_size ≡ used_size (bytes_of size) false
  pub kept : Reopens (state early) (state late)

module _ {D : Type 0} {g : Ghosts D} (old mid now : Files D) (early late : Pool D g) (size : PageSize) (it : Begun old mid now early late size) where
  log : OnlyReads g old.log now.log
  log = reads_then it.read_log it.probe_log

  db : OnlyReads g old.db now.db
  db = reads_then it.read_db it.probe_db

  clean_before : IsTrue (state late).is_clean → AreClean g now.log now.db
  clean_before clean = subst (λ (f : D × D). AreClean g f.0 f.1) it.those (subst (λ b. IsTrue b) (pool_files early).1 (it.kept.clean clean))

  begun : IsTrue (state late).is_clean → BeginsWell (state early).page_size (image_of g old)
  begun clean = subst₂ BeginsWell (sym it.sized) (same_image it.read_log it.read_db) (it.begins (clean_before clean))

  pub seen : image early ≡ image_of g old
  seen = ap (λ (f : D × D). seen_image g f.0 f.1) it.those ∙ same_image log db

  back : (left : Image) → (state early).may_leave left → outcomes g old.log old.db left
  back left was = let there = subst (λ (f : D × D). outcomes g f.0 f.1 left) it.those ((pool_files early).2 left was) in (log.crash _ there.0, db.crash _ there.1)

  pub allowed : IsPageSize (state early).page_size
  allowed = subst IsPageSize (sym it.sized) (size.smallest, size.largest, size.power, size.aligned)

  pub named_early : IsTrue (state late).is_clean → NamesSize (image_of g old) (state early).page_size
  named_early clean = subst (λ n. NamesSize (image_of g old) n) (sym it.sized) (it.named (both_clean _ _ _ _ it.probe_log.clean it.probe_db.clean (clean_before clean)))

  pub unread : IsTrue (state late).is_clean → IsNothing (image_of g old) → IsUnreadable (state early).page_size (image_of g old)
  unread clean nothing = unreadable (state early).page_size (image_of g old) allowed (begun clean) nothing

  unread_early : IsTrue (state late).is_clean → IsNothing (image_of g old) → IsUnreadable (state early).page_size (image early)
  unread_early clean nothing = subst (IsUnreadable (state early).page_size) (sym seen) (unread clean nothing)

  pub alike : KeepsImage (state early).page_size (image early) (state early).may_leave (state late).may_leave → StandAlike g old (state late).may_leave
  alike keeps asked asks left may =
      let one : (state early).page_size ≡ asked = named_once (image_of g old) _ asked (named_early (clean_if_left late left may)) asks in
      elim (keeps left may) [
        | inl was ↦ inr (left, back left was, λ pages x. x)
        | inr same ↦ inl (subst₂ (λ n i. RecoversAs n i left) one seen same)
      ]

  pub given_back : (rest : Files D) → (rest.log, rest.db) ≡ files late → AreClean g rest.log rest.db → KeepsImage (state early).page_size (image early) (state early).may_leave (state late).may_leave
      → (IsTrue (state late).is_clean → IsUnreadable (state early).page_size (image early) → image late ≡ image early)
      → (IsUnreadable (state early).page_size (image early) → (left : Image) → (state late).may_leave left → (state early).may_leave left) → AreGivenBack g old rest
  given_back rest those clean keeps same still =
      let there : IsTrue (state late).is_clean = subst (λ b. IsTrue b) (sym (pool_files late).1) (subst (λ (f : D × D). AreClean g f.0 f.1) those clean) in
      record {
        nothing = λ nothing.
            let none = unread_early there nothing in
            record {
              seen = ap (λ (f : D × D). seen_image g f.0 f.1) those ∙ same there none ∙ seen;
              crash = λ left out. back left (still none left (left_of late rest those left clean out));
            };
        alike = λ asked asks left out. alike keeps asked asks left (left_of late rest those left clean out);
      }

-- the files of a pool that was given up, after calls that kept what is committed
pub passed_back : {D : Type 0} {g : Ghosts D} (old : Files D) (early late : Pool D g) → Keeps (state early) (state late) → (IsTrue (state early).is_clean → ¬ IsNothing (image_of g old))
    → (IsTrue (state early).is_clean → NamesSize (image_of g old) (state early).page_size) → StandAlike g old (state early).may_leave
    → (rest : Files D) → (rest.log, rest.db) ≡ files late → AreClean g rest.log rest.db → AreGivenBack g old rest
passed_back {D} {g} old early late keeps something named alike rest those clean =
    let now : IsTrue (state late).is_clean = subst (λ b. IsTrue b) (sym (pool_files late).1) (subst (λ (f : D × D). AreClean g f.0 f.1) those clean) in
    let before = keeps.stays.clean now in
    record {
      nothing = λ nothing. absurd (something before nothing);
      alike = λ asked asks left out.
          let (was, may, same) = keeps.crash left (left_of late rest those left clean out) in
          let one : (state early).page_size ≡ asked = named_once (image_of g old) _ asked (named before) asks in
          let on : RecoversAs asked was left = subst (λ n. RecoversAs n was left) one same in
          elim (alike asked asks was may) [
            | inl stood ↦ inl (λ pages x. on pages (stood pages x))
            | inr earlier ↦ inr (earlier.0, earlier.1, λ pages x. on pages (earlier.2 pages x))
          ];
    }

-- The size of a page is the one that the files name.
use Rattle.std.proofs.Common.{◌≡◌, ◌≢◌, inl, inr, ℕ, ◌≤◌, ◌%◌, List, refl, sym, ap, subst, ◌∙◌, arith, eq-eqb}
use Rattle.std.proofs.lemmas.Bool.{cases_eq}
use Rattle.sqlite_pages.specs.PageMap.{PageMap}
use Rattle.sqlite_format.specs.Bytes.{u32_at}
use Rattle.sqlite_wal.specs.Recovery as raw
use Rattle.sqlite_wal.specs.Recovery.{Image, IsIgnored, AreWhole}
use Rattle.sqlite_wal.specs.Format.{be32}
use Rattle.sqlite_wal.specs.PageSize.{size_in_file}
use Rattle.sqlite_wal.proofs.RecoveryLemmas.{recovers_once}
use Rattle.sqlite_pool.specs.Stored.{stored_size, reserved}
use Rattle.sqlite_pool.proofs.ProbeLemmas.{size_by_log, size_by_file, reserved_word}
use Rattle.sqlite_trees.specs.Tree.{Trees}
use Rattle.sqlite.specs.Files.{HoldsDatabase}
use Rattle.store_table.specs.Frames.{NamesSize}
use Rattle.store_table.specs.Roots.{SaysPlain}

seen_named : (image : Image) (size : ℕ) → NamesSize image size → (¬ IsIgnored image.log → size ≡ be32 image.log 8) × (IsIgnored image.log → size ≡ size_in_file image.db)
unfolding NamesSize
seen_named image size h = h

module _ (image : Image) (trees : Trees) (held : HoldsDatabase image trees) (size : ℕ) (named : NamesSize image size) where
  large : 504 ≤ held.0
  large = let few : reserved held.0 ≤ 8 = grind arith in omega (arith, held.1.0)

  differs : stored_size held.0 ≢ size → ⊥
  differs other =
      let read = λ (seen : ¬ IsIgnored image.log). other (sym ((seen_named image size named).0 seen ∙ size_by_log held.0 image held.2.pages held.2.found seen)) in
      read (λ ignored. other (sym ((seen_named image size named).1 ignored ∙ size_by_file held.0 image held.2.pages held.2.found large held.2.ours.file.sound ignored)))

  pub stored_is : stored_size held.0 ≡ size
  stored_is = elim (cases_eq (stored_size held.0) size) [ inl same ↦ same | inr other ↦ absurd (differs other) ]

as_word : (b : List ℕ) → be32 b 20 ≡ u32_at b 20
unfolding be32
as_word b = omega arith

not_eight : (n : ℕ) → reserved n ≡ 0 → n % 16 ≢ 8
not_eight n none e = let eight : reserved n ≡ 8 = rw (eq-eqb (n % 16) 8 e) refl in omega (arith, none, eight)

-- and no page ends in a sum
module _ (image : Image) (trees : Trees) (held : HoldsDatabase image trees) (size : ℕ) (named : NamesSize image size) (pages : PageMap) (is : raw.Recovers size image pages) (plain : SaysPlain pages) where
  none_reserved : reserved held.0 ≡ 0
  none_reserved =
      let here : raw.Recovers size image held.2.found.stored = subst (λ n. raw.Recovers n image held.2.found.stored) (stored_is image trees held size named) held.2.found.found in
      let same : held.2.found.stored ≡ pages = recovers_once size image held.2.found.stored pages here is in
      let word = reserved_word held.0 image held.2.pages held.2.found (large image trees held size named) held.2.ours.file.sound in
      let says : u32_at word.0 20 ≡ 0x0040_2020 = plain word.0 (ap (λ (p : PageMap). p 1) (sym same) ∙ word.1) in
      omega (arith, word.3, says, as_word word.0)

  pub no_sums : held.0 % 16 ≢ 8
  no_sums = not_eight held.0 none_reserved

  pub one_size : held.0 ≡ size
  one_size = let all = stored_is image trees held size named in omega (arith, none_reserved, all)

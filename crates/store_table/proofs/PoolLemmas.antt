-- A pool that was opened without reading all of its files holds what the files hold; and so does one after a commit.
use Rattle.std.proofs.Common.{◌≡◌, ◌≢◌, ℕ, ◌≤◌, ◌%◌, true, false, List, [], ◌∷◌, map, Some, Option, refl, sym, ap, ap₂, subst, subst₂, ◌∙◌, arith, eqb, ne_eqb}
use Rattle.std.proofs.Math.Logic.{∥∥₁_map, ∥∥₁_elim}
use Rattle.std.proofs.Props.{props}
use Rattle.sqlite_pages.specs.PageMap.{PageMap}
use Rattle.sqlite_wal.specs.Recovery as raw
use Rattle.sqlite_wal.specs.Recovery.{Image, AreWhole}
use Rattle.sqlite_wal.specs.Format.{be32}
use Rattle.sqlite_wal.specs.PageSize.{IsPageSize}
use Rattle.sqlite_wal.proofs.RecoveryLemmas as below
use Rattle.sqlite_pool.specs.Stored.{reserved, stored_size, Recovers, RecoversAs}
use Rattle.sqlite_pool.specs.StoredLaws.{recovers_once, carried}
use Rattle.sqlite_pool.specs.File.{in_use, version_in, IsSoundFile}
use Rattle.sqlite_pool.specs.Commit.{IsFileOf}
use Rattle.sqlite_pool.proofs.ProbeLemmas.{reserved_word}
use Rattle.sqlite_pool.proofs.ResealLemmas.{adopts_of, plain_adopts}
use Rattle.sqlite_trees.specs.Tree.{Trees}
use Rattle.sqlite_trees.specs.Objects.{with_version}
use Rattle.sqlite_value.specs.declared.value.Value.TheVariants.{Int}
use Rattle.sqlite_catalog.specs.Listing.{IsSound}
use Rattle.sqlite_store.specs.Db.{table_row}
use Rattle.sqlite_store.specs.Exact.{IsExact}
use Rattle.sqlite_store.specs.Listing.{file_trees, IsOurs}
use Rattle.sqlite_store.proofs.DbLemmas.{table_reads, resealed}
use Rattle.sqlite_store.proofs.ListingLemmas.{same_trees}
use Rattle.sqlite.specs.Effect.{Database}
use Rattle.sqlite.specs.Opening.{HoldsIn}
use Rattle.sqlite.specs.Files.{HoldsDatabase}
use Rattle.store_table.specs.Rows.{TableRow, HasRows}
use Rattle.store_table.specs.Frames.{NamesSize}
use Rattle.store_table.specs.Roots.{ListsTwo}
use Rattle.store_table.proofs.SizeLemmas.{stored_is}
use Rattle.store_table.specs.Store.{trees_of, HasStore, HoldRows}

-- such pages end in no sum
pub none_reserved : (size : ℕ) → IsPageSize size → reserved size ≡ 0
none_reserved size sized = let off : eqb (size % 16) 8 ≡ false = ne_eqb (size % 16) 8 (λ e. omega (arith, sized.3, e)) in rw off refl

pub plain_size : (size : ℕ) → IsPageSize size → size % 16 ≢ 8
plain_size size sized e = omega (arith, sized.3, e)

same_some : {a b : List ℕ} {o p : Option (List ℕ)} → o ≡ Some a → p ≡ Some b → o ≡ p → a ≡ b
same_some e f g = let both = sym e ∙ g ∙ f in cc

module _ (image : Image) (trees : Trees) (held : HoldsDatabase image trees) (size : ℕ) (sized : IsPageSize size) (named : NamesSize image size) (pages : PageMap) (found : Recovers size image pages) where
  one_by : IsSoundFile size pages → held.0 ≡ size
  one_by sound =
      let stored = stored_is image trees held size named in
      let plain = none_reserved size sized in
      let whole : stored_size size ≡ size = omega (arith, plain) in
      let few : reserved held.0 ≤ 8 = grind arith in
      let large : 504 ≤ held.0 = omega (arith, few, stored, sized.0) in
      let there : raw.Recovers size image held.2.found.stored = subst (λ n. raw.Recovers n image held.2.found.stored) stored held.2.found.found in
      let a = adopts_of size image pages found in
      let here : raw.Recovers size image a.stored = subst (λ n. raw.Recovers n image a.stored) whole a.found in
      let same : held.2.found.stored ≡ a.stored = below.recovers_once size image held.2.found.stored a.stored there here in
      let its = reserved_word held.0 image held.2.pages held.2.found large held.2.ours.file.sound in
      let ours = reserved_word size image pages a (omega (arith, sized.0)) sound in
      let one : its.0 ≡ ours.0 = same_some its.1 ours.1 (ap (λ (p : PageMap). p 1) same) in
      omega (arith, stored, plain, its.3, ours.3, ap (λ b. be32 b 20) one)

  module _ (sound : ∥ IsSoundFile size pages ∥₁) where
    one_size : held.0 ≡ size
    one_size = ∥∥₁_elim sound (hlevel props) one_by

    -- the pages that the pool has found have the rows
    module _ (first : Database) (docs : List TableRow) (shows : HasRows first trees docs) where
      abbrev here : HoldsIn size image trees
      here = subst (λ n. HoldsIn n image trees) one_size held.2

      same : here.pages ≡ pages
      same = recovers_once size image here.pages pages (plain_adopts size image here.pages (plain_size size sized) here.found) found

      ours : IsOurs size true here.wanted pages
      ours = subst (IsOurs size true here.wanted) same here.ours

      reads : trees ≡ file_trees size here.wanted pages
      reads = here.reads ∙ ap (file_trees size here.wanted) same

      pub found_rows : (left : Image) → Recovers size left pages → HoldRows first size left docs
      found_rows left recovers = record {
        sized = sized;
        trees = trees;
        held = record { pages = pages; wanted = here.wanted; schema = here.schema; found = adopts_of size left pages recovers; ours = ours; reads = reads; sound = here.sound };
        rows = shows;
      }

      pub found_store : (table index : ℕ) → ListsTwo size (in_use size pages) table index → HasStore first size (in_use size pages) (version_in pages) table index docs
      found_store table index two =
          let db = ours.file.db in
          let laid = db.trees.laid 0 in
          let kept = db.trees.kept 0 in
          let are = two (db.layouts 0) kept.0 laid kept.1 in
          record {
            sized = sized;
            wanted = here.wanted;
            schema = here.schema;
            db = db;
            exact = ours.numbered refl;
            own = (
              are.first.0,
              are.second.0,
              table_reads (in_use size pages) laid kept.1 ∙ ap (map table_row) are.all
                  ∙ ap₂ (λ a b. (Int are.first.0 ∷ a) ∷ (Int are.second.0 ∷ b) ∷ []) are.names_table are.names_index,
            );
            sound = subst (λ (x : Trees). IsSound here.schema x) reads here.sound;
            shows = subst (λ (x : Trees). HasRows first x docs) reads shows;
          }

-- ---- a commit

pub committed_rows : (first : Database) (size : ℕ) (pages : PageMap) (version table index : ℕ) (docs : List TableRow) → HasStore first size pages version table index docs
    → (left : Image) (after : PageMap) → Recovers size left after → ∥ IsFileOf size pages after ∥₁ → version_in after ≡ version → ∥ HoldRows first size left docs ∥₁
committed_rows first size pages version table index docs s left after found file is = ∥∥₁_map file (λ f.
    let r = resealed s.db (in_use size after) f.same in
    record {
      sized = s.sized;
      trees = trees_of size s.wanted pages version;
      held = record {
        pages = after;
        wanted = s.wanted;
        schema = s.schema;
        found = adopts_of size left after found;
        ours = record {
          file = record { whole = f.whole; sound = f.sound; db = r.0 };
          numbered = λ _. subst₂ (λ x y. IsExact s.wanted x y) (sym r.1) (sym r.3) s.exact;
        };
        reads = ap₂ with_version (sym (same_trees size s.wanted pages (in_use size after) r.2)) (sym is);
        sound = s.sound;
      };
      rows = s.shows;
    })

-- what stands for a file with the rows has them
pub carried_rows : (first : Database) (size : ℕ) (docs : List TableRow) (before left : Image) → HoldRows first size before docs → RecoversAs size before left → HoldRows first size left docs
carried_rows first size docs before left h same = record {
  sized = h.sized;
  trees = h.trees;
  held = record {
    pages = h.held.pages;
    wanted = h.held.wanted;
    schema = h.held.schema;
    found = adopts_of size left h.held.pages (carried size before left same h.held.pages (plain_adopts size before h.held.pages (plain_size size h.sized) h.held.found));
    ours = h.held.ours;
    reads = h.held.reads;
    sound = h.held.sound;
  };
  rows = h.rows;
}

-- and they hold a database, whatever the size of its pages
pub rows_held : (first : Database) (size : ℕ) (image : Image) (docs : List TableRow) → HoldRows first size image docs → (trees : Trees) × HoldsDatabase image trees × HasRows first trees docs
rows_held first size image docs h =
    let plain = none_reserved size h.sized in
    let whole : stored_size size ≡ size = omega (arith, plain) in
    (h.trees, (size, subst IsPageSize (sym whole) h.sized, h.held), h.rows)

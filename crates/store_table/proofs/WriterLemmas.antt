-- What a writer's calls come to, by what each of their steps promises.
use Rattle.std.proofs.Common.{◌≡◌, ◌⊎◌, inl, inr, ℕ, ℤ, ◌+ℤ◌, pos, SFits, FitsSigned, w64, arith, List, [], ◌∷◌, ◌++◌, IsTrue, sym, subst, ◌∙◌}
use Rattle.std.proofs.Math.Logic.{∥∥₁_map}
use Rattle.std.proofs.lemmas.Int.{ints}
use Rattle.sqlite_disk.specs.declared.Disk.{Ghosts}
use Rattle.sqlite_disk.specs.declared.Files.{Files}
use Rattle.sqlite_pages.specs.PageMap.{PageMap}
use Rattle.sqlite_wal.specs.Files.{outcomes}
use Rattle.sqlite_wal.specs.Reads.{AreClean}
use Rattle.sqlite_pool.specs.declared.pool.Pool.{Pool}
use Rattle.sqlite_pool.specs.Pool.{state, files}
use Rattle.sqlite_wal.specs.Recovery.{Image}
use Rattle.sqlite_wal.specs.State.{State}
use Rattle.sqlite_pool.specs.Stored.{Keeps, Recovers, RecoversAs, IsSettled}
use Rattle.sqlite_pool.specs.File.{version_in, in_use, IsSoundFile, SameButHeader}
use Rattle.sqlite_pool.specs.Commit.{IsFileOf}
use Rattle.sqlite.specs.Effect.{Database}
use Rattle.store_table.specs.Rows.{TableRow, AreBelow, last_place}
use Rattle.store_table.specs.Moves.{IsRoomFor, with_row}
use Rattle.store_table.proofs.LastPlaceLemmas.{below_next}
use Rattle.store_table.specs.Store.{HasStore, HoldRows, row_at}
use Rattle.store_table.proofs.StoreLemmas as store
use Rattle.store_table.proofs.PoolLemmas.{committed_rows, carried_rows}

-- what the pages have while it is open
abbrev pub Has : Database → State → PageMap → ℕ → ℕ → List TableRow → Type 0
Has first s pages table index docs = IsTrue s.is_open → HasStore first s.page_size pages (version_in s.committed) table index docs

-- nothing was written
pub kept : (first : Database) (old new : State) (p q : PageMap) (table index : ℕ) (docs : List TableRow) → Keeps old new → q ≡ p → Has first old p table index docs → Has first new q table index docs
kept first old new p q table index docs k same h still = rw (k.stays.size, k.committed still, same) (h (k.stays.was_open still))

-- a call changed the rows
pub moved : (first : Database) (old new : State) (p q : PageMap) (table index : ℕ) (docs made : List TableRow) → Keeps old new
    → ((version : ℕ) → HasStore first old.page_size p version table index docs → HasStore first old.page_size q version table index made) → Has first old p table index docs → Has first new q table index made
moved first old new p q table index docs made k change h still = rw (k.stays.size, k.committed still) (change (version_in old.committed) (h (k.stays.was_open still)))

-- one more row, at the place after the greatest one
pub appended : (first : Database) (mid new : State) (v q : PageMap) (table index : ℕ) (docs : List TableRow) (place : ℤ) (coll idkey body : List ℕ) → Keeps mid new → place ≡ (last_place docs +ℤ pos 1)
    → ((version : ℕ) → HasStore first mid.page_size v version table index docs → AreBelow place docs → HasStore first mid.page_size q version table index (docs ++ row_at place coll idkey body ∷ []))
    → Has first mid v table index docs → Has first new q table index (with_row coll idkey body docs)
appended first mid new v q table index docs place coll idkey body l is add h still =
    let there = h (l.stays.was_open still) in
    let below : AreBelow place docs = subst (λ n. AreBelow n docs) (sym is) (below_next docs (store.rising first mid.page_size v (version_in mid.committed) table index docs there)) in
    rw (l.stays.size, l.committed still) (subst (λ n. HasStore first mid.page_size q (version_in mid.committed) table index (docs ++ row_at n coll idkey body ∷ [])) is (add (version_in mid.committed) there below))

-- whatever a crash leaves has the rows
abbrev pub All : Database → State → List TableRow → Type 0
All first s docs = (left : Image) → s.may_leave left → ∥ HoldRows first s.page_size left docs ∥₁

pub all_kept : (first : Database) (old new : State) (docs : List TableRow) → Keeps old new → All first old docs → All first new docs
all_kept first old new docs k all left may =
    let before = k.crash left may in
    rw (k.stays.size) (∥∥₁_map (all before.0 before.1) (λ h. carried_rows first old.page_size docs before.0 left h before.2))

-- what a commit may leave, in the words of the pool
abbrev pub MayLeave : State → PageMap → ℕ → State → Type 0
MayLeave old used version new =
    (image : Image) → new.may_leave image
    → ((before : Image) × old.may_leave before × RecoversAs old.page_size before image)
    ⊎ (IsTrue old.is_open × ((pages : PageMap) × Recovers old.page_size image pages × ∥ IsFileOf old.page_size used pages ∥₁ × (version_in pages ≡ version)))

pub either_left : (first : Database) (old new : State) (used : PageMap) (table index version : ℕ) (docs made : List TableRow) → new.page_size ≡ old.page_size → (IsTrue old.is_open → version ≡ version_in old.committed) → MayLeave old used version new
    → All first old docs → Has first old used table index made → (left : Image) → new.may_leave left → ∥ HoldRows first new.page_size left docs ∥₁ ⊎ ∥ HoldRows first new.page_size left made ∥₁
either_left first old new used table index version docs made size same leaves all has left may = elim (leaves left may) [
  | inl kept' ↦ inl (rw size (∥∥₁_map (all kept'.0 kept'.1) (λ h. carried_rows first old.page_size docs kept'.0 left h kept'.2)))
  | inr made' ↦ inr (rw size (committed_rows first old.page_size used (version_in old.committed) table index made (has made'.0) left made'.1.0 made'.1.1 made'.1.2 (made'.1.3 ∙ same made'.0)))
]

pub all_made : (first : Database) (old new : State) (used : PageMap) (table index : ℕ) (made : List TableRow) → new.page_size ≡ old.page_size → IsTrue old.is_open → IsSettled new → ∥ IsSoundFile new.page_size new.committed ∥₁
    → SameButHeader used (in_use new.page_size new.committed) → version_in new.committed ≡ version_in old.committed → Has first old used table index made → All first new made
all_made first old new used table index made size was settled sound same version has left may =
    let found : Recovers old.page_size left new.committed = subst (λ n. Recovers n left new.committed) size (settled.durable left may) in
    let file : ∥ IsFileOf old.page_size used new.committed ∥₁ = subst (λ n. ∥ IsFileOf n used new.committed ∥₁) size (∥∥₁_map sound (λ s. record { whole = settled.whole; sound = s; same = same })) in
    rw size (committed_rows first old.page_size used (version_in old.committed) table index made (has was) left new.committed found file version)

-- what a crash may leave of the files of a pool, it may leave of the pool
pub left_of : {D : Type 0} {g : Ghosts D} (it : Pool D g) (rest : Files D) → (rest.log, rest.db) ≡ files it → (left : Image) → AreClean g rest.log rest.db → outcomes g rest.log rest.db left → (state it).may_leave left
unfolding state files
left_of {D = D} {g = g} it rest is left clean out = subst (λ (p : D × D). AreClean g p.0 p.1 → outcomes g p.0 p.1 left → (state it).may_leave left) (sym is) (λ x y. (x, y)) clean out

pub room_is : (docs : List TableRow) (last : ℤ) → last ≡ last_place docs → SFits w64 (last +ℤ pos 1) → IsRoomFor 1 docs
room_is docs last is fits = let e : last_place docs ≡ last = sym is in rw e (grind (arith, ints))

pub no_room : (docs : List TableRow) (last : ℤ) → last ≡ last_place docs → FitsSigned w64 last → ¬ (SFits w64 (last +ℤ pos 1)) → ¬ IsRoomFor 1 docs
no_room docs last is fits none room = let e : last_place docs ≡ last = sym is in let low = rw e at room in none (grind (arith, ints))

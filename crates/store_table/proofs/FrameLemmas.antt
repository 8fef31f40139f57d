-- Pages and counts, as reads of the log and of the file find them.
use Rattle.std.proofs.Common.{◌≡◌, ℕ, zero, suc, ◌+◌, ◌-◌, ◌*◌, ◌<◌, List, length, slice_index, Option, Some, None, sym, ◌∙◌, ap, subst, arith}
use Rattle.std.specs.Option.{IfSome}
use Rattle.sqlite_disk.specs.Disk.{Holds}
use Rattle.sqlite_wal.specs.Format.{be32, commit_size}
use Rattle.sqlite_wal.specs.Recovery.{Image, IsIgnored, frame_at, frame, page_after, page_count}
use Rattle.sqlite_wal.specs.Index.{IsLatest}
use Rattle.sqlite_wal.proofs.PartLemmas.{held_is_part, slice_index-part, same_be32}
use Rattle.sqlite_wal.proofs.FileLemmas.{page_latest, page_unlogged, content-frame}
use Rattle.store_table.specs.Frames.{HasNoFrame, AreNumbered}
use Rattle.sqlite_wal.specs.declared.page_size.PageSize.{PageSize}
use Rattle.sqlite_wal.specs.PageSize.{Names, bytes_of, size_in_file}
use Rattle.store_table.specs.Frames.{NamesSize}

pub page_from_log : (size : ℕ) (log db bytes numbers : List ℕ) (n at : ℕ) → IsLatest numbers n at → AreNumbered size log numbers → length bytes ≡ size → Holds log (frame_at size at + 24) bytes → page_after size log db n (length numbers) ≡ bytes
page_from_log size log db bytes numbers n at latest numbered len held =
    page_latest size log db n at (length numbers) latest.within (sym (numbered at latest.within) ∙ latest.found) (λ j low high is. latest.last j low high (numbered j high ∙ is))
    ∙ content-frame size log at ∙ held_is_part log bytes _ size held len

pub page_from_file : (size : ℕ) (log db bytes numbers : List ℕ) (n : ℕ) → HasNoFrame numbers n → AreNumbered size log numbers → length bytes ≡ size → Holds db ((n - 1) * size) bytes → page_after size log db n (length numbers) ≡ bytes
page_from_file size log db bytes numbers n none numbered len held =
    page_unlogged size log db n (length numbers) (λ i h is. none i h (numbered i h ∙ is)) ∙ held_is_part db bytes _ size held len

commit_read : (size i : ℕ) (log bytes : List ℕ) → length bytes ≡ 4 → Holds log (frame_at size i + 4) bytes → be32 bytes 0 ≡ commit_size (frame size log i)
commit_read size i log bytes four held =
    same_be32 bytes (frame size log i) 0 4 λ j h.
    let here : 0 + j ≡ j = omega arith in
    let there : frame_at size i + 4 + j ≡ frame_at size i + (4 + j) = omega arith in
    ap (slice_index bytes) here ∙ sym (held.each j (omega arith)) ∙ ap (slice_index log) there ∙ sym (slice_index-part log (frame_at size i) (24 + size) (4 + j) (omega arith))

pub count_read : (size n : ℕ) (log db bytes : List ℕ) → 0 < n → length bytes ≡ 4 → Holds log (frame_at size (n - 1) + 4) bytes → be32 bytes 0 ≡ page_count size log db n
count_read size zero log db bytes some four held = absurd (omega arith)
count_read size (suc i) log db bytes some four held =
    let same : suc i - 1 ≡ i = omega arith in
    commit_read size i log bytes four (subst (λ (m : ℕ). Holds log (frame_at size m + 4) bytes) same held)

pub if_this : {A : Type 0} (P : A → Type 0) (found : Option A) (x : A) → found ≡ Some x → P x → IfSome found P
if_this P found x is p = subst (λ o. IfSome o P) (sym is) p

-- what holds of two files holds of two with the same bytes
pub keeps : (P : List ℕ → List ℕ → Type 0) (a b c d : List ℕ) → b ≡ a → d ≡ c → P a c → P b d
keeps P a b c d p q h = subst (λ (x : List ℕ). P x d) (sym p) (subst (λ (y : List ℕ). P a y) (sym q) h)

abbrev image : List ℕ → List ℕ → Image
image log db = record { log = log; db = db }

pub same_image : (a b c d : List ℕ) → b ≡ a → d ≡ c → image b d ≡ image a c
same_image a b c d p q = ap (λ (x : List ℕ). image x d) p ∙ ap (λ (y : List ℕ). image a y) q

-- the size that was found is the one that the files name
pub named_size : (image : Image) (found : Option PageSize) (Clean : Type 0) → (Clean → ¬ IsIgnored image.log → Names found (be32 image.log 8)) → (Clean → IsIgnored image.log → Names found (size_in_file image.db))
    → IfSome found (λ size. Clean → NamesSize image (bytes_of size))
unfolding NamesSize
named_size image None Clean by_log by_file = tt
named_size image (Some size) Clean by_log by_file = λ clean. (λ seen. (by_log clean seen).1, λ ignored. (by_file clean ignored).1)

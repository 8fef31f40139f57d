-- Parts of a file that were read.
use Rattle.std.proofs.Common.{◌≡◌, ℕ, zero, suc, ◌++◌, ◌+◌, ◌≤◌, ◌<◌, List, [], ◌∷◌, length, take, drop, slice_index_or, Bool, true, not, ◌&&◌, ◌==◌, IsTrue, Option, None, Some, is_some, Result, Ok, Err, refl, sym, ap, ◌∙◌, subst, arith}
use Rattle.std.specs.List.{list_all}
use Rattle.std.proofs.lemmas.Bool.{and_parts, and_from, cond-true}
use Rattle.sqlite_disk.specs.Disk.{Holds, CountsFault, CountsFaultIf}
use Rattle.sqlite_disk.specs.declared.start.Start.{Ghosts}
use Rattle.sqlite_disk.specs.Events.{agrees}
use Rattle.sqlite_disk.proofs.EventLemmas.{Holds-agrees}
use Rattle.cli_files.specs.declared.parts.Part.{Part}
use Rattle.cli_files.specs.declared.parts.FileParts.{FileParts}
use Rattle.cli_files.specs.Agrees.{agree}
use Rattle.cli_files.specs.Parts.{is_clean_of, is_file}

-- a part that is among them is what the file has
pub agree_at : (file : List ℕ) (parts : List Part) (i : ℕ) (p : Part) → i < length parts → p ≡ slice_index_or parts i p → IsTrue (agree file parts) → Holds file p.at p.bytes.items
agree_at file [] i p low is all = absurd (omega (arith, low))
agree_at file (x ∷ xs) zero p low is all = subst (λ (q : Part). Holds file q.at q.bytes.items) (sym is) (Holds-agrees file x.at x.bytes.items (and_parts _ _ all).0)
agree_at file (x ∷ xs) (suc i) p low is all = agree_at file xs i p (omega (arith, low)) is (and_parts (agrees file x.at x.bytes.items) _ all).1

-- with one more, they and that one are
pub agree_more : (file : List ℕ) (parts : List Part) (i : ℕ) (p : Part) → IsTrue (agree file (take i parts ++ p ∷ drop i parts)) → IsTrue (agree file parts) × Holds file p.at p.bytes.items
agree_more file [] zero p all = (refl, Holds-agrees file p.at p.bytes.items (and_parts _ _ all).0)
agree_more file [] (suc i) p all = (refl, Holds-agrees file p.at p.bytes.items (and_parts _ _ all).0)
agree_more file (x ∷ xs) zero p all = let both = and_parts (agrees file p.at p.bytes.items) _ all in (both.1, Holds-agrees file p.at p.bytes.items both.0)
agree_more file (x ∷ xs) (suc i) p all =
    let both = and_parts (agrees file x.at x.bytes.items) _ all in
    let more = agree_more file xs i p both.1 in
    (and_from _ _ both.0 more.0, more.1)

-- a file that was read by parts is clean with one more only if it was without it
pub clean_parts : {S : Type 0} (g : Ghosts S) (old new : FileParts S) (i : ℕ) (p : Part) → IsTrue (is_file old) → new.file ≡ old.file → new.has_forgotten ≡ old.has_forgotten → new.len ≡ old.len
    → new.parts.items ≡ take i old.parts.items ++ p ∷ drop i old.parts.items → IsTrue (is_clean_of g new) → IsTrue (is_clean_of g old) × Holds g.db p.at p.bytes.items
clean_parts g old new i p is file forgot len items clean =
    let it : IsTrue (is_file new) = ap is_some file ∙ is in
    let told : IsTrue (not new.has_forgotten && ((new.len == length g.db) && agree g.db new.parts.items)) = sym (cond-true _ _ _ it) ∙ clean in
    let one = and_parts (not new.has_forgotten) _ told in
    let two = and_parts (new.len == length g.db) _ one.1 in
    let more = agree_more g.db old.parts.items i p (ap (agree g.db) (sym items) ∙ two.1) in
    (cond-true _ _ _ is ∙ and_from _ _ (ap not (sym forgot) ∙ one.0) (and_from _ _ (ap (λ n. n == length g.db) (sym len) ∙ two.0) more.0), more.1)

pub counts_if : (P : Type 0) {T E : Type 0} (result : Result T E) (old new : ℕ) → CountsFault result old new → CountsFaultIf P result old new
counts_if P (Ok x) old new h = h
counts_if P (Err e) old new h = (λ _. h.0, h.1)

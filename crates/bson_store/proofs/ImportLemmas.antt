-- Exits of imports and loads.
use Rattle.std.proofs.Common.{◌≡◌, ◌⊎◌, inl, inr, ℕ, suc, ◌+◌, List, [], ◌∷◌, ◌++◌, Bool, true, false, cond, nat_lt, Option, Some, None, Result, Ok, Err, Vec, Global, refl, ap, ◌∙◌, sym, subst}
use Rattle.std.specs.Prelude.{IsSomeAnd}
use Rattle.std.proofs.lemmas.List.{append-nil}
use Rattle.std.specs.Io.KnownBytes.{Consumes, IsAtEnd}
use Rattle.bson_base.specs.Device.{Feed, TookAll, StopsReading}
use Rattle.bson_base.specs.Kinds.{AreBytes}
use Rattle.bson_base.specs.Value.{Members, has_key}
use Rattle.bson_bytes.specs.Encode.{size}
use Rattle.bson_frame.specs.Frame.{size_limit}
use Rattle.store_table.specs.Rows.{TableRow}
use Rattle.store_table.specs.declared.fault.Fault.{Fault}
use Rattle.store_table.specs.declared.fault.Fault.TheVariants as faults
use Rattle.store_documents.specs.declared.write.KeptRow.{KeptRow}
use Rattle.store_model.specs.Reading.{Documents, IsReadingKind, IsStop, ReadsStream}
use Rattle.store_model.specs.State.{id_key, import, on, Reply, number, refused, refusal_of, or_later, first_refusal, Answers, IsName}
use Rattle.store_model.specs.Table.{documents_of}
use Rattle.store_model.specs.declared.error.ErrorKind.{ErrorKind}
use Rattle.store_model.specs.declared.error.ErrorKind.TheVariants as kind
use Rattle.store_model.proofs.ReadingLemmas.{stream_read}
use Rattle.bson_base.specs.declared.whole.ReadAllError.{ReadAllError}
use Rattle.bson_base.specs.declared.whole.ReadAllError.TheVariants as reads
use Rattle.store_documents.specs.Judging.{Judges}
use Rattle.store_documents.proofs.StreamLemmas.{any_stream}
use Rattle.bson_store.specs.Many.{AddsAll, DoesMany, IsAddFault, ImportRefused, Imports, TakesStream}
use Rattle.bson_store.specs.Refusals.{as_number, kind_of_fault, reply_by}
use Rattle.store_model.specs.Refusal.{kind_of_reading, refusal, refusal_at}
use Rattle.store_model.specs.declared.error.StoreError.{StoreError}
use Rattle.bson_store.proofs.ManyLemmas.{import_open}
use Rattle.bson_store.proofs.ServeLemmas.{answers_stay, at_place, bad_name, denied, memory_other}

-- ---- what documents are refused for

-- a kind that is about documents, not about the name, the reader or memory
abbrev IsOfDocuments : ErrorKind → Type 0
IsOfDocuments kind.BadName = ⊥
IsOfDocuments kind.Reader = ⊥
IsOfDocuments kind.Memory = ⊥
IsOfDocuments _ = Unit {0}

reading_of : (k : ErrorKind) → IsReadingKind k → IsOfDocuments k
reading_of kind.BadName h = absurd h
reading_of kind.Reader h = absurd h
reading_of kind.Memory h = absurd h
reading_of _ h = tt

refusal_is : (d : Members) (k : ErrorKind) → refusal_of d ≡ Some k → IsOfDocuments k
refusal_is d k h = by (has_key id_key d) (nat_lt size_limit (size d)) h
  where
    this : (x : ErrorKind) → IsOfDocuments x → ◌≡◌ {A = Option ErrorKind} (Some x) (Some k) → IsOfDocuments k
    this x t e = let same : x ≡ k = cc in subst IsOfDocuments same t

    by : (b c : Bool) → cond b (cond c (Some kind.TooLong) None) (Some kind.NoId) ≡ Some k → IsOfDocuments k
    by true true e = this kind.TooLong tt e
    by true false e = cc
    by false c e = this kind.NoId tt e

kinds_are : (x k : ErrorKind) (i j : ℕ) → ◌≡◌ {A = Option (ErrorKind × ℕ)} (Some (x, i)) (Some (k, j)) → x ≡ k
kinds_are x k i j e = let pair : ◌≡◌ {A = ErrorKind × ℕ} (x, i) (k, j) = cc in ap (λ p. p.0) pair

first_is : (i : ℕ) (ds : Documents) (stop : Option ErrorKind) (k : ErrorKind) (j : ℕ) → IsStop stop → first_refusal i ds stop ≡ Some (k, j) → IsOfDocuments k
first_is i [] None k j h e = cc
first_is i [] (Some x) k j h e = subst IsOfDocuments (kinds_are x k i j e) (reading_of x h)
first_is i (d ∷ ds) stop k j h e = by (refusal_of d) refl e (first_is (suc i) ds stop k j h)
  where
    by : (o : Option ErrorKind) → refusal_of d ≡ o → or_later o i (first_refusal (suc i) ds stop) ≡ Some (k, j) → (first_refusal (suc i) ds stop ≡ Some (k, j) → IsOfDocuments k) → IsOfDocuments k
    by None r e rest = rest e
    by (Some x) r e rest = refusal_is d k (r ∙ ap Some (kinds_are x k i j e))

-- ---- many documents, in whatever form they came

-- under a bad name
pub many_bad_name : (docs : List TableRow) (n : List ℕ) (Reads : Documents → Option ErrorKind → Type 0) → (ds : Documents) × (stop : Option ErrorKind) × Reads ds stop → (IsName n → ⊥) → DoesMany n Reads (refused kind.BadName None) docs docs
many_bad_name docs n Reads (ds, stop, reads) bad = (ds, stop, reads, bad_name docs n (import ds stop) bad)

refused_by : (ds l : Documents) (stop : Option ErrorKind) (k : ErrorKind) (i : ℕ) → first_refusal 0 ds stop ≡ Some (k, i) → Answers (import ds stop) l (refused k (Some i)) l
refused_by ds l stop k i is = rw is (refl, refl)

wanted : (docs : List TableRow) (n : List ℕ) (Reads : Documents → Option ErrorKind → Type 0) (ds : Documents) (stop : Option ErrorKind) → IsName n → Reads ds stop → DoesMany n Reads (refused kind.Memory None) docs docs
wanted docs n Reads ds stop good reads = (ds, stop, reads, denied docs (on n (import ds stop)) faults.Memory memory_other (import_open n ds stop good))

-- the first of the refusals, and its place
first_told : (o : Option (ErrorKind × ℕ)) (e : StoreError) → IsSomeAnd o (λ x. e ≡ refusal_at x.0 x.1) → (k : ErrorKind) × (i : ℕ) × (o ≡ Some (k, i)) × (e ≡ refusal_at k i)
first_told None e h = absurd h
first_told (Some (k, i)) e h = (k, i, refl, h)

refused_at : (docs : List TableRow) (n : List ℕ) (Reads : Documents → Option ErrorKind → Type 0) (ds : Documents) (stop : Option ErrorKind) (k : ErrorKind) (i : ℕ) (e : StoreError) → IsName n → Reads ds stop → first_refusal 0 ds stop ≡ Some (k, i)
    → (e ≡ refusal kind.Memory) ⊎ (e ≡ record { kind = k; document = Some i }) → DoesMany n Reads (refused e.kind e.document) docs docs
refused_at docs n Reads ds stop k i e good reads first (inl is) = subst (λ (x : StoreError). DoesMany n Reads (refused x.kind x.document) docs docs) (sym is) (wanted docs n Reads ds stop good reads)
refused_at docs n Reads ds stop k i e good reads first (inr is) = subst (λ (x : StoreError). DoesMany n Reads (refused x.kind x.document) docs docs) (sym is)
    (ds, stop, reads, answers_stay docs n (import ds stop) (refused k (Some i)) good (λ a s. refused_by ds (documents_of a n) stop k i first))

-- they aren't judged to be kept
pub many_refused : (docs : List TableRow) (n : List ℕ) (Reads : Documents → Option ErrorKind → Type 0) (e : StoreError) → IsName n → Judges Reads (Err e)
    → DoesMany n Reads (refused e.kind e.document) docs docs
many_refused docs n Reads e good (ds, stop, reads, inl is) = subst (λ (x : StoreError). DoesMany n Reads (refused x.kind x.document) docs docs) (sym is) (wanted docs n Reads ds stop good reads)
many_refused docs n Reads e good (ds, stop, reads, inr h) =
    let t = first_told (first_refusal 0 ds stop) e h in
    refused_at docs n Reads ds stop t.0 t.1 e good reads t.2 (at_place t.0 t.1 e t.3)

-- they are
pub many_added : (docs after : List TableRow) (n : List ℕ) (Reads : Documents → Option ErrorKind → Type 0) (rows : Vec KeptRow Global) (r : Result ℕ StoreError) → Judges Reads (Ok rows) → AddsAll n rows.items r docs after → DoesMany n Reads (reply_by as_number r) docs after
many_added docs after n Reads rows r h added = (h.0, None, h.1, added.does h.0 h.2 h.3 h.4)

-- ---- over a reader

pub import_unnamed : (docs : List TableRow) (n : List ℕ) (f : Feed) → (IsName n → ⊥) → Imports n f f (Err (refusal kind.BadName)) docs docs
import_unnamed docs n f bad = (bad, refl, refl, refl)

pub import_unread : (docs : List TableRow) (n : List ℕ) (old new : Feed) (x : ReadAllError) → IsName n → StopsReading x old new → Imports n old new (Err (refusal (kind_of_reading x))) docs docs
import_unread docs n old new reads.Reader good h = (good, refl, h, refl)
import_unread docs n old new reads.Memory good h = (good, refl, h, refl)

-- out of memory once all was read
memory_left : (docs after : List TableRow) (n bytes : List ℕ) (old new : Feed) → IsName n → TookAll old new bytes → after ≡ docs → ImportRefused n old new kind.Memory None docs after
memory_left docs after n bytes old new good all same = (good, refl, (bytes, all.0), same)

of_documents : (docs after : List TableRow) (n : List ℕ) (old new : Feed) (k : ErrorKind) (i : Option ℕ) → IsOfDocuments k → TakesStream n old new (refused k i) docs after → ImportRefused n old new k i docs after
of_documents docs after n old new kind.BadName i told h = absurd told
of_documents docs after n old new kind.Reader i told h = absurd told
of_documents docs after n old new kind.Memory i told h = absurd told
of_documents docs after n old new _ i told h = h

pub import_refused : (docs : List TableRow) (n bytes : List ℕ) (old new : Feed) (e : StoreError) → IsName n → AreBytes bytes → TookAll old new bytes → Judges (ReadsStream bytes) (Err e) → Imports n old new (Err e) docs docs
import_refused docs n bytes old new e good range all h = by h.3
  where
    at : ErrorKind → Option ℕ → Type 0
    at k i = ImportRefused n old new k i docs docs

    is_wanted : e ≡ refusal kind.Memory → at e.kind e.document
    is_wanted is = subst (λ (x : StoreError). at x.kind x.document) (sym is) (memory_left docs docs n bytes old new good all refl)

    is_told : (k : ErrorKind) (i : ℕ) → first_refusal 0 h.0 h.1 ≡ Some (k, i) → (e ≡ refusal kind.Memory) ⊎ (e ≡ record { kind = k; document = Some i }) → at e.kind e.document
    is_told k i first (inl is) = is_wanted is
    is_told k i first (inr is) = subst (λ (x : StoreError). at x.kind x.document) (sym is)
        (of_documents docs docs n old new k (Some i) (first_is 0 h.0 h.1 k i (stream_read bytes h.0 h.1 range h.2).1 first)
        (good, (bytes, all, subst (λ (x : StoreError). DoesMany n (ReadsStream bytes) (refused x.kind x.document) docs docs) is (many_refused docs n (ReadsStream bytes) e good h))))

    by : (e ≡ refusal kind.Memory) ⊎ IsSomeAnd (first_refusal 0 h.0 h.1) (λ x. e ≡ refusal_at x.0 x.1) → at e.kind e.document
    by (inl is) = is_wanted is
    by (inr f) = let t = first_told (first_refusal 0 h.0 h.1) e f in is_told t.0 t.1 t.2 (at_place t.0 t.1 e t.3)

pub import_added : (docs after : List TableRow) (n bytes : List ℕ) (old new : Feed) (rows : Vec KeptRow Global) (r : Result ℕ StoreError) → IsName n → TookAll old new bytes → Judges (ReadsStream bytes) (Ok rows)
    → AddsAll n rows.items r docs after → Imports n old new r docs after
import_added docs after n bytes old new rows (Ok k) good all h added = (good, (bytes, all, many_added docs after n (ReadsStream bytes) rows (Ok k) h added))
import_added docs after n bytes old new rows (Err e) good all h added = by e added.fault added.same (many_added docs after n (ReadsStream bytes) rows (Err e) h added)
  where
    at_fault : (x : Fault) → after ≡ docs → DoesMany n (ReadsStream bytes) (refused (kind_of_fault x) None) docs after → ImportRefused n old new (kind_of_fault x) None docs after
    at_fault faults.Memory same does = memory_left docs after n bytes old new good all same
    at_fault faults.Database same does = (good, (bytes, all, does))
    at_fault faults.Places same does = (good, (bytes, all, does))

    by : (e : StoreError) → IsAddFault e → after ≡ docs → DoesMany n (ReadsStream bytes) (refused e.kind e.document) docs after → ImportRefused n old new e.kind e.document docs after
    by e (inl (x, is)) same does = subst (λ y. ImportRefused n old new y.kind y.document docs after) (sym is) (at_fault x same (subst (λ y. DoesMany n (ReadsStream bytes) (refused y.kind y.document) docs after) is does))
    by e (inr (i, is)) same does = rw is (good, (bytes, all, subst (λ y. DoesMany n (ReadsStream bytes) (refused y.kind y.document) docs after) is does))

-- ---- from memory

-- a source that never fails and gives what it has left
pub from_memory : (docs after : List TableRow) (n bytes : List ℕ) (old new : Feed) (r : Result ℕ StoreError) → old.failures ≡ 0 → new.failures ≡ 0 → ((bs : List ℕ) → TookAll old new bs → bs ≡ bytes)
    → Imports n old new r docs after → DoesMany n (ReadsStream bytes) (reply_by as_number r) docs after
from_memory docs after n bytes old new r before now whole h = by r h
  where
    took : (q : Reply) → TakesStream n old new q docs after → DoesMany n (ReadsStream bytes) q docs after
    took q h = subst (λ bs. DoesMany n (ReadsStream bs) q docs after) (whole h.1.0 h.1.1) h.1.2

    wanted_here : IsName n → after ≡ docs → DoesMany n (ReadsStream bytes) (refused kind.Memory None) docs after
    wanted_here good same = rw same (let s = any_stream bytes in wanted docs n (ReadsStream bytes) s.0 s.1 good s.2)

    bad_here : (IsName n → ⊥) → after ≡ docs → DoesMany n (ReadsStream bytes) (refused kind.BadName None) docs after
    bad_here bad same = rw same (many_bad_name docs n (ReadsStream bytes) (any_stream bytes) bad)

    at : (k : ErrorKind) (i : Option ℕ) → ImportRefused n old new k i docs after → DoesMany n (ReadsStream bytes) (refused k i) docs after
    at kind.BadName i h = rw h.1 (bad_here h.0 h.3)
    at kind.Reader i h = let no : ◌≡◌ {A = ℕ} 0 1 = sym now ∙ h.2 ∙ ap (λ m. m + 1) before in cc
    at kind.Memory i h = rw h.1 (wanted_here h.0 h.3)
    at _ i h = took _ h

    by : (r : Result ℕ StoreError) → Imports n old new r docs after → DoesMany n (ReadsStream bytes) (reply_by as_number r) docs after
    by (Ok k) h = took (number k) h
    by (Err e) h = at e.kind e.document h

-- the rest of bytes was taken to its end
pub whole_slice : (xs : List ℕ) (o : Option (List ℕ)) (bs : List ℕ) → Consumes (Some xs) o bs → IsAtEnd o → bs ≡ xs
whole_slice xs None bs h e = absurd h
whole_slice xs (Some ys) bs h e = sym (h ∙ ap (λ l. bs ++ l) e ∙ append-nil bs)

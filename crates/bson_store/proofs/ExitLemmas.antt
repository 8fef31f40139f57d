-- Exits of the calls, as moves of the rows.
use Rattle.std.proofs.Common.{◌≡◌, inl, inr, refl, ℕ, ℤ, List, Option, Some, None, Ok, Err, subst}
use Rattle.std.specs.Cow.{cow_slice_items}
use Rattle.std.specs.Prelude.{IsUtf8}
use Rattle.serde_json.specs.Data.{Data, object, Members as JsonMembers}
use Rattle.sqlite.specs.State.{State}
use Rattle.bson_base.specs.Kinds.{IsSound}
use Rattle.bson_base.specs.Value.{Value, Members}
use Rattle.store_table.specs.Rows.{TableRow, with_body_at, without_place}
use Rattle.store_table.specs.Moves.{Moves, FindsRow, FindsPlace, Changes, AddsRows, with_row}
use Rattle.store_table.specs.declared.fault.Fault.{Fault}
use Rattle.store_table.specs.declared.row.Found.{Found}
use Rattle.store_documents.specs.Answers.{AnswersBytes, AnswersTree}
use Rattle.store_documents.specs.Bodies.{AnswersInput, AnswersKept, AnswersWritten}
use Rattle.store_documents.specs.declared.write.KeptRow.{KeptRow}
use Rattle.store_model.specs.Reading.{Reading, readable, IsRead, ReadsBytes, ReadsTree}
use Rattle.store_model.specs.State.{NoneHasId, Form, in_bytes, in_json, Call, insert, replace, remove, on, Reply, done, refused, Answers, IsName, IsCall}
use Rattle.store_model.specs.Run.{IsDecidedCall}
use Rattle.store_model.specs.Table.{DocumentTable, documents_of}
use Rattle.store_model.proofs.PlainLemmas.{object_tree}
use Rattle.store_model.specs.declared.error.ErrorKind.{ErrorKind}
use Rattle.store_model.specs.declared.error.ErrorKind.TheVariants as kind
use Rattle.bson_store.specs.Calls.{Does, DoesBytes, DoesTree, DoesRead, Looks}
use Rattle.bson_store.specs.Refusals.{kind_of_fault}
use Rattle.store_model.specs.declared.error.StoreError.{StoreError}
use Rattle.bson_store.proofs.MoveLemmas.{rests, moved, moved_twice}
use Rattle.bson_store.proofs.ServeLemmas.{answers_stay, bad_name, denied, undecided, memory_other, written_fits, insert_unwritten, insert_unfound, duplicate, put_in, not_put_in}
use Rattle.bson_store.proofs.ReplaceLemmas.{replace_unwritten, replace_unfound, replace_none, put_in_place, not_put_in_place}
use Rattle.bson_store.proofs.ReadLemmas.{TakesReading, bytes_bad_name, tree_bad_name, bytes_refused, tree_refused, bytes_read, tree_read}
use Rattle.bson_store.proofs.FindLemmas.{Answered, unlooked, not_there, there, removed, unchanged}
use Rattle.bson_store.proofs.RewriteLemmas.{Remakes, rewritten}
use Rattle.store_table.specs.declared.fault.Fault.TheVariants as faults

-- ---- a look-up of an id

looks_as : (n nb : List ℕ) (id : Value) (f o : Option Found) (docs after : List TableRow) → nb ≡ n → f ≡ o → Looks nb id (Ok f) docs after → Looks n id (Ok o) docs after
looks_as n nb id f o docs after e i h = subst (λ m. Looks m id (Ok o) docs after) e (subst (λ p. Looks nb id (Ok p) docs after) i h)

pub bad_moves : (s : State) (n : List ℕ) (c : Call) → (IsName n → ⊥) → Moves s s (Does (on n c) (refused kind.BadName None))
bad_moves s n c bad = rests s (Does (on n c) (refused kind.BadName None)) (λ docs. bad_name docs n c bad)

-- a refusal that is the reply for every list
pub stays_moves : (s : State) (n : List ℕ) (c : Call) (r : Reply) → IsName n → ((a : DocumentTable) → Answers c (documents_of a n) r (documents_of a n)) → Moves s s (Does (on n c) r)
stays_moves s n c r good answers = rests s (Does (on n c) r) (λ docs. answers_stay docs n c r good (λ a _. answers a))

pub memory_moves : (s : State) (n : List ℕ) (c : Call) → IsName n → (IsDecidedCall c → ⊥) → Moves s s (Does (on n c) (refused kind.Memory None))
memory_moves s n c good open_call = rests s (Does (on n c) (refused kind.Memory None)) (λ docs. denied docs (on n c) faults.Memory memory_other (undecided n c good open_call))

pub unlooked_moves : (s t : State) (n nb : List ℕ) (id : Value) (c : Call) (e : StoreError) → nb ≡ n → IsName n → (IsDecidedCall c → ⊥) → Moves s t (Looks nb id (Err e)) → Moves s t (Does (on n c) (refused e.kind e.document))
unlooked_moves s t n nb id c e is good open_call m = moved s t (Looks nb id (Err e)) (Does (on n c) (refused e.kind e.document)) m (λ docs after h. unlooked docs after n id c e good open_call (subst (λ k. Looks k id (Err e) docs after) is h))

pub none_moves : (s t : State) (n nb : List ℕ) (id : Value) (f : Option Found) (c : Call) → nb ≡ n → f ≡ None → IsName n → ((a : DocumentTable) → NoneHasId id (documents_of a n) → Answers c (documents_of a n) (refused kind.NotFound None) (documents_of a n))
    → Moves s t (Looks nb id (Ok f)) → Moves s t (Does (on n c) (refused kind.NotFound None))
none_moves s t n nb id f c e i good answers m =
    moved s t (Looks nb id (Ok f)) (Does (on n c) (refused kind.NotFound None)) m (λ docs after h. not_there docs after n id c good answers (looks_as n nb id f None docs after e i h))

pub there_moves : (s t : State) (n nb : List ℕ) (id : Value) (f : Option Found) (x : Found) (c : Call) (q : Reply) → nb ≡ n → f ≡ Some x → IsName n → (IsDecidedCall c → ⊥) → Answered id c q x → Moves s t (Looks nb id (Ok f)) → Moves s t (Does (on n c) q)
there_moves s t n nb id f x c q e i good open_call answered m =
    moved s t (Looks nb id (Ok f)) (Does (on n c) q) m (λ docs after h. there docs after n id x c q good open_call (looks_as n nb id f (Some x) docs after e i h) answered)

pub removed_moves : (s t u : State) (n nb : List ℕ) (id : Value) (f : Option Found) (x : Found) → nb ≡ n → f ≡ Some x → IsName n → Moves s t (Looks nb id (Ok f)) → Moves t u (Changes (without_place x.place) (Ok tt)) → Moves s u (Does (on n (remove id)) done)
removed_moves s t u n nb id f x e i good m k =
    moved_twice s t u (Looks nb id (Ok f)) (Changes (without_place x.place) (Ok tt)) (Does (on n (remove id)) done) m k (λ docs mid after h l. removed docs mid after n id x good (looks_as n nb id f (Some x) docs mid e i h) l)

pub rewritten_moves : (s t u : State) (n nb : List ℕ) (id : Value) (f : Option Found) (x : Found) (c : Call) (q : Reply) (b : List ℕ) → nb ≡ n → f ≡ Some x → IsName n → (IsSound id → IsCall c) → Remakes id c q x b
    → Moves s t (Looks nb id (Ok f)) → Moves t u (Changes (with_body_at x.place b) (Ok tt)) → Moves s u (Does (on n c) q)
rewritten_moves s t u n nb id f x c q b e i good call remakes m k =
    moved_twice s t u (Looks nb id (Ok f)) (Changes (with_body_at x.place b) (Ok tt)) (Does (on n c) q) m k (λ docs mid after h l. rewritten docs mid after n id x c q b good call (looks_as n nb id f (Some x) docs mid e i h) remakes l)

pub unchanged_moves : (s t u : State) (n nb : List ℕ) (id : Value) (f : Option Found) (x : Found) (c : Call) (change : List TableRow → List TableRow) (y : Fault) → nb ≡ n → f ≡ Some x → IsName n → (IsDecidedCall c → ⊥)
    → Moves s t (Looks nb id (Ok f)) → Moves t u (Changes change (Err y)) → Moves s u (Does (on n c) (refused (kind_of_fault y) None))
unchanged_moves s t u n nb id f x c change y e i good open_call m k =
    moved_twice s t u (Looks nb id (Ok f)) (Changes change (Err y)) (Does (on n c) (refused (kind_of_fault y) None)) m k
    (λ docs mid after h l. unchanged docs mid after n id x c change y good open_call (looks_as n nb id f (Some x) docs mid e i h) l)

-- ---- documents that were read

pub unread_bytes : (s : State) (n b : List ℕ) (call : Form → Reading → Call) (k : ErrorKind) → TakesReading call → IsName n → AnswersBytes b (Err k) → Moves s s (DoesBytes n (call in_bytes) b (refused k None))
unread_bytes s n b call k t good h = rests s (DoesBytes n (call in_bytes) b (refused k None)) (λ docs. bytes_refused docs n b call k t good h)

pub unread_tree : (s : State) (n : List ℕ) (j : Data) (call : Form → Reading → Call) (k : ErrorKind) → TakesReading call → IsName n → AnswersTree j (Err k) → Moves s s (DoesTree n (call in_json) j (refused k None))
unread_tree s n j call k t good h = rests s (DoesTree n (call in_json) j (refused k None)) (λ docs. tree_refused docs n j call k t good h)

pub bad_bytes : (s : State) (n b : List ℕ) (call : Form → Reading → Call) → (IsName n → ⊥) → Moves s s (DoesBytes n (call in_bytes) b (refused kind.BadName None))
bad_bytes s n b call bad = rests s (DoesBytes n (call in_bytes) b (refused kind.BadName None)) (λ docs. bytes_bad_name docs n b call bad)

pub bad_tree : (s : State) (n : List ℕ) (j : Data) (call : Form → Reading → Call) → (IsName n → ⊥) → Moves s s (DoesTree n (call in_json) j (refused kind.BadName None))
bad_tree s n j call bad = rests s (DoesTree n (call in_json) j (refused kind.BadName None)) (λ docs. tree_bad_name docs n j call bad)

pub read_bytes : (s t : State) (n nb b : List ℕ) (call : Form → Reading → Call) (d : Members) (r : Reply) → nb ≡ n → ReadsBytes b (readable d) → Moves s t (DoesRead nb call d r) → Moves s t (DoesBytes n (call in_bytes) b r)
read_bytes s t n nb b call d r e reads m = moved s t (DoesRead nb call d r) (DoesBytes n (call in_bytes) b r) m (λ docs after h. bytes_read docs after n b call d r reads (subst (λ k. DoesRead k call d r docs after) e h))

-- bytes that have no row
pub unkept_bytes : (s : State) (n b : List ℕ) (call : Form → Reading → Call) (k : ErrorKind) → TakesReading call → ((d : Members) (x : ErrorKind) → AnswersWritten d (Err x) → Moves s s (DoesRead n call d (refused x None)))
    → IsName n → AnswersKept b (Err k) → Moves s s (DoesBytes n (call in_bytes) b (refused k None))
unkept_bytes s n b call k t unwritten good (inl h) = unread_bytes s n b call k t good (inl h)
unkept_bytes s n b call k t unwritten good (inr h) = read_bytes s s n n b call h.0 (refused k None) refl h.1 (unwritten h.0 k h.3)

pub read_tree : (s t : State) (n nb : List ℕ) (j : Data) (call : Form → Reading → Call) (d : Members) (r : Reply) → nb ≡ n → ReadsTree j (readable d) → Moves s t (DoesRead nb call d r) → Moves s t (DoesTree n (call in_json) j r)
read_tree s t n nb j call d r e reads m = moved s t (DoesRead nb call d r) (DoesTree n (call in_json) j r) m (λ docs after h. tree_read docs after n j call d r reads (subst (λ k. DoesRead k call d r docs after) e h))

-- a tree that has no row; only for an object it can be out of memory
pub unkept_tree : (s : State) (n : List ℕ) (j : Data) (call : Form → Reading → Call) (k : ErrorKind) → TakesReading call → ((d : Members) (x : ErrorKind) → AnswersWritten d (Err x) → Moves s s (DoesRead n call d (refused x None)))
    → IsName n → AnswersInput (ReadsTree j) (Err k) → (k ≡ kind.Memory → (js : JsonMembers) × (j ≡ object js)) → Moves s s (DoesTree n (call in_json) j (refused k None))
unkept_tree s n j call k t unwritten good (inl reads) wants = unread_tree s n j call k t good (inl reads)
unkept_tree s n j call k t unwritten good (inr (inl (d, reads, why))) wants = read_tree s s n n j call d (refused k None) refl reads (unwritten d k (inl why))
unkept_tree s n j call k t unwritten good (inr (inr memory)) wants =
    let w = wants memory in
    let a = object_tree w.0 in
    unread_tree s n j call k t good (inr (memory, a.0, rw w.1 a.1, a.2))

-- ---- inserts

pub unwritten_insert : (s : State) (n : List ℕ) (d : Members) (k : ErrorKind) → IsName n → AnswersWritten d (Err k) → Moves s s (DoesRead n insert d (refused k None))
unwritten_insert s n d k good h = rests s (DoesRead n insert d (refused k None)) (λ docs. insert_unwritten docs n d k good h)

pub unfound_insert : (s t : State) (n k : List ℕ) (d : Members) (x : Fault) → IsName n → Moves s t (FindsPlace n k (Err x)) → Moves s t (DoesRead n insert d (refused (kind_of_fault x) None))
unfound_insert s t n k d x good m = moved s t (FindsPlace n k (Err x)) (DoesRead n insert d (refused (kind_of_fault x) None)) m (λ docs after h. insert_unfound docs after n k d x good h)

pub duplicate_insert : (s t : State) (n : List ℕ) (d : Members) (w : KeptRow) (f : Option ℤ) (x : ℤ) → IsName n → IsRead d → AnswersWritten d (Ok w) → f ≡ Some x → Moves s t (FindsPlace n w.key.items (Ok f)) → Moves s t (DoesRead n insert d (refused kind.DuplicateId None))
duplicate_insert s t n d w f x good read written e m =
    moved s t (FindsPlace n w.key.items (Ok f)) (DoesRead n insert d (refused kind.DuplicateId None)) m
    (λ docs after h. duplicate docs after n w.key.items (cow_slice_items w.body) d x good (written_fits d w read written) (subst (λ o. FindsPlace n w.key.items (Ok o) docs after) e h))

pub put_moves : (s t u : State) (n : List ℕ) (d : Members) (w : KeptRow) (f : Option ℤ) → IsName n → IsUtf8 n → IsRead d → AnswersWritten d (Ok w) → f ≡ None → Moves s t (FindsPlace n w.key.items (Ok f)) → Moves t u (AddsRows 1 (with_row n w.key.items (cow_slice_items w.body)) (Ok tt)) → Moves s u (DoesRead n insert d done)
put_moves s t u n d w f good text read written e m k =
    moved_twice s t u (FindsPlace n w.key.items (Ok f)) (AddsRows 1 (with_row n w.key.items (cow_slice_items w.body)) (Ok tt)) (DoesRead n insert d done) m k
    (λ docs mid after h l. put_in docs mid after n w.key.items (cow_slice_items w.body) d good text (written_fits d w read written) (subst (λ o. FindsPlace n w.key.items (Ok o) docs mid) e h) l)

pub not_put_moves : (s t u : State) (n : List ℕ) (d : Members) (w : KeptRow) (f : Option ℤ) (x : Fault) → IsName n → IsRead d → AnswersWritten d (Ok w) → f ≡ None → Moves s t (FindsPlace n w.key.items (Ok f)) → Moves t u (AddsRows 1 (with_row n w.key.items (cow_slice_items w.body)) (Err x)) → Moves s u (DoesRead n insert d (refused (kind_of_fault x) None))
not_put_moves s t u n d w f x good read written e m k =
    moved_twice s t u (FindsPlace n w.key.items (Ok f)) (AddsRows 1 (with_row n w.key.items (cow_slice_items w.body)) (Err x)) (DoesRead n insert d (refused (kind_of_fault x) None)) m k
    (λ docs mid after h l. not_put_in docs mid after n w.key.items (cow_slice_items w.body) d x good (written_fits d w read written) (subst (λ o. FindsPlace n w.key.items (Ok o) docs mid) e h) l)

-- ---- replacements

pub unwritten_replace : (s : State) (n : List ℕ) (d : Members) (k : ErrorKind) → IsName n → AnswersWritten d (Err k) → Moves s s (DoesRead n replace d (refused k None))
unwritten_replace s n d k good h = rests s (DoesRead n replace d (refused k None)) (λ docs. replace_unwritten docs n d k good h)

pub unfound_replace : (s t : State) (n : List ℕ) (d : Members) (w : KeptRow) (x : Fault) → IsName n → IsRead d → AnswersWritten d (Ok w) → Moves s t (FindsRow n w.key.items (Err x)) → Moves s t (DoesRead n replace d (refused (kind_of_fault x) None))
unfound_replace s t n d w x good read written m =
    moved s t (FindsRow n w.key.items (Err x)) (DoesRead n replace d (refused (kind_of_fault x) None)) m (λ docs after h. replace_unfound docs after n w.key.items (cow_slice_items w.body) d x good (written_fits d w read written) h)

pub none_replace : (s t : State) (n : List ℕ) (d : Members) (w : KeptRow) (f : Option Found) → IsName n → IsRead d → AnswersWritten d (Ok w) → f ≡ None → Moves s t (FindsRow n w.key.items (Ok f)) → Moves s t (DoesRead n replace d (refused kind.NotFound None))
none_replace s t n d w f good read written e m =
    moved s t (FindsRow n w.key.items (Ok f)) (DoesRead n replace d (refused kind.NotFound None)) m
    (λ docs after h. replace_none docs after n w.key.items (cow_slice_items w.body) d good (written_fits d w read written) (subst (λ o. FindsRow n w.key.items (Ok o) docs after) e h))

pub place_moves : (s t u : State) (n : List ℕ) (d : Members) (w : KeptRow) (f : Option Found) (x : Found) → IsName n → IsRead d → AnswersWritten d (Ok w) → f ≡ Some x → Moves s t (FindsRow n w.key.items (Ok f)) → Moves t u (Changes (with_body_at x.place (cow_slice_items w.body)) (Ok tt)) → Moves s u (DoesRead n replace d done)
place_moves s t u n d w f x good read written e m k =
    moved_twice s t u (FindsRow n w.key.items (Ok f)) (Changes (with_body_at x.place (cow_slice_items w.body)) (Ok tt)) (DoesRead n replace d done) m k
    (λ docs mid after h l. put_in_place docs mid after n w.key.items (cow_slice_items w.body) d x good (written_fits d w read written) (subst (λ o. FindsRow n w.key.items (Ok o) docs mid) e h) l)

pub not_place_moves : (s t u : State) (n : List ℕ) (d : Members) (w : KeptRow) (f : Option Found) (x : Found) (y : Fault) → IsName n → IsRead d → AnswersWritten d (Ok w) → f ≡ Some x → Moves s t (FindsRow n w.key.items (Ok f)) → Moves t u (Changes (with_body_at x.place (cow_slice_items w.body)) (Err y)) → Moves s u (DoesRead n replace d (refused (kind_of_fault y) None))
not_place_moves s t u n d w f x y good read written e m k =
    moved_twice s t u (FindsRow n w.key.items (Ok f)) (Changes (with_body_at x.place (cow_slice_items w.body)) (Err y)) (DoesRead n replace d (refused (kind_of_fault y) None)) m k
    (λ docs mid after h l. not_put_in_place docs mid after n w.key.items (cow_slice_items w.body) d x y good (written_fits d w read written) (subst (λ o. FindsRow n w.key.items (Ok o) docs mid) e h) l)

-- A document that was put in is found again under its `_id`.
use Rattle.std.proofs.Common.{◌≡◌, inl, inr, ℕ, List, [], ◌∷◌, ◌++◌, Option, Some, None, Result, Ok, Err, cond, Vec, refl, sym, ap, ◌∙◌, subst}
use Rattle.std.specs.Prelude.{IsSomeAnd, MatchOption}
use Rattle.std.specs.Cmp.Lexicographic.{nat_list_eq_equiv}
use Rattle.std.specs.declared.alloc.Global.{Global}
use Rattle.sqlite.specs.State.{State as Connected}
use Rattle.bson_base.specs.Value.{Value, Members, document, look_up}
use Rattle.bson_bytes.specs.Encode.{encode}
use Rattle.bson_meaning.specs.Meaning.{Same}
use Rattle.bson_meaning.proofs.NowLemmas.{same_itself}
use Rattle.store_table.specs.Moves.{Moves}
use Rattle.store_table.specs.Rows.{TableRow}
use Rattle.store_model.specs.Reading.{Documents, Reading, readable, unreadable, AreRead, ReadsBytes}
use Rattle.store_model.specs.Same.{SameDocuments}
use Rattle.store_model.specs.State.{State, id_key, list_of, store, on, insert, get_raw, in_bytes, done, bytes, HasId, SomeHasId, IsTaken, StandsAt, When, Refuses, Step}
use Rattle.store_model.specs.Table.{DocumentTable, documents_of, state_of}
use Rattle.store_model.specs.declared.error.ErrorKind.{ErrorKind}
use Rattle.store_model.specs.declared.error.ErrorKind.TheVariants.{DuplicateId}
use Rattle.store_model.specs.declared.error.StoreError.{StoreError}
use Rattle.store_model.proofs.DocumentLemmas.{some_has_id_same}
use Rattle.store_model.proofs.KeyLemmas.{rows_kept}
use Rattle.store_model.proofs.KeptLemmas.{reads}
use Rattle.store_model.proofs.RowLemmas.{list_of-state_of}
use Rattle.store_model.proofs.StateLemmas.{list_of-store}
use Rattle.bson_store.specs.Calls.{Does, DoesBytes}
use Rattle.bson_store.specs.Refusals.{as_bytes, reply_by}
use Rattle.bson_store.specs.Shown.{Represents}
use Rattle.bson_store.proofs.CrashLemmas.{step_of}
use Rattle.bson_store.proofs.MoveLemmas.{moved_twice}
use Rattle.usage_callers.specs.Found.{IsPutAndGot, PutsAndGets}

-- ---- one list

same_documents : (ds : Documents) → AreRead ds → SameDocuments ds ds
same_documents [] h = tt
same_documents (d ∷ ds) h = (same_itself (document d) h.0.sound, same_documents ds h.1)

-- who has an id has each that means the same
by_own : (o : Option Value) (id : Value) (ds : Documents) → AreRead ds → IsSomeAnd o (λ own. Same own id) → SomeHasId id ds → IsSomeAnd o (λ own. SomeHasId own ds)
by_own None id ds r has some = absurd has
by_own (Some own) id ds r has some = (some_has_id_same own id ds ds has (same_documents ds r) r r).1 some

-- the one with the id is the last, if none before it has the id
is_last : (id : Value) (ds front back : Documents) (d e : Members) → ds ++ d ∷ [] ≡ front ++ e ∷ back → HasId id e → (SomeHasId id ds → ⊥) → e ≡ d
is_last id [] [] back d e is has none = cc
is_last id [] (x ∷ []) back d e is has none = cc
is_last id [] (x ∷ y ∷ front) back d e is has none = cc
is_last id (x ∷ ds) [] back d e is has none = let same : e ≡ x = cc in absurd (none (inl (subst (HasId id) same has)))
is_last id (x ∷ ds) (y ∷ front) back d e is has none = let rest : ds ++ d ∷ [] ≡ front ++ e ∷ back = cc in is_last id ds front back d e rest has (λ some. none (inr some))

-- ---- steps

stored : (s : State) (n : List ℕ) (es : Documents) → list_of (store s n es) n ≡ es
stored s n es = list_of-store s n n es ∙ ap (λ b. cond b es (list_of s n)) (nat_list_eq_equiv.refl n)

in_list : (o : Option ErrorKind) (ds es : Documents) (d : Members) → MatchOption o (When (IsTaken d ds) (Refuses DuplicateId ds done es) ((done ≡ done) × (es ≡ ds ++ d ∷ []))) (λ k. Refuses k ds done es) → (IsTaken d ds → ⊥) × (es ≡ ds ++ d ∷ [])
in_list None ds es d (inl (taken, (told, same))) = cc
in_list None ds es d (inr (free, (told, is))) = (free, is)
in_list (Some k) ds es d (told, same) = cc

-- an accepted insert puts a document last
pub put_in : (s t : State) (n : List ℕ) (x : Reading) → Step s (on n (insert in_bytes x)) done t → (d : Members) × (x ≡ readable d) × (IsTaken d (list_of s n) → ⊥) × (list_of t n ≡ list_of s n ++ d ∷ [])
put_in s t n (unreadable k) (inl (good, (es, (told, same), is))) = cc
put_in s t n (readable d) (inl (good, (es, answers, is))) =
    let h = in_list _ (list_of s n) es d answers in
    (d, refl, h.0, ap (λ (u : State). list_of u n) is ∙ stored s n es ∙ h.1)
put_in s t n x (inr (bad, (told, same))) = cc

-- what is got is the first document with the id, as it is written
pub got_from : (s t : State) (n : List ℕ) (id : Value) (v : List ℕ) → Step s (on n (get_raw id)) (bytes v) t → (front : Documents) × (e : Members) × (back : Documents) × StandsAt id (list_of s n) front e back × (v ≡ encode e) × (list_of t n ≡ list_of s n)
got_from s t n id v (inl (good, (es, inl (front, e, back, at, (told, same)), is))) =
    (front, e, back, at, cc, ap (λ (u : State). list_of u n) is ∙ stored s n es ∙ same)
got_from s t n id v (inl (good, (es, inr (none, (told, same)), is))) = cc
got_from s t n id v (inr (bad, (told, same))) = cc

-- ---- both calls

both : (docs mid after : List TableRow) (n bs : List ℕ) (id : Value) (v : List ℕ) → DoesBytes n (insert in_bytes) bs done docs mid → Does (on n (get_raw id)) (bytes v) mid after → (a : DocumentTable) → Represents docs a → IsPutAndGot n bs id v a after
both docs mid after n bs id v (x, read, puts) gets a shown =
    let p = puts a shown in
    let q = gets p.0 p.1 in
    let put = put_in (state_of a) (state_of p.0) n x (step_of a (on n (insert in_bytes x)) done p.0 (λ e. e) p.2) in
    let got = got_from (state_of p.0) (state_of q.0) n id v (step_of p.0 (on n (get_raw id)) (bytes v) q.0 (λ e. e) q.2) in
    let ds = list_of (state_of a) n in
    let kept = subst AreRead (sym (list_of-state_of a n)) (reads (documents_of a n) (rows_kept a n shown.good)) in
    record {
      d = put.0;
      reads = subst (ReadsBytes bs) put.1 read;
      b = q.0;
      shown = q.1;
      last = sym (list_of-state_of q.0 n) ∙ got.5 ∙ put.3 ∙ ap (λ (l : Documents). l ++ put.0 ∷ []) (list_of-state_of a n);
      found = λ has. got.4 ∙ ap encode (is_last id ds got.0 got.2 put.0 got.1 (sym put.3 ∙ got.3.split) got.3.has (λ some. put.2 (by_own (look_up id_key put.0) id ds kept has some)));
    }

pub put_and_got : (s t u : Connected) (n bs : List ℕ) (id : Value) (r : Result (Vec ℕ Global) StoreError) → Moves s t (DoesBytes n (insert in_bytes) bs done) → Moves t u (Does (on n (get_raw id)) (reply_by as_bytes r)) → Moves s u (PutsAndGets n bs id r)
put_and_got s t u n bs id (Err e) m k = moved_twice s t u (DoesBytes n (insert in_bytes) bs done) (Does (on n (get_raw id)) (reply_by as_bytes (Err e))) (PutsAndGets n bs id (Err e)) m k (λ docs mid after h l. tt)
put_and_got s t u n bs id (Ok v) m k = moved_twice s t u (DoesBytes n (insert in_bytes) bs done) (Does (on n (get_raw id)) (bytes v.items)) (PutsAndGets n bs id (Ok v)) m k (λ docs mid after h l. both docs mid after n bs id v.items h l)

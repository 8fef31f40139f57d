-- What becomes of an insert into a store without a row.
use Rattle.std.proofs.Common.{◌≡◌, inl, inr, ℕ, List, [], ◌∷◌, ◌++◌, cond, Option, Some, None, refl, ap, ◌∙◌, subst, arith}
use Rattle.std.specs.Prelude.{IsSomeAnd, MatchOption, codes}
use Rattle.sqlite.specs.State.{State, HasCleanDisk}
use Rattle.bson_base.specs.Value.{Value, Members, look_up}
use Rattle.store_table.specs.Rows.{TableRow}
use Rattle.store_table.specs.Moves.{Moves, Stands}
use Rattle.store_model.specs.Reading.{Documents, Reading, readable, unreadable, ReadsBytes}
use Rattle.store_model.specs.State.{IsName, id_key, in_bytes, insert, on, Reply, done, refused, When, Refuses, IsTaken, SomeHasId, refusal_of, list_of, store}
use Rattle.store_model.specs.Run.{Denial, memory, database, places, kind_of_denial}
use Rattle.store_model.specs.Table.{DocumentTable, Serves, MayBeDenied, state_of}
use Rattle.store_model.specs.declared.error.ErrorKind.{ErrorKind}
use Rattle.store_model.specs.declared.error.ErrorKind.TheVariants.{DuplicateId, Memory, Database}
use Rattle.store_model.proofs.StateLemmas.{list_of-store}
use Rattle.store_model.proofs.RowLemmas.{list_of-state_of}
use Rattle.bson_base.specs.Device.{Feed, TookAll}
use Rattle.bson_store.specs.Shown.{Represents}
use Rattle.bson_store.specs.Calls.{DoesBytes}
use Rattle.cli_commands.specs.Pipe.{KeepsInput, RefusesInput}
use Rattle.cli_commands.proofs.RefusalLemmas.{input_refused}
use Rattle.bson_base.proofs.MemberLemmas.{same_key}

-- the collection's name
abbrev pub name : List ℕ
name = codes "c"

pub is_name : IsName name
is_name = (omega arith, (omega arith, tt))

-- no rows show no documents
no_rows : Represents [] []
no_rows = record { each = tt; good = tt; rising = tt }

none_is_taken : (d : Members) (ds : Documents) → ds ≡ [] → IsTaken d ds → ⊥
none_is_taken d ds none taken = by (look_up id_key d) (subst (IsTaken d) none taken)
  where
    by : (o : Option Value) → IsSomeAnd o (λ id. SomeHasId id []) → ⊥
    by None h = h
    by (Some id) h = h

-- the reply for a list, if this is why a document isn't kept
abbrev AnswersAs : Option ErrorKind → Members → Documents → Reply → Documents → Type 0
AnswersAs o d ds r es = MatchOption o (When (IsTaken d ds) (Refuses DuplicateId ds r es) ((r ≡ done) × (es ≡ ds ++ d ∷ []))) (λ k. Refuses k ds r es)

-- what the table of no rows serves an insert with
abbrev Served : Reading → Reply → List TableRow → Type 0
Served x r after = (b : DocumentTable) × Represents after b × Serves [] (on name (insert in_bytes x)) r b

-- ---- an insert that is done

-- the bytes mean a document that is kept, and a table that the rows show has no other
abbrev Inserted : List ℕ → List TableRow → Type 0
Inserted bytes after = (d : Members) × ReadsBytes bytes (readable d) × (refusal_of d ≡ None) × ((b : DocumentTable) × Represents after b × (list_of (state_of b) name ≡ d ∷ []))

alone : (b : DocumentTable) (d : Members) (es : Documents) → es ≡ list_of (state_of []) name ++ d ∷ [] → state_of b ≡ store (state_of []) name es → list_of (state_of b) name ≡ d ∷ []
alone b d es is put =
    ap (λ u. list_of u name) put
    ∙ list_of-store (state_of []) name name es
    ∙ ap (λ x. cond x es (list_of (state_of []) name)) (same_key name)
    ∙ is
    ∙ ap (λ ds. ds ++ d ∷ []) (list_of-state_of [] name)

judged : (bytes : List ℕ) (after : List TableRow) (d : Members) (b : DocumentTable) (es : Documents) → ReadsBytes bytes (readable d) → Represents after b → state_of b ≡ store (state_of []) name es
    → (o : Option ErrorKind) → refusal_of d ≡ o → AnswersAs o d (list_of (state_of []) name) done es → Inserted bytes after
judged bytes after d b es reads shown put None e (inl taken) = let f = taken.1.0 in cc
judged bytes after d b es reads shown put None e (inr free) = (d, reads, e, (b, shown, alone b d es free.1.1 put))
judged bytes after d b es reads shown put (Some k) e refuses = let f = refuses.0 in cc

inserted : (bytes : List ℕ) (after : List TableRow) (x : Reading) → ReadsBytes bytes x → Served x done after → Inserted bytes after
inserted bytes after x reads (b, shown, (Some w, (turn, follows, may))) = let e = turn.0 in cc
inserted bytes after x reads (b, shown, (None, (inr bad, follows, may))) = absurd (bad.0 is_name)
inserted bytes after (unreadable k) reads (b, shown, (None, (inl (good, (es, answers, put)), follows, may))) = let e = answers.0 in cc
inserted bytes after (readable d) reads (b, shown, (None, (inl (good, (es, answers, put)), follows, may))) = judged bytes after d b es reads shown put (refusal_of d) refl answers

pub input_kept : (s t : State) (old new : Feed) (bytes : List ℕ) → HasCleanDisk t → Stands s [] → TookAll old new bytes → Moves s t (DoesBytes name (insert in_bytes) bytes done) → KeepsInput old new t
input_kept s t old new bytes clean empty all moves =
    let m = (moves clean).1 [] empty in
    let i = inserted bytes m.0 m.2.0 m.2.1 (m.2.2 [] no_rows) in
    (i.0, (bytes, all, i.1), i.2, (m.0, i.3.0, m.1, i.3.1, i.3.2))

-- ---- an insert that is refused

-- nothing is denied if the bytes are refused, and without rows there are places enough
denied : (kind : ErrorKind) (w : Denial) (old new : Feed) (bytes : List ℕ) (place : Option ℕ) (x : Reading) → TookAll old new bytes → ReadsBytes bytes x
    → refused kind place ≡ refused (kind_of_denial w) None → MayBeDenied (Some w) [] (on name (insert in_bytes x)) → RefusesInput kind old new
denied kind memory old new bytes place (unreadable k) all reads e may = absurd (may (inr tt))
denied kind database old new bytes place (unreadable k) all reads e may = absurd (may (inr tt))
denied kind places old new bytes place (unreadable k) all reads e may = absurd (may.0 (inr tt))
denied kind memory old new bytes place (readable d) all reads e may = let is : Memory ≡ kind = cc in subst (λ k. RefusesInput k old new) is (inr (d, (bytes, all, reads)))
denied kind database old new bytes place (readable d) all reads e may = let is : Database ≡ kind = cc in subst (λ k. RefusesInput k old new) is (inr (d, (bytes, all, reads)))
denied kind places old new bytes place (readable d) all reads e may = absurd (omega (arith, may.1.0))

not_judged : (kind : ErrorKind) (old new : Feed) (bytes : List ℕ) (place : Option ℕ) (d : Members) (es : Documents) → TookAll old new bytes → ReadsBytes bytes (readable d)
    → (o : Option ErrorKind) → refusal_of d ≡ o → AnswersAs o d (list_of (state_of []) name) (refused kind place) es → RefusesInput kind old new
not_judged kind old new bytes place d es all reads None e (inl taken) = absurd (none_is_taken d (list_of (state_of []) name) (list_of-state_of [] name) taken.0)
not_judged kind old new bytes place d es all reads None e (inr free) = let f = free.1.0 in cc
not_judged kind old new bytes place d es all reads (Some k) e refuses =
    let f = refuses.0 in
    let is : k ≡ kind = cc in
    input_refused kind old new (bytes, all, inr (d, reads, e ∙ ap (λ (x : ErrorKind). Some x) is))

not_inserted : (kind : ErrorKind) (old new : Feed) (bytes : List ℕ) (place : Option ℕ) (after : List TableRow) (x : Reading) → TookAll old new bytes → ReadsBytes bytes x
    → Served x (refused kind place) after → RefusesInput kind old new
not_inserted kind old new bytes place after x all reads (b, shown, (Some w, (turn, follows, may))) = denied kind w old new bytes place x all reads turn.0 may
not_inserted kind old new bytes place after x all reads (b, shown, (None, (inr bad, follows, may))) = absurd (bad.0 is_name)
not_inserted kind old new bytes place after (unreadable k) all reads (b, shown, (None, (inl (good, (es, answers, put)), follows, may))) =
    let f = answers.0 in
    let is : k ≡ kind = cc in
    input_refused kind old new (bytes, all, inl (subst (λ k. ReadsBytes bytes (unreadable k)) is reads))
not_inserted kind old new bytes place after (readable d) all reads (b, shown, (None, (inl (good, (es, answers, put)), follows, may))) =
    not_judged kind old new bytes place d es all reads (refusal_of d) refl answers

pub input_not_kept : (s t : State) (old new : Feed) (bytes : List ℕ) (kind : ErrorKind) (place : Option ℕ) → HasCleanDisk t → Stands s [] → TookAll old new bytes
    → Moves s t (DoesBytes name (insert in_bytes) bytes (refused kind place)) → RefusesInput kind old new
input_not_kept s t old new bytes kind place clean empty all moves =
    let m = (moves clean).1 [] empty in
    not_inserted kind old new bytes place m.0 m.2.0 all m.2.1 (m.2.2 [] no_rows)

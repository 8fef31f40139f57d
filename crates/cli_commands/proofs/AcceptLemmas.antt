-- What a refused call leaves, and calls of the store as commands of the program.
use Rattle.std.proofs.Common.{◌≡◌, inl, inr, ℕ, List, [], ◌∷◌, ◌++◌, Option, Some, None, Result, Ok, Err, MatchOption, IsSomeAnd, sym, ap, ◌∙◌, subst}
use Rattle.sqlite.specs.State.{State as Connected}
use Rattle.serde_json.specs.Data.{Data}
use Rattle.bson_base.specs.Value.{Value, Members, look_up, put}
use Rattle.bson_meaning.specs.Meaning.{norm_in_order}
use Rattle.bson_model.specs.declared.extjson.ser.Mode.{Mode}
use Rattle.store_table.specs.Rows.{TableRow}
use Rattle.store_table.specs.Moves.{Moves}
use Rattle.bson_store.specs.Shown.{Represents}
use Rattle.store_model.specs.Reading.{Documents, Reading, readable, unreadable, ReadsTree}
use Rattle.store_model.specs.State.{State, id_key, store, Call, insert, replace, set, unset, remove, get_raw, get_json, find, count, project, import, export, dump, Command, on, collections, Reply, done, refused, refusal_of, first_refusal, When, Refuses, Appends, AtId, PutsBack, Answers, IsTaken, Step}
use Rattle.store_model.specs.Run.{Denial, Turn}
use Rattle.store_model.specs.Table.{DocumentTable, state_of, IsRefusal, Serves}
use Rattle.store_model.specs.declared.error.ErrorKind.{ErrorKind}
use Rattle.store_model.specs.declared.error.ErrorKind.TheVariants.{DuplicateId, NotFound}
use Rattle.store_model.proofs.RowLemmas.{rows_not_empty}
use Rattle.store_model.proofs.StateLemmas.{stored_again}
use Rattle.store_model.proofs.UnmovedLemmas.{unmoved}
use Rattle.bson_store.specs.Calls.{Does, DoesTree}
use Rattle.bson_store.specs.Refusals.{reply_by}
use Rattle.store_model.specs.declared.error.StoreError.{StoreError}
use Rattle.bson_store.proofs.MoveLemmas.{moved}
use Rattle.cli_commands.specs.Answers.{answer_by}
use Rattle.cli_commands.specs.Execute.{IsRefusedBy, Performs}
use Rattle.cli_commands.specs.Printing.{reply_of}
use Rattle.cli_commands.specs.declared.answer.Answer.{Answer}
use Rattle.cli_commands.specs.declared.stop.Failure.{Failure}
use Rattle.cli_commands.specs.declared.stop.Failure.TheVariants.{Refused}
use Rattle.cli_commands.specs.declared.lines.UsageError.{UsageError}

-- ---- a refused call leaves the list

appends_stay : (j : ℕ) (start ds more es : Documents) (k : ErrorKind) (i : Option ℕ) → Appends j start ds more (refused k i) es → es ≡ start
appends_stay j start ds [] es k i h = let e = h.0 in cc
appends_stay j start ds (d ∷ more) es k i (inl h) = h.1.1
appends_stay j start ds (d ∷ more) es k i (inr h) = appends_stay _ start (ds ++ d ∷ []) more es k i h.1

insert_stays : (d : Members) (o : Option ErrorKind) (ds es : Documents) (k : ErrorKind) (i : Option ℕ)
    → MatchOption o (When (IsTaken d ds) (Refuses DuplicateId ds (refused k i) es) ((refused k i ≡ done) × (es ≡ ds ++ d ∷ []))) (λ x. Refuses x ds (refused k i) es) → es ≡ ds
insert_stays d None ds es k i (inl h) = h.1.1
insert_stays d None ds es k i (inr h) = let e = h.1.0 in cc
insert_stays d (Some x) ds es k i h = h.1

-- at the document with the id it is done, else refused
at_id_stays : (id : Value) (ds es : Documents) (k : ErrorKind) (i : Option ℕ) (P : Documents → Members → Documents → Type 0)
    → ((front : Documents) (d : Members) (back : Documents) → P front d back → es ≡ ds) → AtId id ds P (Refuses NotFound ds (refused k i) es) → es ≡ ds
at_id_stays id ds es k i P there (inl (front, d, back, stands, h)) = there front d back h
at_id_stays id ds es k i P there (inr h) = h.1.1

replace_stays : (d : Members) (o : Option ErrorKind) (own : Option Value) (ds es : Documents) (k : ErrorKind) (i : Option ℕ)
    → MatchOption o (IsSomeAnd own (λ id. AtId id ds (λ front old back. (refused k i ≡ done) × (es ≡ front ++ d ∷ back)) (Refuses NotFound ds (refused k i) es))) (λ x. Refuses x ds (refused k i) es) → es ≡ ds
replace_stays d None None ds es k i h = absurd h
replace_stays d None (Some id) ds es k i h = at_id_stays id ds es k i _ (λ front old back x. let e = x.0 in cc) h
replace_stays d (Some x) own ds es k i h = h.1

puts_back_stays : (ds front : Documents) (d : Members) (back es : Documents) (k : ErrorKind) (i : Option ℕ) → PutsBack ds front d back (refused k i) es → es ≡ ds
puts_back_stays ds front d back es k i (inl h) = let e = h.1 in cc
puts_back_stays ds front d back es k i (inr h) = h.2.1

import_stays : (o : Option (ErrorKind × ℕ)) (ds more es : Documents) (k : ErrorKind) (i : Option ℕ)
    → MatchOption o (Appends 0 ds ds more (refused k i) es) (λ x. (refused k i ≡ refused x.0 (Some x.1)) × (es ≡ ds)) → es ≡ ds
import_stays None ds more es k i h = appends_stay 0 ds ds more es k i h
import_stays (Some x) ds more es k i h = h.1

list_stays : (call : Call) (ds es : Documents) (k : ErrorKind) (i : Option ℕ) → Answers call ds (refused k i) es → es ≡ ds
list_stays (insert f (unreadable x)) ds es k i h = h.1
list_stays (insert f (readable d)) ds es k i h = insert_stays d (refusal_of d) ds es k i h
list_stays (replace f (unreadable x)) ds es k i h = h.1
list_stays (replace f (readable d)) ds es k i h = replace_stays d (refusal_of d) (look_up id_key d) ds es k i h
list_stays (set id key None) ds es k i (inl h) = h.1.1
list_stays (set id key None) ds es k i (inr h) = h.1.1
list_stays (set id key (Some v)) ds es k i (inl h) = at_id_stays id ds es k i _ (λ front d back x. puts_back_stays ds front (put key (norm_in_order v) d) back es k i x) h.1
list_stays (set id key (Some v)) ds es k i (inr h) = h.1.1
list_stays (unset id key) ds es k i (inl h) = at_id_stays id ds es k i _ (λ front d back x. let e = x.0 in cc) h.1
list_stays (unset id key) ds es k i (inr h) = h.1.1
list_stays (remove id) ds es k i h = at_id_stays id ds es k i _ (λ front d back x. let e = x.0 in cc) h
list_stays (get_raw id) ds es k i h = at_id_stays id ds es k i _ (λ front d back x. x.1) h
list_stays (get_json m id) ds es k i h = at_id_stays id ds es k i _ (λ front d back x. x.1) h
list_stays (find f) ds es k i (out, picks, e, same) = same
list_stays (count f) ds es k i (out, picks, e, same) = same
list_stays (project f keys) ds es k i (out, picks, e, same) = same
list_stays (import more stop) ds es k i h = import_stays (first_refusal 0 more stop) ds more es k i h
list_stays export ds es k i h = h.1
list_stays dump ds es k i h = h.1

state_stays : (a : DocumentTable) (c : Command) (k : ErrorKind) (i : Option ℕ) (t : State) → Step (state_of a) c (refused k i) t → t ≡ state_of a
state_stays a (on n call) k i t (inl (good, (es, answers, is))) =
    is ∙ ap (store (state_of a) n) (list_stays call _ es k i answers) ∙ stored_again (state_of a) n (rows_not_empty a)
state_stays a (on n call) k i t (inr h) = h.1.1
state_stays a collections k i t h = h.1

turn_stays : (o : Option Denial) (a : DocumentTable) (c : Command) (k : ErrorKind) (i : Option ℕ) (t : State) → Turn o (state_of a) c (refused k i) t → t ≡ state_of a
turn_stays None a c k i t h = state_stays a c k i t h
turn_stays (Some x) a c k i t h = h.1

-- a refused command leaves every row
pub rows_stay : (a b : DocumentTable) (c : Command) (k : ErrorKind) (i : Option ℕ) → Serves a c (refused k i) b → b ≡ a
rows_stay a b c k i (o, (turn, follows, may)) = unmoved a b follows (turn_stays o a c k i (state_of b) turn)

-- a document that is got leaves every row, whatever is returned
got_stays : (id : Value) (ds es : Documents) (r : Reply) (P : Documents → Members → Documents → Type 0) → ((front : Documents) (d : Members) (back : Documents) → P front d back → es ≡ ds) → AtId id ds P (Refuses NotFound ds r es) → es ≡ ds
got_stays id ds es r P there (inl (front, d, back, stands, h)) = there front d back h
got_stays id ds es r P there (inr h) = h.1.1

pub got_same : (n : List ℕ) (m : Mode) (id : Value) (r : Reply) (a b : DocumentTable) → (IsRefusal r → ⊥) → Serves a (on n (get_json m id)) r b → b ≡ a
got_same n m id r a b accepted (None, (inl (good, (es, answers, is)), follows, may)) =
    unmoved a b follows (is ∙ ap (store (state_of a) n) (got_stays id _ es r _ (λ front d back x. x.1) answers) ∙ stored_again (state_of a) n (rows_not_empty a))
got_same n m id r a b accepted (None, (inr h, follows, may)) = unmoved a b follows h.1.1
got_same n m id r a b accepted (Some x, (turn, follows, may)) = unmoved a b follows turn.1

-- ---- commands of the program

-- a command that was refused leaves the table
pub refused_same : (Meant : Command → Type 0) (e : StoreError) (a b : DocumentTable) (c : Command) → Meant c → Serves a c (refused e.kind e.document) b → (b ≡ a) × IsRefusedBy Meant e a
refused_same Meant e a b c meant h = let same = rows_stay a b c e.kind e.document h in (same, (c, meant, subst (λ t. Serves a c (refused e.kind e.document) t) same h))

pub served_same : (docs : List TableRow) (a : DocumentTable) (c : Command) (k : ErrorKind) (i : Option ℕ) → (b : DocumentTable) × Represents docs b × Serves a c (refused k i) b → Serves a c (refused k i) a
served_same docs a c k i (b, shown, h) = subst (λ t. Serves a c (refused k i) t) (rows_stay a b c k i h) h

-- a call of the store, and what it returned
asked : {A : Type 0} (s t : Connected) (Meant : Command → Type 0) (Fault : StoreError → Type 0) (Unread : UsageError → Type 0) (c : Command) (f : A → Reply) (g : A → Answer) (outcome : Result A StoreError) → Meant c → ((x : A) → IsRefusal (f x) → ⊥) → ((x : A) → f x ≡ reply_of (g x))
    → Moves s t (Does c (reply_by f outcome)) → Moves s t (Performs Meant Fault Unread (answer_by g outcome))
asked s t Meant Fault Unread c f g (Ok x) meant accepts same m = moved s t (Does c (f x)) (Performs Meant Fault Unread (Ok (g x))) m (λ docs after h a shown. let y = h a shown in (y.0, y.1, (c, meant, f x, same x, accepts x, y.2)))
asked s t Meant Fault Unread c f g (Err e) meant accepts same m =
    moved s t (Does c (refused e.kind e.document)) (Performs Meant Fault Unread (Err (Refused e))) m (λ docs after h a shown. let y = h a shown in let stays = refused_same Meant e a y.0 c meant y.2 in (y.0, y.1, (stays.0, inl stays.1)))

pub performs : {A : Type 0} (s t : Connected) (Meant : Command → Type 0) (Fault : StoreError → Type 0) (Unread : UsageError → Type 0) (c : Command) (f : A → Reply) (g : A → Answer) (outcome : Result A StoreError) (result : Result Answer Failure) → Meant c
    → ((x : A) → IsRefusal (f x) → ⊥) → ((x : A) → f x ≡ reply_of (g x)) → result ≡ answer_by g outcome → Moves s t (Does c (reply_by f outcome)) → Moves s t (Performs Meant Fault Unread result)
performs s t Meant Fault Unread c f g outcome result meant accepts same is m = subst (λ p. Moves s t (Performs Meant Fault Unread p)) (sym is) (asked s t Meant Fault Unread c f g outcome meant accepts same m)

-- the same of a call with a tree
tree_asked : {A : Type 0} (s t : Connected) (Meant : Command → Type 0) (Fault : StoreError → Type 0) (Unread : UsageError → Type 0) (n : List ℕ) (call : Reading → Call) (j : Data) (f : A → Reply) (g : A → Answer) (outcome : Result A StoreError)
    → ((x : Reading) → ReadsTree j x → Meant (on n (call x))) → ((x : A) → IsRefusal (f x) → ⊥) → ((x : A) → f x ≡ reply_of (g x)) → Moves s t (DoesTree n call j (reply_by f outcome)) → Moves s t (Performs Meant Fault Unread (answer_by g outcome))
tree_asked s t Meant Fault Unread n call j f g (Ok x) meant accepts same m =
    moved s t (DoesTree n call j (f x)) (Performs Meant Fault Unread (Ok (g x))) m (λ docs after h a shown. let y = h.2 a shown in (y.0, y.1, (on n (call h.0), meant h.0 h.1, f x, same x, accepts x, y.2)))
tree_asked s t Meant Fault Unread n call j f g (Err e) meant accepts same m =
    moved s t (DoesTree n call j (refused e.kind e.document)) (Performs Meant Fault Unread (Err (Refused e))) m
    (λ docs after h a shown. let y = h.2 a shown in let stays = refused_same Meant e a y.0 (on n (call h.0)) (meant h.0 h.1) y.2 in (y.0, y.1, (stays.0, inl stays.1)))

pub tree_performs : {A : Type 0} (s t : Connected) (Meant : Command → Type 0) (Fault : StoreError → Type 0) (Unread : UsageError → Type 0) (n : List ℕ) (call : Reading → Call) (j : Data) (f : A → Reply) (g : A → Answer) (outcome : Result A StoreError) (result : Result Answer Failure)
    → ((x : Reading) → ReadsTree j x → Meant (on n (call x))) → ((x : A) → IsRefusal (f x) → ⊥) → ((x : A) → f x ≡ reply_of (g x)) → result ≡ answer_by g outcome → Moves s t (DoesTree n call j (reply_by f outcome)) → Moves s t (Performs Meant Fault Unread result)
tree_performs s t Meant Fault Unread n call j f g outcome result meant accepts same is m = subst (λ p. Moves s t (Performs Meant Fault Unread p)) (sym is) (tree_asked s t Meant Fault Unread n call j f g outcome meant accepts same m)

-- No command itself is refused by the kind of a device: only devices cause those.
use Rattle.std.proofs.Common.{◌≡◌, inl, inr, ℕ, suc, List, [], ◌∷◌, ◌++◌, Bool, true, false, cond, Option, Some, None, MatchOption, IsSomeAnd, Result, Ok, Err, refl, sym, ap, ◌∙◌, subst}
use Rattle.serde_json.specs.Data as json
use Rattle.serde_json.specs.Data.{Data, object}
use Rattle.bson_base.specs.Value.{Value, document, Members, has_key, look_up, put}
use Rattle.bson_model.specs.JsonRead.{read_members}
use Rattle.bson_model.specs.JsonWrite.{write}
use Rattle.bson_model.specs.declared.extjson.ser.Mode.{Mode}
use Rattle.bson_model.specs.declared.extjson.ser.Mode.TheVariants.{Canonical}
use Rattle.bson_meaning.specs.JsonReserved.{has_reserved}
use Rattle.bson_model.specs.declared.extjson.de.Error.{Error}
use Rattle.bson_meaning.specs.Meaning.{norm_in_order}
use Rattle.bson_meaning.specs.declared.gating.GateError.{GateError}
use Rattle.bson_meaning.specs.declared.gating.GateError.TheVariants as gate
use Rattle.store_model.specs.Reading.{Documents, Reading, readable, unreadable, kind_of_gate_error, IsReadingKind, IsStop, IsUncut, IsUnfit, IsUnkeepable, KeepsRead, Cuts, ReadsBytes, ReadsEach, ReadsStream, ReadsTree, ReadsTrees}
use Rattle.store_model.specs.Run.{Denial, Turn, kind_of_denial, memory, database, places}
use Rattle.store_model.specs.State.{State, id_key, Call, insert, replace, set, unset, remove, get_raw, get_json, find, count, project, import, export, dump, Command, on, collections, done, refused, or_finite, json_of, tree_reply, tree_first, trees_of, trees_reply, When, Refuses, refusal_of, or_later, first_refusal, Appends, AtId, IsTaken, PutsBack, Answers, Step}
use Rattle.store_model.specs.Table.{DocumentTable, state_of, Serves}
use Rattle.store_model.specs.declared.error.ErrorKind.{ErrorKind}
use Rattle.store_model.specs.declared.error.ErrorKind.TheVariants as kind

abbrev pub IsDevice : ErrorKind → Type 0
IsDevice kind.Reader = Unit {0}
IsDevice kind.Writer = Unit {0}
IsDevice _ = ⊥

-- what the command was read of has kinds of readings
abbrev pub IsReadCall : Call → Type 0
IsReadCall (insert f (unreadable k)) = IsReadingKind k
IsReadCall (replace f (unreadable k)) = IsReadingKind k
IsReadCall (import ds stop) = IsStop stop
IsReadCall _ = Unit {0}

abbrev pub IsReadCommand : Command → Type 0
IsReadCommand (on n call) = IsReadCall call
IsReadCommand collections = Unit {0}

-- ---- readings

gate_kind : (e : GateError) → IsReadingKind (kind_of_gate_error e)
gate_kind gate.EndInside = tt
gate_kind gate.BadLength = tt
gate_kind gate.NotTerminated = tt
gate_kind gate.Faulty = tt
gate_kind gate.TooDeep = tt

bytes_kind : (bytes : List ℕ) (k : ErrorKind) → ReadsBytes bytes (unreadable k) → IsReadingKind k
bytes_kind bytes k h = subst IsReadingKind (sym h.2) (gate_kind h.0)

unfit_kind : (e : Members) (k : ErrorKind) → IsUnfit e k → IsReadingKind k
unfit_kind e kind.TooDeep h = tt
unfit_kind e kind.Nul h = tt
unfit_kind e _ h = absurd h

told_so : (k x : ErrorKind) → ◌≡◌ {A = Reading} (unreadable k) (unreadable x) → IsReadingKind x → IsReadingKind k
told_so k x e h = let same : k ≡ x = cc in subst IsReadingKind (sym same) h

read_kind : (r : Result Members Error) (k : ErrorKind) → KeepsRead r (unreadable k) → IsReadingKind k
read_kind (Ok e) k h = unfit_kind e k h
read_kind (Err x) k h = told_so k kind.JsonRefused h tt

pub tree_kind : (j : Data) (k : ErrorKind) → ReadsTree j (unreadable k) → IsReadingKind k
tree_kind json.null k h = told_so k kind.NotAnObject h tt
tree_kind (json.boolean b) k h = told_so k kind.NotAnObject h tt
tree_kind (json.number n) k h = told_so k kind.NotAnObject h tt
tree_kind (json.string t) k h = told_so k kind.NotAnObject h tt
tree_kind (json.array js) k h = told_so k kind.NotAnObject h tt
tree_kind (object js) k h = read_kind (read_members js) k h

each_stop : {A : Type 0} (Reads : A → Reading → Type 0) → ((a : A) (k : ErrorKind) → Reads a (unreadable k) → IsReadingKind k) → (xs : List A) (behind : Option ErrorKind) (ds : Documents) (stop : Option ErrorKind) → IsStop behind
    → ReadsEach Reads xs behind ds stop → IsStop stop
each_stop Reads kinds [] behind [] stop b h = subst IsStop (sym h) b
each_stop Reads kinds [] behind (d ∷ ds) stop b h = absurd h
each_stop Reads kinds (a ∷ more) behind [] None b h = absurd h
each_stop Reads kinds (a ∷ more) behind [] (Some k) b h = kinds a k h
each_stop Reads kinds (a ∷ more) behind (d ∷ ds) stop b h = each_stop Reads kinds more behind ds stop b h.1

pub trees_stop : (js : List Data) (ds : Documents) (stop : Option ErrorKind) → ReadsTrees js ds stop → IsStop stop
trees_stop js ds stop h = each_stop ReadsTree tree_kind js None ds stop tt h

uncut_kind : (bytes : List ℕ) (k : ErrorKind) → IsUncut bytes k → IsReadingKind k
uncut_kind bytes kind.EndInside h = tt
uncut_kind bytes kind.BadLength h = tt
uncut_kind bytes _ h = absurd h

cut_stop : (bytes : List ℕ) (ps : List (List ℕ)) (c : Option ErrorKind) → Cuts bytes ps c → IsStop c
cut_stop bytes [] None h = tt
cut_stop bytes [] (Some k) h = uncut_kind bytes k h.1
cut_stop bytes (p ∷ ps) c h = cut_stop h.0 ps c h.3

pub stream_stop : (bytes : List ℕ) (ds : Documents) (stop : Option ErrorKind) → ReadsStream bytes ds stop → IsStop stop
stream_stop bytes ds stop (ps, behind, cuts, h) = each_stop ReadsBytes bytes_kind ps behind ds stop (cut_stop bytes ps behind cuts) h

-- ---- one call

reading_device : (k : ErrorKind) → IsReadingKind k → IsDevice k → ⊥
reading_device kind.Reader h d = h
reading_device kind.Writer h d = h
reading_device _ h d = d

told_as : (k x : ErrorKind) (i j : Option ℕ) → refused k i ≡ refused x j → (IsDevice x → ⊥) → IsDevice k → ⊥
told_as k x i j e no_device d = let same : k ≡ x = cc in no_device (subst IsDevice same d)

refusal_kind : (d : Members) (x : ErrorKind) → refusal_of d ≡ Some x → IsDevice x → ⊥
refusal_kind d x h = by (has_key id_key d) _ h
  where
    this : (y : ErrorKind) → (IsDevice y → ⊥) → ◌≡◌ {A = Option ErrorKind} (Some y) (Some x) → IsDevice x → ⊥
    this y none e d = let same : x ≡ y = cc in none (subst IsDevice same d)

    by : (b c : Bool) → cond b (cond c (Some kind.TooLong) None) (Some kind.NoId) ≡ Some x → IsDevice x → ⊥
    by true true e d = this kind.TooLong (λ z. z) e d
    by true false e d = cc
    by false c e d = this kind.NoId (λ z. z) e d

stop_device : (stop : Option ErrorKind) (k : ErrorKind) → IsStop stop → stop ≡ Some k → IsDevice k → ⊥
stop_device None k h e d = cc
stop_device (Some x) k h e d = let same : k ≡ x = cc in reading_device x h (subst IsDevice same d)

first_device : (i : ℕ) (ds : Documents) (stop : Option ErrorKind) (x : ErrorKind × ℕ) → IsStop stop → first_refusal i ds stop ≡ Some x → IsDevice x.0 → ⊥
first_device i [] None x h e d = cc
first_device i [] (Some k) x h e d = let same : (k, i) ≡ x = cc in stop_device (Some k) x.0 h (ap (λ p. Some p.0) same) d
first_device i (m ∷ ds) stop x h e d = by (refusal_of m) refl e (first_device (suc i) ds stop x h)
  where
    by : (o : Option ErrorKind) → refusal_of m ≡ o → or_later o i (first_refusal (suc i) ds stop) ≡ Some x → (first_refusal (suc i) ds stop ≡ Some x → IsDevice x.0 → ⊥) → ⊥
    by None r e rest = rest e d
    by (Some k) r e rest = let same : (k, i) ≡ x = cc in refusal_kind m x.0 (r ∙ ap (λ p. Some p.0) same) d

appends_device : (j : ℕ) (start ds more es : Documents) (k : ErrorKind) (i : Option ℕ) → Appends j start ds more (refused k i) es → IsDevice k → ⊥
appends_device j start ds [] es k i h d = let e = h.0 in cc
appends_device j start ds (m ∷ more) es k i (inl h) d = told_as k kind.DuplicateId i (Some j) h.1.0 (λ z. z) d
appends_device j start ds (m ∷ more) es k i (inr h) d = appends_device _ start (ds ++ m ∷ []) more es k i h.1 d

insert_device : (m : Members) (o : Option ErrorKind) (ds es : Documents) (k : ErrorKind) (i : Option ℕ) → refusal_of m ≡ o
    → MatchOption o (When (IsTaken m ds) (Refuses kind.DuplicateId ds (refused k i) es) ((refused k i ≡ done) × (es ≡ ds ++ m ∷ []))) (λ x. Refuses x ds (refused k i) es) → IsDevice k → ⊥
insert_device m None ds es k i r (inl h) d = told_as k kind.DuplicateId i None h.1.0 (λ z. z) d
insert_device m None ds es k i r (inr h) d = let e = h.1.0 in cc
insert_device m (Some x) ds es k i r h d = told_as k x i None h.0 (refusal_kind m x r) d

at_id_device : (id : Value) (ds es : Documents) (k : ErrorKind) (i : Option ℕ) (P : Documents → Members → Documents → Type 0)
    → ((front : Documents) (m : Members) (back : Documents) → P front m back → IsDevice k → ⊥) → AtId id ds P (Refuses kind.NotFound ds (refused k i) es) → IsDevice k → ⊥
at_id_device id ds es k i P there (inl (front, m, back, stands, h)) d = there front m back h d
at_id_device id ds es k i P there (inr h) d = told_as k kind.NotFound i None h.1.0 (λ z. z) d

replace_device : (m : Members) (o : Option ErrorKind) (own : Option Value) (ds es : Documents) (k : ErrorKind) (i : Option ℕ) → refusal_of m ≡ o
    → MatchOption o (IsSomeAnd own (λ id. AtId id ds (λ front old back. (refused k i ≡ done) × (es ≡ front ++ m ∷ back)) (Refuses kind.NotFound ds (refused k i) es))) (λ x. Refuses x ds (refused k i) es) → IsDevice k → ⊥
replace_device m None None ds es k i r h d = absurd h
replace_device m None (Some id) ds es k i r h d = at_id_device id ds es k i _ (λ front old back x z. let e = x.0 in cc) h d
replace_device m (Some x) own ds es k i r h d = told_as k x i None h.0 (refusal_kind m x r) d

unkeepable_device : (m : Members) (k : ErrorKind) → IsUnkeepable m k → IsDevice k → ⊥
unkeepable_device m kind.TooDeep h d = d
unkeepable_device m kind.Nul h d = d
unkeepable_device m kind.TooLong h d = d
unkeepable_device m _ h d = absurd h

puts_back_device : (ds front : Documents) (m : Members) (back es : Documents) (k : ErrorKind) (i : Option ℕ) → PutsBack ds front m back (refused k i) es → IsDevice k → ⊥
puts_back_device ds front m back es k i (inl h) d = let e = h.1 in cc
puts_back_device ds front m back es k i (inr h) d = told_as k h.0 i None h.2.0 (unkeepable_device m h.0 h.1) d

import_device : (o : Option (ErrorKind × ℕ)) (ds more es : Documents) (stop : Option ErrorKind) (k : ErrorKind) (i : Option ℕ) → IsStop stop → first_refusal 0 more stop ≡ o
    → MatchOption o (Appends 0 ds ds more (refused k i) es) (λ x. (refused k i ≡ refused x.0 (Some x.1)) × (es ≡ ds)) → IsDevice k → ⊥
import_device None ds more es stop k i fine r h d = appends_device 0 ds ds more es k i h d
import_device (Some x) ds more es stop k i fine r h d = told_as k x.0 i (Some x.1) h.0 (first_device 0 more stop x fine r) d

-- a document without a tree
tree_device : (r : Result Data ErrorKind) (k : ErrorKind) (i : Option ℕ) → ((x : ErrorKind) → r ≡ Err x → IsDevice x → ⊥) → refused k i ≡ tree_reply r → IsDevice k → ⊥
tree_device (Ok j) k i kinds e d = cc
tree_device (Err x) k i kinds e d = told_as k x i None e (kinds x refl) d

tree_kinds : (m : Mode) (t : Members) (x : ErrorKind) → json_of m t ≡ Err x → IsDevice x → ⊥
tree_kinds m t x e d = by (has_reserved t) (write m (document t)) e
  where
    this : (y : ErrorKind) → (IsDevice y → ⊥) → ◌≡◌ {A = Result Data ErrorKind} (Err y) (Err x) → ⊥
    this y none e = let same : x ≡ y = cc in none (subst IsDevice same d)

    by : (b : Bool) (o : Option Data) → cond b (Err kind.ReservedKey) (or_finite o) ≡ Err x → ⊥
    by true o e = this kind.ReservedKey (λ z. z) e
    by false None e = this kind.FiniteDouble (λ z. z) e
    by false (Some j) e = cc

-- so of the first such of many
trees_kinds : (n : ℕ) (ds : Documents) (x : ErrorKind × ℕ) → trees_of n ds ≡ Err x → IsDevice x.0 → ⊥
trees_kinds n [] x e d = cc
trees_kinds n (t ∷ ds) x e d = by (json_of Canonical t) (trees_of (suc n) ds) refl refl e (λ is. trees_kinds (suc n) ds x is d)
  where
    by : (r : Result Data ErrorKind) (rest : Result (List Data) (ErrorKind × ℕ)) → json_of Canonical t ≡ r → trees_of (suc n) ds ≡ rest → tree_first n r rest ≡ Err x → (trees_of (suc n) ds ≡ Err x → ⊥) → ⊥
    by (Ok j) (Ok js) is later e next = cc
    by (Ok j) (Err y) is later e next = let same : y ≡ x = cc in next (later ∙ ap Err same)
    by (Err k) rest is later e next = let same : (k, n) ≡ x = cc in tree_kinds Canonical t x.0 (is ∙ ap (λ p. Err p.0) same) d

trees_device : (n : ℕ) (ds : Documents) (r : Result (List Data) (ErrorKind × ℕ)) (k : ErrorKind) (i : Option ℕ) → trees_of n ds ≡ r → refused k i ≡ trees_reply r → IsDevice k → ⊥
trees_device n ds (Ok js) k i is e d = cc
trees_device n ds (Err x) k i is e d = told_as k x.0 i (Some x.1) e (trees_kinds n ds x is) d

list_device : (call : Call) (ds es : Documents) (k : ErrorKind) (i : Option ℕ) → IsReadCall call → Answers call ds (refused k i) es → IsDevice k → ⊥
list_device (insert f (unreadable x)) ds es k i fine h d = told_as k x i None h.0 (reading_device x fine) d
list_device (insert f (readable m)) ds es k i fine h d = insert_device m (refusal_of m) ds es k i refl h d
list_device (replace f (unreadable x)) ds es k i fine h d = told_as k x i None h.0 (reading_device x fine) d
list_device (replace f (readable m)) ds es k i fine h d = replace_device m (refusal_of m) (look_up id_key m) ds es k i refl h d
list_device (set id key None) ds es k i fine (inl h) d = told_as k kind.JsonRefused i None h.1.0 (λ z. z) d
list_device (set id key None) ds es k i fine (inr h) d = told_as k kind.BadKey i None h.1.0 (λ z. z) d
list_device (set id key (Some v)) ds es k i fine (inl h) d = at_id_device id ds es k i _ (λ front m back x z. puts_back_device ds front (put key (norm_in_order v) m) back es k i x z) h.1 d
list_device (set id key (Some v)) ds es k i fine (inr h) d = told_as k kind.BadKey i None h.1.0 (λ z. z) d
list_device (unset id key) ds es k i fine (inl h) d = at_id_device id ds es k i _ (λ front m back x z. let e = x.0 in cc) h.1 d
list_device (unset id key) ds es k i fine (inr h) d = told_as k kind.BadKey i None h.1.0 (λ z. z) d
list_device (remove id) ds es k i fine h d = at_id_device id ds es k i _ (λ front m back x z. let e = x.0 in cc) h d
list_device (get_raw id) ds es k i fine h d = at_id_device id ds es k i _ (λ front m back x z. let e = x.0 in cc) h d
list_device (get_json m id) ds es k i fine h d = at_id_device id ds es k i _ (λ front t back x z. tree_device (json_of m t) k i (tree_kinds m t) x.0 z) h d
list_device (find f) ds es k i fine (out, picks, e, same) d = cc
list_device (count f) ds es k i fine (out, picks, e, same) d = cc
list_device (project f keys) ds es k i fine (out, picks, e, same) d = cc
list_device (import more stop) ds es k i fine h d = import_device (first_refusal 0 more stop) ds more es stop k i fine refl h d
list_device export ds es k i fine h d = let e = h.0 in cc
list_device dump ds es k i fine h d = trees_device 0 ds (trees_of 0 ds) k i refl h.0 d

step_device : (s : State) (c : Command) (k : ErrorKind) (i : Option ℕ) (t : State) → IsReadCommand c → Step s c (refused k i) t → IsDevice k → ⊥
step_device s (on n call) k i t fine (inl (good, (es, answers, is))) d = list_device call _ es k i fine answers d
step_device s (on n call) k i t fine (inr h) d = told_as k kind.BadName i None h.1.0 (λ z. z) d
step_device s collections k i t fine h d = let e = h.0.2 in cc

denial_device : (x : Denial) (k : ErrorKind) (i : Option ℕ) → refused k i ≡ refused (kind_of_denial x) None → IsDevice k → ⊥
denial_device memory k i e d = told_as k kind.Memory i None e (λ z. z) d
denial_device database k i e d = told_as k kind.Database i None e (λ z. z) d
denial_device places k i e d = told_as k kind.Places i None e (λ z. z) d

turn_device : (o : Option Denial) (s : State) (c : Command) (k : ErrorKind) (i : Option ℕ) (t : State) → IsReadCommand c → Turn o s c (refused k i) t → IsDevice k → ⊥
turn_device None s c k i t fine h d = step_device s c k i t fine h d
turn_device (Some x) s c k i t fine h d = denial_device x k i h.0 d

-- a command that is refused isn't by a device
pub no_device : (a b : DocumentTable) (c : Command) (k : ErrorKind) (i : Option ℕ) → IsReadCommand c → Serves a c (refused k i) b → IsDevice k → ⊥
no_device a b c k i fine (o, (turn, follows, may)) = turn_device o (state_of a) c k i (state_of b) fine turn

-- What was exported or dumped comes back.
use Rattle.std.proofs.Common.{◌≡◌, ◌↔◌, inl, inr, ℕ, suc, ◌+◌, ◌^◌, ◌<◌, ◌≤◌, List, [], ◌∷◌, ◌++◌, length, map, Bool, true, false, cond, Option, Some, None, Result, Ok, Err, refl, ap, ◌∙◌, sym, subst, arith, append_assoc, append-nil, length-append}
use Rattle.std.specs.Prelude.{bytes_eq, nat_lt, option_map, IsUtf8, MatchOption}
use Rattle.std.specs.List.{flat_map}
use Rattle.std.proofs.lemmas.Bool.{ltb-true}
use Rattle.std.proofs.lemmas.List.{length-map}
use Rattle.serde_json.specs.Data as json
use Rattle.serde_json.specs.Data.{Data, object}
use Rattle.bson_base.specs.Kinds.{IsPlain, IsSound}
use Rattle.bson_base.specs.Value.{Value, scalar, array, document, scoped_code, Items, no_items, item, Members, no_members, member, look_up, levels}
use Rattle.bson_bytes.specs.Encode.{members_bytes, encode, size}
use Rattle.bson_bytes.specs.Spells.{SpellsMembers, Means}
use Rattle.bson_frame.specs.Frame.{number as declared, size_limit}
use Rattle.bson_model.specs.JsonWrite.{write, write_members}
use Rattle.bson_model.specs.declared.extjson.ser.Mode.{Mode}
use Rattle.bson_model.specs.declared.extjson.ser.Mode.TheVariants.{Canonical}
use Rattle.bson_meaning.specs.Gate.{level_limit, IsCounted, Passes}
use Rattle.bson_meaning.specs.JsonReserved.{has_reserved}
use Rattle.bson_meaning.specs.Meaning.{norm_members_in_order, norm_items_in_order, norm_in_order, asc, asc_items, asc_members, norm, norm_members, place, Same}
use Rattle.store_model.specs.Reading.{Documents, Reading, readable, unreadable, ReadsBytes, IsUnfit, KeepsRead, ReadsTree, ReadsEach, IsUncut, Cuts, ReadsStream, ReadsTrees, IsRead, AreRead}
use Rattle.store_model.specs.Same.{SameDocuments}
use Rattle.store_model.specs.State.{id_key, State, list_of, SomeHasId, IsTaken, import, export, dump, on, Reply, number, bytes, json_list, refused, or_finite, json_of, tree_first, trees_of, trees_reply, refusal_of, or_later, first_refusal, Appends, Answers, IsName, Step, IsKept, AreKept, HaveOwnIds, IsStore}
use Rattle.store_model.specs.declared.error.ErrorKind.{ErrorKind}
use Rattle.store_model.specs.declared.error.ErrorKind.TheVariants.{BadName, EndInside, BadLength, TooDeep, Nul, NoId, TooLong, ReservedKey}
use Rattle.bson_bytes.proofs.ExtentLemmas.{framed_size, framed_envelope}
use Rattle.bson_bytes.proofs.LengthLemmas.{members_length, encode_length}
use Rattle.bson_bytes.proofs.OneTreeLemmas.{one_meaning}
use Rattle.bson_bytes.proofs.SettledLemmas.{comes_back}
use Rattle.bson_bytes.proofs.SpellingLemmas.{framed_inside, spelled_members}
use Rattle.bson_frame.proofs.FrameLemmas.{front_is_one}
use Rattle.bson_meaning.proofs.NowLemmas.{look_up-in_order, same_in_order, key_size, norm_twice}
use Rattle.bson_meaning.proofs.PayloadLemmas.{one_answer as one_of_the_gate}
use Rattle.bson_meaning.proofs.JsonReadLemmas.{mapped, AllCome, canonical_comes, chosen}
use Rattle.bson_meaning.proofs.JsonSoundLemmas.{kept_sound, kept_clean}
use Rattle.bson_meaning.proofs.OrderLemmas.{ascending_asc, same_members, look_up-place, ascending_place}
use Rattle.store_model.proofs.DocumentLemmas.{taken_same}
use Rattle.store_model.proofs.FunctionLemmas.{one_answer}
use Rattle.store_model.proofs.KeptLemmas.{reads, taken_if, taken_split, taken_back, none_taken}
use Rattle.store_model.proofs.LevelLemmas.{in_order_levels, clean_plain}
use Rattle.store_model.proofs.StateLemmas.{list_of-store}
use Rattle.bson_base.proofs.MemberLemmas.{same_key}
use Rattle.bson_frame.proofs.PayloadLemmas.{number_front}

-- ---- the normal form of a kept document is kept

in_order_place : (k : List ℕ) (u : Value) (ms : Members) → norm_members_in_order (place k u ms) ≡ place k (norm_in_order u) (norm_members_in_order ms)
in_order_place k u ms = same_members _ _ (ascending_asc (norm_members (place k u ms))) (ascending_place k (norm_in_order u) (norm_members_in_order ms) (ascending_asc (norm_members ms)))
    (λ q. look_up-in_order q (place k u ms) ∙ ap (option_map norm_in_order) (look_up-place q k u ms) ∙ chosen norm_in_order (bytes_eq q k) u (look_up q ms)
    ∙ sym (look_up-place q k (norm_in_order u) (norm_members_in_order ms) ∙ ap (cond (bytes_eq q k) (Some (norm_in_order u))) (look_up-in_order q ms)))

mutual
  in_order_asc : (v : Value) → norm_in_order (asc v) ≡ norm_in_order v
  in_order_asc (scalar s) = refl
  in_order_asc (array vs) = ap array (in_order_asc_items vs)
  in_order_asc (document ms) = ap document (in_order_asc_members ms)
  in_order_asc (scoped_code t ms) = ap (scoped_code t) (in_order_asc_members ms)

  in_order_asc_items : (vs : Items) → norm_items_in_order (asc_items vs) ≡ norm_items_in_order vs
  in_order_asc_items no_items = refl
  in_order_asc_items (item v vs) = let p : norm_in_order (asc v) ≡ norm_in_order v = in_order_asc v in let q : norm_items_in_order (asc_items vs) ≡ norm_items_in_order vs = in_order_asc_items vs in cc

  in_order_asc_members : (ms : Members) → norm_members_in_order (asc_members ms) ≡ norm_members_in_order ms
  in_order_asc_members no_members = refl
  in_order_asc_members (member k v ms) = in_order_place k (asc v) (asc_members ms) ∙ ap (λ u. place k u (norm_members_in_order (asc_members ms))) (in_order_asc v) ∙ ap (place k (norm_in_order v)) (in_order_asc_members ms)

pub in_order_same_form : (d : Members) → IsSound (document d) → Same (document d) (document (norm_members_in_order d))
in_order_same_form d s = same_in_order (document d) (document (norm_members_in_order d)) s.distinct
    (sym (in_order_asc (norm (document d)) ∙ ap asc (norm_twice IsUtf8 (document d) s.ranged)))

pub in_order_read : (d : Members) → IsPlain (document d) → IsSound (document d) → levels (document d) ≤ level_limit → IsRead (norm_members_in_order d)
in_order_read d p s l = record {
  clean = kept_clean d p s;
  sound = kept_sound d s;
  shallow = subst (λ n. n ≤ level_limit) (sym (in_order_levels (document d) s.distinct)) l;
}

read_again : (d : Members) → IsRead d → IsRead (norm_members_in_order d)
read_again d r = in_order_read d (clean_plain d r.clean) r.sound r.shallow

in_order_kept : (d : Members) → IsKept d → IsKept (norm_members_in_order d)
in_order_kept d k = record {
  read = read_again d k.read;
  identified = sym ((in_order_same_form d k.read.sound).0 id_key) ∙ k.identified;
  small = subst (λ n. n ≤ size_limit) (sym (key_size d k.read.clean k.read.sound)) k.small;
}

all_in_order : (ds : Documents) → AreKept ds → AreKept (map norm_members_in_order ds)
all_in_order [] h = tt
all_in_order (d ∷ ds) h = (in_order_kept d h.0, all_in_order ds h.1)

same_in_orders : (ds : Documents) → AreKept ds → SameDocuments ds (map norm_members_in_order ds)
same_in_orders [] h = tt
same_in_orders (d ∷ ds) h = (in_order_same_form d h.0.read.sound, same_in_orders ds h.1)

own_in_order : (ds : Documents) → AreKept ds → HaveOwnIds ds → HaveOwnIds (map norm_members_in_order ds)
own_in_order [] h o = tt
own_in_order (d ∷ ds) h o = (
  λ t. o.0 ((taken_same d (norm_members_in_order d) ds (map norm_members_in_order ds) (in_order_same_form d h.0.read.sound) h.0.read (read_again d h.0.read)
      (same_in_orders ds h.1) (reads ds h.1) (reads (map norm_members_in_order ds) (all_in_order ds h.1))).1 t),
  own_in_order ds h.1 o.1,
)

-- ---- documents with ids of their own go into an empty list

pub not_refused : (d : Members) → IsKept d → refusal_of d ≡ None
not_refused d k = ap (λ b. cond b (cond (nat_lt size_limit (size d)) (Some TooLong) None) (Some NoId)) k.identified ∙ by (nat_lt size_limit (size d)) refl
  where
    by : (b : Bool) → nat_lt size_limit (size d) ≡ b → cond b (Some TooLong) None ≡ None
    by true e = absurd (omega (arith, ltb-true size_limit (size d) e, k.small))
    by false e = refl

none_refused : (i : ℕ) (ds : Documents) → AreKept ds → first_refusal i ds None ≡ None
none_refused i [] h = refl
none_refused i (d ∷ ds) h = ap (λ o. or_later o i (first_refusal (suc i) ds None)) (not_refused d h.0) ∙ none_refused (suc i) ds h.1

some_here : (id : Value) (ds : Documents) (d : Members) (more : Documents) → SomeHasId id (d ∷ []) → SomeHasId id (ds ++ d ∷ more)
some_here id [] d more (inl h) = inl h
some_here id [] d more (inr h) = absurd h
some_here id (e ∷ ds) d more h = inr (some_here id ds d more h)

free_behind : (ds : Documents) (d : Members) (more : Documents) → IsRead d → HaveOwnIds (ds ++ d ∷ more) → IsTaken d ds → ⊥
free_behind [] d more r h t = none_taken d t
free_behind (e ∷ ds) d more r h t = elim (taken_split d (e ∷ []) ds t) [
  | inl x ↦ h.0 (taken_if e (d ∷ []) (ds ++ d ∷ more) (λ id. some_here id ds d more) (taken_back d e r x))
  | inr x ↦ free_behind ds d more r h.1 x
]

all_go_in : (i n : ℕ) (start ds more es : Documents) → n ≡ i + length more → es ≡ ds ++ more → AreRead more → HaveOwnIds (ds ++ more) → Appends i start ds more (number n) es
all_go_in i n start ds [] es p q r o = (ap number (let z : n ≡ i = omega (arith, p) in z), q ∙ append-nil ds)
all_go_in i n start ds (d ∷ more) es p q r o =
    inr (free_behind ds d more r.0 o, all_go_in (suc i) n start (ds ++ d ∷ []) more es (omega (arith, p)) (q ∙ sym (append_assoc ds (d ∷ []) more)) r.1 (subst HaveOwnIds (sym (append_assoc ds (d ∷ []) more)) o))

pub goes_in : (ds : Documents) → AreKept ds → HaveOwnIds ds → Answers (import ds None) [] (number (length ds)) ds
goes_in ds k o = subst (λ z. MatchOption z (Appends 0 [] [] ds (number (length ds)) ds) (λ x. (number (length ds) ≡ refused x.0 (Some x.1)) × (ds ≡ []))) (sym (none_refused 0 ds k))
    (all_go_in 0 (length ds) [] [] ds ds (omega arith) refl (reads ds k) o)

-- ---- many readings

-- the inputs read bs the documents, and bs nothing else
abbrev Each : {A : Type 0} → (A → Reading → Type 0) → List A → Documents → Type 0
Each M [] [] = Unit {0}
Each M (a ∷ bs) (d ∷ ds) = ((b : Reading) → M a b ↔ (b ≡ readable d)) × Each M bs ds
Each M _ _ = ⊥

each_reads : {A : Type 0} (M : A → Reading → Type 0) (bs : List A) (ds : Documents) → Each M bs ds → ReadsEach M bs None ds None
each_reads M [] [] h = refl
each_reads M (a ∷ bs) (d ∷ ds) h = ((h.0 (readable d)).1 refl, each_reads M bs ds h.1)
each_reads M [] (d ∷ ds) h = absurd h
each_reads M (a ∷ bs) [] h = absurd h

each_one : {A : Type 0} (M : A → Reading → Type 0) (bs : List A) (ds more : Documents) (stop : Option ErrorKind) → Each M bs ds → ReadsEach M bs None more stop → (more ≡ ds) × (stop ≡ None)
each_one M [] [] [] stop h r = (refl, r)
each_one M [] [] (e ∷ more) stop h r = absurd r
each_one M (a ∷ bs) (d ∷ ds) [] None h r = absurd r
each_one M (a ∷ bs) (d ∷ ds) [] (Some k) h r = let e : unreadable k ≡ readable d = (h.0 (unreadable k)).0 r in cc
each_one M (a ∷ bs) (d ∷ ds) (e ∷ more) stop h r =
    let i : readable e ≡ readable d = (h.0 (readable e)).0 r.0 in
    let j : e ≡ d = cc in
    let t = each_one M bs ds more stop h.1 r.1 in
    (ap (λ z. z ∷ more) j ∙ ap (λ z. d ∷ z) t.0, t.1)
each_one M [] (d ∷ ds) more stop h r = absurd h
each_one M (a ∷ bs) [] more stop h r = absurd h

-- ---- bytes

encode_size : (d : Members) → IsKept d → length (members_bytes d) + 5 < 2 ^ 31
encode_size d k = omega (arith, members_length d, k.small)

-- what is written declares its own length, whatever follows
encode_declares : (d : Members) → IsKept d → (more : List ℕ) → length (encode d) ≡ declared (encode d ++ more)
encode_declares d k more = (framed_size (members_bytes d) more (encode_size d k)).declared

encode_counted : (d : Members) → IsKept d → IsCounted (encode d)
encode_counted d k =
    let e : length (encode d) ≡ declared (encode d) = (framed_envelope (members_bytes d) (encode_size d k)).declared in
    (omega (arith, e, encode_length d), omega (arith, e, encode_length d, k.small), e)

pub written_passes : (d : Members) → IsKept d → Passes (encode d)
written_passes d k = (
  encode_counted d k,
  framed_envelope (members_bytes d) (encode_size d k),
  (d, subst (λ (x : List ℕ). SpellsMembers x d) (sym (framed_inside (members_bytes d))) (spelled_members d k.read.clean k.read.sound.ranged (omega (arith, k.small))), k.read.shallow),
)

-- the written form of a kept document reads as that document, and as nothing else
pub written_reads : (d : Members) → IsKept d → (a : Reading) → ReadsBytes (encode d) a ↔ (a ≡ readable d)
written_reads d k a = (to a, λ h. subst (ReadsBytes (encode d)) (sym h) (written_passes d k, back))
  where
    back : Means (encode d) d
    back = comes_back d k.read.clean k.read.sound (omega (arith, k.small))

    to : (a : Reading) → ReadsBytes (encode d) a → a ≡ readable d
    to (readable e) h = ap readable (one_meaning (encode d) e d h.1 back)
    to (unreadable kind) h = absurd (one_of_the_gate (encode d) h.0 (written_passes d k) h.1)

cuts_written : (ds : Documents) → AreKept ds → Cuts (flat_map encode ds) (map encode ds) None
cuts_written [] h = refl
cuts_written (d ∷ ds) h = (flat_map encode ds, refl, encode_counted d h.0, cuts_written ds h.1)

uncut : (d : Members) (more : List ℕ) (k : ErrorKind) → IsKept d → IsUncut (encode d ++ more) k → ⊥
uncut d more EndInside k (inl few) = omega (arith, few, length-append (encode d) more, encode_length d)
uncut d more EndInside k (inr h) = omega (arith, h.2, length-append (encode d) more, encode_declares d k more)
uncut d more BadLength k (four, inl low) = omega (arith, low, encode_declares d k more, encode_length d)
uncut d more BadLength k (four, inr high) = omega (arith, high, encode_declares d k more, encode_length d, k.small)
uncut d more _ k h = absurd h

cuts_one : (ds : Documents) → AreKept ds → (ps : List (List ℕ)) (c : Option ErrorKind) → Cuts (flat_map encode ds) ps c → (ps ≡ map encode ds) × (c ≡ None)
cuts_one [] h [] None s = (refl, refl)
cuts_one [] h [] (Some k) s = absurd (omega (arith, s.0))
cuts_one [] h (p ∷ ps) c s = absurd (omega (arith, ap length s.1, length-append p s.0, s.2.0, s.2.2))
cuts_one (d ∷ ds) h [] None s = absurd (omega (arith, ap length s, length-append (encode d) (flat_map encode ds), encode_length d))
cuts_one (d ∷ ds) h [] (Some k) s = absurd (uncut d (flat_map encode ds) k h.0 s.1)
cuts_one (d ∷ ds) h (p ∷ ps) c (rest, e, n, s) =
    let more = flat_map encode ds in
    let l : length p ≡ length (encode d) = n.2 ∙ sym (number_front p rest (omega (arith, n.0, n.2))) ∙ ap declared (sym e) ∙ sym (encode_declares d h.0 more) in
    let f = front_is_one p (encode d) rest more l (sym e) in
    let i : p ≡ encode d = f.0 in
    let t = cuts_one ds h.1 ps c (subst (λ z. Cuts z ps c) f.1 s) in
    let j : ps ≡ map encode ds = t.0 in
    (cc, t.1)

each_written : (ds : Documents) → AreKept ds → Each ReadsBytes (map encode ds) ds
each_written [] h = tt
each_written (d ∷ ds) h = (written_reads d h.0, each_written ds h.1)

pub stream_back : (ds more : Documents) (stop : Option ErrorKind) → AreKept ds → ReadsStream (flat_map encode ds) more stop ↔ ((more ≡ ds) × (stop ≡ None))
stream_back ds more stop k = (
  λ (ps, c, s, r). let t = cuts_one ds k ps c s in each_one ReadsBytes (map encode ds) ds more stop (each_written ds k) (subst (λ z. ReadsEach ReadsBytes z None more stop) t.0 (subst (λ z. ReadsEach ReadsBytes ps z more stop) t.1 r)),
  λ e. subst (λ z. ReadsStream (flat_map encode ds) z stop) (sym e.0) (subst (ReadsStream (flat_map encode ds) ds) (sym e.1) (map encode ds, None, cuts_written ds k, each_reads ReadsBytes (map encode ds) ds (each_written ds k))),
)

-- ---- trees

record IsTree (m : Mode) (d : Members) (j : Data) : Type 0 where
  free : has_reserved d ≡ false
  there : write m (document d) ≡ Some j

tree_is : (m : Mode) (d : Members) (j : Data) → json_of m d ≡ Ok j → IsTree m d j
tree_is m d j = by (has_reserved d) (write m (document d)) refl refl
  where
    by : (b : Bool) (o : Option Data) → has_reserved d ≡ b → write m (document d) ≡ o → cond b (Err ReservedKey) (or_finite o) ≡ Ok j → IsTree m d j
    by true o e f h = cc
    by false None e f h = cc
    by false (Some i) e f h = let k : i ≡ j = cc in record { free = e; there = f ∙ ap Some k }

pub fit : (e : Members) (k : ErrorKind) → levels (document e) ≤ level_limit → IsPlain (document e) → IsUnfit e k → ⊥
fit e TooDeep low plain h = omega (arith, h, low)
fit e Nul low plain h = h.1 plain
fit e _ low plain h = h

object_reading : (d : Members) (js : json.Members) → IsKept d → AllCome js d → (a : Reading) → ReadsTree (object js) a ↔ (a ≡ readable (norm_members_in_order d))
object_reading d js k c a = (λ h. to a (subst (λ r. KeepsRead r a) c.reads h), λ h. subst (ReadsTree (object js)) (sym h) (subst (λ r. KeepsRead r (readable (norm_members_in_order d))) (sym c.reads) (low, plain, sym c.same)))
  where
    low : levels (document c.values) ≤ level_limit
    low = omega (arith, c.deep, k.read.shallow)

    plain : IsPlain (document c.values)
    plain = c.plain (clean_plain d k.read.clean)

    to : (a : Reading) → KeepsRead (Ok c.values) a → a ≡ readable (norm_members_in_order d)
    to (readable e) h = ap readable (h.2 ∙ c.same)
    to (unreadable kind) h = absurd (fit c.values kind low plain h)

-- the canonical tree of a kept document reads as its normal form in order, and as nothing else
pub tree_reading : (d : Members) (j : Data) → IsKept d → json_of Canonical d ≡ Ok j → (a : Reading) → ReadsTree j a ↔ (a ≡ readable (norm_members_in_order d))
tree_reading d j k e a =
    let t = tree_is Canonical d j e in
    let m = mapped (write_members Canonical d json.no_members) object j t.there in
    subst (λ z. ReadsTree z a ↔ (a ≡ readable (norm_members_in_order d))) m.to (object_reading d m.from k (canonical_comes d k.read.sound t.free m.from m.here) a)

-- the first tree and the others
record Begins (i : ℕ) (d : Members) (ds : Documents) (js : List Data) : Type 0 where
  first : Data
  rest : List Data
  is : js ≡ first ∷ rest
  tree : json_of Canonical d ≡ Ok first
  trees : trees_of (suc i) ds ≡ Ok rest

begins : (i : ℕ) (d : Members) (ds : Documents) (js : List Data) → trees_of i (d ∷ ds) ≡ Ok js → Begins i d ds js
begins i d ds js = by (json_of Canonical d) (trees_of (suc i) ds) refl refl
  where
    by : (t : Result Data ErrorKind) (ts : Result (List Data) (ErrorKind × ℕ)) → json_of Canonical d ≡ t → trees_of (suc i) ds ≡ ts → tree_first i t ts ≡ Ok js → Begins i d ds js
    by (Ok j) (Ok rest) e f h = let q : js ≡ j ∷ rest = cc in record { first = j; rest = rest; is = q; tree = e; trees = f }
    by (Ok j) (Err x) e f h = cc
    by (Err k) ts e f h = cc

each_tree : (i : ℕ) (ds : Documents) (js : List Data) → AreKept ds → trees_of i ds ≡ Ok js → Each ReadsTree js (map norm_members_in_order ds)
each_tree i [] js k e = let q : [] ≡ js = cc in subst (λ z. Each ReadsTree z []) q tt
each_tree i (d ∷ ds) js k e =
    let b = begins i d ds js e in
    subst (λ z. Each ReadsTree z (map norm_members_in_order (d ∷ ds))) (sym b.is) (tree_reading d b.first k.0 b.tree, each_tree (suc i) ds b.rest k.1 b.trees)

pub dump_back : (ds : Documents) (js : List Data) (more : Documents) (stop : Option ErrorKind) → AreKept ds → trees_of 0 ds ≡ Ok js
    → ReadsTrees js more stop ↔ ((more ≡ map norm_members_in_order ds) × (stop ≡ None))
dump_back ds js more stop k e =
    let h = each_tree 0 ds js k e in (
      each_one ReadsTree js (map norm_members_in_order ds) more stop h,
      λ q. subst (λ z. ReadsTrees js z stop) (sym q.0) (subst (ReadsTrees js (map norm_members_in_order ds)) (sym q.1) (each_reads ReadsTree js (map norm_members_in_order ds) h)),
    )

-- ---- in states

-- the reply to an import of the documents into an empty list, and what it leaves
taken_in : (ds more : Documents) (stop : Option ErrorKind) (t u : State) (m : List ℕ) (q : Reply) → AreKept ds → HaveOwnIds ds → more ≡ ds → stop ≡ None
    → IsName m → list_of t m ≡ [] → Step t (on m (import more stop)) q u → (q ≡ number (length ds)) × (list_of u m ≡ ds)
taken_in ds more stop t u m q k o a b name empty (inl (_, (es, h, e))) =
    let h' = subst (λ z. Answers (import ds z) [] q es) b (subst (λ z. Answers (import z stop) [] q es) a (subst (λ z. Answers (import more stop) z q es) empty h)) in
    let one = one_answer (import ds None) [] h' (goes_in ds k o) in
    (one.reply, ap (λ z. list_of z m) e ∙ list_of-store t m m es ∙ ap (λ c. cond c es (list_of t m)) (same_key m) ∙ one.left)
taken_in ds more stop t u m q k o a b name empty (inr (n, h)) = absurd (n name)

pub export_restored : (s s2 t u : State) (n m bs : List ℕ) (more : Documents) (stop : Option ErrorKind) (q : Reply) → IsStore s
    → Step s (on n export) (bytes bs) s2 → ReadsStream bs more stop → IsName m → list_of t m ≡ [] → Step t (on m (import more stop)) q u
    → (q ≡ number (length (list_of s n))) × (list_of u m ≡ list_of s n)
export_restored s s2 t u n m bs more stop q h (inl (_, (es, a, e))) r name empty p =
    let i : bs ≡ flat_map encode (list_of s n) = let z : bytes bs ≡ bytes (flat_map encode (list_of s n)) = a.0 in cc in
    let back = (stream_back (list_of s n) more stop (h.kept n)).0 (subst (λ z. ReadsStream z more stop) i r) in
    taken_in (list_of s n) more stop t u m q (h.kept n) (h.own_ids n) back.0 back.1 name empty p
export_restored s s2 t u n m bs more stop q h (inr (_, a)) r name empty p = let z : bytes bs ≡ refused BadName None = a.0 in cc

dumped_all : (ts : Result (List Data) (ErrorKind × ℕ)) (js : List Data) → json_list js ≡ trees_reply ts → ts ≡ Ok js
dumped_all (Ok is) js e = let z : js ≡ is = cc in ap Ok (sym z)
dumped_all (Err x) js e = cc

pub dump_restored : (s s2 t u : State) (n m : List ℕ) (js : List Data) (more : Documents) (stop : Option ErrorKind) (q : Reply) → IsStore s
    → Step s (on n dump) (json_list js) s2 → ReadsTrees js more stop → IsName m → list_of t m ≡ [] → Step t (on m (import more stop)) q u
    → (q ≡ number (length (list_of s n))) × (list_of u m ≡ map norm_members_in_order (list_of s n))
dump_restored s s2 t u n m js more stop q h (inl (_, (es, a, e))) r name empty p =
    let ds = list_of s n in
    let all = dumped_all (trees_of 0 ds) js a.0 in
    let is = (dump_back ds js more stop (h.kept n) all).0 r in
    let l = taken_in (map norm_members_in_order ds) more stop t u m q (all_in_order ds (h.kept n)) (own_in_order ds (h.kept n) (h.own_ids n)) is.0 is.1 name empty p in
    (l.0 ∙ ap number (length-map ds norm_members_in_order), l.1)
dump_restored s s2 t u n m js more stop q h (inr (_, a)) r name empty p = let z : json_list js ≡ refused BadName None = a.0 in cc

-- What an export writes.
use Rattle.std.proofs.Common.{◌≡◌, ◌≢◌, ◌⊎◌, inl, inr, ℕ, ◌+◌, ◌<◌, ◌≤◌, min, List, [], ◌∷◌, ◌++◌, map, filter, length, take, take_all, cond, Bool, true, false, Option, Some, None, Result, Ok, Err, refl, sym, ap, ◌∙◌, subst, arith, append_assoc}
use Rattle.std.proofs.lemmas.List.{take-append-le, append-nil}
use Rattle.std.proofs.Math.Seq.{take-append-add}
use Rattle.std.proofs.Math.Dec.{leb}
use Rattle.std.proofs.lemmas.Bool.Decides.{leb_tells}
use Rattle.std.specs.Str.{bytes_eq}
use Rattle.std.specs.List.{flat_map}
use Rattle.std.specs.Io.KnownBytes.{Appends}
use Rattle.bson_base.specs.Device.{TakesBeginning, Tally}
use Rattle.bson_bytes.specs.Encode.{encode}
use Rattle.store_table.specs.Rows.{TableRow, is_in}
use Rattle.store_table.specs.Moves.{bodies_of, Visits}
use Rattle.store_table.specs.declared.fault.Fault.{Fault}
use Rattle.store_table.specs.declared.fault.Fault.TheVariants as faults
use Rattle.store_model.specs.Reading.{Documents}
use Rattle.store_model.specs.State.{list_of, IsName, on, export, bytes, refused}
use Rattle.store_model.specs.Table.{DocumentTable, state_of, documents_of}
use Rattle.store_model.specs.declared.error.ErrorKind.{ErrorKind}
use Rattle.store_model.specs.declared.error.ErrorKind.TheVariants as kind
use Rattle.store_model.proofs.RowLemmas.{list_of-state_of}
use Rattle.bson_store.specs.Shown.{AreRowsOf, Represents}
use Rattle.bson_store.specs.Calls.{Does}
use Rattle.bson_store.specs.Refusals.{kind_of_fault}
use Rattle.store_model.specs.Refusal.{refusal}
use Rattle.bson_store.specs.Export.{ExportRefused, Exports, SendsCollection, Sent}
use Rattle.store_model.specs.declared.error.StoreError.{StoreError}
use Rattle.bson_store.proofs.ServeLemmas.{bad_name, answers_stay, denied, undecided, memory_other}
use Rattle.bson_base.proofs.MemberLemmas.{equal_keys, same_key}
use Rattle.bson_base.proofs.BeginningLemmas.{begun_first}
use Rattle.std.proofs.KnownBytes.{Appends-trans}

-- ---- bodies that are written one after the other

take_within : (ys : List ℕ) (n : ℕ) → take (min n (length ys)) ys ≡ take n ys
take_within ys n = by (leb_tells n (length ys))
  where
    by : ((leb n (length ys) ≡ true) × (n ≤ length ys)) ⊎ ((leb n (length ys) ≡ false) × (length ys < n)) → take (min n (length ys)) ys ≡ take n ys
    by (inl h) = ap (λ (m : ℕ). take m ys) (omega (arith, h.1))
    by (inr h) = take_all (min n (length ys)) ys (omega (arith, h.1)) ∙ sym (take_all n ys (omega (arith, h.1)))

begun_within : (xs ys zs : List ℕ) (n : ℕ) → take (length xs + min n (length ys)) (xs ++ (ys ++ zs)) ≡ xs ++ take n ys
begun_within xs ys zs n = take-append-add xs (ys ++ zs) (min n (length ys)) ∙ ap (λ l. xs ++ l) (take-append-le (min n (length ys)) ys zs (omega arith) ∙ take_within ys n)

-- the bytes of bodies, one after the other
abbrev flat : List (List ℕ) → List ℕ
flat = flat_map (λ (b : List ℕ). b)

flat-last : (bodies : List (List ℕ)) (b : List ℕ) → flat (bodies ++ b ∷ []) ≡ flat bodies ++ b
flat-last [] b = append-nil b
flat-last (x ∷ bodies) b = ap (λ l. x ++ l) (flat-last bodies b) ∙ sym (append_assoc x (flat bodies) b)

flat-append : (xs ys : List (List ℕ)) → flat (xs ++ ys) ≡ flat xs ++ flat ys
flat-append [] ys = refl
flat-append (x ∷ xs) ys = ap (λ l. x ++ l) (flat-append xs ys) ∙ sym (append_assoc x (flat xs) (flat ys))

whole_begins : (a b : Option (List ℕ)) (xs ys : List ℕ) → Appends a b xs → TakesBeginning a b (xs ++ ys)
whole_begins a b xs ys all = begun_first a b xs ys (length xs, subst (Appends a b) (sym (take_all (length xs) xs (omega arith))) all)

-- after a write that failed nothing more is written
pub sent_no_more : (old new : Tally) (bodies : List (List ℕ)) (b : List ℕ) → Sent old new true bodies → Sent old new true (bodies ++ b ∷ [])
sent_no_more old new bodies b (one, begun) = (one, subst (TakesBeginning old.taken new.taken) (sym (flat-last bodies b)) (begun_first old.taken new.taken (flat bodies) b begun))

-- a write that fails writes a prefix of its body
pub sent_some : (old mid new : Tally) (bodies : List (List ℕ)) (b : List ℕ) → Sent old mid false bodies → new.failures ≡ mid.failures + 1 → TakesBeginning mid.taken new.taken b → Sent old new true (bodies ++ b ∷ [])
sent_some old mid new bodies b (none, before) one (n, begun) =
    let front = flat bodies in
    let e : take (length front + min n (length b)) (flat (bodies ++ b ∷ [])) ≡ front ++ take n b =
    ap (take (length front + min n (length b))) (flat-last bodies b ∙ ap (λ l. front ++ l) (sym (append-nil b))) ∙ begun_within front b [] n in
    (one ∙ ap (λ (m : ℕ). m + 1) none, (length front + min n (length b), subst (Appends old.taken new.taken) (sym e) (Appends-trans old.taken mid.taken new.taken front (take n b) before begun)))

-- ---- the bodies of a collection are its written documents

pub bodies_are : (n : List ℕ) (a : DocumentTable) (docs : List TableRow) → AreRowsOf a docs → bodies_of n docs ≡ map encode (documents_of a n)
bodies_are n [] [] each = refl
bodies_are n [] (d ∷ docs) each = absurd each
bodies_are n (r ∷ rs) [] each = absurd each
bodies_are n (r ∷ rs) (d ∷ docs) each = by (bytes_eq n r.name) refl (bytes_eq d.coll n) refl (bodies_are n rs docs each.1)
  where
    body : TableRow → List ℕ
    body x = x.body

    by : (b : Bool) → bytes_eq n r.name ≡ b → (c : Bool) → bytes_eq d.coll n ≡ c → bodies_of n docs ≡ map encode (documents_of rs n)
        → map (λ (x : TableRow). x.body) (cond c (d ∷ filter (is_in n) docs) (filter (is_in n) docs)) ≡ map encode (cond b (r.document ∷ documents_of rs n) (documents_of rs n))
    by true e true i rest = ap (λ x. x ∷ bodies_of n docs) each.0.body ∙ ap (λ l. encode r.document ∷ l) rest
    by false e false i rest = rest
    by true e false i rest = let t : bytes_eq d.coll n ≡ true = rw (each.0.name, equal_keys n r.name e) (same_key r.name) in cc
    by false e true i rest = let t : bytes_eq n r.name ≡ true = rw (← each.0.name, equal_keys d.coll n i) (same_key n) in cc

flat_map_is : (ds : Documents) → flat (map encode ds) ≡ flat_map encode ds
flat_map_is [] = refl
flat_map_is (d ∷ ds) = ap (λ l. encode d ++ l) (flat_map_is ds)

flat_written : (n : List ℕ) (docs : List TableRow) (a : DocumentTable) → Represents docs a → flat (bodies_of n docs) ≡ flat_map encode (list_of (state_of a) n)
flat_written n docs a s = ap flat (bodies_are n a docs s.each) ∙ flat_map_is (documents_of a n) ∙ ap (flat_map encode) (sym (list_of-state_of a n))

-- ---- exits

pub sends_none : (docs : List TableRow) (n : List ℕ) (t : Tally) → (IsName n → ⊥) → SendsCollection n t t (Err (refusal kind.BadName)) docs docs
sends_none docs n t bad = record { same = refl; exports = λ a s. (refl, (bad, refl)) }

-- A visitor of a collection's bodies, which has sent what it was given. Its writer is recognized by a name.
module _ {V N : Type 0} (tally : V → Tally) (failed : V → Bool) (name : V → N) (first last : V) (new : Tally) (back : name first ≡ name last → new ≡ tally last) where
  abbrev Took : V → List (List ℕ) → Type 0
  Took v bodies = (name first ≡ name v) × Sent (tally first) (tally v) (failed v) bodies

  starts : failed first ≡ false → Took first []
  starts e = (refl, subst (λ b. Sent (tally first) (tally first) b []) (sym e) (refl, nothing (tally first).taken))
    where
      nothing : (o : Option (List ℕ)) → Appends o o []
      nothing None = tt
      nothing (Some xs) = sym (append-nil xs)

  out_by : (b : Bool) (bodies : List (List ℕ)) → failed last ≡ b → Took last bodies → Sent (tally first) new b bodies
  out_by b bodies is took = subst (λ t. Sent (tally first) t b bodies) (sym (back took.0)) (subst (λ x. Sent (tally first) (tally last) x bodies) is took.1)

  pub writer_failed : (docs after : List TableRow) (n : List ℕ) (r : Result Bool Fault) → IsName n → failed first ≡ false → failed last ≡ true → Visits Took first last n r docs after
      → SendsCollection n (tally first) new (Err (refusal kind.Writer)) docs after
  writer_failed docs after n r good begins ends h =
      let (taken, rest, whole, took) = h.some (starts begins) in
      let out = out_by true taken ends took in
      let begun : TakesBeginning (tally first).taken new.taken (flat (bodies_of n docs)) =
      subst (TakesBeginning (tally first).taken new.taken) (sym (flat-append taken rest) ∙ ap flat whole) (begun_first (tally first).taken new.taken (flat taken) (flat rest) out.1) in
      record { same = h.same; exports = λ a s. (refl, (good, (out.0, subst (TakesBeginning (tally first).taken new.taken) (flat_written n docs a s) begun))) }

  pub table_failed : (docs after : List TableRow) (n : List ℕ) (x : Fault) → IsName n → failed first ≡ false → failed last ≡ false → Visits Took first last n (Err x) docs after
      → SendsCollection n (tally first) new (Err (refusal (kind_of_fault x))) docs after
  table_failed docs after n x good begins ends h =
      let (taken, rest, whole, took) = h.some (starts begins) in
      let out = out_by false taken ends took in
      let begun : TakesBeginning (tally first).taken new.taken (flat (bodies_of n docs)) =
      subst (TakesBeginning (tally first).taken new.taken) (sym (flat-append taken rest) ∙ ap flat whole) (whole_begins (tally first).taken new.taken (flat taken) (flat rest) out.1) in
      record { same = h.same; exports = λ a s. by a x h.faults (out.0, subst (TakesBeginning (tally first).taken new.taken) (flat_written n docs a s) begun) }
    where
      by : (a : DocumentTable) (x : Fault) → x ≢ faults.Places → (new.failures ≡ (tally first).failures) × TakesBeginning (tally first).taken new.taken (flat_map encode (list_of (state_of a) n))
          → Exports (state_of a) n (tally first) new (Err (refusal (kind_of_fault x)))
      by a faults.Memory other out = (refl, (good, out))
      by a faults.Database other out = (refl, (good, out))
      by a faults.Places other out = absurd (other refl)

  pub all_sent : (docs after : List TableRow) (n : List ℕ) (b : Bool) → IsName n → failed first ≡ false → failed last ≡ false → (b ≡ false → failed last ≡ true) → Visits Took first last n (Ok b) docs after
      → SendsCollection n (tally first) new (Ok tt) docs after
  all_sent docs after n true good begins ends stopped h =
      let out = out_by false (bodies_of n docs) ends (h.whole (starts begins) refl) in
      record { same = h.same; exports = λ a s. (good, (out.0, subst (Appends (tally first).taken new.taken) (flat_written n docs a s) out.1)) }
  all_sent docs after n false good begins ends stopped h = let no : true ≡ false = sym (stopped refl) ∙ ends in cc

-- ---- an export into memory

export_open : (n : List ℕ) → IsName n → Rattle.store_model.specs.Run.IsDecided (on n export) → ⊥
export_open n good = undecided n export good (λ x. x)

sent_in : (docs : List TableRow) (n out : List ℕ) (old new : Tally) → old.taken ≡ Some [] → new.taken ≡ Some out → ((a : DocumentTable) → Represents docs a → Exports (state_of a) n old new (Ok tt)) → Does (on n export) (bytes out) docs docs
sent_in docs n out old new before after h a s = answers_stay docs n export (bytes out) (h a s).0 (λ b t. (ap bytes (all b (h b t)), refl)) a s
  where
    all : (b : DocumentTable) → Exports (state_of b) n old new (Ok tt) → out ≡ flat_map encode (documents_of b n)
    all b e =
        let k : Appends (Some []) (Some out) (flat_map encode (list_of (state_of b) n)) = subst (λ o. Appends o (Some out) (flat_map encode (list_of (state_of b) n))) before (subst (λ o. Appends old.taken o (flat_map encode (list_of (state_of b) n))) after e.1.1) in
        k ∙ ap (flat_map encode) (list_of-state_of b n)

pub sent : (docs after : List TableRow) (n out : List ℕ) (old new : Tally) → old.taken ≡ Some [] → new.taken ≡ Some out → SendsCollection n old new (Ok tt) docs after → Does (on n export) (bytes out) docs after
sent docs after n out old new before now h = rw h.same (sent_in docs n out old new before now h.exports)

not_sent_in : (docs : List TableRow) (n : List ℕ) (old new : Tally) (e : StoreError) → ((a : DocumentTable) → Represents docs a → Exports (state_of a) n old new (Err e)) → e.kind ≢ kind.Writer → Does (on n export) (refused e.kind e.document) docs docs
not_sent_in docs n old new e h other a s = let k = h a s in rw k.0 (at_kind e.kind other k.1)
  where
    at_kind : (k : ErrorKind) → k ≢ kind.Writer → ExportRefused (state_of a) n old new k → (b : DocumentTable) × Represents docs b × Rattle.store_model.specs.Table.Serves a (on n export) (refused k None) b
    at_kind kind.Memory other h = denied docs (on n export) faults.Memory memory_other (export_open n h.0) a s
    at_kind kind.Database other h = denied docs (on n export) faults.Database (λ e. cc) (export_open n h.0) a s
    at_kind kind.Writer other h = absurd (other refl)
    at_kind kind.BadName other h = bad_name docs n export h.0 a s
    at_kind _ other h = absurd h.1

pub not_sent : (docs after : List TableRow) (n : List ℕ) (old new : Tally) (e : StoreError) → SendsCollection n old new (Err e) docs after → e.kind ≢ kind.Writer → Does (on n export) (refused e.kind e.document) docs after
not_sent docs after n old new e h other = rw h.same (not_sent_in docs n old new e h.exports other)

sink_failed_in : (docs : List TableRow) (n : List ℕ) (old new : Tally) (e : StoreError) → ((a : DocumentTable) → Represents docs a → Exports (state_of a) n old new (Err e)) → e.kind ≡ kind.Writer → Does (on n export) (refused kind.Memory None) docs docs
sink_failed_in docs n old new e h is a s = denied docs (on n export) faults.Memory memory_other (export_open n (at_kind e.kind is (h a s).1)) a s
  where
    at_kind : (k : ErrorKind) → k ≡ kind.Writer → ExportRefused (state_of a) n old new k → IsName n
    at_kind kind.Writer is h = h.0
    at_kind kind.BadName is h = cc
    at_kind _ is h = h.0

pub sink_failed : (docs after : List TableRow) (n : List ℕ) (old new : Tally) (e : StoreError) → SendsCollection n old new (Err e) docs after → e.kind ≡ kind.Writer → Does (on n export) (refused kind.Memory None) docs after
sink_failed docs after n old new e h is = rw h.same (sink_failed_in docs n old new e h.exports is)

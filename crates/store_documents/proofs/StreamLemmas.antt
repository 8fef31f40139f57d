-- Every input has a reading, and so has every stream and every list of trees; how readings grow at their front.
use Rattle.std.proofs.Common.{◌≡◌, ◌⊎◌, inl, inr, ℕ, zero, suc, ◌≤◌, List, [], ◌∷◌, ◌++◌, length, length-append, take, drop, Option, Some, None, refl, ap, sym, ◌∙◌, arith}
use Rattle.std.proofs.lemmas.Bool.{cases_lt}
use Rattle.std.proofs.lemmas.List.{length-take-le, take-append-drop}
use Rattle.serde_json.specs.Data.{Data}
use Rattle.bson_base.specs.Value.{Members}
use Rattle.bson_bytes.specs.Spells.{settle}
use Rattle.bson_frame.specs.Frame.{number, size_limit}
use Rattle.bson_frame.proofs.PayloadLemmas.{number_front}
use Rattle.bson_meaning.specs.Gate.{IsCounted}
use Rattle.store_model.specs.Reading.{Documents, Reading, readable, unreadable, kind_of_gate_error, ReadsBytes, ReadsTree, ReadsEach, IsUncut, Cuts, ReadsStream, ReadsTrees}
use Rattle.store_model.specs.declared.error.ErrorKind.{ErrorKind}
use Rattle.store_model.specs.declared.error.ErrorKind.TheVariants.{EndInside, BadLength}
use Rattle.store_model.proofs.PlainLemmas.{any_tree}
use Rattle.store_documents.proofs.GateLemmas.{GateTells, gate_tells}

-- ---- one input

pub any_bytes : (bytes : List ℕ) → (a : Reading) × ReadsBytes bytes a
any_bytes bytes = by (gate_tells bytes)
  where
    by : GateTells bytes → (a : Reading) × ReadsBytes bytes a
    by (inl p) = (readable (settle p.2.0), (p, (p.2.0, p.1, p.2.1, refl)))
    by (inr (e, r)) = (unreadable (kind_of_gate_error e), (e, r, refl))

-- ---- many

any_each : {A : Type 0} (Reads : A → Reading → Type 0) → ((a : A) → (x : Reading) × Reads a x) → (xs : List A) (behind : Option ErrorKind)
    → (ds : Documents) × (stop : Option ErrorKind) × ReadsEach Reads xs behind ds stop
any_each Reads any [] behind = ([], behind, refl)
any_each Reads any (a ∷ more) behind = by (any a) (any_each Reads any more behind)
  where
    by : (x : Reading) × Reads a x → (ds : Documents) × (stop : Option ErrorKind) × ReadsEach Reads more behind ds stop → (ds : Documents) × (stop : Option ErrorKind) × ReadsEach Reads (a ∷ more) behind ds stop
    by (readable d, h) rest = (d ∷ rest.0, rest.1, (h, rest.2))
    by (unreadable k, h) rest = ([], Some k, h)

-- a document is cut off in front, or why none can be
abbrev FrontOr : List ℕ → Type 0
FrontOr bytes = ((p : List ℕ) × (rest : List ℕ) × (bytes ≡ p ++ rest) × IsCounted p) ⊎ ((k : ErrorKind) × IsUncut bytes k)

pub counted_front : (bytes : List ℕ) → 5 ≤ number bytes → number bytes ≤ size_limit → number bytes ≤ length bytes → IsCounted (take (number bytes) bytes)
counted_front bytes some fits room =
    let p : List ℕ = take (number bytes) bytes in
    let long : length p ≡ number bytes = length-take-le (number bytes) bytes room in
    let same : number p ≡ number bytes = sym (number_front p (drop (number bytes) bytes) (omega (arith, long, some))) ∙ ap number (take-append-drop (number bytes) bytes) in
    (omega (arith, same, some), omega (arith, same, fits), long ∙ sym same)

front_or : (bytes : List ℕ) → FrontOr bytes
front_or bytes = elim (cases_lt (length bytes) 4) [
  | inl few ↦ inr (EndInside, inl few)
  | inr four ↦ elim (cases_lt (number bytes) 5) [
    | inl low ↦ inr (BadLength, (four, inl low))
    | inr some ↦ elim (cases_lt size_limit (number bytes)) [
      | inl high ↦ inr (BadLength, (four, inr high))
      | inr fits ↦ elim (cases_lt (length bytes) (number bytes)) [
        | inl fewer ↦ inr (EndInside, inr (some, fits, fewer))
        | inr room ↦ inl (take (number bytes) bytes, drop (number bytes) bytes, sym (take-append-drop (number bytes) bytes), counted_front bytes some fits room)
      ]
    ]
  ]
]

any_cut_within : (fuel : ℕ) (bytes : List ℕ) → length bytes ≤ fuel → (ps : List (List ℕ)) × (stop : Option ErrorKind) × Cuts bytes ps stop
any_cut_within fuel [] room = ([], None, refl)
any_cut_within zero (x ∷ bytes) room = absurd (omega arith)
any_cut_within (suc fuel) (x ∷ bytes) room = by (front_or (x ∷ bytes)) (λ rest less. any_cut_within fuel rest less)
  where
    by : FrontOr (x ∷ bytes) → ((rest : List ℕ) → length rest ≤ fuel → (ps : List (List ℕ)) × (stop : Option ErrorKind) × Cuts rest ps stop) → (ps : List (List ℕ)) × (stop : Option ErrorKind) × Cuts (x ∷ bytes) ps stop
    by (inr (k, h)) on = ([], Some k, (omega arith, h))
    by (inl (p, rest, e, counted)) on =
        let c = on rest (omega (arith, ap length e, length-append p rest, counted.0, counted.2, room)) in
        (p ∷ c.0, c.1, (rest, e, counted, c.2))

any_cut : (bytes : List ℕ) → (ps : List (List ℕ)) × (stop : Option ErrorKind) × Cuts bytes ps stop
any_cut bytes = any_cut_within (length bytes) bytes (omega arith)

pub any_stream : (bytes : List ℕ) → (ds : Documents) × (stop : Option ErrorKind) × ReadsStream bytes ds stop
any_stream bytes =
    let c = any_cut bytes in
    let e = any_each ReadsBytes any_bytes c.0 c.1 in
    (e.0, e.1, (c.0, c.1, c.2, e.2))

pub any_trees : (js : List Data) → (ds : Documents) × (stop : Option ErrorKind) × ReadsTrees js ds stop
any_trees js = any_each ReadsTree any_tree js None

-- ---- at the front of a stream

pub stream_end : (bytes : List ℕ) → bytes ≡ [] → ReadsStream bytes [] None
stream_end bytes e = ([], None, e, refl)

pub stream_unread : (bytes p rest : List ℕ) (k : ErrorKind) → bytes ≡ p ++ rest → IsCounted p → ReadsBytes p (unreadable k) → ReadsStream bytes [] (Some k)
stream_unread bytes p rest k e counted h = let c = any_cut rest in (p ∷ c.0, c.1, (rest, e, counted, c.2), h)

pub stream_more : (bytes p rest : List ℕ) (d : Members) (ds : Documents) (stop : Option ErrorKind) → bytes ≡ p ++ rest → IsCounted p → ReadsBytes p (readable d) → ReadsStream rest ds stop → ReadsStream bytes (d ∷ ds) stop
stream_more bytes p rest d ds stop e counted h (ps, behind, cut, each) = (p ∷ ps, behind, (rest, e, counted, cut), (h, each))

-- ---- at the front of a list of trees

pub trees_end : ReadsTrees [] [] None
trees_end = refl

pub trees_unread : (j : Data) (js : List Data) (k : ErrorKind) → ReadsTree j (unreadable k) → ReadsTrees (j ∷ js) [] (Some k)
trees_unread j js k h = h

pub trees_more : (j : Data) (js : List Data) (d : Members) (ds : Documents) (stop : Option ErrorKind) → ReadsTree j (readable d) → ReadsTrees js ds stop → ReadsTrees (j ∷ js) (d ∷ ds) stop
trees_more j js d ds stop h more = (h, more)

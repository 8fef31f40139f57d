-- The body among sections, the sequences among them, and the bytes of an OP_MSG.
use Rattle.std.proofs.Common.{◌≡◌, ℕ, ◌<◌, ◌+◌, ◌*◌, ◌%◌, List, [], ◌∷◌, ◌++◌, length, map, take, drop, get_or, refl, ap, sym, ◌∙◌, subst, arith, Option, Some, None, is_some, true, false, MatchOption}
use Rattle.std.proofs.lemmas.List.{append-nil, length-append, length-drop, take-append-drop}
use Rattle.bson_frame.proofs.FrameLemmas.{front_is_one}
use Rattle.bson_frame.specs.Frame.{number}
use Rattle.bson_frame.specs.Payload.{IsEnvelope}
use Rattle.bson_raw.specs.View.{bytes_of}
use Rattle.bson_raw.specs.declared.document.RawDocument.{RawDocument}
use Rattle.bson_message.specs.Parts.{Part, body, sequence, AreParts, HasBody, HasMsgBody, IsPart, NoBody, bodies, part_of, sequences}
use Rattle.bson_message.specs.Runs.{BeginsWith, BeginsWithNone}
use Rattle.bson_message.specs.declared.section.Sequence.{Sequence}
use Rattle.bson_message.proofs.RunLemmas.{Way, all_met, no_more, one_list, one_more, stuck}
use Rattle.bson_message.proofs.PartLemmas.{one_part, some_part}

pub bodies_append : (ps qs : List Part) → bodies (ps ++ qs) ≡ bodies ps ++ bodies qs
bodies_append [] qs = refl
bodies_append (body d ∷ ps) qs = ap (λ l. d ∷ l) (bodies_append ps qs)
bodies_append (sequence name documents ∷ ps) qs = bodies_append ps qs

pub sequences_append : (ps qs : List Part) → sequences (ps ++ qs) ≡ sequences ps ++ sequences qs
sequences_append [] qs = refl
sequences_append (body d ∷ ps) qs = sequences_append ps qs
sequences_append (sequence name documents ∷ ps) qs = ap (λ l. sequence name documents ∷ l) (sequences_append ps qs)

-- the body that was met, if one was
abbrev pub met_body : Option RawDocument → List (List ℕ)
met_body None = []
met_body (Some d) = bytes_of d ∷ []

-- the sections that were met have this body
abbrev pub HasMet : List ℕ → List ℕ → Option RawDocument → Type 0
HasMet whole rest b = (met : List Part) × Way IsPart whole rest met × (bodies met ≡ met_body b)

pub body_met : (whole rest : List ℕ) (d : RawDocument) (behind : List ℕ) → HasMet whole rest None → BeginsWith IsPart rest (body (bytes_of d)) behind → HasMet whole behind (Some d)
body_met whole rest d behind (met, way, e) begins =
    (met ++ body (bytes_of d) ∷ [], one_more IsPart one_part some_part whole rest behind met (body (bytes_of d)) way begins, bodies_append met (body (bytes_of d) ∷ []) ∙ ap (λ l. l ++ bytes_of d ∷ []) e)

pub sequence_met : (whole : List ℕ) (b : Option RawDocument) (rest name documents behind : List ℕ) → HasMet whole rest b → BeginsWith IsPart rest (sequence name documents) behind → HasMet whole behind b
sequence_met whole b rest name documents behind (met, way, e) begins = (
  met ++ sequence name documents ∷ [],
  one_more IsPart one_part some_part whole rest behind met (sequence name documents) way begins,
  bodies_append met (sequence name documents ∷ []) ∙ append-nil (bodies met) ∙ e,
)

pub cut_off : (whole : List ℕ) (b : Option RawDocument) (rest : List ℕ) → HasMet whole rest b → BeginsWithNone IsPart rest → 0 < length rest → NoBody whole
cut_off whole b rest (met, way, e) lacks some d (all, h, one) = stuck IsPart whole rest met all way lacks some h

pub two_bodies : (whole : List ℕ) (b : Option RawDocument) (d : RawDocument) (rest behind : List ℕ) → HasMet whole rest b → BeginsWith IsPart rest (body (bytes_of d)) behind → is_some b ≡ true → NoBody whole
two_bodies whole None d rest behind so begins some one h = let f : false ≡ true = some in cc f
two_bodies whole (Some b) d rest behind (met, way, e) begins some one (all, h, is) =
    let next = one_more IsPart one_part some_part whole rest behind met (body (bytes_of d)) way begins in
    let (xs, hx, f) = next.back all h in
    let g = bodies_append (met ++ body (bytes_of d) ∷ []) xs ∙ ap (λ l. l ++ bodies xs) (bodies_append met (body (bytes_of d) ∷ []) ∙ ap (λ l. l ++ bytes_of d ∷ []) e) in
    let l : length (bytes_of b ∷ (bytes_of d ∷ bodies xs)) ≡ 1 = ap length (sym (ap bodies f ∙ g) ∙ is) in
    omega (arith, l)

no_body_met : (whole rest : List ℕ) → HasMet whole rest None → length rest ≡ 0 → NoBody whole
no_body_met whole rest (met, way, e) none d (all, h, is) =
    let same = one_list IsPart one_part some_part whole all met h (all_met IsPart whole rest met way none) in
    let l : 1 ≡ 0 = ap length (sym is ∙ ap bodies same ∙ e) in
    omega (arith, l)

pub ended : (whole rest : List ℕ) (b : Option RawDocument) → HasMet whole rest b → length rest ≡ 0 → MatchOption b (NoBody whole) (λ d. HasBody whole (bytes_of d))
ended whole rest (Some d) (met, way, e) none = (met, all_met IsPart whole rest met way none, e)
ended whole rest None so none = no_body_met whole rest so none

pub one_body : (bytes d e : List ℕ) → HasBody bytes d → HasBody bytes e → d ≡ e
one_body bytes d e (ps, hp, bp) (qs, hq, bq) = ap (λ l. get_or l 0 []) (sym bp ∙ ap bodies (one_list IsPart one_part some_part bytes ps qs hp hq) ∙ bq)

pub body_alone : (d : List ℕ) → IsEnvelope d → HasBody (0 ∷ d) d
body_alone d e = (body d ∷ [], (0 ∷ d, [], sym (append-nil (0 ∷ d)), (refl, e), refl), refl)

-- the sections that were met have these sequences
abbrev pub HasFound : List ℕ → List ℕ → List Sequence → Type 0
HasFound whole rest found = (met : List Part) × Way IsPart whole rest met × (map part_of found ≡ sequences met)

pub body_passed : (whole rest : List ℕ) (found : List Sequence) (d behind : List ℕ) → HasFound whole rest found → BeginsWith IsPart rest (body d) behind → HasFound whole behind found
body_passed whole rest found d behind (met, way, e) begins =
    (met ++ body d ∷ [], one_more IsPart one_part some_part whole rest behind met (body d) way begins, e ∙ sym (append-nil (sequences met)) ∙ sym (sequences_append met (body d ∷ [])))

pub sequence_found : (whole rest : List ℕ) (found : List Sequence) (s : Sequence) (behind : List ℕ) → HasFound whole rest found → BeginsWith IsPart rest (part_of s) behind → HasFound whole behind (found ++ s ∷ [])
sequence_found whole rest found s behind (met, way, e) begins = (
  met ++ part_of s ∷ [],
  one_more IsPart one_part some_part whole rest behind met (part_of s) way begins,
  map_more found s ∙ ap (λ l. l ++ part_of s ∷ []) e ∙ sym (sequences_append met (part_of s ∷ [])),
)
  where
    map_more : (xs : List Sequence) (s : Sequence) → map part_of (xs ++ s ∷ []) ≡ map part_of xs ++ part_of s ∷ []
    map_more [] s = refl
    map_more (x ∷ xs) s = ap (λ l. part_of x ∷ l) (map_more xs s)

pub all_found : (whole rest : List ℕ) (found : List Sequence) → HasFound whole rest found → BeginsWithNone IsPart rest → (ps : List Part) → AreParts whole ps → map part_of found ≡ sequences ps
all_found whole rest found (met, way, e) lacks ps h = e ∙ ap sequences (sym (no_more IsPart whole rest met ps way lacks h).1)

-- ---- the bytes of an OP_MSG

pub msg_short : (bytes : List ℕ) → length bytes < 4 → (sections d : List ℕ) → HasMsgBody bytes sections d → ⊥
msg_short bytes short sections d h = let a = h.0 in omega (arith, a, short)

pub msg_no_checksum : (bytes rest : List ℕ) → rest ≡ drop 4 bytes → length rest < (number bytes % 2) * 4 → (sections d : List ℕ) → HasMsgBody bytes sections d → ⊥
msg_no_checksum bytes rest is short sections d (four, has, (checksum, size, split)) =
    let l : length rest ≡ length (sections ++ checksum) = ap length (is ∙ split) in
    let m = length-append sections checksum in
    omega (arith, l, m, size, short)

-- sections and a checksum are cut at one place
pub one_cut : (bytes rest first last sections checksum : List ℕ) (n : ℕ) → rest ≡ drop 4 bytes → rest ≡ first ++ last → length last ≡ n → length checksum ≡ n → drop 4 bytes ≡ sections ++ checksum → first ≡ sections
one_cut bytes rest first last sections checksum n is cut last_size size split =
    let e : first ++ last ≡ sections ++ checksum = sym cut ∙ is ∙ split in
    let l : length (first ++ last) ≡ length (sections ++ checksum) = ap length e in
    let a = length-append first last in
    let b = length-append sections checksum in
    (front_is_one first sections last checksum (omega (arith, l, a, b, size, last_size)) e).0

pub msg_cut : (bytes rest sections : List ℕ) (n : ℕ) → rest ≡ drop 4 bytes → n + (number bytes % 2) * 4 ≡ length rest → sections ≡ take n rest → NoBody sections → (others d : List ℕ) → HasMsgBody bytes others d → ⊥
msg_cut bytes rest sections n is size front lacks others d (four, has, (checksum, length_is, split)) =
    let l = length-drop n rest in
    let e = one_cut bytes rest (take n rest) (drop n rest) others checksum ((number bytes % 2) * 4) is (sym (take-append-drop n rest)) (omega (arith, l, size)) length_is split in
    lacks d (subst (λ s. HasBody s d) (sym (front ∙ e)) has)

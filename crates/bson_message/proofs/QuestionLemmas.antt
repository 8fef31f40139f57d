-- The bytes of an OP_QUERY.
use Rattle.std.proofs.Common.{◌≡◌, ℕ, ◌≤◌, ◌<◌, List, [], ◌∷◌, ◌++◌, length, take, drop, refl, ap, sym, ◌∙◌, subst, arith}
use Rattle.std.proofs.lemmas.List.{length-append, length-drop, length-take-le, take-append-drop, drop-drop}
use Rattle.bson_frame.proofs.NameLemmas.{rest_is_one}
use Rattle.bson_frame.specs.Frame.{IsCstring}
use Rattle.bson_frame.specs.Payload.{IsEnvelope}
use Rattle.bson_raw.specs.View.{bytes_of}
use Rattle.bson_raw.specs.declared.document.RawDocument.{RawDocument}
use Rattle.bson_message.specs.Messages.{HasQuestion, IsSelection, NoQuestion}
use Rattle.bson_message.specs.Parts.{IsDocument, NoName}
use Rattle.bson_message.specs.Runs.{BeginsWith, BeginsWithNone}
use Rattle.bson_message.proofs.PartLemmas.{one_document}

-- what is behind the name of a question
abbrev pub Behind : List ℕ → List ℕ → List ℕ → List ℕ → Type 0
Behind rest numbers question fields = (length numbers ≡ 8) × IsEnvelope question × IsSelection fields × (rest ≡ numbers ++ (question ++ fields))

behind : (bytes rest name : List ℕ) → IsCstring name → drop 4 bytes ≡ name ++ 0 ∷ rest → (other question : List ℕ) → HasQuestion bytes other question → (numbers : List ℕ) × (fields : List ℕ) × Behind rest numbers question fields
behind bytes rest name c split other question (four, d, envelope, (numbers, fields, eight, selection, whole)) =
    (numbers, fields, (eight, envelope, selection, rest_is_one (drop 4 bytes) name other rest (numbers ++ (question ++ fields)) c d split whole))

pub asked_short : (bytes : List ℕ) → length bytes < 4 → NoQuestion bytes
asked_short bytes short name question h = let a = h.0 in omega (arith, a, short)

pub asked_no_name : (bytes rest : List ℕ) → rest ≡ drop 4 bytes → NoName rest → NoQuestion bytes
asked_no_name bytes rest is lacks name question (four, c, envelope, (numbers, fields, eight, selection, whole)) =
    lacks name (numbers ++ (question ++ fields)) c (is ∙ whole)

long_enough : (rest numbers question fields : List ℕ) → Behind rest numbers question fields → 8 ≤ length rest
long_enough rest numbers question fields (eight, envelope, selection, whole) =
    let l = ap length whole in
    let m = length-append numbers (question ++ fields) in
    omega (arith, l, m, eight)

pub asked_no_skip : (bytes rest name : List ℕ) → IsCstring name → drop 4 bytes ≡ name ++ 0 ∷ rest → length rest < 4 → NoQuestion bytes
asked_no_skip bytes rest name c split short other question h =
    let (numbers, fields, b) = behind bytes rest name c split other question h in
    let l = long_enough rest numbers question fields b in
    omega (arith, l, short)

pub asked_no_return : (bytes rest after name : List ℕ) → IsCstring name → drop 4 bytes ≡ name ++ 0 ∷ rest → after ≡ drop 4 rest → length after < 4 → NoQuestion bytes
asked_no_return bytes rest after name c split is short other question h =
    let (numbers, fields, b) = behind bytes rest name c split other question h in
    let l = long_enough rest numbers question fields b in
    let m = ap length is ∙ length-drop 4 rest in
    omega (arith, l, m, short)

dropped : (xs ys : List ℕ) → drop (length xs) (xs ++ ys) ≡ ys
dropped [] ys = refl
dropped (x ∷ xs) ys = dropped xs ys

-- what is behind the two numbers is the question and the selection
after_numbers : (rest after last numbers question fields : List ℕ) → after ≡ drop 4 rest → last ≡ drop 4 after → Behind rest numbers question fields → last ≡ question ++ fields
after_numbers rest after last numbers question fields is is2 (eight, envelope, selection, whole) =
    is2 ∙ ap (drop 4) is ∙ drop-drop 4 4 rest ∙ ap (drop 8) whole ∙ subst (λ n. drop n (numbers ++ (question ++ fields)) ≡ question ++ fields) eight (dropped numbers (question ++ fields))

pub asked_no_document : (bytes rest after last name : List ℕ) → IsCstring name → drop 4 bytes ≡ name ++ 0 ∷ rest → after ≡ drop 4 rest → last ≡ drop 4 after → BeginsWithNone IsDocument last → NoQuestion bytes
asked_no_document bytes rest after last name c split is is2 lacks other question h =
    let (numbers, fields, b) = behind bytes rest name c split other question h in
    lacks question fields (question, after_numbers rest after last numbers question fields is is2 b, (refl, b.1))

pub asked_no_selection : (bytes rest after last name : List ℕ) (d : RawDocument) (ending : List ℕ) → IsCstring name → drop 4 bytes ≡ name ++ 0 ∷ rest → after ≡ drop 4 rest → last ≡ drop 4 after → BeginsWith IsDocument last (bytes_of d) ending → (IsSelection ending → ⊥) → NoQuestion bytes
asked_no_selection bytes rest after last name d ending c split is is2 (f, cut, document) lacks other question h =
    let (numbers, fields, b) = behind bytes rest name c split other question h in
    let t = one_document f question ending fields (bytes_of d) question document (refl, b.1) (sym cut ∙ after_numbers rest after last numbers question fields is is2 b) in
    lacks (subst IsSelection (sym t.0) b.2)

-- flags, a name, eight bytes that are two numbers, a document, and what follows it
pub asked : (bytes behind_flags rest after last name : List ℕ) (d : RawDocument) (ending : List ℕ) → 4 ≤ length bytes → behind_flags ≡ drop 4 bytes → IsCstring name → behind_flags ≡ name ++ 0 ∷ rest → 4 ≤ length rest → after ≡ drop 4 rest → 4 ≤ length after → last ≡ drop 4 after → BeginsWith IsDocument last (bytes_of d) ending → IsSelection ending → HasQuestion bytes name (bytes_of d)
asked bytes behind_flags rest after last name d ending four is c split long is2 long2 is3 (f, cut, (same, envelope)) selection =
    let l = ap length is2 ∙ length-drop 4 rest in
    let ends : drop 8 rest ≡ bytes_of d ++ ending = sym (drop-drop 4 4 rest) ∙ sym (ap (drop 4) is2) ∙ sym is3 ∙ cut ∙ ap (λ l. l ++ ending) same in
    let whole : rest ≡ take 8 rest ++ (bytes_of d ++ ending) = sym (take-append-drop 8 rest) ∙ ap (λ r. take 8 rest ++ r) ends in
    (four, c, envelope, (take 8 rest, ending, length-take-le 8 rest (omega (arith, long, long2, l)), selection, sym is ∙ split ∙ ap (λ r. name ++ 0 ∷ r) whole))

-- A stream with the bytes of a refusal in it is none.
use Rattle.std.proofs.Common.{◌≡◌, ℕ, ◌+◌, List, [], ◌∷◌, ◌++◌, length, None, Some, Option, refl, sym, ap, subst, ◌∙◌, append_assoc, arith}
use Rattle.std.proofs.lemmas.List.{length-append}
use Rattle.bson_base.specs.Value.{Members, document}
use Rattle.bson_bytes.specs.Encode.{encode, members_bytes}
use Rattle.bson_bytes.specs.Writing.{CanBeWritten}
use Rattle.bson_bytes.proofs.ExtentLemmas.{framed_size}
use Rattle.bson_bytes.proofs.LengthLemmas.{members_length}
use Rattle.bson_frame.specs.Frame.{number}
use Rattle.bson_frame.proofs.FrameLemmas.{front_is_one}
use Rattle.bson_frame.proofs.PayloadLemmas.{number_front}
use Rattle.bson_raw.specs.Input.{AreDeclared}
use Rattle.cli_convert.specs.Parts.{InParts}
use Rattle.cli_convert.specs.ToBson.{IsWritten, spoil}
use Rattle.cli_convert.specs.ToLines.{IsDocument}

-- what is written declares as many bytes as it has
declared : (d : Members) (x : List ℕ) → CanBeWritten (document d) → length (encode d) ≡ number (encode d ++ x)
declared d x can = (framed_size (members_bytes d) x (omega (arith, can.1, members_length d))).declared

no_document : (more part rest : List ℕ) → AreDeclared part → spoil ++ more ≡ part ++ rest → ⊥
no_document more part rest a e =
    let n : number (part ++ rest) ≡ number part = number_front part rest (omega (arith, a.0.0, a.1)) in
    let m : number (part ++ rest) ≡ 4294967295 = ap number (sym e) in
    omega (arith, a.0.1, n, m)

not_empty : (sent more : List ℕ) → sent ++ (spoil ++ more) ≡ [] → ⊥
not_empty sent more e =
    let l : length sent + length (spoil ++ more) ≡ 0 = sym (length-append sent (spoil ++ more)) ∙ ap length e in
    let four : length spoil ≡ 4 = refl in
    omega (arith, l, four, length-append spoil more)

pub spoiled : (os : List (Option Members)) (sent more : List ℕ) (ds : List Members) → InParts IsWritten sent os → InParts IsDocument (sent ++ (spoil ++ more)) ds → ⊥
spoiled [] sent more [] e h = not_empty sent more h
spoiled [] sent more (d ∷ ds) e (part, rest, is, (declares, means), h) = no_document more part rest declares (ap (λ l. l ++ (spoil ++ more)) (sym e) ∙ is)
spoiled (None ∷ os) sent more ds (part, rest, is, none, k) h = spoiled os rest more ds k (subst (λ l. InParts IsDocument (l ++ (spoil ++ more)) ds) (is ∙ ap (λ l. l ++ rest) none) h)
spoiled (Some d ∷ os) sent more [] (part, rest, is, written, k) h = not_empty sent more h
spoiled (Some d ∷ os) sent more (e ∷ ds) (part, rest, is, (can, same), k) (first, left, parts, (declares, means), h) =
    let tail = rest ++ (spoil ++ more) in
    let whole : encode d ++ tail ≡ first ++ left = sym (append_assoc (encode d) rest (spoil ++ more)) ∙ ap (λ l. l ++ (spoil ++ more)) (sym (is ∙ ap (λ l. l ++ rest) same)) ∙ parts in
    let n : number (first ++ left) ≡ number first = number_front first left (omega (arith, declares.0.0, declares.1)) in
    let long : length (encode d) ≡ length first = declared d tail can ∙ ap number whole ∙ n ∙ sym declares.1 in
    let r = front_is_one (encode d) first tail left long whole in
    spoiled os rest more ds k (subst (λ l. InParts IsDocument l ds) (sym r.1) h)

-- What is written has the size that its kind asks for, whatever follows it.
use Rattle.std.proofs.Common.{◌≡◌, ℕ, zero, suc, ◌+◌, ◌-◌, ◌^◌, ◌<◌, List, [], ◌∷◌, ◌++◌, length, refl, sym, ap, ◌∙◌, arith, append_assoc, append-nil, length-append, subst}
use Rattle.std.specs.Prelude.{slice_index}
use Rattle.std.proofs.lemmas.Nat.{from_le_bytes-to_le_bytes_4}
use Rattle.bson_bytes.specs.Encode.{le32, text_bytes, frame_of}
use Rattle.bson_bytes.proofs.LengthLemmas.{le32_length, text_length, framed_length}
use Rattle.bson_frame.specs.Frame.{number, IsTextSize, IsDocumentSize}
use Rattle.bson_frame.specs.Payload.{IsEnvelope}

pub number_back : (n : ℕ) (rest : List ℕ) → n < 2 ^ 32 → number (le32 n ++ rest) ≡ n
unfolding le32
number_back n rest h = from_le_bytes-to_le_bytes_4 n h

-- the byte 00 after bytes is where they end
pub last_zero : (xs rest : List ℕ) (n : ℕ) → n ≡ length xs → slice_index (xs ++ 0 ∷ rest) n ≡ 0
last_zero [] rest zero e = refl
last_zero [] rest (suc n) e = absurd (omega arith)
last_zero (x ∷ xs) rest zero e = absurd (omega arith)
last_zero (x ∷ xs) rest (suc n) e = last_zero xs rest n (omega arith)

pub framed_size : (b rest : List ℕ) → length b + 5 < 2 ^ 31 → IsDocumentSize (frame_of b ++ rest) (length (frame_of b))
unfolding frame_of
framed_size b rest h =
    let l : length (frame_of b) ≡ length b + 5 = framed_length b in
    let n : number (frame_of b ++ rest) ≡ length b + 5 = ap number (append_assoc (le32 (length b + 5)) (b ++ 0 ∷ []) rest) ∙ number_back (length b + 5) ((b ++ 0 ∷ []) ++ rest) (omega (arith, h)) in
    let front = le32 (length b + 5) ++ b in
    let e : frame_of b ++ rest ≡ front ++ 0 ∷ rest = simp append_assoc in
    let f : length front ≡ length b + 4 = simp (length-append, le32_length) (omega arith) in
    record {
      declared = l ∙ sym n;
      fits = omega (arith, n, h);
      some = omega (arith, l);
      ended = ap (λ (x : List ℕ). slice_index x (length (frame_of b) - 1)) e ∙ last_zero front rest (length (frame_of b) - 1) (omega (arith, l, f));
    }

pub framed_envelope : (b : List ℕ) → length b + 5 < 2 ^ 31 → IsEnvelope (frame_of b)
framed_envelope b h = subst (λ (x : List ℕ). IsDocumentSize x (length (frame_of b))) (append-nil (frame_of b)) (framed_size b [] h)

pub text_number : (t rest : List ℕ) → length t + 5 < 2 ^ 31 → number (text_bytes t ++ rest) ≡ length t + 1
unfolding text_bytes
text_number t rest h = ap number (append_assoc (le32 (length t + 1)) (t ++ 0 ∷ []) rest) ∙ number_back (length t + 1) ((t ++ 0 ∷ []) ++ rest) (omega (arith, h))

pub text_size : (t rest : List ℕ) → length t + 5 < 2 ^ 31 → IsTextSize (text_bytes t ++ rest) (length (text_bytes t))
unfolding text_bytes
text_size t rest h =
    let l : length (text_bytes t) ≡ length t + 5 = text_length t in
    let n : number (text_bytes t ++ rest) ≡ length t + 1 = text_number t rest h in
    let front = le32 (length t + 1) ++ t in
    let e : text_bytes t ++ rest ≡ front ++ 0 ∷ rest = simp append_assoc in
    let f : length front ≡ length t + 4 = simp (length-append, le32_length) (omega arith) in
    record {
      declared = omega (arith, l, n);
      fits = omega (arith, n, h);
      some = omega (arith, n);
      ended = ap (λ (x : List ℕ). slice_index x (length (text_bytes t) - 1)) e ∙ last_zero front rest (length (text_bytes t) - 1) (omega (arith, l, f));
    }

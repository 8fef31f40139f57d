-- What is written as an answer reads as itself.
use Rattle.std.proofs.Common.{◌≡◌, inl, inr, ℕ, ◌≤◌, ◌<◌, ◌+◌, ◌^◌, List, [], ◌∷◌, ◌++◌, length, drop, refl, sym, ◌∙◌, subst, arith, Result, Ok, Err}
use Rattle.std.proofs.lemmas.List.{append-nil}
use Rattle.std.proofs.lemmas.Nat.{from_le_bytes-to_le_bytes_4}
use Rattle.bson_frame.specs.Frame.{number}
use Rattle.bson_frame.specs.Payload.{IsEnvelope}
use Rattle.bson_raw.specs.View.{bytes_of}
use Rattle.bson_message.specs.Messages.{Says}
use Rattle.bson_message.specs.Parts.{HasBody, Reads}
use Rattle.bson_message.specs.Replies.{HasReply, IsAnswer, IsMessage, header_bytes, msg_bytes, reply_bytes, word}
use Rattle.bson_message.specs.declared.fault.Fault.{Fault}
use Rattle.bson_message.specs.declared.fault.Fault.TheVariants as faults
use Rattle.bson_message.specs.declared.message.Body.{Body}
use Rattle.bson_message.specs.declared.message.Body.TheVariants.{Msg, Query}
use Rattle.bson_message.specs.declared.op_msg.OpMsg.{OpMsg}
use Rattle.bson_message.proofs.BodyLemmas.{body_alone, one_body}

number_back : (n : ℕ) (rest : List ℕ) → n < 2 ^ 32 → number (word n ++ rest) ≡ n
number_back n rest h = from_le_bytes-to_le_bytes_4 n h

-- a header, and as many bytes as it declares
has_numbers : (size number answers operation : ℕ) (rest : List ℕ) → number < 2 ^ 32 → answers < 2 ^ 32 → operation < 2 ^ 32 → size ≤ 48000000 → size ≡ length rest + 16 → IsMessage (header_bytes size number answers operation ++ rest) number answers operation
has_numbers size number answers operation rest a b c fits is =
    let back = number_back size (word number ++ (word answers ++ word operation) ++ rest) (omega (arith, fits)) in
    record {
      declared = ((omega (arith, back, is), omega (arith, back, fits)), omega (arith, back, is));
      request = number_back number (word answers ++ (word operation ++ rest)) a;
      response_to = number_back answers (word operation ++ rest) b;
      operation = number_back operation rest c;
    }

pub msg_taken : (number answers : ℕ) (d : List ℕ) → number < 2 ^ 32 → answers < 2 ^ 32 → length d + 21 ≤ 48000000 → IsMessage (msg_bytes number answers d) number answers 2013
msg_taken number answers d a b fits = has_numbers (length d + 21) number answers 2013 (word 0 ++ (0 ∷ d)) a b (omega arith) fits (omega arith)

pub reply_taken : (number answers : ℕ) (d : List ℕ) → number < 2 ^ 32 → answers < 2 ^ 32 → length d + 36 ≤ 48000000 → IsMessage (reply_bytes number answers d) number answers 1
reply_taken number answers d a b fits = has_numbers (length d + 36) number answers 1 (word 8 ++ (word 0 ++ (word 0 ++ (word 0 ++ (word 1 ++ d))))) a b (omega arith) fits (omega arith)

pub reply_read : (number answers : ℕ) (d : List ℕ) → IsEnvelope d → HasReply (drop 16 (reply_bytes number answers d)) 8 (0 ∷ 0 ∷ 0 ∷ 0 ∷ 0 ∷ 0 ∷ 0 ∷ 0 ∷ []) 0 (d ∷ [])
reply_read number answers d e = record {
  flags = refl;
  cursor = refl;
  first = refl;
  counted = refl;
  documents = (d, [], sym (append-nil d), (refl, e), refl);
}

-- sections behind no flags, without a checksum
no_checksum : (d sections checksum : List ℕ) → length checksum ≡ 0 → d ≡ sections ++ checksum → sections ≡ d
no_checksum d sections [] e is = sym (append-nil sections) ∙ sym is
no_checksum d sections (x ∷ xs) e is = absurd (omega (arith, e))

msg_read : (d : List ℕ) → IsEnvelope d → (m : OpMsg) → Reads (word 0 ++ (0 ∷ d)) m → IsAnswer d (Ok (Msg m))
msg_read d e m (flags, known, (four, has, (checksum, size, split))) =
    let same : m.sections.now ≡ 0 ∷ d = no_checksum (0 ∷ d) m.sections.now checksum size split in
    (flags, one_body (0 ∷ d) (bytes_of m.body) d (subst (λ s. HasBody s (bytes_of m.body)) same has) (body_alone d e), same)

pub said : (whole d : List ℕ) → IsEnvelope d → (says : Result Body Fault) → Says whole 2013 (word 0 ++ (0 ∷ d)) says → IsAnswer d says
said whole d e (Ok (Msg m)) (is, reads, summed) = msg_read d e m reads
said whole d e (Ok (Query q)) (is, asks) = absurd (omega (arith, is))
said whole d e (Err faults.Operation) (a, b) = a refl
said whole d e (Err faults.Flag) (is, f) = absurd (omega (arith, f))
said whole d e (Err faults.Sections) (inl (is, f)) = f (0 ∷ d) d (omega arith, body_alone d e, ([], refl, sym (append-nil (0 ∷ d))))
said whole d e (Err faults.Sections) (inr (is, f)) = absurd (omega (arith, is))
said whole d e (Err faults.Checksum) (is, f) = f (λ odd. absurd (omega (arith, odd)))
said whole d e (Err faults.Header) h = h

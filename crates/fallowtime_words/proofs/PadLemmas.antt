-- Parts of texts: spaces up to a column, and a beginning.
use Rattle.std.proofs.Common.{◌≡◌, ◌⊎◌, ◌<◌, ◌≤◌, ◌+◌, ◌-◌, ℕ, suc, List, [], ◌∷◌, ◌++◌, length, replicate, take, inl, inr, sym, ◌∙◌, ap, arith}
use Rattle.std.proofs.lemmas.List.{append_assoc, append-nil, length-append, take_all}
use Rattle.fallowtime_words.specs.Overview.{padded}

pub pad_more : (column : ℕ) (t : List ℕ) → length t < column → padded column (t ++ 32 ∷ []) ≡ padded column t
pad_more column t less =
    let longer : length (t ++ 32 ∷ []) ≡ length t + 1 = length-append t (32 ∷ []) in
    let n : ℕ = column - (length t + 1) in
    let all : column - length t ≡ suc n = omega (arith, less) in
    let left : column - length (t ++ 32 ∷ []) ≡ n = ap (λ k. column - k) longer in
    ap (λ k. t ++ 32 ∷ [] ++ replicate k 32) left ∙ (append_assoc t (32 ∷ []) (replicate n 32) ∙ sym (ap (λ k. t ++ replicate k 32) all))

pub pad_done : (column : ℕ) (t : List ℕ) → column ≤ length t → padded column t ≡ t
pad_done column t all =
    let none : column - length t ≡ 0 = omega (arith, all) in
    ap (λ k. t ++ replicate k 32) none ∙ append-nil t

pub all_is_front : (bs word : List ℕ) → bs ≡ word → ((40 < 0) ⊎ (length bs < 40)) → bs ≡ take 40 word
all_is_front bs word e (inl below) = absurd (omega (arith, below))
all_is_front bs word e (inr short) = e ∙ sym (take_all 40 word (omega (arith, short, ap length e)))

-- The depth of what is in a document.
use Rattle.std.proofs.Common.{◌≡◌, ◌+◌, ◌<◌, ◌≤◌, max, List, [], ◌∷◌, ◌++◌, sym, ap, ◌∙◌, arith, rules}
use Rattle.std.proofs.lemmas.List.{append_assoc}
use Rattle.std.specs.Map.{values_of}
use denote.Param.Weighed.{most}
use Rattle.bson_pairs.specs.Keyed.{Key}
use Rattle.bson_model.specs.declared.bson.Bson.{Bson, size-Bson, the_lemmas}
use Rattle.bson_model.specs.declared.document.Document.{Document, size-Document}

-- some pairs are the last of the document's
abbrev pub AreLast : Document → List (Key × Bson) → Type 0
AreLast d ps = (done : List (Key × Bson)) × (d.pairs ≡ done ++ ps)

pub last_rest : (d : Document) (ps rest : List (Key × Bson)) (p : Key × Bson) → AreLast d ps → ps ≡ p ∷ rest → AreLast d rest
last_rest d ps rest p h e = (h.0 ++ p ∷ [], h.1 ∙ ap (λ qs. h.0 ++ qs) e ∙ sym (append_assoc h.0 (p ∷ []) rest))

size-pairs : (d : Document) → size-Document d ≡ max (most size-Bson (values_of d.pairs)) 0 + 1
size-pairs d = search (rules, the_lemmas)

-- no value is deeper than the deepest
stands : (done rest : List (Key × Bson)) (k : Key) (v : Bson) → size-Bson v ≤ most size-Bson (values_of (done ++ (k, v) ∷ rest))
stands [] rest k v = omega arith
stands (p ∷ ps) rest k v = let h = stands ps rest k v in omega (arith, h)

pub deeper : (d : Document) (ps rest : List (Key × Bson)) (k : Key) (v : Bson) → AreLast d ps → ps ≡ (k, v) ∷ rest → size-Bson v < size-Document d
deeper d ps rest k v h e =
    let s = stands h.0 rest k v in
    let f = ap (λ qs. most size-Bson (values_of qs)) (h.1 ∙ ap (λ qs. h.0 ++ qs) e) in
    omega (arith, s, size-pairs d, f)

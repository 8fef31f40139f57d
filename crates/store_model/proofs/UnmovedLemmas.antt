-- If the state stays, every row stays as it was.
use Rattle.std.proofs.Common.{◌≡◌, inl, inr, ℕ, List, [], ◌∷◌, ◌++◌, length, ap, ◌∙◌, sym, arith, append-nil, length-append}
use Rattle.std.proofs.lemmas.List.{append_cancel_left}
use Rattle.bson_base.specs.Value.{Members}
use Rattle.store_model.specs.State.{list_of}
use Rattle.store_model.specs.Table.{DocumentRow, DocumentTable, state_of, documents_of, with_document, Follows}
use Rattle.store_model.proofs.RowLemmas.{list_of-state_of, documents_of-append, own_row}

-- the same documents under each name
alike : (a b : DocumentTable) → state_of b ≡ state_of a → (n : List ℕ) → documents_of b n ≡ documents_of a n
alike a b e n = sym (list_of-state_of b n) ∙ ap (λ s. list_of s n) e ∙ list_of-state_of a n

none_new : (a new : DocumentTable) → ((n : List ℕ) → documents_of (a ++ new) n ≡ documents_of a n) → a ++ new ≡ a
none_new a [] f = append-nil a
none_new a (r ∷ new) f = absurd (omega (arith, ap length (sym (documents_of-append a (r ∷ new) r.name) ∙ f r.name), length-append (documents_of a r.name) (documents_of (r ∷ new) r.name), ap length (own_row r new)))

none_gone : (front : DocumentTable) (r : DocumentRow) (back : DocumentTable) → ((n : List ℕ) → documents_of (front ++ back) n ≡ documents_of (front ++ r ∷ back) n) → ⊥
none_gone front r back f =
    let e : documents_of back r.name ≡ documents_of (r ∷ back) r.name =
    append_cancel_left (documents_of front r.name) (documents_of back r.name) (documents_of (r ∷ back) r.name)
    (sym (documents_of-append front back r.name) ∙ f r.name ∙ documents_of-append front (r ∷ back) r.name) in
    omega (arith, ap length (e ∙ own_row r back))

same_document : (front : DocumentTable) (r : DocumentRow) (back : DocumentTable) (d : Members) → ((n : List ℕ) → documents_of (front ++ with_document d r ∷ back) n ≡ documents_of (front ++ r ∷ back) n) → d ≡ r.document
same_document front r back d f =
    let e : documents_of (with_document d r ∷ back) r.name ≡ documents_of (r ∷ back) r.name =
    append_cancel_left (documents_of front r.name) (documents_of (with_document d r ∷ back) r.name) (documents_of (r ∷ back) r.name)
    (sym (documents_of-append front (with_document d r ∷ back) r.name) ∙ f r.name ∙ documents_of-append front (r ∷ back) r.name) in
    let g : d ∷ documents_of back r.name ≡ r.document ∷ documents_of back r.name = sym (own_row (with_document d r) back) ∙ e ∙ own_row r back in
    cc

pub unmoved : (a b : DocumentTable) → Follows a b → state_of b ≡ state_of a → b ≡ a
unmoved a b (inl (new, is, places)) e = is ∙ none_new a new (λ n. ap (λ t. documents_of t n) (sym is) ∙ alike a b e n)
unmoved a b (inr (front, r, back, was, inl is)) e = absurd (none_gone front r back (λ n. ap (λ t. documents_of t n) (sym is) ∙ alike a b e n ∙ ap (λ t. documents_of t n) was))
unmoved a b (inr (front, r, back, was, inr (d, is))) e =
    let same : d ≡ r.document = same_document front r back d (λ n. ap (λ t. documents_of t n) (sym is) ∙ alike a b e n ∙ ap (λ t. documents_of t n) was) in
    is ∙ ap (λ x. front ++ with_document x r ∷ back) same ∙ sym was

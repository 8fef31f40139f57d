-- What a question keeps, with one document more.
use Rattle.std.proofs.Common.{◌≡◌, inl, inr, ℕ, List, [], ◌∷◌, ◌++◌, Bool, Some, refl, ap, ◌∙◌, subst, arith}
use Rattle.std.specs.List.{AllByRecursion}
use Rattle.std.specs.Prelude.{◌≤◌, ◌↔◌, IsTrue}
use Rattle.bson_base.specs.Value.{Members, document, levels}
use Rattle.bson_bytes.specs.Encode.{encode}
use Rattle.bson_store.specs.Questions.{Spared}
use Rattle.store_question.specs.Views.{OfWritten}
use Rattle.store_model.specs.Filter.{Filter, Selects}
use Rattle.store_model.specs.Reading.{Documents}
use Rattle.store_model.specs.State.{IsKept, Picks}
use Rattle.store_question.specs.Asked.{Answers, Asked}
use Rattle.store_question.specs.Reads.{Reads, form_of}
use Rattle.store_asked.specs.Keeps.{TookAnswers}
use Rattle.store_question.specs.Keeps.{Keeps}
use Rattle.store_asked.specs.declared.answering.Answering.{Answering}

keeps_more : (q : Asked) (ds out : Documents) (d : Members) → Answers q (Some (document d)) → Keeps q ds out → Keeps q (ds ++ d ∷ []) (out ++ d ∷ [])
keeps_more q [] out d answers h = inl (answers, ([], ap (λ l. l ++ d ∷ []) h, refl))
keeps_more q (e ∷ ds) out d answers (inl h) = inl (h.0, (h.1.0 ++ d ∷ [], ap (λ l. l ++ d ∷ []) h.1.1, keeps_more q ds h.1.0 d answers h.1.2))
keeps_more q (e ∷ ds) out d answers (inr h) = inr (h.0, keeps_more q ds out d answers h.1)

keeps_same : (q : Asked) (ds out : Documents) (d : Members) → (Answers q (Some (document d)) → ⊥) → Keeps q ds out → Keeps q (ds ++ d ∷ []) out
keeps_same q [] out d differs h = inr (differs, h)
keeps_same q (e ∷ ds) out d differs (inl h) = inl (h.0, (h.1.0, h.1.1, keeps_same q ds h.1.0 d differs h.1.2))
keeps_same q (e ∷ ds) out d differs (inr h) = inr (h.0, keeps_same q ds out d differs h.1)

-- one document that was selected in front of the others
selected_first : (q : Asked) (ds rest kept : Documents) (d : Members) → ((out : Documents) → Keeps q rest out → Keeps q ds out) → Keeps q (d ∷ rest) kept → Keeps q (d ∷ ds) kept
selected_first q ds rest kept d more (inl h) = inl (h.0, (h.1.0, h.1.1, more h.1.0 h.1.2))
selected_first q ds rest kept d more (inr h) = inr (h.0, more kept h.1)

pub filter_in_front : (q : Asked) (f : Filter) (ds chosen kept : Documents) → AllByRecursion (λ (d : Members). Answers q (Some (document d)) → Selects f (document d)) ds → Picks f ds chosen → Keeps q chosen kept → Keeps q ds kept
filter_in_front q f [] chosen kept passes p k = subst (λ l. Keeps q l kept) p k
filter_in_front q f (d ∷ ds) chosen kept passes (inl p) k = selected_first q ds p.1.0 kept d (λ out h. filter_in_front q f ds p.1.0 out passes.1 p.1.2 h) (subst (λ l. Keeps q l kept) p.1.1 k)
filter_in_front q f (d ∷ ds) chosen kept passes (inr p) k = inr ((λ answers. p.0 (passes.0 answers)), filter_in_front q f ds chosen kept passes.1 p.1 k)

-- the same of documents of which none was left out of which P holds
pub kept_spared : (q : Asked) (P : Members → Type 0) (ds came kept : Documents) → AllByRecursion (λ (d : Members). Answers q (Some (document d)) → P d) ds → Spared P ds came → Keeps q came kept → Keeps q ds kept
kept_spared q P [] came kept passes s k = subst (λ l. Keeps q l kept) s k
kept_spared q P (d ∷ ds) came kept passes (inl s) k = selected_first q ds s.0 kept d (λ out h. kept_spared q P ds s.0 out passes.1 s.2 h) (subst (λ l. Keeps q l kept) s.1 k)
kept_spared q P (d ∷ ds) came kept passes (inr s) k = inr ((λ answers. s.0 (passes.0 answers)), kept_spared q P ds came kept passes.1 s.1 k)

-- what is told of a document that a store keeps
told : (bytes : List ℕ) (d : Members) (P : Members → Type 0) → IsKept d → bytes ≡ encode d → OfWritten bytes (λ e. levels (document e) ≤ 200 → P e) → P d
told bytes d P kept is h = h d kept.read.clean kept.read.sound is (omega (arith, kept.read.shallow))

module _ {T : Type 0} (took : T → T → Documents → Type 0) (first old : Answering T) (bytes : List ℕ) (out : Documents) (d : Members) (kept : IsKept d) (is : bytes ≡ encode d) (b : Bool)
    (tells : (q : Asked) → Reads (form_of old.question.now) q → OfWritten bytes (λ e. levels (document e) ≤ 200 → IsTrue b ↔ Answers q (Some (document e)))) where
  -- the document answers, and was handed on
  pub handed_on : (new : Answering T) → IsTrue b → (new.question.now ≡ old.question.now) → ((es : Documents) → took first.taker old.taker es → took first.taker new.taker (es ++ d ∷ [])) → TookAnswers took first old out → TookAnswers took first new (out ++ d ∷ [])
  handed_on new true_so same more h = (
    same ∙ h.0,
    λ q reads.
        let r = subst (λ x. Reads (form_of x) q) same reads in
        let k = h.1 q r in
        (k.0 ++ d ∷ [], keeps_more q out k.0 d ((told bytes d (λ e. IsTrue b ↔ Answers q (Some (document e))) kept is (tells q r)).0 true_so) k.1, more k.0 k.2),
  )

  -- it doesn't, and was passed over
  pub passed_over : (IsTrue b → ⊥) → TookAnswers took first old out → TookAnswers took first old (out ++ d ∷ [])
  passed_over not_so h = (
    h.0,
    λ q reads.
        let k = h.1 q reads in
        (k.0, keeps_same q out k.0 d (λ answers. not_so ((told bytes d (λ e. IsTrue b ↔ Answers q (Some (document e))) kept is (tells q reads)).1 answers)) k.1, k.2),
  )

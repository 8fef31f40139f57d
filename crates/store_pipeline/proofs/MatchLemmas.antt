-- The bodies that are left of those whose documents answer a question.
use Rattle.std.proofs.Common.{◌≡◌, ◌↔◌, inl, inr, ℕ, List, [], ◌∷◌, ◌++◌, Bool, true, false, IsTrue, Some, Vec, append_assoc, append-nil, refl, sym, subst}
use Rattle.std.specs.Prelude.{if◌then◌else◌}
use Rattle.std.specs.declared.alloc.Global.{Global}
use Rattle.bson_base.specs.Value.{document}
use Rattle.store_model.specs.Reading.{Documents}
use Rattle.store_question.specs.Asked.{Answers, Asked}
use Rattle.store_question.specs.Keeps.{Keeps}
use Rattle.store_question.specs.Reads.{Reads, form_of}
use Rattle.store_question.specs.declared.question.Question.{Question}
use Rattle.store_pipeline.specs.Bodies.{AreBodies, OfBody}
use Rattle.store_pipeline.specs.Faithful.{BodiesOf}

-- whether the document of a body answers
abbrev pub TellsOf : Question → List ℕ → Bool → Type 0
TellsOf t body b = (q : Asked) → Reads (form_of t) q → OfBody body (λ d. IsTrue b ↔ Answers q (Some (document d)))

-- the bodies that are left so far, of documents that are kept in front of those that are kept of the rest
pub record KeptSoFar (t : Question) (ds : Documents) (left rest : List (Vec ℕ Global)) : Type 0 where
  pub kept : Documents
  pub more : Documents
  pub keeps : (q : Asked) → Reads (form_of t) q → (out : Documents) → Keeps q more out → Keeps q ds (kept ++ out)
  pub are_left : AreBodies left kept
  pub are_more : AreBodies rest more

pub none_kept : (t : Question) (ds : Documents) (left rest bodies : List (Vec ℕ Global)) → left ≡ [] → rest ≡ bodies → AreBodies bodies ds → KeptSoFar t ds left rest
none_kept t ds left rest bodies e r are = record {
  kept = [];
  more = ds;
  keeps = λ q reads out k. k;
  are_left = subst (λ (l : List (Vec ℕ Global)). AreBodies l []) (sym e) tt;
  are_more = subst (λ (l : List (Vec ℕ Global)). AreBodies l ds) (sym r) are;
}

one_left : (left : List (Vec ℕ Global)) (es ds : Documents) (x : Vec ℕ Global) → AreBodies left es → AreBodies (x ∷ []) ds → AreBodies (left ++ x ∷ []) (es ++ ds)
one_left [] [] ds x are one = one
one_left [] (e ∷ es) ds x are one = absurd are
one_left (b ∷ left) [] ds x are one = absurd are
one_left (b ∷ left) (e ∷ es) ds x are one = (are.0, one_left left es ds x are.1 one)

module _ (t : Question) (ds : Documents) (left rest : List (Vec ℕ Global)) (x : Vec ℕ Global) (next : List (Vec ℕ Global)) (is : rest ≡ x ∷ next) where
  opened : KeptSoFar t ds left rest → KeptSoFar t ds left (x ∷ next)
  opened k = subst (KeptSoFar t ds left) is k

  more_kept : (k : KeptSoFar t ds left (x ∷ next)) (more : Documents) → k.more ≡ more → AreBodies (x ∷ next) more → TellsOf t x.items true → KeptSoFar t ds (left ++ x ∷ []) next
  more_kept k [] e are told = absurd are
  more_kept k (d ∷ more) e are told = record {
    kept = k.kept ++ d ∷ [];
    more = more;
    keeps = λ q reads out keeps.
        subst (Keeps q ds) (sym (append_assoc k.kept (d ∷ []) out))
        (k.keeps q reads (d ∷ out) (subst (λ (l : Documents). Keeps q l (d ∷ out)) (sym e) (inl ((told q reads d are.0).0 refl, (out, refl, keeps)))));
    are_left = one_left left k.kept (d ∷ []) x k.are_left (are.0, tt);
    are_more = are.1;
  }

  is_kept : KeptSoFar t ds left rest → TellsOf t x.items true → KeptSoFar t ds (left ++ x ∷ []) next
  is_kept so told = let k = opened so in more_kept k k.more refl k.are_more told

  less_kept : (k : KeptSoFar t ds left (x ∷ next)) (more : Documents) → k.more ≡ more → AreBodies (x ∷ next) more → TellsOf t x.items false → KeptSoFar t ds left next
  less_kept k [] e are told = absurd are
  less_kept k (d ∷ more) e are told = record {
    kept = k.kept;
    more = more;
    keeps = λ q reads out keeps.
        k.keeps q reads out (subst (λ (l : Documents). Keeps q l out) (sym e) (inr ((λ answers. let never : false ≡ true = (told q reads d are.0).1 answers in absurd cc), keeps)));
    are_left = k.are_left;
    are_more = are.1;
  }

  is_not_kept : KeptSoFar t ds left rest → TellsOf t x.items false → KeptSoFar t ds left next
  is_not_kept so told = let k = opened so in less_kept k k.more refl k.are_more told

  pub one_more : (held : Bool) (now : List (Vec ℕ Global)) → now ≡ (if held then left ++ x ∷ [] else left) → TellsOf t x.items held → KeptSoFar t ds left rest → KeptSoFar t ds now next
  one_more true now e told so = subst (λ (l : List (Vec ℕ Global)). KeptSoFar t ds l next) (sym e) (is_kept so told)
  one_more false now e told so = subst (λ (l : List (Vec ℕ Global)). KeptSoFar t ds l next) (sym e) (is_not_kept so told)

all_kept_of : (t : Question) (ds : Documents) (left : Vec (Vec ℕ Global) Global) (k : KeptSoFar t ds left.items []) (more : Documents) → k.more ≡ more → AreBodies [] more → BodiesOf (λ es. (q : Asked) → Reads (form_of t) q → Keeps q ds es) left
all_kept_of t ds left k [] e are = (
  k.kept,
  (λ q reads. subst (Keeps q ds) (append-nil k.kept) (k.keeps q reads [] (subst (λ (l : Documents). Keeps q l []) (sym e) refl))),
  k.are_left,
)
all_kept_of t ds left k (d ∷ more) e are = absurd are

pub all_kept : (t : Question) (ds : Documents) (left : Vec (Vec ℕ Global) Global) (rest : List (Vec ℕ Global)) → rest ≡ [] → KeptSoFar t ds left.items rest → BodiesOf (λ es. (q : Asked) → Reads (form_of t) q → Keeps q ds es) left
all_kept t ds left rest e so = let k = subst (KeptSoFar t ds left.items) e so in all_kept_of t ds left k k.more refl k.are_more

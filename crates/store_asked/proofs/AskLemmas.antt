-- What the taker behind a question took, as what the question keeps of all documents.
use Rattle.std.proofs.Common.{◌≡◌, inl, inr, ℕ, List, ap, sym, subst, Result, Ok, Err, Some}
use Rattle.bson_base.specs.Value.{Members, document}
use Rattle.store_table.specs.Rows.{TableRow}
use Rattle.bson_store.specs.Drafted.{drafted}
use Rattle.bson_store.specs.declared.draft.Draft.{Draft}
use Rattle.store_model.specs.Filter.{Filter}
use Rattle.store_model.specs.Reading.{Documents}
use Rattle.store_model.specs.Refusal.{refusal}
use Rattle.store_model.specs.State.{IsKept}
use Rattle.store_model.specs.Table.{documents_of}
use Rattle.store_model.specs.declared.error.ErrorKind.TheVariants.{BadName}
use Rattle.store_model.specs.declared.error.StoreError.{StoreError}
use Rattle.store_question.specs.Asked.{Answers, Asked}
use Rattle.store_question.specs.Reads.{Form, Reads, form_of}
use Rattle.bson_store.specs.Questions.{PassedFrom, PickedFrom}
use Rattle.bson_store.specs.Refusals.{IsDenied}
use Rattle.store_model.proofs.KeyLemmas.{rows_kept}
use Rattle.store_asked.specs.Asking.{AnsweredFrom, AskedDrafted, AskedFrom}
use Rattle.store_asked.specs.Fronts.{Fronts}
use Rattle.store_asked.specs.Keeps.{TookAnswers}
use Rattle.store_asked.specs.declared.answering.Answering.{Answering}
use Rattle.store_asked.proofs.FrontLemmas.{kept_hold, kept_pass}
use Rattle.store_asked.proofs.KeepLemmas.{filter_in_front, kept_spared}

-- the refusal of one result as that of another
abbrev pub refused_by : {A B : Type 0} → Result B StoreError → Result A StoreError → Result B StoreError
refused_by other (Err e) = Err e
refused_by other (Ok x) = other

module _ {T U : Type 0} (P : T → Documents → Type 0) (Q : U → Documents → Type 0) (n : List ℕ) (form : Form) (docs after : List TableRow) where
  -- what was taken, handed on as something else
  pub answered_as : (t : T) (u : U) → ((ds : Documents) → P t ds → Q u ds) → AskedFrom P n form (Ok t) docs after → AskedFrom Q n form (Ok u) docs after
  answered_as t u hands asked q reads = by (asked q reads)
    where
      by : AnsweredFrom P n q (Ok t) docs after → AnsweredFrom Q n q (Ok u) docs after
      by (inl h) = inl (h.0, record { same = h.1.same; taken = λ a shows. (let p = h.1.taken a shows in (p.0, p.1, hands p.0 p.2)); denied = λ a shows. tt })
      by (inr h) = let no : Ok t ≡ Err (refusal BadName) = h.1 in absurd (cc)

  pub refused_as : (e : StoreError) → AskedFrom P n form (Err e) docs after → AskedFrom Q n form (Err e) docs after
  refused_as e asked q reads = by (asked q reads)
    where
      by : AnsweredFrom P n q (Err e) docs after → AnsweredFrom Q n q (Err e) docs after
      by (inl h) = inl (h.0, record { same = h.1.same; taken = λ a shows. tt; denied = h.1.denied })
      by (inr h) = inr (h.0, ap (refused_by (Err e)) h.1, h.2)

  -- what was taken, spoiled by another refusal
  pub spoiled_as : (t : T) (e : StoreError) → IsDenied e → AskedFrom P n form (Ok t) docs after → AskedFrom Q n form (Err e) docs after
  spoiled_as t e denied asked q reads = by (asked q reads)
    where
      by : AnsweredFrom P n q (Ok t) docs after → AnsweredFrom Q n q (Err e) docs after
      by (inl h) = inl (h.0, record { same = h.1.same; taken = λ a shows. tt; denied = λ a shows. denied })
      by (inr h) = let no : Ok t ≡ Err (refusal BadName) = h.1 in absurd (cc)

-- The same in the rows that a draft would make.
module _ {T U : Type 0} (P : T → Documents → Type 0) (Q : U → Documents → Type 0) (n : List ℕ) (form : Form) (draft : Draft) (docs after : List TableRow) where
  pub drafted_as : (t : T) (u : U) → ((ds : Documents) → P t ds → Q u ds) → AskedDrafted draft P n form (Ok t) docs after → AskedDrafted draft Q n form (Ok u) docs after
  drafted_as t u hands h = record { same = h.same; asked = λ over. answered_as P Q n form (drafted draft docs) (drafted draft docs) t u hands (h.asked over) }

  pub drafted_refused : (e : StoreError) → AskedDrafted draft P n form (Err e) docs after → AskedDrafted draft Q n form (Err e) docs after
  drafted_refused e h = record { same = h.same; asked = λ over. refused_as P Q n form (drafted draft docs) (drafted draft docs) e (h.asked over) }

  pub drafted_spoiled : (t : T) (e : StoreError) → IsDenied e → AskedDrafted draft P n form (Ok t) docs after → AskedDrafted draft Q n form (Err e) docs after
  drafted_spoiled t e denied h = record { same = h.same; asked = λ over. spoiled_as P Q n form (drafted draft docs) (drafted draft docs) t e denied (h.asked over) }

-- Behind a filter that selects what answers.
module _ {T : Type 0} (took : T → T → Documents → Type 0) (first : Answering T) (f : Filter) (fronts : Fronts (form_of first.question.now) f) (n : List ℕ) (docs after : List TableRow) where
  pub all_taken : (t : Answering T) → PickedFrom (TookAnswers took first) n f (Ok t) docs after → AskedFrom (took first.taker) n (form_of first.question.now) (Ok t.taker) docs after
  all_taken t (inl h) q reads =
      inl (
        h.0,
        record {
          same = h.1.same;
          taken = λ a shows.
              let p = h.1.taken a shows in
              let k = p.2.1 q (subst (λ x. Reads (form_of x) q) (sym p.2.0) reads) in
              (k.0, filter_in_front q f (documents_of a n) p.0 k.0 (kept_pass q f (documents_of a n) (fronts q reads) (rows_kept a n shows.good)) p.1 k.1, k.2);
          denied = λ a shows. tt;
        },
      )
  all_taken t (inr h) q reads = let no : Ok t ≡ Err (refusal BadName) = h.1 in absurd (cc)

  pub none_taken : (e : StoreError) → PickedFrom (TookAnswers took first) n f (Err e) docs after → AskedFrom (took first.taker) n (form_of first.question.now) (Err e) docs after
  none_taken e (inl h) q reads = inl (h.0, record { same = h.1.same; taken = λ a shows. tt; denied = h.1.denied })
  none_taken e (inr h) q reads = inr (h.0, ap (refused_by (Err e)) h.1, h.2)

-- Of documents of which none was left out that answers.
module _ {T : Type 0} (took : T → T → Documents → Type 0) (first : Answering T) (P : Members → Type 0) (holds : (q : Asked) → Reads (form_of first.question.now) q → (d : Members) → IsKept d → Answers q (Some (document d)) → P d) (n : List ℕ)
    (docs after : List TableRow) where
  pub all_passed : (t : Answering T) → PassedFrom (TookAnswers took first) n P (Ok t) docs after → AskedFrom (took first.taker) n (form_of first.question.now) (Ok t.taker) docs after
  all_passed t (inl h) q reads =
      inl (
        h.0,
        record {
          same = h.1.same;
          taken = λ a shows.
              let p = h.1.taken a shows in
              let k = p.2.1 q (subst (λ x. Reads (form_of x) q) (sym p.2.0) reads) in
              (k.0, kept_spared q P (documents_of a n) p.0 k.0 (kept_hold q P (documents_of a n) (holds q reads) (rows_kept a n shows.good)) p.1 k.1, k.2);
          denied = λ a shows. tt;
        },
      )
  all_passed t (inr h) q reads = let no : Ok t ≡ Err (refusal BadName) = h.1 in absurd (cc)

  pub none_passed : (e : StoreError) → PassedFrom (TookAnswers took first) n P (Err e) docs after → AskedFrom (took first.taker) n (form_of first.question.now) (Err e) docs after
  none_passed e (inl h) q reads = inl (h.0, record { same = h.1.same; taken = λ a shows. tt; denied = h.1.denied })
  none_passed e (inr h) q reads = inr (h.0, ap (refused_by (Err e)) h.1, h.2)

-- What a taker took of bodies, and of the rows that a draft would make.
use Rattle.std.proofs.Common.{◌≡◌, inl, inr, ◌+◌, ◌<◌, ◌≤◌, ℕ, zero, suc, List, [], ◌∷◌, ◌++◌, Vec, Global, Result, Ok, Err, drop, get_or, length, map, take, refl, ap, subst, sym, ◌∙◌, arith}
use Rattle.std.proofs.lemmas.List.{take-append-drop, take_all}
use Rattle.bson_base.specs.Value.{Members}
use Rattle.bson_bytes.specs.Encode.{encode}
use Rattle.bson_store.specs.Drafting.{HoldsDrafted}
use Rattle.bson_store.specs.Export.{bytes_of_each}
use Rattle.bson_store.specs.Questions.{IsSettled}
use Rattle.bson_store.specs.Refusals.{IsDenied}
use Rattle.bson_store.specs.declared.draft.Draft.{Draft}
use Rattle.store_model.proofs.KeyLemmas.{rows_kept}
use Rattle.store_model.specs.Reading.{Documents}
use Rattle.store_model.specs.Refusal.{refusal}
use Rattle.store_model.specs.State.{AreKept, IsKept}
use Rattle.store_model.specs.Table.{documents_of}
use Rattle.store_model.specs.declared.error.ErrorKind.TheVariants.{BadName}
use Rattle.store_model.specs.declared.error.StoreError.{StoreError}
use Rattle.store_question.specs.Reads.{Reads, form_of}
use Rattle.store_table.specs.Rows.{TableRow}
use Rattle.store_asked.specs.Asking.{AskedDrafted}
use Rattle.store_asked.specs.Keeps.{TookAnswers}
use Rattle.store_asked.specs.declared.answering.Answering.{Answering}
use Rattle.store_asked.proofs.AskLemmas.{refused_by}

abbrev Bodies : Type 0
Bodies = List (Vec ℕ Global)

-- the document of the body at a place, behind those of the bodies before it
pub record IsTurn (ds : Documents) (i : ℕ) (body : List ℕ) : Type 0 where
  pub document : Members
  pub is : body ≡ encode document
  pub kept : IsKept document
  pub more : take (suc i) ds ≡ take i ds ++ document ∷ []

pub turn_at : (bodies : Bodies) (ds : Documents) (i : ℕ) (d : Vec ℕ Global) → i < length bodies → bytes_of_each bodies ≡ map encode ds → AreKept ds → IsTurn ds i (get_or bodies i d).items
turn_at [] ds i d inside are kept = absurd (omega (arith, inside))
turn_at (b ∷ bodies) [] i d inside are kept = absurd (cc)
turn_at (b ∷ bodies) (e ∷ ds) zero d inside are kept = let is : b.items ≡ encode e = cc in record { document = e; is = is; kept = kept.0; more = refl }
turn_at (b ∷ bodies) (e ∷ ds) (suc i) d inside are kept =
    let rest : bytes_of_each bodies ≡ map encode ds = cc in
    let t = turn_at bodies ds i d (omega (arith, inside)) rest kept.1 in
    record { document = t.document; is = t.is; kept = t.kept; more = ap (λ l. e ∷ l) t.more }

pub taken_on : (ds : Documents) (i : ℕ) (body : List ℕ) (t : IsTurn ds i body) → take (i + 1) ds ≡ take i ds ++ t.document ∷ []
taken_on ds i body t = let next : i + 1 ≡ suc i = omega arith in ap (λ k. take k ds) next ∙ t.more

as_many : (bodies : Bodies) (ds : Documents) → bytes_of_each bodies ≡ map encode ds → length ds ≡ length bodies
as_many [] [] are = refl
as_many [] (e ∷ ds) are = absurd (cc)
as_many (b ∷ bodies) [] are = absurd (cc)
as_many (b ∷ bodies) (e ∷ ds) are = let rest : bytes_of_each bodies ≡ map encode ds = cc in ap suc (as_many bodies ds rest)

kept_behind : (i : ℕ) (ds : Documents) → AreKept ds → AreKept (drop i ds)
kept_behind zero ds kept = kept
kept_behind (suc i) [] kept = tt
kept_behind (suc i) (d ∷ ds) kept = kept_behind i ds kept.1

module _ (took : Documents → Type 0) (bodies : Bodies) (ds : Documents) (kept : AreKept ds) (are : bytes_of_each bodies ≡ map encode ds) (i : ℕ) (h : took (take i ds)) where
  -- no body is left
  pub took_whole : length bodies ≤ i → took ds
  took_whole all = subst took (take_all i ds (omega (arith, all, as_many bodies ds are))) h

  -- what is left changes nothing
  pub took_settled : IsSettled took → took ds
  took_settled settled = subst took (take-append-drop i ds) (settled (take i ds) (drop i ds) (kept_behind i ds kept) h)

-- ---- the rows that a draft would make

module _ {T : Type 0} (took : T → T → Documents → Type 0) (first : Answering T) (draft : Draft) (n : List ℕ) (docs after : List TableRow) where
  abbrev Asks : Result T StoreError → Type 0
  Asks result = AskedDrafted draft (took first.taker) n (form_of first.question.now) result docs after

  -- the bodies were refused
  pub unheld : (e : StoreError) → HoldsDrafted draft n (Err e) docs after → Asks (Err e)
  unheld e (inl h) = record { same = h.1.same; asked = λ over q reads. inl (h.0, record { same = refl; taken = λ a s. tt; denied = λ a s. h.1.denied }) }
  unheld e (inr h) = record { same = h.2; asked = λ over q reads. inr (h.0, ap (refused_by (Err e)) h.1, refl) }

  module _ (bodies : Vec (Vec ℕ Global) Global) (h : HoldsDrafted draft n (Ok bodies) docs after) where
    abbrev Took : Answering T → Type 0
    Took t = (ds : Documents) → AreKept ds → bytes_of_each bodies.items ≡ map encode ds → TookAnswers took first t ds

    -- they were taken
    pub held_taken : (t : Answering T) → Took t → Asks (Ok t.taker)
    held_taken t taken = by h
      where
        by : HoldsDrafted draft n (Ok bodies) docs after → Asks (Ok t.taker)
        by (inl p) = record {
          same = p.1.same;
          asked = λ over q reads.
              inl (
                p.0,
                record {
                  same = refl;
                  taken = λ a s.
                      let w = taken (documents_of a n) (rows_kept a n s.good) (p.1.bodies a s) in
                      let k = w.1 q (subst (λ x. Reads (form_of x) q) (sym w.0) reads) in
                      (k.0, k.1, k.2);
                  denied = λ a s. tt;
                },
              );
        }
        by (inr p) = let no : Ok bodies ≡ Err (refusal BadName) = p.1 in absurd (cc)

    -- the taker refused
    pub held_refused : (e : StoreError) → IsDenied e → Asks (Err e)
    held_refused e denied = by h
      where
        by : HoldsDrafted draft n (Ok bodies) docs after → Asks (Err e)
        by (inl p) = record { same = p.1.same; asked = λ over q reads. inl (p.0, record { same = refl; taken = λ a s. tt; denied = λ a s. denied }) }
        by (inr p) = let no : Ok bodies ≡ Err (refusal BadName) = p.1 in absurd (cc)

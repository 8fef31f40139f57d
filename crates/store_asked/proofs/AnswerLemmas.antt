-- Whether a value answers a question is one or the other, so of all documents there are those that a question keeps.
use Rattle.std.proofs.Common.{◌≡◌, inl, inr, ℕ, List, [], ◌∷◌, ◌++◌, Bool, true, false, Option, Some, None, refl, sym, subst, ap, true≢false}
use Rattle.std.specs.Prelude.{IsSomeAnd, IsTrue, MatchOption, option_and_then, unwrap_or}
use Rattle.bson_base.specs.Value.{Value, scalar, array, document, scoped_code, Members, no_members, member, look_up, null, value_kind}
use Rattle.bson_order.specs.Wholes.{part_of}
use Rattle.store_model.specs.Filter.{Path, pairs, under_places}
use Rattle.store_model.specs.Reading.{Documents}
use Rattle.store_model.specs.State.{AreKept}
use Rattle.store_question.specs.Asked.{Asked, Askeds, at, whole, exists, is_of, lies, has_size, leaves, begins, matches, has_item, no, all_of, any_of, no_asked, asked, Along, Answers, AnswersAll, AnswersAny, AnyMember, AtEnd, AtMember, AtPlace, HasItem, HasSize, IntoDocument, Through, Under, begins_so, count, leaves_so, lies_to, text_in}
use Rattle.store_question.specs.Keeps.{Keeps}
use Rattle.store_question.specs.Patterns.{matches_so}
use Rattle.bson_store.proofs.DecideLemmas.{Told, both, either, denial, nat_told, bytes_told, kind_told}

-- ---- one value

truth_told : (b : Bool) → Told (IsTrue b)
truth_told true = inl refl
truth_told false = inr (λ e. true≢false (sym e))

any_told : (Q : List ℕ → Value → Type 0) → ((k : List ℕ) (v : Value) → Told (Q k v)) → (ms : Members) → Told (AnyMember Q ms)
any_told Q tells no_members = inr (λ h. absurd h)
any_told Q tells (member k v ms) = either (tells k v) (any_told Q tells ms)

item_told : (Q : Value → Type 0) → ((v : Value) → Told (Q v)) → (o : Option Value) → Told (HasItem Q o)
item_told Q tells (Some (array vs)) = any_told (λ k v. Q v) (λ k v. tells v) (under_places 0 vs)
item_told Q tells (Some (scalar s)) = inr (λ h. absurd h)
item_told Q tells (Some (document ms)) = inr (λ h. absurd h)
item_told Q tells (Some (scoped_code t ms)) = inr (λ h. absurd h)
item_told Q tells None = inr (λ h. absurd h)

size_told : (n : ℕ) (o : Option Value) → Told (HasSize n o)
size_told n (Some (array vs)) = nat_told (count (under_places 0 vs)) n
size_told n (Some (scalar s)) = inr (λ h. absurd h)
size_told n (Some (document ms)) = inr (λ h. absurd h)
size_told n (Some (scoped_code t ms)) = inr (λ h. absurd h)
size_told n None = inr (λ h. absurd h)

there_told : (P : Value → Type 0) → ((v : Value) → Told (P v)) → (o : Option Value) → Told (IsSomeAnd o P)
there_told P tells None = inr (λ p. absurd p)
there_told P tells (Some v) = tells v

-- ---- along a path

module _ (opens : Bool) (P : Option Value → Type 0) (tells : (o : Option Value) → Told (P o)) where
  end_told : (v : Value) → Told (AtEnd opens P v)
  end_told v = either (both (truth_told opens) (item_told (λ w. P (Some w)) (λ w. tells (Some w)) (Some v))) (tells (Some v))

  under_told : (k : List ℕ) (On : Value → Type 0) → ((v : Value) → Told (On v)) → (ms : Members) → Told (Under opens P k On ms)
  under_told k On on ms = by (look_up k ms)
    where
      by : (o : Option Value) → Told (MatchOption o (P None) On)
      by None = tells None
      by (Some v) = on v

  into_told : (k : List ℕ) (On : Value → Type 0) → ((v : Value) → Told (On v)) → (v : Value) → Told (IntoDocument opens P k On v)
  into_told k On on (document ms) = under_told k On on ms
  into_told k On on (scalar s) = inr (λ h. absurd h)
  into_told k On on (array vs) = inr (λ h. absurd h)
  into_told k On on (scoped_code t ms) = inr (λ h. absurd h)

  through_told : (k : List ℕ) (On Here : Value → Type 0) → ((v : Value) → Told (On v)) → ((v : Value) → Told (Here v)) → (place : List ℕ) (v : Value) → Told (Through opens P k On Here place v)
  through_told k On Here on here place v = either (into_told k On on v) (both (bytes_told place k) (here v))

  mutual
    member_told : (path : Path) (v : Value) → Told (AtMember opens P path v)
    member_told [] v = end_told v
    member_told (k ∷ path) (document ms) = under_told k (AtMember opens P path) (member_told path) ms
    member_told (k ∷ path) (array vs) = any_told (Through opens P k (AtMember opens P path) (AtPlace opens P path)) (through_told k (AtMember opens P path) (AtPlace opens P path) (member_told path) (place_told path)) (under_places 0 vs)
    member_told (k ∷ path) (scalar s) = tells None
    member_told (k ∷ path) (scoped_code t ms) = tells None

    place_told : (path : Path) (v : Value) → Told (AtPlace opens P path v)
    place_told [] v = tells (Some v)
    place_told (k ∷ path) (document ms) = under_told k (AtMember opens P path) (member_told path) ms
    place_told (k ∷ path) (array vs) = any_told (Through opens P k (AtMember opens P path) (AtPlace opens P path)) (through_told k (AtMember opens P path) (AtPlace opens P path) (member_told path) (place_told path)) (under_places 0 vs)
    place_told (k ∷ path) (scalar s) = inr (λ h. absurd h)
    place_told (k ∷ path) (scoped_code t ms) = inr (λ h. absurd h)

  along_told : (path : Path) (o : Option Value) → Told (Along opens P path o)
  along_told [] o = tells o
  along_told (k ∷ path) None = tells None
  along_told (k ∷ path) (Some v) = under_told k (AtMember opens P path) (member_told path) (pairs v)

-- ---- a question

mutual
  pub answers_told : (q : Asked) (o : Option Value) → Told (Answers q o)
  answers_told (at p q) o = along_told true (Answers q) (answers_told q) p o
  answers_told (whole p q) o = along_told false (Answers q) (answers_told q) p o
  answers_told exists o = there_told (λ v. Unit {0}) (λ v. inl tt) o
  answers_told (is_of k) o = there_told (λ v. value_kind v ≡ k) (λ v. kind_told (value_kind v) k) o
  answers_told (lies c w) o = truth_told (lies_to c (unwrap_or o (scalar null)) w)
  answers_told (has_size n) o = size_told n o
  answers_told (leaves d r) o = truth_told (leaves_so d r (option_and_then part_of o))
  answers_told (begins t) o = truth_told (begins_so t (option_and_then text_in o))
  answers_told (matches options source) o = truth_told (matches_so options source (option_and_then text_in o))
  answers_told (has_item q) o = item_told (λ v. Answers q (Some v)) (λ v. answers_told q (Some v)) o
  answers_told (no q) o = denial (answers_told q o)
  answers_told (all_of qs) o = all_told qs o
  answers_told (any_of qs) o = some_told qs o

  all_told : (qs : Askeds) (o : Option Value) → Told (AnswersAll qs o)
  all_told no_asked o = inl tt
  all_told (asked q qs) o = both (answers_told q o) (all_told qs o)

  some_told : (qs : Askeds) (o : Option Value) → Told (AnswersAny qs o)
  some_told no_asked o = inr (λ p. absurd p)
  some_told (asked q qs) o = either (answers_told q o) (some_told qs o)

-- ---- all documents

-- what a question keeps of the documents, which a store keeps
pub record Keeping (q : Asked) (ds : Documents) : Type 0 where
  pub out : Documents
  pub keeps : Keeps q ds out
  pub kept : AreKept out

pub keeping : (q : Asked) (ds : Documents) → AreKept ds → Keeping q ds
keeping q [] kept = record { out = []; keeps = refl; kept = tt }
keeping q (d ∷ ds) kept = by (answers_told q (Some (document d))) (keeping q ds kept.1)
  where
    by : Told (Answers q (Some (document d))) → Keeping q ds → Keeping q (d ∷ ds)
    by (inl answers) s = record { out = d ∷ s.out; keeps = inl (answers, (s.out, refl, s.keeps)); kept = (kept.0, s.kept) }
    by (inr differs) s = record { out = s.out; keeps = inr (differs, s.keeps); kept = s.kept }

-- what it keeps of the first and of those behind them
pub keeps_both : (q : Asked) (ds es out more : Documents) → Keeps q ds out → Keeps q es more → Keeps q (ds ++ es) (out ++ more)
keeps_both q [] es out more h k = subst (λ l. Keeps q es (l ++ more)) (sym h) k
keeps_both q (d ∷ ds) es out more (inl h) k = inl (h.0, (h.1.0 ++ more, ap (λ l. l ++ more) h.1.1, keeps_both q ds es h.1.0 more h.1.2 k))
keeps_both q (d ∷ ds) es out more (inr h) k = inr (h.0, keeps_both q ds es out more h.1 k)

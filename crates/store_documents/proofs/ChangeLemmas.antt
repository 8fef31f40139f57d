-- Written documents with one member changed.
use Rattle.std.proofs.Common.{◌≡◌, inl, inr, ℕ, ◌≤◌, List, [], ◌∷◌, Bool, true, false, cond, Vec, Global, refl, ap, ◌∙◌, sym, subst, arith}
use Rattle.std.specs.Prelude.{bytes_eq, is_some, IfOk, MatchResult, Result, Ok, Err}
use Rattle.bson_base.specs.Value.{Value, document, Members, member, has_key, levels, look_up, put, without, MembersHaveDistinctKeys}
use Rattle.bson_meaning.specs.Gate.{level_limit}
use Rattle.bson_model.specs.View.{members_of}
use Rattle.bson_model.specs.Keyed.{has_key as has_pair, put as put_pair, without as without_pair}
use Rattle.bson_model.proofs.EqualLemmas.{look_up-members_of}
use Rattle.bson_raw.proofs.SettleLemmas.{members_of_put}
use Rattle.store_model.specs.State.{IsKept}
use Rattle.store_model.specs.declared.error.ErrorKind.{ErrorKind}
use Rattle.store_model.specs.declared.error.ErrorKind.TheVariants.{Memory}
use Rattle.store_model.proofs.LevelLemmas.{clean_plain, read_without}
use Rattle.store_model.specs.Reading.{IsUnkeepable}
use Rattle.store_documents.specs.Bodies.{AnswersChanged, IsBody, IsUnwritten}
use Rattle.store_model.proofs.KeptLemmas.{without_size}
use Rattle.bson_base.proofs.MemberLemmas.{equal_keys, without_absent}

-- the bytes of a changed document, or why there are none
pub changed : (d : Members) (r : Result (Vec ℕ Global) ErrorKind) → levels (document d) ≤ level_limit → MatchResult r (λ (b : Vec ℕ Global). IsBody b.items d) (IsUnwritten d) → AnswersChanged d r
changed d (Ok b) low h = (record { shallow = low; plain = h.1; small = h.2 }, h.0)
changed d (Err k) low (inl (is, unplain)) = inl (subst (IsUnkeepable d) (sym is) (low, unplain))
changed d (Err k) low (inr (inl (is, plain, long))) = inl (subst (IsUnkeepable d) (sym is) (low, plain, long))
changed d (Err k) low (inr (inr is)) = inr is

-- what is known whatever was returned
pub known : {A B P : Type 0} (r : Result A B) → P → IfOk r (λ _. P)
known (Ok a) p = p
known (Err b) p = tt

-- ---- a member taken out

members_of_without : (k : List ℕ) (ps : List (List ℕ × Value)) → MembersHaveDistinctKeys (members_of ps) → members_of (without_pair k ps) ≡ without k (members_of ps)
members_of_without k [] d = refl
members_of_without k (p ∷ ps) d = by (bytes_eq k p.0) refl (members_of_without k ps d.2)
  where
    by : (b : Bool) → bytes_eq k p.0 ≡ b → members_of (without_pair k ps) ≡ without k (members_of ps)
        → members_of (cond b ps (p ∷ without_pair k ps)) ≡ cond b (without k (members_of ps)) (member p.0 p.1 (without k (members_of ps)))
    by true e h = sym (without_absent k (members_of ps) (ap (λ l. look_up l (members_of ps)) (equal_keys k p.0 e) ∙ d.0))
    by false e h = ap (member p.0 p.1) h

pub rest_is : (k : List ℕ) (d : Members) (ps qs : List (List ℕ × Value)) → MembersHaveDistinctKeys (members_of ps) → qs ≡ without_pair k ps → members_of ps ≡ d → members_of qs ≡ without k d
rest_is k d ps qs once is same = ap members_of is ∙ members_of_without k ps once ∙ ap (without k) same

pub there_is : (k : List ℕ) (d : Members) (ps : List (List ℕ × Value)) (b : Bool) → b ≡ has_pair k ps → members_of ps ≡ d → b ≡ has_key k d
there_is k d ps b is same = is ∙ sym (ap is_some (look_up-members_of k ps)) ∙ ap (has_key k) same

-- ---- a member put in

pub value_put : (k l : List ℕ) (v w : Value) (ps qs : List (List ℕ × Value)) → k ≡ l → v ≡ w → qs ≡ put_pair k v ps → members_of qs ≡ put l w (members_of ps)
value_put k l v w ps qs i j is = ap members_of is ∙ members_of_put k v ps ∙ ap (λ x. put x v (members_of ps)) i ∙ ap (λ x. put l x (members_of ps)) j

-- a kept document without a member can be written
pub written_without : (k : List ℕ) (d : Members) (x : ErrorKind) → IsKept d → IsUnwritten (without k d) x → x ≡ Memory
written_without k d x kept (inl nul) = absurd (nul.1 (clean_plain (without k d) (read_without k d kept.read).clean))
written_without k d x kept (inr (inl long)) = absurd (omega (arith, long.2, without_size k d, kept.small))
written_without k d x kept (inr (inr is)) = is

-- Documents with a key set, removed, or kept with others: what is under each key, and what they keep.
use Rattle.std.proofs.Common.{◌≡◌, ℕ, List, Bool, true, false, cond, Option, Some, None, refl, ap, ◌∙◌, sym, subst}
use Rattle.std.specs.Prelude.{bytes_eq}
use Rattle.std.specs.List.{list_any}
use Rattle.bson_meaning.specs.Meaning.{Same, SameOption}
use Rattle.store_model.specs.Reading.{IsRead}
use Rattle.store_model.specs.State.{only}
use Rattle.bson_base.specs.Value.{Scalar, Value, document, Members, no_members, member, look_up, put, without, HasDistinctKeys, MembersHaveDistinctKeys, EachMember}
use Rattle.store_model.proofs.DocumentLemmas.{same_under}
use Rattle.bson_base.proofs.MemberLemmas.{equal_keys, none_either, look_up-put, look_up-without, put_distinct, without_distinct}
use Rattle.bson_meaning.proofs.PairwiseLemmas.{once_here, from_alike}

-- ---- what is under a key

pub look_up-only : (q : List ℕ) (ks : List (List ℕ)) (d : Members) → look_up q (only ks d) ≡ cond (list_any (bytes_eq q) ks) (look_up q d) None
look_up-only q ks no_members = none_either (list_any (bytes_eq q) ks)
look_up-only q ks (member l v ms) = by (look_up-only q ks ms) (list_any (bytes_eq l) ks) refl
  where
    among : List ℕ → Bool
    among k = list_any (bytes_eq k) ks

    kept : (b : Bool) → bytes_eq q l ≡ b → list_any (bytes_eq l) ks ≡ true → look_up q (only ks ms) ≡ cond (list_any (bytes_eq q) ks) (look_up q ms) None
        → cond b (Some v) (look_up q (only ks ms)) ≡ cond (list_any (bytes_eq q) ks) (cond b (Some v) (look_up q ms)) None
    kept true a e r = sym (ap (λ c. cond c (Some v) None) (ap (λ k. list_any (bytes_eq k) ks) (equal_keys q l a) ∙ e))
    kept false a e r = r

    left : (b : Bool) → bytes_eq q l ≡ b → list_any (bytes_eq l) ks ≡ false → look_up q (only ks ms) ≡ cond (list_any (bytes_eq q) ks) (look_up q ms) None
        → look_up q (only ks ms) ≡ cond (list_any (bytes_eq q) ks) (cond b (Some v) (look_up q ms)) None
    left true a e r =
        let i : list_any (bytes_eq q) ks ≡ false = ap (λ k. list_any (bytes_eq k) ks) (equal_keys q l a) ∙ e in
        r ∙ ap (λ c. cond c (look_up q ms) None) i ∙ sym (ap (λ c. cond c (Some v) None) i)
    left false a e r = r

    by : look_up q (only ks ms) ≡ cond (list_any (bytes_eq q) ks) (look_up q ms) None → (c : Bool) → list_any (bytes_eq l) ks ≡ c
        → look_up q (cond c (member l v (only ks ms)) (only ks ms)) ≡ cond (list_any (bytes_eq q) ks) (look_up q (member l v ms)) None
    by r true e = kept (bytes_eq q l) refl e r
    by r false e = left (bytes_eq q l) refl e r

-- ---- documents from what is under their keys

pub same_document : (ms ns : Members) → MembersHaveDistinctKeys ms → ((q : List ℕ) → SameOption (look_up q ms) (look_up q ns)) → Same (document ms) (document ns)
same_document ms ns d = from_alike ms ns (once_here ms d)

-- ---- distinct keys

pub only_distinct : (ks : List (List ℕ)) (d : Members) → MembersHaveDistinctKeys d → MembersHaveDistinctKeys (only ks d)
only_distinct ks no_members h = tt
only_distinct ks (member l v ms) h = by (only_distinct ks ms h.2) (list_any (bytes_eq l) ks)
  where
    by : MembersHaveDistinctKeys (only ks ms) → (b : Bool) → MembersHaveDistinctKeys (cond b (member l v (only ks ms)) (only ks ms))
    by r true = (look_up-only l ks ms ∙ ap (λ o. cond (list_any (bytes_eq l) ks) o None) h.0 ∙ sym (none_either (list_any (bytes_eq l) ks)), h.1, r)
    by r false = r

-- ---- what holds of each part

module _ (K : List ℕ → Type 0) (S : Scalar → Type 0) where
  pub only_each : (ks : List (List ℕ)) (d : Members) → EachMember K S d → EachMember K S (only ks d)
  only_each ks no_members h = tt
  only_each ks (member l v ms) h = by (only_each ks ms h.2) (list_any (bytes_eq l) ks)
    where
      by : EachMember K S (only ks ms) → (c : Bool) → EachMember K S (cond c (member l v (only ks ms)) (only ks ms))
      by r true = (h.0, h.1, r)
      by r false = r

-- ---- edits of documents that mean the same

pub same_without : (k : List ℕ) (d e : Members) → Same (document d) (document e) → IsRead d → IsRead e → Same (document (without k d)) (document (without k e))
same_without k d e h a b = same_document _ _ (without_distinct k d a.sound.distinct) (λ q.
    subst (λ o. SameOption o (look_up q (without k e))) (sym (look_up-without q k d))
    (subst (SameOption (cond (bytes_eq q k) None (look_up q d))) (sym (look_up-without q k e)) (by (bytes_eq q k) (look_up q d) (look_up q e) (same_under d e q h))))
  where
    by : (c : Bool) (o p : Option Value) → SameOption o p → SameOption (cond c None o) (cond c None p)
    by true o p s = tt
    by false o p s = s

pub same_only : (ks : List (List ℕ)) (d e : Members) → Same (document d) (document e) → IsRead d → IsRead e → Same (document (only ks d)) (document (only ks e))
same_only ks d e h a b = same_document _ _ (only_distinct ks d a.sound.distinct) (λ q.
    subst (λ o. SameOption o (look_up q (only ks e))) (sym (look_up-only q ks d))
    (subst (SameOption (cond (list_any (bytes_eq q) ks) (look_up q d) None)) (sym (look_up-only q ks e)) (by (list_any (bytes_eq q) ks) (look_up q d) (look_up q e) (same_under d e q h))))
  where
    by : (c : Bool) (o p : Option Value) → SameOption o p → SameOption (cond c o None) (cond c p None)
    by true o p s = s
    by false o p s = tt

pub same_put : (k : List ℕ) (v w : Value) (d e : Members) → Same v w → HasDistinctKeys v → Same (document d) (document e) → IsRead d → IsRead e → Same (document (put k v d)) (document (put k w e))
same_put k v w d e i dv h a b = same_document _ _ (put_distinct k v d dv a.sound.distinct) (λ q.
    subst (λ o. SameOption o (look_up q (put k w e))) (sym (look_up-put q k v d))
    (subst (SameOption (cond (bytes_eq q k) (Some v) (look_up q d))) (sym (look_up-put q k w e)) (by (bytes_eq q k) (look_up q d) (look_up q e) (same_under d e q h))))
  where
    by : (c : Bool) (o p : Option Value) → SameOption o p → SameOption (cond c (Some v) o) (cond c (Some w) p)
    by true o p s = i
    by false o p s = s

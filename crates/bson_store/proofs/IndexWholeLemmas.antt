-- Indexes are kept through changes of the rows, one after the other.
use Rattle.std.proofs.Common.{◌≡◌, inl, ◌++◌, ◌∷◌, [], ℕ, ℤ, List, Bool, true, false, cond, String, Vec, Global, string_bytes, refl, sym, ap, subst, ◌∙◌}
use Rattle.std.proofs.lemmas.Bool.Decides.{Decides-int_eq}
use Rattle.bson_store.specs.Find.{Finds, Misses, kinds_of}
use Rattle.bson_store.specs.declared.indexed.indexes.Indexes.{Indexes}
use Rattle.store_table.specs.Change.{with_change}
use Rattle.store_table.specs.Rows.{TableRow, is_at, with_body_at}
use Rattle.store_table.specs.declared.change.Change.{Change}
use Rattle.store_table.specs.declared.change.Change.TheVariants.{Add, Rewrite, Remove}
use Rattle.bson_store.specs.Changing.{Forgets, ForgetsRemoved, GivesBody, NoneGives, place_of}
use Rattle.bson_store.specs.Kept.{FindsRow, FindsRows, StayOrGo}
use Rattle.bson_store.proofs.KeepLemmas.{noted_more, removed}

-- a row gets another body, which every index finds at its place
rewritten_any : (ixs jxs : Indexes) (place : ℤ) (body : List ℕ) (docs : List TableRow) → ((c : List ℕ) (p : ℤ) (b : List ℕ) → (p ≡ place → ⊥) → Finds ixs c p b → Finds jxs c p b) → ((c : List ℕ) → Finds jxs c place body)
    → FindsRows ixs docs → FindsRows jxs (with_body_at place body docs)
rewritten_any ixs jxs place body [] kept noted h = tt
rewritten_any ixs jxs place body (d ∷ docs) kept noted h = (by (is_at place d) refl, rewritten_any ixs jxs place body docs kept noted h.1)
  where
    by : (b : Bool) → is_at place d ≡ b → FindsRow jxs (cond b (record d { body = body }) d)
    by true e = subst (λ p. Finds jxs d.coll p body) (sym ((Decides-int_eq d.place place).0 e)) (noted d.coll)
    by false e = kept d.coll d.place d.body (λ same. let t = (Decides-int_eq d.place place).1 same in let x : true ≡ false = sym t ∙ e in absurd (cc)) h.0

pub change_added : (ixs jxs : Indexes) (x : Change) (p q : ℤ) (coll : String Global) (idkey body : Vec ℕ Global) (c b : List ℕ) (docs : List TableRow) → x ≡ Add p coll idkey body → q ≡ p → c ≡ string_bytes coll → b ≡ body.items
    → ((k : List ℕ) (r : ℤ) (e : List ℕ) → Finds ixs k r e → Finds jxs k r e) → Finds jxs c q b → FindsRows ixs docs → FindsRows jxs (with_change x docs)
change_added ixs jxs x p q coll idkey body c b docs is at named held kept noted h =
    rw is (noted_more ixs jxs docs _ (record { place = p; coll = string_bytes coll; idkey = idkey.items; body = body.items }) refl kept (rw (sym at, sym named, sym held) noted) h)

pub change_rewritten : (ixs jxs : Indexes) (x : Change) (p q : ℤ) (old body : Vec ℕ Global) (b : List ℕ) (docs : List TableRow) → x ≡ Rewrite p old body → q ≡ p → b ≡ body.items
    → ((k : List ℕ) (r : ℤ) (e : List ℕ) → (r ≡ q → ⊥) → Finds ixs k r e → Finds jxs k r e) → ((k : List ℕ) → Finds jxs k q b) → FindsRows ixs docs → FindsRows jxs (with_change x docs)
change_rewritten ixs jxs x p q old body b docs is at held kept noted h =
    rw is (subst (λ (e : List ℕ). FindsRows jxs (with_body_at p e docs)) held (subst (λ (r : ℤ). FindsRows jxs (with_body_at r b docs)) at (rewritten_any ixs jxs q b docs kept noted h)))

pub change_removed : (ixs jxs : Indexes) (x : Change) (p q : ℤ) (old : Vec ℕ Global) (docs : List TableRow) → x ≡ Remove p old → q ≡ p
    → ((k : List ℕ) (r : ℤ) (e : List ℕ) → (r ≡ q → ⊥) → Finds ixs k r e → Finds jxs k r e) → FindsRows ixs docs → FindsRows jxs (with_change x docs)
change_removed ixs jxs x p q old docs is at kept h = rw (is, sym at) (removed ixs jxs q docs kept h)

-- ---- places that are forgotten

pub none_before : (p : ℤ) (cs : List Change) (c : Change) → NoneGives p (cs ++ c ∷ []) → NoneGives p cs × (GivesBody p c → ⊥)
none_before p [] c h = (tt, h.0)
none_before p (x ∷ cs) c h = let r = none_before p cs c h.1 in ((h.0, r.0), r.1)

forgets_still : (c : Change) (ixs jxs : Indexes) → ((b : List ℕ) → Misses ixs (place_of c) b → Misses jxs (place_of c) b) → Forgets c ixs → Forgets c jxs
forgets_still (Add place coll idkey body) ixs jxs kept h = tt
forgets_still (Rewrite place old body) ixs jxs kept h = tt
forgets_still (Remove place old) ixs jxs kept h = kept old.items h

-- one change more
pub forgets_more : (cs : List Change) (c : Change) (ixs jxs : Indexes) → ((p : ℤ) (b : List ℕ) → (GivesBody p c → ⊥) → Misses ixs p b → Misses jxs p b) → Forgets c jxs → ForgetsRemoved cs ixs → ForgetsRemoved (cs ++ c ∷ []) jxs
forgets_more [] c ixs jxs kept one h = (λ _. one, tt)
forgets_more (x ∷ cs) c ixs jxs kept one h = (
  λ none. let r = none_before (place_of x) cs c none in forgets_still x ixs jxs (λ b. kept (place_of x) b r.1) (h.0 r.0),
  forgets_more cs c ixs jxs kept one h.1,
)

-- ---- which indexes there are

pub kept_stay : (ixs jxs : Indexes) → jxs ≡ ixs → StayOrGo ixs jxs
kept_stay ixs jxs e = inl (ap (λ (x : Indexes). kinds_of x.list.items) e)

pub kept_then : (ixs jxs kxs : Indexes) → jxs ≡ ixs → StayOrGo jxs kxs → StayOrGo ixs kxs
kept_then ixs jxs kxs e h = subst (λ (x : Indexes). StayOrGo x kxs) e h

-- What is equal to a value that has nothing inside.
use Rattle.std.proofs.Common.{◌≡◌, ◌⊎◌, inl, inr, ℕ, suc, List, [], ◌∷◌, ◌++◌, Bool, true, false, ◌==◌, if◌then◌else◌, IsTrue, refl, sym, ap, ◌∙◌, arith}
use Rattle.std.specs.Ordering.{is_eq}
use Rattle.std.proofs.lemmas.Bool.{eqb-true}
use Rattle.std.proofs.lemmas.Map.Text.{is_eq-slice_cmp}
use Rattle.bson_base.proofs.MemberLemmas.{equal_keys}
use Rattle.bson_base.specs.Value.{Scalar, min_key, max_key, string, symbol, scalar_kind, Value, scalar, array, document, scoped_code, value_kind}
use Rattle.bson_order.proofs.ApartLemmas.{one_suc, scalar_not}
use Rattle.bson_order.specs.Order.{Parts, ended, inside, is_no_number, order, order_key, parts, parts_key, rank}
use Rattle.store_question.specs.Asked.{lies_apart, lies_to, same_truth}
use Rattle.store_question.specs.declared.question.Comparison.TheVariants.{Equal}

-- ---- keys

apart_never : (w : Value) → lies_apart Equal w ≡ false
apart_never (scalar min_key) = refl
apart_never (scalar max_key) = refl
apart_never w = refl

pub record Level (u w : Value) : Type 0 where
  pub ranks : rank (value_kind u) ≡ rank (value_kind w)
  pub insides : inside u ≡ inside w

keys_level : (u w : Value) → is_eq (order u w) ≡ true → rank (value_kind u) ≡ rank (value_kind w) → Level u w
keys_level u w t e =
    let keys : order_key u ≡ order_key w = equal_keys (order_key u) (order_key w) (sym (is_eq-slice_cmp (order_key u) (order_key w)) ∙ t) in
    record { ranks = e; insides = cc }

pub level : (u w : Value) → IsTrue (lies_to Equal u w) → Level u w
level u w h = by (rank (value_kind u) == rank (value_kind w)) refl h
  where
    inner : (b : Bool) → rank (value_kind u) ≡ rank (value_kind w) → (if b then is_eq (order u w) else false) ≡ true → Level u w
    inner true e t = keys_level u w t e
    inner false e t = absurd cc

    by : (b : Bool) → (rank (value_kind u) == rank (value_kind w)) ≡ b → (if b then (if same_truth (is_no_number u) (is_no_number w) then is_eq (order u w) else false) else lies_apart Equal w) ≡ true → Level u w
    by true e t = inner (same_truth (is_no_number u) (is_no_number w)) (eqb-true (rank (value_kind u)) (rank (value_kind w)) e) t
    by false e t = let never = apart_never w in absurd cc

-- ---- parts

ended_split : (s t x y : List ℕ) → ended s ++ x ≡ ended t ++ y → (s ≡ t) × (x ≡ y)
ended_split [] [] x y e = (refl, cc)
ended_split [] (c ∷ t) x y e = let h : 0 ≡ suc c = cc in absurd (omega (arith, h))
ended_split (b ∷ s) [] x y e = let h : suc b ≡ 0 = cc in absurd (omega (arith, h))
ended_split (b ∷ s) (c ∷ t) x y e =
    let h : suc b ≡ suc c = cc in
    let r = ended_split s t x y cc in
    (ap (λ z. z ∷ s) (one_suc b c h) ∙ ap (λ z. c ∷ z) r.0, r.1)

pub record SameParts (p q : Parts) : Type 0 where
  pub place : p.place ≡ q.place
  pub major : p.major ≡ q.major
  pub text : p.text ≡ q.text
  pub id : p.id ≡ q.id

pub split_parts : (p q : Parts) → parts_key p ≡ parts_key q → SameParts p q
split_parts p q e =
    let texts = ended_split p.text q.text (ended p.more ++ ended p.id) (ended q.more ++ ended q.id) cc in
    let more = ended_split p.more q.more (ended p.id) (ended q.id) texts.1 in
    let id = ended_split p.id q.id [] [] (ap (λ l. l ++ []) more.1) in
    record { place = cc; major = cc; text = texts.0; id = id.0 }

pub record LevelScalar (s : Scalar) (u : Value) : Type 0 where
  pub other : Scalar
  pub is : u ≡ scalar other
  pub ranks : rank (scalar_kind other) ≡ rank (scalar_kind s)
  pub same : SameParts (parts other) (parts s)

pub level_scalar : (s : Scalar) (u : Value) → IsTrue (lies_to Equal u (scalar s)) → LevelScalar s u
level_scalar s u h = by u (level u (scalar s) h)
  where
    by : (x : Value) → Level x (scalar s) → LevelScalar s x
    by (scalar r) l = record { other = r; is = refl; ranks = l.ranks; same = split_parts (parts r) (parts s) l.insides }
    by (array vs) l = absurd ((scalar_not s).1 (sym l.ranks))
    by (document ms) l = absurd ((scalar_not s).0 (sym l.ranks))
    by (scoped_code t ms) l = absurd ((scalar_not s).2 (sym l.ranks))

-- ---- texts

pub text_found : (t : List ℕ) (r : Scalar) → rank (scalar_kind r) ≡ 4 → (parts r).text ≡ t → (r ≡ string t) ⊎ (r ≡ symbol t)
text_found t (string u) e h = inl (ap string h)
text_found t (symbol u) e h = inr (ap symbol h)
text_found t r e h = absurd (omega (arith, e))

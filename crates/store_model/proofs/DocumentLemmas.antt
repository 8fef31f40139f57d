-- Lists of documents that mean the same place by place: which has an id, at which place it is, and which a filter
-- picks.
use Rattle.std.proofs.Common.{◌≡◌, ◌↔◌, inl, inr, ℕ, suc, List, [], ◌∷◌, ◌++◌, length, cond, Option, Some, None, refl, ap, ◌∙◌, sym, subst}
use Rattle.std.specs.Prelude.{MatchOption, nat_lt}
use Rattle.bson_bytes.specs.Encode.{size}
use Rattle.store_model.specs.Filter.{Filter, SameFilter}
use Rattle.bson_meaning.specs.Meaning.{norm_members_in_order, Same, SameOption}
use Rattle.bson_frame.specs.Frame.{size_limit}
use Rattle.store_model.specs.Reading.{Documents, IsRead, AreRead}
use Rattle.store_model.specs.Same.{SameDocuments}
use Rattle.store_model.specs.State.{id_key, HasId, SomeHasId, NoneHasId, IsTaken, AtId, When, refusal_of, Picks}
use Rattle.store_model.specs.declared.error.ErrorKind.TheVariants.{NoId, TooLong}
use Rattle.bson_base.specs.Value.{Value, document, Members, look_up, has_key}
use Rattle.bson_meaning.proofs.NowLemmas.{in_order_same, key_size}
use Rattle.store_model.proofs.SelectLemmas.{same_look_up, look_up_distinct, carried, exchanged, selects_same}

-- ---- lists

pub same_join : (a b c d : Documents) → SameDocuments a b → SameDocuments c d → SameDocuments (a ++ c) (b ++ d)
same_join [] [] c d h k = k
same_join (x ∷ a) (y ∷ b) c d h k = (h.0, same_join a b c d h.1 k)
same_join [] (y ∷ b) c d h k = absurd h
same_join (x ∷ a) [] c d h k = absurd h

pub same_length : (ds es : Documents) → SameDocuments ds es → length ds ≡ length es
same_length [] [] h = refl
same_length (d ∷ ds) (e ∷ es) h = ap suc (same_length ds es h.1)
same_length [] (e ∷ es) h = absurd h
same_length (d ∷ ds) [] h = absurd h

pub read_join : (a b : Documents) → AreRead a → AreRead b → AreRead (a ++ b)
read_join [] b h k = k
read_join (x ∷ a) b h k = (h.0, read_join a b h.1 k)

pub read_parts : (a b : Documents) → AreRead (a ++ b) → AreRead a × AreRead b
read_parts [] b h = (tt, h)
read_parts (x ∷ a) b h = let r = read_parts a b h.1 in ((h.0, r.0), r.1)

-- ---- ids

pub same_under : (d e : Members) (q : List ℕ) → Same (document d) (document e) → SameOption (look_up q d) (look_up q e)
same_under d e q h = same_look_up d e q h.0 h.1

pub has_id_same : (id jd : Value) (d e : Members) → Same id jd → Same (document d) (document e) → IsRead d → IsRead e → HasId id d ↔ HasId jd e
has_id_same id jd d e i h a b =
    carried (look_up id_key d) (look_up id_key e) _ _ (same_under d e id_key h) (look_up_distinct d id_key a.sound.distinct) (look_up_distinct e id_key b.sound.distinct)
    (λ x y s dx dy. exchanged x y id jd s i dx dy)

pub some_has_id_same : (id jd : Value) (ds es : Documents) → Same id jd → SameDocuments ds es → AreRead ds → AreRead es → SomeHasId id ds ↔ SomeHasId jd es
some_has_id_same id jd [] [] i h a b = (λ x. x, λ x. x)
some_has_id_same id jd (d ∷ ds) (e ∷ es) i h a b =
    let here = has_id_same id jd d e i h.0 a.0 b.0 in
    let rest = some_has_id_same id jd ds es i h.1 a.1 b.1 in
    (elim [ inl t ↦ inl (here.0 t) | inr t ↦ inr (rest.0 t) ], elim [ inl t ↦ inl (here.1 t) | inr t ↦ inr (rest.1 t) ])
some_has_id_same id jd [] (e ∷ es) i h a b = absurd h
some_has_id_same id jd (d ∷ ds) [] i h a b = absurd h

pub taken_same : (d e : Members) (ds es : Documents) → Same (document d) (document e) → IsRead d → IsRead e → SameDocuments ds es → AreRead ds → AreRead es → IsTaken d ds ↔ IsTaken e es
taken_same d e ds es h a b s ra rb =
    carried (look_up id_key d) (look_up id_key e) _ _ (same_under d e id_key h) (look_up_distinct d id_key a.sound.distinct) (look_up_distinct e id_key b.sound.distinct)
    (λ x y i dx dy. some_has_id_same x y ds es i s ra rb)

none_behind : (id : Value) (front : Documents) (d : Members) (back : Documents) → NoneHasId id (front ++ d ∷ back) → HasId id d → ⊥
none_behind id [] d back n h = n.0 h
none_behind id (c ∷ front) d back n h = none_behind id front d back n.1 h

none_same : (id jd : Value) (ds es : Documents) → Same id jd → SameDocuments ds es → AreRead ds → AreRead es → NoneHasId id ds ↔ NoneHasId jd es
none_same id jd [] [] i h a b = (λ x. x, λ x. x)
none_same id jd (d ∷ ds) (e ∷ es) i h a b =
    let here = has_id_same id jd d e i h.0 a.0 b.0 in
    let rest = none_same id jd ds es i h.1 a.1 b.1 in
    (λ n. (λ t. n.0 (here.1 t), rest.0 n.1), λ n. (λ t. n.0 (here.0 t), rest.1 n.1))
none_same id jd [] (e ∷ es) i h a b = absurd h
none_same id jd (d ∷ ds) [] i h a b = absurd h

-- a document is at the same place in both lists
pub record SamePlace (front : Documents) (d : Members) (back gront : Documents) (e : Members) (cack : Documents) : Type 0 where
  pub fronts : SameDocuments front gront
  pub here : Same (document d) (document e)
  pub backs : SameDocuments back cack

same_place : (id jd : Value) (front : Documents) (d : Members) (back gront : Documents) (e : Members) (cack : Documents) → Same id jd
    → SameDocuments (front ++ d ∷ back) (gront ++ e ∷ cack) → AreRead (front ++ d ∷ back) → AreRead (gront ++ e ∷ cack)
    → NoneHasId id front → HasId id d → NoneHasId jd gront → HasId jd e → SamePlace front d back gront e cack
same_place id jd [] d back [] e cack i h a b n p m q = record { fronts = tt; here = h.0; backs = h.1 }
same_place id jd [] d back (c ∷ gront) e cack i h a b n p m q = absurd (m.0 ((has_id_same id jd d c i h.0 a.0 b.0).0 p))
same_place id jd (c ∷ front) d back [] e cack i h a b n p m q = absurd (n.0 ((has_id_same id jd c e i h.0 a.0 b.0).1 q))
same_place id jd (c ∷ front) d back (x ∷ gront) e cack i h a b n p m q =
    let r = same_place id jd front d back gront e cack i h.1 a.1 b.1 n.1 p m.1 q in
    record { fronts = (h.0, r.fronts); here = r.here; backs = r.backs }

-- what is known of the document with the id in two lists
pub record Found (front : Documents) (d : Members) (back gront : Documents) (e : Members) (cack : Documents) : Type 0 where
  pub place : SamePlace front d back gront e cack
  pub read : AreRead (front ++ d ∷ back)
  pub also : AreRead (gront ++ e ∷ cack)

pub at_id_same : {X : Type 0} (id jd : Value) (ds es : Documents) (P P' : Documents → Members → Documents → Type 0) (Q Q' : Type 0)
    → Same id jd → SameDocuments ds es → AreRead ds → AreRead es
    → ((front : Documents) (d : Members) (back gront : Documents) (e : Members) (cack : Documents) → Found front d back gront e cack → P front d back → P' gront e cack → X)
    → (Q → Q' → X) → AtId id ds P Q → AtId jd es P' Q' → X
at_id_same id jd ds es P P' Q Q' i h a b f g (inl (front, d, back, s, p)) (inl (gront, e, cack, t, q)) =
    let a' = subst AreRead s.split a in
    let b' = subst AreRead t.split b in
    let h' = subst (λ x. SameDocuments x (gront ++ e ∷ cack)) s.split (subst (SameDocuments ds) t.split h) in
    f front d back gront e cack (record { place = same_place id jd front d back gront e cack i h' a' b' s.before s.has t.before t.has; read = a'; also = b' }) p q
at_id_same id jd ds es P P' Q Q' i h a b f g (inl (front, d, back, s, p)) (inr (n, q)) =
    absurd (none_behind id front d back (subst (NoneHasId id) s.split ((none_same id jd ds es i h a b).1 n)) s.has)
at_id_same id jd ds es P P' Q Q' i h a b f g (inr (n, p)) (inl (gront, e, cack, t, q)) =
    absurd (none_behind jd gront e cack (subst (NoneHasId jd) t.split ((none_same id jd ds es i h a b).0 n)) t.has)
at_id_same id jd ds es P P' Q Q' i h a b f g (inr (n, p)) (inr (m, q)) = g p q

pub when_same : {X : Type 0} (P A B P' A' B' : Type 0) → P ↔ P' → (P → P' → A → A' → X) → ((P → ⊥) → (P' → ⊥) → B → B' → X) → When P A B → When P' A' B' → X
when_same P A B P' A' B' i f g (inl (p, a)) (inl (q, b)) = f p q a b
when_same P A B P' A' B' i f g (inl (p, a)) (inr (n, b)) = absurd (n (i.0 p))
when_same P A B P' A' B' i f g (inr (n, a)) (inl (q, b)) = absurd (n (i.1 q))
when_same P A B P' A' B' i f g (inr (n, a)) (inr (m, b)) = g n m a b

pub match_same : {X : Type 0} {K : Type 0} (o p : Option K) (A A' : Type 0) (P P' : K → Type 0) → o ≡ p → (A → A' → X) → ((k : K) → P k → P' k → X) → MatchOption o A P → MatchOption p A' P' → X
match_same None None A A' P P' e f g a b = f a b
match_same None (Some l) A A' P P' e f g a b = cc
match_same (Some k) None A A' P P' e f g a b = cc
match_same (Some k) (Some l) A A' P P' e f g a b = let i : k ≡ l = cc in g k a (subst P' (sym i) b)

-- ---- sizes

pub size_same : (d e : Members) → Same (document d) (document e) → IsRead d → IsRead e → size d ≡ size e
size_same d e h a b =
    let i : document (norm_members_in_order d) ≡ document (norm_members_in_order e) = in_order_same (document d) (document e) h in
    let j : norm_members_in_order d ≡ norm_members_in_order e = cc in
    sym (key_size d a.clean a.sound) ∙ ap size j ∙ key_size e b.clean b.sound

pub refusal_same : (d e : Members) → Same (document d) (document e) → IsRead d → IsRead e → refusal_of d ≡ refusal_of e
refusal_same d e h a b =
    ap (λ c. cond c (cond (nat_lt size_limit (size d)) (Some TooLong) None) (Some NoId)) (h.0 id_key)
    ∙ ap (λ n. cond (has_key id_key e) (cond (nat_lt size_limit n) (Some TooLong) None) (Some NoId)) (size_same d e h a b)

-- ---- filters

pub picks_same : (f g : Filter) (ds es out put : Documents) → SameFilter f g → SameDocuments ds es → AreRead ds → AreRead es → Picks f ds out → Picks g es put → SameDocuments out put
picks_same f g [] [] out put s h a b p q = subst (λ x. SameDocuments x put) (sym p) (subst (SameDocuments []) (sym q) tt)
picks_same f g (d ∷ ds) (e ∷ es) out put s h a b p q =
    when_same _ _ _ _ _ _ (selects_same f g (document d) (document e) s h.0 a.0.sound.distinct b.0.sound.distinct)
    (λ x y t u. subst (λ x. SameDocuments x put) (sym t.1) (subst (SameDocuments (d ∷ t.0)) (sym u.1) (h.0, picks_same f g ds es t.0 u.0 s h.1 a.1 b.1 t.2 u.2)))
    (λ _ _ t u. picks_same f g ds es out put s h.1 a.1 b.1 t u) p q
picks_same f g [] (e ∷ es) out put s h a b p q = absurd h
picks_same f g (d ∷ ds) [] out put s h a b p q = absurd h

pub picks_read : (f : Filter) (ds out : Documents) → AreRead ds → Picks f ds out → AreRead out
picks_read f [] out a p = subst AreRead (sym p) tt
picks_read f (d ∷ ds) out a (inl (s, (rest, e, p))) = subst AreRead (sym e) (a.0, picks_read f ds rest a.1 p)
picks_read f (d ∷ ds) out a (inr (n, p)) = picks_read f ds out a.1 p

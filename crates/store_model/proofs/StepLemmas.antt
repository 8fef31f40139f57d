-- Calls that mean the same, on lists that mean the same, return and leave the same.
use Rattle.std.proofs.Common.{◌≡◌, ◌↔◌, inl, inr, ℕ, suc, ◌<◌, ◌≤◌, List, [], ◌∷◌, ◌++◌, length, map, cond, Option, Some, None, Result, Ok, Err, refl, ap, ◌∙◌, sym, subst, append-nil, arith}
use Rattle.std.specs.Prelude.{IsSomeAnd, MatchOption, IsUtf8}
use Rattle.std.specs.List.{flat_map}
use Rattle.serde_json.specs.Data.{Data}
use Rattle.bson_base.specs.Kinds.{HasNo00, IsSound}
use Rattle.bson_base.specs.Value.{Value, document, Members, look_up, has_key, without, put, levels}
use Rattle.bson_bytes.specs.Encode.{encode, size}
use Rattle.bson_model.specs.JsonWrite.{write}
use Rattle.bson_model.specs.declared.extjson.ser.Mode.{Mode}
use Rattle.bson_model.specs.declared.extjson.ser.Mode.TheVariants.{Canonical}
use Rattle.bson_frame.specs.Frame.{size_limit}
use Rattle.bson_meaning.specs.Gate.{level_limit}
use Rattle.bson_meaning.specs.JsonReserved.{has_reserved}
use Rattle.bson_meaning.specs.Meaning.{norm_in_order, Same, SameOption}
use Rattle.store_model.specs.Reading.{Documents, Reading, readable, unreadable, IsRead, AreRead, IsReading, IsReadingKind, IsStop}
use Rattle.store_model.specs.Same.{SameDocuments, SameReading, SameStop, SameCall, ReadsDocuments, SameReply}
use Rattle.store_model.specs.State.{id_key, Form, Call, insert, replace, set, unset, remove, get_raw, get_json, find, count, project, import, export, dump, Command, on, Reply, done, flag, number, bytes, bytes_list, refused, or_finite, json_of, tree_reply, tree_first, trees_of, trees_reply, Refuses, refusal_of, or_later, first_refusal, Appends, only, PutsBack, Answers, IsCall}
use Rattle.store_model.specs.declared.error.ErrorKind.{ErrorKind}
use Rattle.store_model.specs.declared.error.ErrorKind.TheVariants.{BadKey, JsonRefused, TooDeep, Nul, TooLong, NotFound, DuplicateId, ReservedKey}
use Rattle.bson_meaning.proofs.NowLemmas.{in_order_same, same_in_order}
use Rattle.bson_meaning.proofs.JsonSameLemmas.{write_same, reserved_same}
use Rattle.store_model.proofs.DocumentLemmas.{same_join, same_length, read_join, read_parts, taken_same, at_id_same, when_same, match_same, size_same, refusal_same, picks_same, picks_read, same_under}
use Rattle.store_model.proofs.EditLemmas.{same_without, same_only, same_put}
use Rattle.store_model.proofs.LevelLemmas.{same_levels, set_distinct, set_read, set_plain, read_only}
use Rattle.bson_base.proofs.MemberLemmas.{put_distinct}
use Rattle.store_model.proofs.TestLemmas.{in_turn}

-- what two results have in common
pub record Alike (c : Command) (r s : Reply) (ds es : Documents) : Type 0 where
  pub replies : SameReply c r s
  pub lists : SameDocuments ds es

alike : {c : Command} {r s : Reply} {ds es : Documents} (a b : Reply) (fs gs : Documents) → r ≡ a → ds ≡ fs → s ≡ b → es ≡ gs → SameReply c a b → SameDocuments fs gs → Alike c r s ds es
alike {c = c} {s = s} {es = es} a b fs gs p q t u h k = record {
  replies = subst (λ x. SameReply c x s) (sym p) (subst (SameReply c a) (sym t) h);
  lists = subst (λ x. SameDocuments x es) (sym q) (subst (SameDocuments fs) (sym u) k);
}

both_refuse : {c : Command} {r s : Reply} {fs gs : Documents} (k : ErrorKind) (ds es : Documents) → SameDocuments ds es → Refuses k ds r fs → Refuses k es s gs → Alike c r s fs gs
both_refuse k ds es h a b = alike (refused k None) (refused k None) ds es a.0 a.1 b.0 b.1 (inl refl, refl) h

both_unread : {r s : Reply} {fs gs : Documents} (c : Command) (k l : ErrorKind) (ds es : Documents) → ReadsDocuments c → IsReadingKind k → IsReadingKind l → SameDocuments ds es → Refuses k ds r fs → Refuses l es s gs → Alike c r s fs gs
both_unread c k l ds es q i j h a b = alike (refused k None) (refused l None) ds es a.0 a.1 b.0 b.1 (inr (q, i, j), refl) h

same_mapped : (f g : Members → Members) (ds es : Documents) → ((d e : Members) → Same (document d) (document e) → IsRead d → IsRead e → Same (document (f d)) (document (g e)))
    → SameDocuments ds es → AreRead ds → AreRead es → SameDocuments (map f ds) (map g es)
same_mapped f g [] [] p h a b = tt
same_mapped f g (d ∷ ds) (e ∷ es) p h a b = (p d e h.0 a.0 b.0, same_mapped f g ds es p h.1 a.1 b.1)
same_mapped f g [] (e ∷ es) p h a b = absurd h
same_mapped f g (d ∷ ds) [] p h a b = absurd h

encoded_only : (ks : List (List ℕ)) (ds : Documents) → map (λ d. encode (only ks d)) ds ≡ map encode (map (only ks) ds)
encoded_only ks [] = refl
encoded_only ks (d ∷ ds) = ap (λ l. encode (only ks d) ∷ l) (encoded_only ks ds)

all_only : (ks : List (List ℕ)) (ds : Documents) → AreRead ds → AreRead (map (only ks) ds)
all_only ks [] h = tt
all_only ks (d ∷ ds) h = (read_only ks d h.0, all_only ks ds h.1)

-- ---- import

abbrev SameFirst : Command → Option (ErrorKind × ℕ) → Option (ErrorKind × ℕ) → Type 0
SameFirst c None None = Unit {0}
SameFirst c (Some x) (Some y) = SameReply c (refused x.0 (Some x.1)) (refused y.0 (Some y.1))
SameFirst _ _ _ = ⊥

first_same : (c : Command) (i : ℕ) (ds es : Documents) (a b : Option ErrorKind) → ReadsDocuments c → SameDocuments ds es → AreRead ds → AreRead es → SameStop a b → IsStop a → IsStop b
    → SameFirst c (first_refusal i ds a) (first_refusal i es b)
first_same c i [] [] None None m h ra rb s p q = tt
first_same c i [] [] (Some k) (Some l) m h ra rb s p q = (inr (m, p, q), refl)
first_same c i [] [] None (Some l) m h ra rb s p q = absurd s
first_same c i [] [] (Some k) None m h ra rb s p q = absurd s
first_same c i (d ∷ ds) (e ∷ es) a b m h ra rb s p q = by (refusal_of d) (refusal_of e) (refusal_same d e h.0 ra.0 rb.0) (first_same c (suc i) ds es a b m h.1 ra.1 rb.1 s p q)
  where
    by : (o n : Option ErrorKind) → o ≡ n → SameFirst c (first_refusal (suc i) ds a) (first_refusal (suc i) es b)
        → SameFirst c (or_later o i (first_refusal (suc i) ds a)) (or_later n i (first_refusal (suc i) es b))
    by None None e r = r
    by (Some k) (Some l) e r = let j : k ≡ l = cc in (inl j, refl)
    by None (Some l) e r = cc
    by (Some k) None e r = cc
first_same c i [] (e ∷ es) a b m h ra rb s p q = absurd h
first_same c i (d ∷ ds) [] a b m h ra rb s p q = absurd h

appends_same : (c : Command) (i : ℕ) (start start' ds ds' more more' : Documents) (r r' : Reply) (es es' : Documents) → SameDocuments start start' → SameDocuments ds ds' → SameDocuments more more'
    → AreRead ds → AreRead ds' → AreRead more → AreRead more' → Appends i start ds more r es → Appends i start' ds' more' r' es' → Alike c r r' es es'
appends_same cm i start start' ds ds' [] [] r r' es es' g h k a b c d p q = alike (number i) (number i) ds ds' p.0 p.1 q.0 q.1 refl h
appends_same cm i start start' ds ds' (x ∷ more) (y ∷ more') r r' es es' g h k a b c d p q =
    when_same _ _ _ _ _ _ (taken_same x y ds ds' k.0 c.0 d.0 h a b)
    (λ _ _ t u. alike (refused DuplicateId (Some i)) (refused DuplicateId (Some i)) start start' t.0 t.1 u.0 u.1 (inl refl, refl) g)
    (λ _ _ t u. appends_same cm (suc i) start start' (ds ++ x ∷ []) (ds' ++ y ∷ []) more more' r r' es es' g (same_join ds ds' (x ∷ []) (y ∷ []) h (k.0, tt)) k.1
    (read_join ds (x ∷ []) a (c.0, tt)) (read_join ds' (y ∷ []) b (d.0, tt)) c.1 d.1 t u) p q
appends_same cm i start start' ds ds' [] (y ∷ more') r r' es es' g h k a b c d p q = absurd k
appends_same cm i start start' ds ds' (x ∷ more) [] r r' es es' g h k a b c d p q = absurd k

import_same : {c : Command} {r r' : Reply} {es es' : Documents} (A A' : Type 0) (o p : Option (ErrorKind × ℕ)) (ds ds' : Documents) → SameFirst c o p → SameDocuments ds ds' → (A → A' → Alike c r r' es es')
    → MatchOption o A (λ x. (r ≡ refused x.0 (Some x.1)) × (es ≡ ds)) → MatchOption p A' (λ x. (r' ≡ refused x.0 (Some x.1)) × (es' ≡ ds')) → Alike c r r' es es'
import_same A A' None None ds ds' s h f a b = f a b
import_same A A' (Some x) (Some y) ds ds' s h f a b = alike (refused x.0 (Some x.1)) (refused y.0 (Some y.1)) ds ds' a.0 a.1 b.0 b.1 s h
import_same A A' None (Some y) ds ds' s h f a b = absurd s
import_same A A' (Some x) None ds ds' s h f a b = absurd s

-- ---- calls on the document with an id

same_bytes : (c : Command) (d e : Members) → IsRead d → IsRead e → Same (document d) (document e) → SameReply c (bytes (encode d)) (bytes (encode e))
same_bytes c d e a b h = (d ∷ [], e ∷ [], (a, tt), (b, tt), sym (append-nil (encode d)), sym (append-nil (encode e)), (h, tt))

some_both : {X : Type 0} (o p : Option Value) (P Q : Value → Type 0) → SameOption o p → ((x y : Value) → Same x y → P x → Q y → X) → IsSomeAnd o P → IsSomeAnd p Q → X
some_both (Some x) (Some y) P Q s f a b = f x y s a b
some_both None p P Q s f a b = absurd a
some_both (Some x) None P Q s f a b = absurd b

same_edit : (front gront back cack : Documents) (d e : Members) → SameDocuments front gront → SameDocuments back cack → Same (document d) (document e) → SameDocuments (front ++ d ∷ back) (gront ++ e ∷ cack)
same_edit front gront back cack d e f b h = same_join front gront (d ∷ back) (e ∷ cack) f (h, b)

not_above : (m n : ℕ) → (n < m → ⊥) → m ≤ n
not_above m n h = omega arith

puts_same : {c : Command} {r s : Reply} {fs gs : Documents} (k : List ℕ) (v w : Value) (ds es front : Documents) (d : Members) (back gront : Documents) (e : Members) (cack : Documents) → HasNo00 k → IsUtf8 k → IsSound v → IsSound w → Same v w
    → SameDocuments ds es → SameDocuments front gront → SameDocuments back cack → Same (document d) (document e) → IsRead d → IsRead e
    → PutsBack ds front (put k (norm_in_order v) d) back r fs → PutsBack es gront (put k (norm_in_order w) e) cack s gs → Alike c r s fs gs
puts_same {r = r} {s = s} {fs = fs} {gs = gs} k v w ds es front d back gront e cack n u sv sw i h f b same a c p q =
    let d' = put k (norm_in_order v) d in
    let e' = put k (norm_in_order w) e in
    let is : norm_in_order v ≡ norm_in_order w = in_order_same v w i in
    let values : Same (norm_in_order v) (norm_in_order w) = subst (Same (norm_in_order v)) is (same_in_order (norm_in_order v) (norm_in_order v) (set_distinct v) refl) in
    let whole : Same (document d') (document e') = same_put k (norm_in_order v) (norm_in_order w) d e values (set_distinct v) same a c in
    let deep : levels (document d') ≡ levels (document e') = same_levels (document d') (document e') whole (put_distinct k (norm_in_order v) d (set_distinct v) a.sound.distinct) (put_distinct k (norm_in_order w) e (set_distinct w) c.sound.distinct) in
    when_same _ _ _ _ _ _ (subst (λ m. level_limit < m) deep, subst (λ m. level_limit < m) (sym deep))
    (λ _ _ t x. both_refuse TooDeep ds es h t x)
    (λ low low' t x. when_same _ _ _ _ _ _ (set_plain k v w d e n is c, set_plain k w v e d n (sym is) a)
    (λ plain plain' t x.
    let size_is : size d' ≡ size e' = size_same d' e' whole (set_read k v d n u sv a plain (not_above (levels (document d')) level_limit low)) (set_read k w e n u sw c plain' (not_above (levels (document e')) level_limit low')) in
    when_same _ _ _ _ _ _ (subst (λ m. size_limit < m) size_is, subst (λ m. size_limit < m) (sym size_is))
    (λ _ _ t x. both_refuse TooLong ds es h t x)
    (λ _ _ t x. alike done done (front ++ d' ∷ back) (gront ++ e' ∷ cack) t.0 t.1 x.0 x.1 tt (same_edit front gront back cack d' e' f b whole)) t x)
    (λ _ _ t x. both_refuse Nul ds es h t x) t x) (in_turn ds front d' back r fs p) (in_turn es gront e' cack s gs q)

pub either_way : {P : Type 0} → P ↔ P
either_way = (λ x. x, λ x. x)

insert_same : {r s : Reply} {fs gs : Documents} (n : List ℕ) (f g : Form) (a b : Reading) (ds es : Documents) → SameReading a b → IsReading a → IsReading b → SameDocuments ds es → AreRead ds → AreRead es
    → Answers (insert f a) ds r fs → Answers (insert g b) es s gs → Alike (on n (insert f a)) r s fs gs
insert_same n f g (readable d) (readable e) ds es i c c' h a b p q =
    match_same (refusal_of d) (refusal_of e) _ _ _ _ (refusal_same d e i c c')
    (λ p q. when_same _ _ _ _ _ _ (taken_same d e ds es i c c' h a b) (λ _ _ t u. both_refuse DuplicateId ds es h t u)
    (λ _ _ t u. alike done done (ds ++ d ∷ []) (es ++ e ∷ []) t.0 t.1 u.0 u.1 tt (same_join ds es (d ∷ []) (e ∷ []) h (i, tt))) p q)
    (λ k p q. both_refuse k ds es h p q) p q
insert_same n f g (unreadable k) (unreadable l) ds es i c c' h a b p q = both_unread (on n (insert f (unreadable k))) k l ds es tt c c' h p q
insert_same n f g (readable d) (unreadable l) ds es i c c' h a b p q = absurd i
insert_same n f g (unreadable k) (readable e) ds es i c c' h a b p q = absurd i

replace_same : {r s : Reply} {fs gs : Documents} (n : List ℕ) (f g : Form) (a b : Reading) (ds es : Documents) → SameReading a b → IsReading a → IsReading b → SameDocuments ds es → AreRead ds → AreRead es
    → Answers (replace f a) ds r fs → Answers (replace g b) es s gs → Alike (on n (replace f a)) r s fs gs
replace_same n f g (readable d) (readable e) ds es i c c' h a b p q =
    match_same (refusal_of d) (refusal_of e) _ _ _ _ (refusal_same d e i c c')
    (λ p q. some_both (look_up id_key d) (look_up id_key e) _ _ (same_under d e id_key i)
    (λ x y j p q. at_id_same x y ds es _ _ _ _ j h a b
    (λ front _ back gront _ cack found t u. alike done done (front ++ d ∷ back) (gront ++ e ∷ cack) t.0 t.1 u.0 u.1 tt (same_edit front gront back cack d e found.place.fronts found.place.backs i))
    (λ t u. both_refuse NotFound ds es h t u) p q) p q)
    (λ k p q. both_refuse k ds es h p q) p q
replace_same n f g (unreadable k) (unreadable l) ds es i c c' h a b p q = both_unread (on n (replace f (unreadable k))) k l ds es tt c c' h p q
replace_same n f g (readable d) (unreadable l) ds es i c c' h a b p q = absurd i
replace_same n f g (unreadable k) (readable e) ds es i c c' h a b p q = absurd i

read_at : (front : Documents) (d : Members) (back : Documents) → AreRead (front ++ d ∷ back) → IsRead d
read_at front d back a = (read_parts front (d ∷ back) a).1.0

set_same : {cm : Command} {r s : Reply} {fs gs : Documents} (id jd : Value) (k : List ℕ) (a b : Option Value) (ds es : Documents) → Same id jd → SameOption a b → IsCall (set id k a) → IsCall (set jd k b) → SameDocuments ds es → AreRead ds → AreRead es
    → Answers (set id k a) ds r fs → Answers (set jd k b) es s gs → Alike cm r s fs gs
set_same id jd k (Some v) (Some w) ds es i j c c' h a b p q =
    when_same _ _ _ _ _ _ either_way
    (λ free _ t u. at_id_same id jd ds es _ _ _ _ i h a b
    (λ front d back gront e cack found t u. puts_same k v w ds es front d back gront e cack free.1 c.1 c.2 c'.2 j h found.place.fronts found.place.backs found.place.here
    (read_at front d back found.read) (read_at gront e cack found.also) t u)
    (λ t u. both_refuse NotFound ds es h t u) t u)
    (λ _ _ t u. both_refuse BadKey ds es h t u) p q
set_same id jd k None None ds es i j c c' h a b p q =
    when_same _ _ _ _ _ _ either_way (λ _ _ t u. both_refuse JsonRefused ds es h t u) (λ _ _ t u. both_refuse BadKey ds es h t u) p q
set_same id jd k (Some v) None ds es i j c c' h a b p q = absurd j
set_same id jd k None (Some w) ds es i j c c' h a b p q = absurd j

unset_same : {cm : Command} {r s : Reply} {fs gs : Documents} (id jd : Value) (k : List ℕ) (ds es : Documents) → Same id jd → SameDocuments ds es → AreRead ds → AreRead es
    → Answers (unset id k) ds r fs → Answers (unset jd k) es s gs → Alike cm r s fs gs
unset_same id jd k ds es i h a b p q =
    when_same _ _ _ _ _ _ either_way
    (λ _ _ t u. at_id_same id jd ds es _ _ _ _ i h a b
    (λ front d back gront e cack found t u.
    alike (flag (has_key k d)) (flag (has_key k e)) (front ++ without k d ∷ back) (gront ++ without k e ∷ cack) t.0 t.1 u.0 u.1 (found.place.here.0 k)
    (same_edit front gront back cack (without k d) (without k e) found.place.fronts found.place.backs
    (same_without k d e found.place.here (read_at front d back found.read) (read_at gront e cack found.also))))
    (λ t u. both_refuse NotFound ds es h t u) t u)
    (λ _ _ t u. both_refuse BadKey ds es h t u) p q

-- ---- JSON results

pub tree_same : (m : Mode) (d e : Members) → Same (document d) (document e) → IsSound (document d) → IsSound (document e) → json_of m d ≡ json_of m e
tree_same m d e h a b =
    ap (λ c. cond c (Err ReservedKey) (or_finite (write m (document d)))) (reserved_same d e a b h)
    ∙ ap (λ o. cond (has_reserved e) (Err ReservedKey) (or_finite o)) (write_same m (document d) (document e) a b h)

tree_itself : (c : Command) (t : Result Data ErrorKind) → SameReply c (tree_reply t) (tree_reply t)
tree_itself c (Ok j) = refl
tree_itself c (Err k) = (inl refl, refl)

trees_same : (i : ℕ) (ds es : Documents) → SameDocuments ds es → AreRead ds → AreRead es → trees_of i ds ≡ trees_of i es
trees_same i [] [] h a b = refl
trees_same i (d ∷ ds) (e ∷ es) h a b =
    ap (λ t. tree_first i t (trees_of (suc i) ds)) (tree_same Canonical d e h.0 a.0.sound b.0.sound) ∙ ap (tree_first i (json_of Canonical e)) (trees_same (suc i) ds es h.1 a.1 b.1)
trees_same i [] (e ∷ es) h a b = absurd h
trees_same i (d ∷ ds) [] h a b = absurd h

trees_itself : (c : Command) (t : Result (List Data) (ErrorKind × ℕ)) → SameReply c (trees_reply t) (trees_reply t)
trees_itself c (Ok js) = refl
trees_itself c (Err e) = (inl refl, refl)

-- ---- all calls

pub answers_same : {r s : Reply} {fs gs : Documents} (z : List ℕ) (x y : Call) (ds es : Documents) → SameCall x y → IsCall x → IsCall y → SameDocuments ds es → AreRead ds → AreRead es
    → Answers x ds r fs → Answers y es s gs → Alike (on z x) r s fs gs
answers_same z (insert f m) (insert g n) ds es i c c' h a b p q = insert_same z f g m n ds es i c c' h a b p q
answers_same z (replace f m) (replace g n) ds es i c c' h a b p q = replace_same z f g m n ds es i c c' h a b p q
answers_same {s = s} {gs = gs} z (set id k m) (set jd l n) ds es i c c' h a b p q =
    set_same id jd k m n ds es i.0 i.2 c (subst (λ z. IsCall (set jd z n)) (sym i.1) c') h a b p (subst (λ z. Answers (set jd z n) es s gs) (sym i.1) q)
answers_same {s = s} {gs = gs} z (unset id k) (unset jd l) ds es i c c' h a b p q = unset_same id jd k ds es i.0 h a b p (subst (λ z. Answers (unset jd z) es s gs) (sym i.1) q)
answers_same z (remove id) (remove jd) ds es i c c' h a b p q =
    at_id_same id jd ds es _ _ _ _ i h a b
    (λ front d back gront e cack found t u. alike done done (front ++ back) (gront ++ cack) t.0 t.1 u.0 u.1 tt (same_join front gront back cack found.place.fronts found.place.backs))
    (λ t u. both_refuse NotFound ds es h t u) p q
answers_same z (get_raw id) (get_raw jd) ds es i c c' h a b p q =
    at_id_same id jd ds es _ _ _ _ i h a b
    (λ front d back gront e cack found t u. alike (bytes (encode d)) (bytes (encode e)) ds es t.0 t.1 u.0 u.1 (same_bytes (on z (get_raw id)) d e (read_at front d back found.read) (read_at gront e cack found.also) found.place.here) h)
    (λ t u. both_refuse NotFound ds es h t u) p q
answers_same z (get_json m id) (get_json n jd) ds es i c c' h a b p q =
    at_id_same id jd ds es _ _ _ _ i.1 h a b
    (λ front d back gront e cack found t u.
    alike (tree_reply (json_of m d)) (tree_reply (json_of n e)) ds es t.0 t.1 u.0 u.1
    (subst (λ x. SameReply (on z (get_json m id)) (tree_reply (json_of m d)) (tree_reply x)) (tree_same m d e found.place.here (read_at front d back found.read).sound (read_at gront e cack found.also).sound ∙ ap (λ x. json_of x e) i.0)
    (tree_itself (on z (get_json m id)) (json_of m d))) h)
    (λ t u. both_refuse NotFound ds es h t u) p q
answers_same z (find f) (find g) ds es i c c' h a b p q =
    alike (bytes_list (map encode p.0)) (bytes_list (map encode q.0)) ds es p.2 p.3 q.2 q.3 (p.0, q.0, picks_read f ds p.0 a p.1, picks_read g es q.0 b q.1, refl, refl, picks_same f g ds es p.0 q.0 i h a b p.1 q.1) h
answers_same z (count f) (count g) ds es i c c' h a b p q =
    alike (number (length p.0)) (number (length q.0)) ds es p.2 p.3 q.2 q.3 (same_length p.0 q.0 (picks_same f g ds es p.0 q.0 i h a b p.1 q.1)) h
answers_same {s = s} {gs = gs} z (project f ks) (project g ls) ds es i c c' h a b p q =
    let q' = subst (λ z. Answers (project g z) es s gs) (sym i.1) q in
    alike (bytes_list (map (λ d. encode (only ks d)) p.0)) (bytes_list (map (λ d. encode (only ks d)) q'.0)) ds es p.2 p.3 q'.2 q'.3 (
      map (only ks) p.0,
      map (only ks) q'.0,
      all_only ks p.0 (picks_read f ds p.0 a p.1),
      all_only ks q'.0 (picks_read g es q'.0 b q'.1),
      encoded_only ks p.0,
      encoded_only ks q'.0,
      same_mapped (only ks) (only ks) p.0 q'.0 (same_only ks) (picks_same f g ds es p.0 q'.0 i.0 h a b p.1 q'.1) (picks_read f ds p.0 a p.1) (picks_read g es q'.0 b q'.1),
    ) h
answers_same z (import m x) (import n y) ds es i c c' h a b p q =
    import_same _ _ (first_refusal 0 m x) (first_refusal 0 n y) ds es (first_same (on z (import m x)) 0 m n x y tt i.0 c.0 c'.0 i.1 c.1 c'.1) h
    (λ t u. appends_same (on z (import m x)) 0 ds es ds es m n _ _ _ _ h h i.0 a b c.0 c'.0 t u) p q
answers_same z dump dump ds es i c c' h a b p q =
    alike (trees_reply (trees_of 0 ds)) (trees_reply (trees_of 0 es)) ds es p.0 p.1 q.0 q.1
    (subst (λ x. SameReply (on z dump) (trees_reply (trees_of 0 ds)) (trees_reply x)) (trees_same 0 ds es h a b) (trees_itself (on z dump) (trees_of 0 ds))) h
answers_same z export export ds es i c c' h a b p q = alike (bytes (flat_map encode ds)) (bytes (flat_map encode es)) ds es p.0 p.1 q.0 q.1 (ds, es, a, b, refl, refl, h) h
answers_same z _ _ ds es i c c' h a b p q = absurd i
